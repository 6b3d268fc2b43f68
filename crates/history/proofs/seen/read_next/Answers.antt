-- `read_next`: the event of one form more is kept, or the fault is the first that it has. A great object, the
-- checks and the number of maps are looked at in this order, so each exit has passed those before.
use Rattle.std.proofs.Common.{◌≡◌, ◌∙◌, ◌<◌, ◌≤◌, ◌∷◌, [], false, sym, subst}
use Rattle.std.specs.Prelude.{is_err}
use Rattle.std.proofs.lemmas.List.{append-nil}
use Rattle.history.specs.Faults.{max_maps}
use Rattle.history.specs.Seen.{IsFitting}
use Rattle.history.proofs.MapLimit.{great_first, not_memory, first_within, none_within, too_many_first}
use Rattle.history.proofs.Pushing.{pushed_unless}
use Rattle.history.proofs.OneMore.{fitting_faultless, ignored_read}
use Rattle.history.proofs.seen.read_next.Goals as goal

pub returns-then-has_great_object-clause-fault : goal.returns-then-has_great_object-clause-fault
returns-then-has_great_object-clause-fault c = λ other ds d says seen long.
    great_first ds d (c.if-has_great_object.ensures d says)

pub returns-in-Err-clause-fault : goal.returns-in-Err-clause-fault
returns-in-Err-clause-fault c = λ other ds d says seen long. first_within ds d c.in-Err.kind
    (c.if-has_great_object.ensures d says)
    (c.in-Err.ensures.fault ds d says seen)

pub returns-in-Err-clause-memory : goal.returns-in-Err-clause-memory
returns-in-Err-clause-memory c = λ memory ds d says seen long. absurd
    (not_memory ds d c.in-Err.kind (c.in-Err.ensures.fault ds d says seen).stands memory)

pub returns-then-map-ge-MAX_MAPS-clause-fault : goal.returns-then-map-ge-MAX_MAPS-clause-fault
returns-then-map-ge-MAX_MAPS-clause-fault c = λ other ds d says seen long.
    too_many_first ds d (c.if-has_great_object.ensures d says)
    (fitting_faultless c.args.seen.now ds d c.in-Ok.fitting (c.in-Ok.ensures.fits ds d says seen))
    (subst (λ n. max_maps ≤ n) (sym long) c.if-map-ge-MAX_MAPS.true)

pub returns-in_default-clause-read : goal.returns-in_default-clause-read
returns-in_default-clause-read c = λ ds d says seen long.
    let fits = subst (IsFitting c.args.seen.now ds d) c.in_default.is (c.in-Ok.ensures.fits ds d says seen) in
    ([], ignored_read c.args.seen.now ds d seen fits.0 fits.1, sym (append-nil c.args.events.now.items))

pub returns-in_default-note-clause-memory : goal.returns-in_default-note-clause-memory
returns-in_default-note-clause-memory c = λ memory ds d says seen long.
    none_within ds d (c.if-has_great_object.ensures d says)
    (fitting_faultless c.args.seen.now ds d c.in-Ok.fitting (c.in-Ok.ensures.fits ds d says seen))
    (subst (λ n. n < max_maps) (sym long) c.if-map-ge-MAX_MAPS.false)

pub returns-then-is_err-clause-memory : goal.returns-then-is_err-clause-memory
returns-then-is_err-clause-memory c = λ memory ds d says seen long.
    none_within ds d (c.if-has_great_object.ensures d says)
    (fitting_faultless c.args.seen.now ds d c.in-Ok.fitting (c.in-Ok.ensures.fits ds d says seen))
    (subst (λ n. n < max_maps) (sym long) c.if-map-ge-MAX_MAPS.false)

pub returns-clause-read : goal.returns-clause-read
returns-clause-read c = λ ds d says seen long.
    let fits = subst (IsFitting c.args.seen.now ds d) c.in-Some.is (c.in-Ok.ensures.fits ds d says seen) in
    let none : is_err c.push.result ≡ false = sym c.is_err.ensures.value ∙ c.if-is_err.false in (
      c.in-Ok-note.event ∷ [],
      c.in-Ok-note.ensures ds d seen fits long,
      pushed_unless c.push.result c.push.new.self.items _ c.args.events.now.items none c.push.ensures.items,
    )
