-- `take`: the reader has read one map more and gives its event, or the fault is the first of all maps. The maps
-- before have no fault (`first_of_all`, `faultless_push`), and what `check` and `note` say of one map carries over.
use Rattle.std.proofs.Common.{◌+◌, [], ◌∷◌, inl, refl, subst}
use Rattle.history.specs.declared.long_reader.LongReader.{LongReader}
use Rattle.history.specs.Faults.{IsMapFault}
use Rattle.history.specs.Seen.{IsFitting}
use Rattle.history.proofs.LongReading.{read_more, events_more, of_the_map, first_of_all}
use Rattle.history.proofs.OneMore.{fitting_faultless, ignored_read}
use Rattle.history.proofs.Reading.{faultless_push}
use Rattle.history.proofs.long_reader.LongReader.take.Goals as goal

pub returns-in-Err-clause-fault : goal.returns-in-Err-clause-fault
returns-in-Err-clause-fault c = λ few memory ds d says h. first_of_all c.args.self.now ds d c.in-Err.kind h
    (c.in-Err.ensures.fault ds d says h.kept)

pub returns-in-Err-clause-too_many : goal.returns-in-Err-clause-too_many
returns-in-Err-clause-too_many c = λ many ds d says h. absurd
    (of_the_map ds d c.in-Err.kind (c.in-Err.ensures.fault ds d says h.kept).stands (inl many))

pub returns-in-Err-clause-sound : goal.returns-in-Err-clause-sound
returns-in-Err-clause-sound c = λ place ds d says h. absurd (of_the_map ds d c.in-Err.kind
    (c.in-Err.ensures.fault ds d says h.kept).stands place)

pub returns-then-number-clause-sound : goal.returns-then-number-clause-sound
returns-then-number-clause-sound c = λ place ds d says h.
    faultless_push IsMapFault ds d h.faultless (fitting_faultless c.args.self.now.seen ds d c.in-Ok.fitting
    (c.in-Ok.ensures.fits ds d says h.kept))

pub returns-in_default-clause-read : goal.returns-in_default-clause-read
returns-in_default-clause-read c = λ ds d says h.
    let old = c.args.self.now in
    let new : LongReader = record { seen = old.seen; maps = old.maps + 1 } in
    let fits = subst (IsFitting old.seen ds d) c.in_default.is (c.in-Ok.ensures.fits ds d says h.kept) in
    read_more old new ds d [] h (ignored_read old.seen ds d h.kept fits.0 fits.1) refl

pub returns-in_default-clause-event : goal.returns-in_default-clause-event
returns-in_default-clause-event c = λ ds d says h.
    let seen = c.args.self.now.seen in
    let fits = subst (IsFitting seen ds d) c.in_default.is (c.in-Ok.ensures.fits ds d says h.kept) in
    events_more ds d [] (ignored_read seen ds d h.kept fits.0 fits.1).events

pub returns-in_default-note-clause-sound : goal.returns-in_default-note-clause-sound
returns-in_default-note-clause-sound c = λ place ds d says h.
    faultless_push IsMapFault ds d h.faultless (fitting_faultless c.args.self.now.seen ds d c.in-Ok.fitting
    (c.in-Ok.ensures.fits ds d says h.kept))

pub returns-clause-read : goal.returns-clause-read
returns-clause-read c = λ ds d says h.
    let old = c.args.self.now in
    let new : LongReader = record { seen = c.note.new.self; maps = old.maps + 1 } in
    let fits = subst (IsFitting old.seen ds d) c.in-Some.is (c.in-Ok.ensures.fits ds d says h.kept) in
    read_more old new ds d (c.in-Ok-note.event ∷ []) h (c.in-Ok-note.ensures ds d h.kept fits h.count) refl

pub returns-clause-event : goal.returns-clause-event
returns-clause-event c = λ ds d says h.
    let fits = subst (IsFitting c.args.self.now.seen ds d) c.in-Some.is (c.in-Ok.ensures.fits ds d says h.kept) in
    events_more ds d (c.in-Ok-note.event ∷ []) (c.in-Ok-note.ensures ds d h.kept fits h.count).events
