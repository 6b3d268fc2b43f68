-- `maps_of`: the maps are those that the piece spells, each with its own bytes, or the fault is the first one. The maps
-- so far are of the forms up to the place that was reached, and `form_alone` gives the bytes of the next.
use Rattle.std.proofs.Common.{List, [], ◌∷◌, ◌++◌, length, sym, ap, subst, ◌∙◌, inr, inl, arith}
use Rattle.std.specs.Str.{IsUtf8}
use Rattle.edn_reader.proofs.FormsInARow.{along_more, along_spells, front_more, sound_after, unreadable_after}
use Rattle.history.specs.declared.map_texts.MapText.{MapText}
use Rattle.history.specs.MapReading.{left_in, start_of_map}
use Rattle.history.specs.MapTexts.{AreMapTexts}
use Rattle.history.proofs.OwnTexts.{form_alone, texts_push}
use Rattle.history.proofs.Pushing.{pushed_unless}
use Rattle.history.proofs.map_texts.maps_of.Goals as goal

pub forms-preserved : goal.forms-preserved
forms-preserved c =
    let text = left_in c.forms.maps in
    let rest = left_in c.advance.new.self in
    let read = rw c.in-Ok-Some.field-0-is at c.in-Ok-Some.ensures.reads in
    let whole : IsUtf8 text = subst IsUtf8 c.rest.ensures c.rest.utf8 in
    let spelled = form_alone read.form text rest c.as_bytes-before.result.now c.rest-left.result.now
    (c.as_bytes-before.ensures.value ∙ c.rest.ensures) c.rest-left.ensures whole read.utf8 read.front in
    let pushed = pushed_unless c.push.result c.push.new.self.items _ c.forms.texts.items
    (sym c.is_err.ensures.value ∙ c.if-is_err.false) c.push.ensures.items in
    record {
      along = along_more (AreMapTexts c.forms.texts.items)
          (AreMapTexts c.push.new.self.items) c.args.piece.now text rest
          (start_of_map c.forms.maps) (start_of_map c.advance.new.self) read.form read.front
          c.in-Ok-Some.ensures.moves
          (λ ds h. subst (λ (ms : List MapText). AreMapTexts ms (ds ++ read.form ∷ [])) (sym pushed)
          (texts_push c.forms.texts.items ds _ read.form h (record { says = read.says; spelled = spelled })))
          c.forms.invariant.along;
      short = c.forms.invariant.short;
      utf8 = c.forms.invariant.utf8;
    }

pub returns-in-Ok-None-clause-maps : goal.returns-in-Ok-None-clause-maps
returns-in-Ok-None-clause-maps c =
    let a = c.forms.invariant.along in
    let n = rw c.in-Ok-None.field-0-is at c.in-Ok-None.ensures.reads in (
      a.forms,
      along_spells (AreMapTexts c.forms.texts.items) c.args.piece.now (left_in c.forms.maps)
          (start_of_map c.forms.maps) a n,
      a.holds,
    )

pub returns-then-is_err-clause-memory : goal.returns-then-is_err-clause-memory
returns-then-is_err-clause-memory c = λ _.
    let a = c.forms.invariant.along in
    let text = left_in c.forms.maps in
    let rest = left_in c.advance.new.self in
    let read = rw c.in-Ok-Some.field-0-is at c.in-Ok-Some.ensures.reads in (
      c.forms.invariant.short,
      inr (record {
        forms = a.forms ++ read.form ∷ [];
        rest = rest;
        front = front_more c.args.piece.now text rest a.forms (read.form ∷ []) a.front read.front;
        ends_at = omega (arith, a.place, c.in-Ok-Some.ensures.moves, ap length c.rest-left.ensures);
      }),
    )

pub returns-in-Err-advance-clause-unreadable : goal.returns-in-Err-advance-clause-unreadable
returns-in-Err-advance-clause-unreadable c =
    let a = c.forms.invariant.along in
    let e = c.in-Err-advance.ensures in
    unreadable_after (AreMapTexts c.forms.texts.items) c.args.piece.now (left_in c.forms.maps)
    (start_of_map c.forms.maps) c.in-Err-advance.fault c.forms.invariant.short a e.short e.none

pub returns-in-Err-advance-clause-memory : goal.returns-in-Err-advance-clause-memory
returns-in-Err-advance-clause-memory c = λ m.
    let a = c.forms.invariant.along in (
      c.forms.invariant.short,
      inl (sound_after c.args.piece.now (left_in c.forms.maps) a.forms (start_of_map c.forms.maps)
          c.in-Err-advance.fault.place c.forms.invariant.utf8 a.front a.place (c.in-Err-advance.ensures.memory m)),
    )
