-- `read_forms`: the text spells the forms, and an allocation fails only where nothing is wrong yet. The loop keeps that
-- the text is the forms so far and then what is left (`Along`), and what is left gets shorter.
use Rattle.std.proofs.Common.{◌≡◌, ◌∷◌, ◌++◌, [], List, Option, option_map, ap, sym, subst, ◌∙◌}
use Rattle.std.proofs.lemmas.Result.{err_from_is_err_and}
use Rattle.edn_reader.specs.Datum.{Datum}
use Rattle.edn_reader.specs.Elements.{GivesForm}
use Rattle.edn_reader.specs.declared.form.Form.{Form}
use Rattle.edn_reader.specs.Left.{text_left, start_of}
use Rattle.edn_reader.specs.Spells.{Spells}
use Rattle.edn_reader.specs.View.{view, views}
use Rattle.edn_reader.proofs.FormsInARow.{along_more, along_spells, sound_after}
use Rattle.edn_reader.proofs.FormsOfTokens.{views_with}
use Rattle.edn_reader.proofs.Standing.{element_sound}
use Rattle.edn_reader.proofs.reader.read_forms.Goals as goal

pub returns-in_err-form-clause-memory : goal.returns-in_err-form-clause-memory
returns-in_err-form-clause-memory c =
    let p = err_from_is_err_and c.from_residual-in_err-form.result c.from_residual-in_err-form.ensures.1 in
    let a = c.elements.invariant.along in
    rw (p.1, p.2) (λ m. sound_after c.args.text.now (text_left c.elements.elements) a.forms
    (start_of c.elements.elements) _ c.elements.invariant.utf8
    a.front a.place (c.in_err-form.ensures.memory m))

pub returns-in_default-clause-spelled : goal.returns-in_default-clause-spelled
returns-in_default-clause-spelled c =
    let old = c.elements.elements in
    let a = c.elements.invariant.along in
    let n = subst (λ (o : Option Form). GivesForm (text_left old) (option_map view o) (text_left c.next_form.new.self))
    c.in_default.is c.in_ok-form.ensures.gives in
    subst (λ (ds : List Datum). Spells ds c.args.text.now) a.holds
    (along_spells (λ (ds : List Datum). ds ≡ views c.elements.forms.items) c.args.text.now (text_left old)
    (start_of old) a n)

pub returns-in-Err-clause-memory : goal.returns-in-Err-clause-memory
returns-in-Err-clause-memory c =
    let old = c.elements.elements in
    let new = c.next_form.new.self in
    let a = c.elements.invariant.along in
    let front = subst (λ (o : Option Form). GivesForm (text_left old) (option_map view o) (text_left new))
    c.in-Some.is c.in_ok-form.ensures.gives in
    let s = element_sound (text_left old) (text_left new) (view c.in-Some.form) (start_of old) c.place-place.result
    c.place-place.ensures.utf8 front c.place-place.ensures.place in
    λ _. sound_after c.args.text.now (text_left old) a.forms (start_of old) c.place-place.result
    c.elements.invariant.utf8 a.front a.place s

pub elements-preserved : goal.elements-preserved
elements-preserved c =
    let old = c.elements.elements in
    let new = c.next_form.new.self in
    let front = subst (λ (o : Option Form). GivesForm (text_left old) (option_map view o) (text_left new))
    c.in-Some.is c.in_ok-form.ensures.gives in
    record {
      along = along_more (λ (ds : List Datum). ds ≡ views c.elements.forms.items)
          (λ (ds : List Datum). ds ≡ views c.push.new.self.items) c.args.text.now (text_left old) (text_left new)
          (start_of old) (start_of new) (view c.in-Some.form) front c.in_ok-form.ensures.moves
          (λ ds h. ap (λ (xs : List Datum). xs ++ view c.in-Some.form ∷ []) h
          ∙ sym (views_with c.elements.forms.items c.push.new.self.items c.in-Some.form c.in-Ok.ensures.items))
          c.elements.invariant.along;
      short = c.elements.invariant.short;
      utf8 = c.elements.invariant.utf8;
      cuts = c.in_ok-form.ensures.cuts ∙ c.elements.invariant.cuts;
    }
