-- `read_certificates_text`: the certificates are those that the text denotes, or the fault is one of the text. The
-- reading is always that of the forms which the text spells up to the place that was reached.
use Rattle.std.proofs.Common.{◌≡◌, ℕ, Option, List, [], ◌∷◌, option_map, sym, subst, ◌∙◌}
use Rattle.edn_reader.specs.Elements.{SpellsFront, GivesForm}
use Rattle.edn_reader.specs.Left.{text_left, start_of}
use Rattle.edn_reader.specs.View.{view}
use Rattle.edn_reader.specs.declared.form.Form.{Form}
use Rattle.edn_reader.proofs.FormsInARow.{along_more, along_spells, sound_after, unreadable_after}
use Rattle.certificate.specs.Texts.{IsCertificateReading}
use Rattle.certificate.proofs.text_reader.read_certificates_text.Goals as goal

pub elements-preserved : goal.elements-preserved
elements-preserved c =
    let old = c.elements.elements in
    let new = c.next_form.new.self in
    let front : SpellsFront (text_left old) (view c.in-Ok-Some.form ∷ []) (text_left new) =
    subst (λ (o : Option Form). GivesForm (text_left old) (option_map view o) (text_left new)) c.in-Ok-Some.field-0-is
    c.in-Ok-Some.ensures.gives in
    record {
      along = along_more (IsCertificateReading c.elements.reading) (IsCertificateReading c.take.new.reading)
          c.args.text.now (text_left old) (text_left new) (start_of old) (start_of new) (view c.in-Ok-Some.form) front
          c.in-Ok-Some.ensures.moves (λ ds h. c.take.ensures ds h) c.elements.invariant.along;
      short = c.elements.invariant.short;
      utf8 = c.elements.invariant.utf8;
      cuts = c.in-Ok-Some.ensures.cuts ∙ c.elements.invariant.cuts;
    }

pub returns-in-Ok-finish-clause-denotes : goal.returns-in-Ok-finish-clause-denotes
returns-in-Ok-finish-clause-denotes c =
    let old = c.elements.elements in
    let a = c.elements.invariant.along in
    let n = subst (λ (o : Option Form). GivesForm (text_left old) (option_map view o) (text_left c.next_form.new.self))
    c.in-Ok-None.field-0-is c.in-Ok-None.ensures.gives in (
      a.forms,
      along_spells (IsCertificateReading c.elements.reading) c.args.text.now (text_left old) (start_of old) a n,
      c.in-Ok-finish.ensures.denotes a.forms a.holds,
    )

pub returns-in-Ok-finish-clause-distinct : goal.returns-in-Ok-finish-clause-distinct
returns-in-Ok-finish-clause-distinct c =
    let a = c.elements.invariant.along in (c.in-Ok-finish.ensures.denotes a.forms a.holds).distinct

pub returns-in-Err-finish-clause-fault : goal.returns-in-Err-finish-clause-fault
returns-in-Err-finish-clause-fault c =
    let old = c.elements.elements in
    let a = c.elements.invariant.along in
    let n = subst (λ (o : Option Form). GivesForm (text_left old) (option_map view o) (text_left c.next_form.new.self))
    c.in-Ok-None.field-0-is c.in-Ok-None.ensures.gives in (
      c.elements.invariant.short,
      a.forms,
      along_spells (IsCertificateReading c.elements.reading) c.args.text.now (text_left old) (start_of old) a n,
      c.in-Err-finish.ensures.fault a.forms a.holds,
    )

pub returns-in-Err-next_form-clause-fault : goal.returns-in-Err-next_form-clause-fault
returns-in-Err-next_form-clause-fault c =
    let a = c.elements.invariant.along in
    let e = c.in-Err-next_form.ensures in (
      unreadable_after (IsCertificateReading c.elements.reading) c.args.text.now (text_left c.elements.elements)
          (start_of c.elements.elements) c.in-Err-next_form.fault c.elements.invariant.short a e.short e.none,
      λ m. (
        c.elements.invariant.short,
        sound_after c.args.text.now (text_left c.elements.elements) a.forms (start_of c.elements.elements)
            c.in-Err-next_form.fault.place c.elements.invariant.utf8 a.front a.place (e.memory m),
      ),
    )

pub elements-preserved-in-Some : goal.elements-preserved-in-Some
elements-preserved-in-Some c =
    let old = c.elements.elements in
    let new = c.pass.new.self in
    let read = c.in-Some.ensures in
    let at : c.as_bytes.result.now ≡ text_left old = c.as_bytes.ensures.value ∙ c.rest.ensures in
    let front : SpellsFront (text_left old) (read.form ∷ []) (text_left new) =
    subst (λ (r : List ℕ). SpellsFront (text_left old) (read.form ∷ []) r) (sym c.pass.ensures.left)
    (subst (λ (t : List ℕ). SpellsFront t (read.form ∷ []) c.in-Some.rest.now) at read.front) in
    record {
      along = along_more (IsCertificateReading c.elements.reading) (IsCertificateReading c.take_usual.new.self)
          c.args.text.now (text_left old) (text_left new) (start_of old) (start_of new) read.form front
          c.pass.ensures.moves (λ ds h. c.take_usual.ensures ds read.form read.own h) c.elements.invariant.along;
      short = c.elements.invariant.short;
      utf8 = c.elements.invariant.utf8;
      cuts = c.pass.ensures.cuts ∙ c.elements.invariant.cuts;
    }
