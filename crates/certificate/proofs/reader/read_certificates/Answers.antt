-- `read_certificates`: the reading is always that of the forms so far, and at the end that of all.
use Rattle.std.proofs.Common.{◌≡◌, ◌<◌, ◌≤◌, List, length, take, get_or, ap, subst, ◌∙◌, arith}
use Rattle.std.proofs.lemmas.List.{take_all}
use Rattle.std.proofs.lemmas.Result.{IfOk-weaker, IfErr-weaker}
use Rattle.edn_reader.specs.View.{views}
use Rattle.edn_reader.specs.declared.form.Form.{Form}
use Rattle.certificate.specs.Denotes.{Denotes, AreDistinct}
use Rattle.certificate.specs.Texts.{IsCertFaultIn, IsCertificateReading}
use Rattle.edn.proofs.FormsRead.{views_more}
use Rattle.certificate.proofs.Reading.{not_denoted}
use Rattle.certificate.proofs.reader.read_certificates.Goals as goal

pub loop-form-init : goal.loop-form-init
loop-form-init c = c.new-reading.ensures

pub loop-form-preserved : goal.loop-form-preserved
loop-form-preserved c =
    let fs = c.args.forms.items in
    let i = c.loop-form.form-index in
    let f = c.form-item.result in
    let lt : i < length fs = omega (arith, c.loop-form-test.true, ap length c.deref-form-items.ensures.value) in
    let is : f ≡ get_or fs i f =
    c.form-item.is ∙ ap (λ (xs : List Form). get_or xs i f) c.deref-form-items.ensures.value in
    rw (views_more fs i f lt is) (c.take.ensures (views (take i fs)) c.loop-form.invariant)

all_read : (c : goal.After-drop-forms) → IsCertificateReading c.loop-form.reading (views c.args.forms.items)
all_read c =
    let fs = c.args.forms.items in
    let i = c.loop-form.form-index in
    let le : length fs ≤ i = omega (arith, c.loop-form-test.false, ap length c.deref-form-items.ensures.value) in
    subst (λ (xs : List Form). IsCertificateReading c.loop-form.reading (views xs)) (take_all i fs le)
    c.loop-form.invariant

pub returns-clause-denotes : goal.returns-clause-denotes
returns-clause-denotes c = c.finish.ensures.denotes (views c.args.forms.items) (all_read c)

pub returns-clause-distinct : goal.returns-clause-distinct
returns-clause-distinct c =
    IfOk-weaker c.finish.result (λ v. Denotes (views c.args.forms.items) v.items) (λ v. AreDistinct v.items)
    (λ v h. h.distinct) (returns-clause-denotes c)

pub returns-clause-fault : goal.returns-clause-fault
returns-clause-fault c =
    let ds = views c.args.forms.items in
    IfErr-weaker c.finish.result (IsCertFaultIn ds) _ (λ e h. h.0) (c.finish.ensures.fault ds (all_read c))

pub returns-clause-memory : goal.returns-clause-memory
returns-clause-memory c =
    let ds = views c.args.forms.items in
    IfErr-weaker c.finish.result (IsCertFaultIn ds) _ (λ e h. h.1) (c.finish.ensures.fault ds (all_read c))

pub returns-clause-refused : goal.returns-clause-refused
returns-clause-refused c =
    let ds = views c.args.forms.items in
    IfErr-weaker c.finish.result (IsCertFaultIn ds) _ (λ e h n. not_denoted ds e (h.0 n))
    (c.finish.ensures.fault ds (all_read c))
