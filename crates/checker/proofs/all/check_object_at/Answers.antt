-- `check_object_at`: the object's certificate is fine, or the refusal is right. The place that is found is that of
-- the object's certificate (`here`), and where none is found there is no certificate (`no_certificate`).
use Rattle.std.proofs.Common.{ap, sym, ◌∙◌, ◌≡◌, None}
use Rattle.number_map.specs.Lookup.{value_of}
use Rattle.events.specs.Operations.{calls_of}
use Rattle.certificate.specs.declared.Certificate.{Certificate}
use Rattle.checker.specs.Checking.{IsCertificatePlace}
use Rattle.checker.proofs.Certificates.{fine_here, refused_here, no_certificate}
use Rattle.checker.proofs.all.check_object_at.Goals as goal
use Rattle.checker.proofs.all.check_object_at.Goals.{In-Some}

-- the certificate of the object is at the place that is found
here : (c : In-Some) → IsCertificatePlace c.args.certificates.now c.args.object.now.object c.in-Some.place
here c = c.requires.places c.args.object.now.object c.in-Some.place
    (ap (value_of c.args.places.now) (sym c.object.ensures) ∙ (sym c.get.ensures ∙ c.in-Some.is))

pub bounds-certificates-place : goal.bounds-certificates-place
bounds-certificates-place c = (here (goal.at.bounds-certificates-place c).In-Some).inside

pub check_object-requires : goal.check_object-requires
check_object-requires c =
    let p = here (goal.at.check_object-requires c).In-Some in
    sym (ap (λ (d : Certificate). d.object) c.index-certificates-place.is
    ∙ p.for_object c.index-certificates-place.result)

pub returns-in_default-clause-refused : goal.returns-in_default-clause-refused
returns-in_default-clause-refused c =
    let x = c.args.object.now.object in
    let none : value_of c.args.places.now x ≡ None =
    ap (value_of c.args.places.now) (sym c.object.ensures) ∙ (sym c.get.ensures ∙ c.in_default.is) in
    (c.object-object.ensures, no_certificate c.args.certificates.now c.args.places.now x c.requires none)

pub returns-clause-fine : goal.returns-clause-fine
returns-clause-fine c =
    let o = c.args.object.now in
    let p = here (goal.at.returns-clause-fine c).In-Some in
    fine_here o.kind (calls_of o.ops) c.args.certificates.now o.object c.in-Some.place
    c.index-certificates-place.result c.check_object.result p
    c.index-certificates-place.is c.check_object.ensures.valid c.check_object.ensures.faultless

pub returns-clause-refused : goal.returns-clause-refused
returns-clause-refused c =
    let o = c.args.object.now in
    let p = here (goal.at.returns-clause-refused c).In-Some in
    refused_here o.kind (calls_of o.ops) c.args.certificates.now o.object c.in-Some.place
    c.index-certificates-place.result c.check_object.result p
    c.index-certificates-place.is c.check_object.ensures.refused c.check_object.ensures.exact
