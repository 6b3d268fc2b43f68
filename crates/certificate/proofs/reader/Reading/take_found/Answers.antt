-- `take_found`: with the next form, the reading is still that of the forms. Where the form is a certificate of a new
-- object, it is kept; otherwise the fault is recorded as the one that is found at this form.
use Rattle.std.proofs.Common.{ℕ, Option, Ok, List, [], ◌∷◌, ◌++◌, sym, subst, ◌∙◌}
use Rattle.certificate.specs.declared.Certificate.{Certificate}
use Rattle.certificate.specs.declared.fault.CertFault.{CertFault}
use Rattle.certificate.specs.declared.fault.CertFaultKind.TheVariants.{NoMemory}
use Rattle.certificate.specs.Denotes.{reading_of}
use Rattle.certificate.specs.Inside.{AreCertificatesRead, IsFaultAmong, IsNextCertificate, has}
use Rattle.certificate.specs.Texts.{IsCertFaultIn, AreCertificatesReadOrFaulty}
use Rattle.certificate.proofs.Reading.{next_certificate_read}
use Rattle.certificate.proofs.TextReading.{are_read, found, no_fault_yet, still_faulty}
use Rattle.certificate.proofs.reader.Reading.take_found.Goals as goal

pub returns-then-is_some : goal.returns-then-is_some
returns-then-is_some c = λ ds d _ h. still_faulty c.args.self.now ds d c.if-is_some.ensures h

pub returns-in-Ok-push : goal.returns-in-Ok-push
returns-in-Ok-push c = λ ds d q h.
    let old = c.args.self.now in
    let new = c.push.new.self in
    let none = no_fault_yet old.fault c.if-is_some.ensures in
    let own : IsNextCertificate (has old.objects) d (Ok c.in-Ok.certificate) = rw c.in-Ok.is at q in
    let all = next_certificate_read ds old.certificates.items (has old.objects) (has new.objects) d c.in-Ok.certificate
    (are_read old ds none h) own.0 own.1 c.in-Ok-push.ensures.objects in
    let kept = subst (λ (cs : List Certificate). AreCertificatesRead (ds ++ d ∷ []) cs (has new.objects))
    (sym c.in-Ok-push.ensures.certificates) all in
    subst (λ (o : Option CertFault). AreCertificatesReadOrFaulty o (ds ++ d ∷ []) new.certificates.items
    (has new.objects)) (sym (c.in-Ok-push.ensures.fault ∙ none)) kept

pub returns-in-Err-push : goal.returns-in-Err-push
returns-in-Err-push c = λ ds d q h.
    let old = c.args.self.now in
    let own : IsNextCertificate (has old.objects) d (Ok c.in-Ok.certificate) = rw c.in-Ok.is at q in
    let here = found ds old.certificates.items (has old.objects) d NoMemory
    (are_read old ds (no_fault_yet old.fault c.if-is_some.ensures) h) (reading_of c.in-Ok.certificate, own.0, own.1) in
    subst (λ (n : ℕ). IsCertFaultIn (ds ++ d ∷ []) (record { kind = NoMemory; form = n }))
    (sym (c.len-form.ensures ∙ old.certificates.ok.0)) here

pub returns-in-Err : goal.returns-in-Err
returns-in-Err c = λ ds d q h.
    let old = c.args.self.now in
    let a = are_read old ds (no_fault_yet old.fault c.if-is_some.ensures) h in
    let own : IsFaultAmong (has old.objects) d c.in-Err.kind = rw c.in-Err.is at q in
    let here = found ds old.certificates.items (has old.objects) d c.in-Err.kind a own in
    subst (λ (n : ℕ). IsCertFaultIn (ds ++ d ∷ []) (record { kind = c.in-Err.kind; form = n }))
    (sym (c.len-form.ensures ∙ old.certificates.ok.0)) here
