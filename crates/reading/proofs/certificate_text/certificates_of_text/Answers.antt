use Rattle.std.proofs.Common.{subst}
use Rattle.edn_reader.proofs.Progress.{one_reading_of}
use Rattle.certificate.specs.Texts.{IsCertTextFault}
use Rattle.reading.proofs.OneMeaning.{one_meaning}
use Rattle.reading.proofs.ReadFaults.{stopped_forms, certificates_for_memory}
use Rattle.reading.proofs.certificate_text.certificates_of_text.Goals as goal

pub returns-in-Ok-clause-only : goal.returns-in-Ok-clause-only
returns-in-Ok-clause-only c = λ ds h.
    let d = c.in-Ok.ensures.denotes in
    one_meaning c.args.text.now d.0 c.in-Ok.certificates.items ds
    (λ es k. one_reading_of es d.0 c.args.text.now k d.1) d.2 h

pub returns-in-Err-Forms-clause-stop : goal.returns-in-Err-Forms-clause-stop
returns-in-Err-Forms-clause-stop c =
    stopped_forms c.args.text.now c.in-Err-Forms.fault c.failure_of_fault-in-Err-Forms.result
    (subst (IsCertTextFault c.args.text.now) c.in-Err-Forms.field-0-is c.in-Err-Forms.ensures.fault)
    c.failure_of_fault-in-Err-Forms.ensures

pub returns-in-Err-Forms-clause-accepts : goal.returns-in-Err-Forms-clause-accepts
returns-in-Err-Forms-clause-accepts c = λ cs d short. certificates_for_memory c.args.text.now
    c.failure_of_fault-in-Err-Forms.result cs (returns-in-Err-Forms-clause-stop c) d short
