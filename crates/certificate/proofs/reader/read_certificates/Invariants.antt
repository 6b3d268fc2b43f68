use Rattle.std.proofs.Common.{take}
use Rattle.edn_reader.specs.View.{views}
use Rattle.certificate.specs.Texts.{IsCertificateReading}
use Rattle.certificate.proofs.reader.read_certificates.Given as goal

abbrev pub invariant-loop-form : goal.invariant-loop-form
invariant-loop-form l = IsCertificateReading l.reading (views (take l.form-index l.fn.forms.items))
