use Rattle.std.proofs.Common.{◌≡◌, false, length}
use Rattle.std.specs.Str.{IsUtf8}
use Rattle.edn_reader.specs.Left.{text_left, start_of, is_truncating}
use Rattle.edn_reader.specs.Sound.{IsShort}
use Rattle.edn_reader.proofs.FormsInARow.{Along}
use Rattle.certificate.specs.Texts.{IsCertificateReading}
use Rattle.certificate.proofs.text_reader.read_certificates_text.Given as goal

abbrev pub invariant-elements : goal.invariant-elements
invariant-elements l = record {
  along : Along (IsCertificateReading l.reading) l.text (text_left l.elements) (start_of l.elements);
  short : IsShort l.text;
  utf8 : IsUtf8 l.text;
  cuts : is_truncating l.elements ≡ false;
}

abbrev pub decreases-elements : goal.decreases-elements
decreases-elements l = length (text_left l.elements)
