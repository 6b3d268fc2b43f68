use Rattle.std.proofs.Common.{◌≡◌, false, List, length}
use Rattle.std.specs.Str.{IsUtf8}
use Rattle.edn_reader.specs.Datum.{Datum}
use Rattle.edn_reader.specs.Left.{text_left, start_of, is_truncating}
use Rattle.edn_reader.specs.Sound.{IsShort}
use Rattle.edn_reader.specs.View.{views}
use Rattle.edn_reader.proofs.FormsInARow.{Along}
use Rattle.edn_reader.proofs.reader.read_forms.Given as goal

abbrev pub invariant-elements : goal.invariant-elements
invariant-elements l =
    record {
      along : Along (λ (ds : List Datum). ds ≡ views l.forms.items) l.text (text_left l.elements) (start_of l.elements);
      short : IsShort l.text;
      utf8 : IsUtf8 l.text;
      cuts : is_truncating l.elements ≡ false;
    }

abbrev pub decreases-elements : goal.decreases-elements
decreases-elements l = length (text_left l.elements)
