use Rattle.std.proofs.Common.{length}
use Rattle.std.specs.Str.{IsUtf8}
use Rattle.edn_reader.specs.Sound.{IsShort}
use Rattle.edn_reader.proofs.FormsInARow.{Along}
use Rattle.history.specs.MapReading.{left_in, start_of_map}
use Rattle.history.specs.Texts.{IsHistoryReading}
use Rattle.history.proofs.text_reader.read_history_text.Given as goal

abbrev pub invariant-forms : goal.invariant-forms
invariant-forms l = record {
  along : Along (IsHistoryReading l.reading) l.text (left_in l.maps) (start_of_map l.maps);
  short : IsShort l.text;
  utf8 : IsUtf8 l.text;
}

abbrev pub decreases-forms : goal.decreases-forms
decreases-forms l = length (left_in l.maps)
