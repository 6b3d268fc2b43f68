use Rattle.std.proofs.Common.{length}
use Rattle.std.specs.Str.{IsUtf8}
use Rattle.edn_reader.specs.Sound.{IsShort}
use Rattle.edn_reader.proofs.FormsInARow.{Along}
use Rattle.history.specs.MapReading.{left_in, start_of_map}
use Rattle.history.specs.MapTexts.{AreMapTexts}
use Rattle.history.proofs.map_texts.maps_of.Given as goal

abbrev pub invariant-forms : goal.invariant-forms
invariant-forms l = record {
  along : Along (AreMapTexts l.texts.items) l.piece (left_in l.maps) (start_of_map l.maps);
  short : IsShort l.piece;
  utf8 : IsUtf8 l.piece;
}

abbrev pub decreases-forms : goal.decreases-forms
decreases-forms l = length (left_in l.maps)
