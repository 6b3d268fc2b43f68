use Rattle.std.proofs.Common.{◌++◌, List, length}
use Rattle.edn_reader.specs.Datum.{Datum}
use Rattle.edn_reader.proofs.FormsInARow.{Along}
use Rattle.history.specs.MapReading.{left_in, start_of_map}
use Rattle.history.specs.ReadPieces.{IsOfForms}
use Rattle.history.proofs.piece.ReadPiece.read_lines.Given as goal

abbrev pub invariant-forms : goal.invariant-forms
invariant-forms l = (ds : List Datum) → IsOfForms l.fn.self ds
    → Along (λ es. IsOfForms l.self (ds ++ es)) l.lines (left_in l.maps) (start_of_map l.maps)

abbrev pub decreases-forms : goal.decreases-forms
decreases-forms l = length (left_in l.maps)
