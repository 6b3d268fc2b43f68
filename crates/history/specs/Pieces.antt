-- A history's text in pieces, and what was read of each.
use Rattle.std.specs.Prelude.{⊤, ℕ, List, [], ◌∷◌, ◌++◌, Option, IfSome}
use Rattle.edn_reader.specs.Datum.{Datum}
use Rattle.edn_reader.specs.Spells.{Spells}
use Rattle.history.specs.declared.piece.ReadPiece.{ReadPiece}
use Rattle.history.specs.ReadPieces.{IsOfForms}

-- the text that pieces make with a line feed between each two of them
abbrev pub joined_by_feeds : List (List ℕ) → List ℕ
joined_by_feeds [] = []
joined_by_feeds (a ∷ []) = a
joined_by_feeds (a ∷ b ∷ pieces) = a ++ 10 ∷ joined_by_feeds (b ∷ pieces)

-- what was read of the piece is of the forms that it spells
abbrev pub IsReadFrom : List ℕ → ReadPiece → Type 0
IsReadFrom piece read = (ds : List Datum) × Spells ds piece × IsOfForms read ds

-- this was read of each piece, if something was
abbrev pub AreReadFrom : List (List ℕ) → List (Option ReadPiece) → Type 0
AreReadFrom [] [] = ⊤
AreReadFrom (piece ∷ pieces) (read ∷ reads) =
    IfSome read (IsReadFrom piece) × AreReadFrom pieces reads
AreReadFrom [] (read ∷ reads) = ⊥
AreReadFrom (piece ∷ pieces) [] = ⊥
