-- Which names a set of them has.
use Rattle.std.specs.Prelude.{◌≡◌, ℕ, Bool, List}
use Rattle.std.specs.Borrow.{Bor}
use Rattle.std.specs.HashSet.{HashSet, contains_by}
use Rattle.std.specs.Str.{bytes_eq}
use Rattle.edn_reader.specs.Shapes.{has_name}

abbrev pub contains_name : {S : Type 0} → HashSet (Bor (List ℕ)) S → List ℕ → Bool
contains_name set k = contains_by (λ l. bytes_eq k l.now) set

-- these names, and no others
abbrev pub HasNames : {S : Type 0} → HashSet (Bor (List ℕ)) S → List (List ℕ) → Type 0
HasNames set names = (k : List ℕ) → contains_name set k ≡ has_name k names
