-- What the parts of a reason in memory are by their types: numbers of maps have 32 bits, and the
-- keys of a set rise. Also the pairs of a map that is being made, and what is known of a reason
-- whose line was made. No public clause speaks of these.
use Rattle.std.specs.Prelude.{ℕ, ◌≤◌, ℤ, List, [], ◌∷◌, Option, Some, None}
use Rattle.std.specs.List.{AllByRecursion}
use Rattle.std.specs.List.Sorted.{IsStrictlySortedBy}
use Rattle.std.specs.Ordering.{nat_cmp, int_cmp}
use Rattle.edn_reader.specs.Datum.{Datum}
use Rattle.edn_reader.specs.Spells.{Spells}
use Rattle.edn_reader.specs.Text.{text_of}
use Rattle.edn_reader.specs.View.{pair_views}
use Rattle.cuts.specs.declared.keeping.Values.{Values}
use Rattle.cuts.specs.declared.keeping.Values.TheVariants.{All, Only}
use Rattle.cuts.specs.declared.cutting.Cut.{Cut}
use Rattle.cuts.specs.declared.cutting.Cut.TheVariants.{From, Until, Without, Keep, Cell, Entry}
use Rattle.refutation.specs.declared.reason.Basis.{Basis}
use Rattle.refutation.specs.declared.reason.Basis.TheVariants.{Search, Counting, Ahead}
use Rattle.refutation.specs.declared.reason.Reason.{Reason}
use Rattle.refutation.specs.declared.writer.MapBuilder.{MapBuilder}
use Rattle.refutation.specs.Denotes.{max_number}
use Rattle.refutation.specs.Lines.{datum_of}

-- the pairs of a map that is being made
abbrev pub pairs_in : MapBuilder → List (List ℕ × Datum)
pairs_in p = pair_views p.pairs.items

-- the keys of a set of integers
abbrev pub AreIntegerKeys : List ℤ → Type 0
AreIntegerKeys zs = IsStrictlySortedBy int_cmp zs

-- the keys of a set of numbers of maps
pub record AreNumberKeys (ns : List ℕ) : Type 0 where
  pub in_range : AllByRecursion (λ n. n ≤ max_number) ns
  pub rising : IsStrictlySortedBy nat_cmp ns

-- the values that a cut keeps are all, or integers in rising order
abbrev pub AreTypedValues : Values → Type 0
AreTypedValues All = Unit {0}
AreTypedValues (Only s) = AreIntegerKeys s.keys

-- the numbers of maps of a cut have 32 bits, and its sets rise
abbrev pub IsTypedCut : Cut → Type 0
IsTypedCut (From n) = n ≤ max_number
IsTypedCut (Until n) = n ≤ max_number
IsTypedCut (Without v n) = n ≤ max_number
IsTypedCut (Keep vs ns) = AreTypedValues vs × AreNumberKeys ns.keys
IsTypedCut (Cell vs other ns) = AreTypedValues vs × AreNumberKeys ns.keys
IsTypedCut (Entry key vs other ns) = AreTypedValues vs × AreNumberKeys ns.keys

-- a number of steps, if there is one, has 32 bits
abbrev pub AreTypedSteps : Option ℕ → Type 0
AreTypedSteps None = Unit {0}
AreTypedSteps (Some n) = n ≤ max_number

-- the numbers of maps and of steps of a basis have 32 bits
abbrev pub IsTypedBasis : Basis → Type 0
IsTypedBasis (Search trial) = AreTypedSteps trial.steps
IsTypedBasis (Counting c) = c.from ≤ max_number
IsTypedBasis (Ahead number from) = (number ≤ max_number) × (from ≤ max_number)

-- the numbers of maps and of steps of a reason have 32 bits, and its sets rise
abbrev pub IsTypedReason : Reason → Type 0
IsTypedReason r = AllByRecursion IsTypedCut r.cuts.items × IsTypedBasis r.basis

-- the text of the reason's form spells this form, which has what its types say
pub record IsWritten (r : Reason) : Type 0 where
  pub spelled : Spells (datum_of r ∷ []) (text_of (datum_of r))
  pub typed : IsTypedReason r
