-- The forms and the lines that are written for reasons.
use Rattle.std.specs.Prelude.{ℕ, ◌≤◌, ◌==◌, ℤ, pos, true, List, [], ◌∷◌, ◌++◌, map}
use Rattle.std.specs.Prelude.{All, Option, Some, None, codes, if◌then◌else◌}
use Rattle.edn_reader.specs.Datum.{Datum, integer, keyword, boolean, atom, vector, dictionary}
use Rattle.edn_reader.specs.Datum.{items_of, entries_of}
use Rattle.edn_reader.specs.Spells.{Spells}
use Rattle.edn_reader.specs.Text.{text_of, form_lines}
use Rattle.edn.specs.Fields.{max_object}
use Rattle.cuts.specs.declared.keeping.Values.{Values}
use Rattle.cuts.specs.declared.keeping.Values.TheVariants as values
use Rattle.cuts.specs.declared.cutting.Cut.{Cut}
use Rattle.cuts.specs.declared.cutting.Cut.TheVariants.{From, Until, Without, Keep, Cell, Entry}
use Rattle.cuts.specs.declared.counting.Counted.{Counted}
use Rattle.cuts.specs.declared.counting.Counted.TheVariants as counted
use Rattle.order_search.specs.declared.trials.TryFirst.{TryFirst}
use Rattle.order_search.specs.declared.trials.TryFirst.TheVariants.{LeastNumber, LeastReturn}
use Rattle.refutation.specs.declared.reason.Basis.{Basis}
use Rattle.refutation.specs.declared.reason.Basis.TheVariants.{Search, Counting, Ahead}
use Rattle.refutation.specs.declared.reason.Reason.{Reason}
use Rattle.refutation.specs.Denotes.{Denotes}

-- the pairs of a map: each is a key and its value
abbrev pub Pairs : Type 0
Pairs = List (List ℕ × Datum)

-- the map of these pairs
abbrev pub map_datum : Pairs → Datum
map_datum ps = dictionary (entries_of ps)

-- an integer
abbrev pub integer_datum : ℤ → Datum
integer_datum z = atom (integer z)

-- a keyword, without its colon
abbrev pub keyword_datum : List ℕ → Datum
keyword_datum k = atom (keyword k)

-- the number of a map or of an object, or a number of steps
abbrev pub number_datum : ℕ → Datum
number_datum n = integer_datum (pos n)

-- ---- cuts

-- a vector of these integers
abbrev pub integers_datum : List ℤ → Datum
integers_datum zs = vector (items_of (map integer_datum zs))

-- a vector of these numbers
abbrev pub numbers_datum : List ℕ → Datum
numbers_datum ns = vector (items_of (map number_datum ns))

-- :all, or a vector of integers
abbrev pub values_datum : Values → Datum
values_datum values.All = keyword_datum (codes "all")
values_datum (values.Only s) = integers_datum s.keys

-- the pair :numbers; nothing if there are none
abbrev pub numbers_pairs : List ℕ → Pairs
numbers_pairs [] = []
numbers_pairs (n ∷ ns) = (codes "numbers", numbers_datum (n ∷ ns)) ∷ []

-- the pairs of a cut
abbrev pub cut_pairs : Cut → Pairs
cut_pairs (From n) = (codes "from", number_datum n) ∷ []
cut_pairs (Until n) = (codes "until", number_datum n) ∷ []
cut_pairs (Without v n) =
    (codes "without", integer_datum v) ∷ (codes "before", number_datum n) ∷ []
cut_pairs (Keep vs ns) = (codes "keep", values_datum vs) ∷ numbers_pairs ns.keys
cut_pairs (Cell vs other ns) =
    (codes "cell", values_datum vs) ∷ (codes "other", integer_datum other)
    ∷ numbers_pairs ns.keys
cut_pairs (Entry key vs other ns) =
    (codes "cell", values_datum vs) ∷ (codes "key", integer_datum key)
    ∷ (codes "other", integer_datum other) ∷ numbers_pairs ns.keys

-- a cut, such as `{:until 120}` or `{:keep [1 2], :numbers [4 7]}`
abbrev pub cut_datum : Cut → Datum
cut_datum c = map_datum (cut_pairs c)

-- a vector of these cuts
abbrev pub cuts_datum : List Cut → Datum
cuts_datum cs = vector (items_of (map cut_datum cs))

-- ---- basis

-- the pair :from
abbrev pub from_pairs : ℕ → Pairs
from_pairs n = (codes "from", number_datum n) ∷ []

-- the pairs of a count, such as of `{:key 5, :value 7, :from 0}`
abbrev pub count_pairs : Counted → ℕ → Pairs
count_pairs (counted.Value v) n = (codes "value", integer_datum v) ∷ from_pairs n
count_pairs (counted.Entry k v) n =
    (codes "key", integer_datum k) ∷ (codes "value", integer_datum v) ∷ from_pairs n
count_pairs (counted.NoEntry k) n = (codes "key", integer_datum k) ∷ from_pairs n
count_pairs counted.Held n = (codes "held", atom (boolean true)) ∷ from_pairs n
count_pairs counted.Free n = (codes "free", atom (boolean true)) ∷ from_pairs n

-- the pair :from, if it is not 0
abbrev pub start_pairs : ℕ → Pairs
start_pairs n = if n == 0 then [] else from_pairs n

-- the pairs of a count of what was ahead, such as of `{:ahead 1708}` or `{:ahead 40, :from 17}`
abbrev pub ahead_pairs : ℕ → ℕ → Pairs
ahead_pairs number n = (codes "ahead", number_datum number) ∷ start_pairs n

-- the keyword that says which operation is tried first
abbrev pub first_word : TryFirst → List ℕ
first_word LeastNumber = codes "number"
first_word LeastReturn = codes "return"

-- the pair :steps, if there is a number of steps
abbrev pub steps_pairs : Option ℕ → Pairs
steps_pairs None = []
steps_pairs (Some n) = (codes "steps", number_datum n) ∷ []

-- a search, such as `{:first :return, :steps 20000}`
abbrev pub search_datum : TryFirst → Option ℕ → Datum
search_datum first steps =
    map_datum ((codes "first", keyword_datum (first_word first)) ∷ steps_pairs steps)

-- the pair :search; nothing if the search has the default order and no number of steps
abbrev pub search_pairs : TryFirst → Option ℕ → Pairs
search_pairs LeastNumber None = []
search_pairs first steps = (codes "search", search_datum first steps) ∷ []

-- the pair :count, or the pair :search
abbrev pub basis_pairs : Basis → Pairs
basis_pairs (Search trial) = search_pairs trial.first trial.steps
basis_pairs (Counting c) = (codes "count", map_datum (count_pairs c.counted c.from)) ∷ []
basis_pairs (Ahead number from) = (codes "count", map_datum (ahead_pairs number from)) ∷ []

-- ---- reasons

-- the form of a reason, such as `{:object 0, :cuts [{:until 120}]}`
abbrev pub datum_of : Reason → Datum
datum_of r = map_datum
    ((codes "object", number_datum r.object)
    ∷ (codes "cuts", cuts_datum r.cuts.items)
    ∷ basis_pairs r.basis)

-- the line of a reason
abbrev pub reason_line : Reason → List ℕ
reason_line r = text_of (datum_of r) ++ codes "\n"

-- the lines of the reasons, in order
abbrev pub reason_lines : List Reason → List ℕ
reason_lines rs = form_lines (map datum_of rs)

-- the object of each reason has a number that a text can have
abbrev pub AreReasonsInRange : List Reason → Type 0
AreReasonsInRange rs = All (λ r. r.object ≤ max_object) rs

-- the text spells some forms, and these denote the reasons
pub record SpellsReasons (rs : List Reason) (bytes : List ℕ) : Type 0 where
  pub forms : List Datum
  pub spelled : Spells forms bytes
  pub denoted : Denotes forms rs
