-- The reasons that the forms of a text denote.
use Rattle.std.specs.Prelude.{◌≡◌, ℕ, ℤ, Bool, true, false, nat_le, List, [], ◌∷◌, ◌++◌, map, codes}
use Rattle.std.specs.Prelude.{Option, Some, None, option_map, option_and_then, is_some}
use Rattle.std.specs.Prelude.{if◌then◌else◌}
use Rattle.std.specs.Ordering.{nat_cmp, int_cmp}
use Rattle.std.specs.BTreeSet.{insert_key}
use Rattle.edn_reader.specs.Truncation.{integer_in}
use Rattle.edn_reader.specs.Datum.{Datum, atom, keyword, vector, dictionary, Items, no_items, item}
use Rattle.edn_reader.specs.Datum.{Entries}
use Rattle.edn.specs.Fields.{same_bytes, value_at, natural_in, object_in}
use Rattle.cuts.specs.declared.keeping.Values.{Values}
use Rattle.cuts.specs.declared.keeping.Values.TheVariants.{All, Only}
use Rattle.cuts.specs.declared.cutting.Cut.{Cut}
use Rattle.cuts.specs.declared.cutting.Cut.TheVariants.{From, Until, Without, Keep, Cell, Entry}
use Rattle.cuts.specs.declared.counting.Counted.{Counted}
use Rattle.cuts.specs.declared.counting.Counted.TheVariants as counted
use Rattle.order_search.specs.declared.trials.TryFirst.{TryFirst}
use Rattle.order_search.specs.declared.trials.TryFirst.TheVariants.{LeastNumber, LeastReturn}
use Rattle.refutation.specs.declared.reason.Basis.{Basis}
use Rattle.refutation.specs.declared.reason.Basis.TheVariants.{Search, Counting, Ahead}
use Rattle.refutation.specs.declared.reason.Reason.{Reason}

-- ---- what a reason says, apart from how sets are in memory

-- which values are kept: all, or these, in rising order
pub data KeptValues : Type 0 where
  every : KeptValues
  only : List ℤ → KeptValues

-- a cut, apart from how its sets are in memory: a set is its elements in rising order
pub data CutSeen : Type 0 where
  from : ℕ → CutSeen
  until : ℕ → CutSeen
  without : ℤ → ℕ → CutSeen
  keep : KeptValues → List ℕ → CutSeen
  cell : KeptValues → ℤ → List ℕ → CutSeen
  entry_cell : ℤ → KeptValues → ℤ → List ℕ → CutSeen

-- a reason, apart from how the sets of its cuts are in memory
pub record ReasonSeen : Type 0 where
  pub object : ℕ
  pub cuts : List CutSeen
  pub basis : Basis

-- the values that a cut keeps, apart from how their set is in memory
abbrev pub seen_values : Values → KeptValues
seen_values All = every
seen_values (Only s) = only s.keys

-- the cut, apart from how its sets are in memory
abbrev pub seen_cut : Cut → CutSeen
seen_cut (From n) = from n
seen_cut (Until n) = until n
seen_cut (Without v n) = without v n
seen_cut (Keep values numbers) = keep (seen_values values) numbers.keys
seen_cut (Cell values other numbers) = cell (seen_values values) other numbers.keys
seen_cut (Entry key values other numbers) =
    entry_cell key (seen_values values) other numbers.keys

-- the reason, apart from how the sets of its cuts are in memory
abbrev pub reason_seen : Reason → ReasonSeen
reason_seen r = record { object = r.object; cuts = map seen_cut r.cuts.items; basis = r.basis }

-- ---- numbers and sets

-- the greatest number of a map of a history that a reason can have
abbrev pub max_number : ℕ
max_number = 4294967295

-- the number, if it is at most 4,294,967,295
abbrev pub number_within : Option ℕ → Option ℕ
number_within None = None
number_within (Some n) = if nat_le n max_number then Some n else None

-- the number of a map that a value is; `None` if the value is absent, or is no number from 0 to
-- 4,294,967,295
abbrev pub number_in : Option Datum → Option ℕ
number_in value = number_within (natural_in value)

-- these integers in rising order, and those of the vector put in among them, if all are integers
abbrev pub integers_with : List ℤ → Items → Option (List ℤ)
integers_with keys no_items = Some keys
integers_with keys (item d ds) =
    option_and_then (λ z. integers_with (insert_key int_cmp keys z) ds) (integer_in d)

-- these numbers of maps in rising order, and those of the vector put in among them, if all are
-- numbers of maps
abbrev pub numbers_with : List ℕ → Items → Option (List ℕ)
numbers_with keys no_items = Some keys
numbers_with keys (item d ds) =
    option_and_then (λ n. numbers_with (insert_key nat_cmp keys n) ds) (number_in (Some d))

-- :all, or a vector of integers
abbrev pub values_in : Option Datum → Option KeptValues
values_in (Some (atom (keyword k))) = if same_bytes k (codes "all") then Some every else None
values_in (Some (vector ds)) = option_map only (integers_with [] ds)
values_in other = None

-- the numbers of maps in a vector, in rising order; none if the value is absent
abbrev pub numbers_in : Option Datum → Option (List ℕ)
numbers_in None = Some []
numbers_in (Some (vector ds)) = numbers_with [] ds
numbers_in (Some other) = None

-- an integer, or none if the value is absent; another value is neither
abbrev pub integer_or_absent : Option Datum → Option (Option ℤ)
integer_or_absent None = Some None
integer_or_absent (Some d) = option_map (λ z. Some z) (integer_in d)

-- ---- cuts

-- the cut :cell of a register, or with a key that of one key of a map; `None` if something that it
-- needs is absent or malformed
abbrev pub cell_with : Option KeptValues → Option (Option ℤ) → Option ℤ → Option (List ℕ)
    → Option CutSeen
cell_with (Some vs) (Some None) (Some w) (Some ns) = Some (cell vs w ns)
cell_with (Some vs) (Some (Some k)) (Some w) (Some ns) = Some (entry_cell k vs w ns)
cell_with vs k w ns = None

-- the cut :without of this value before this number; `None` if either is absent or malformed
abbrev pub without_with : Option ℤ → Option ℕ → Option CutSeen
without_with (Some v) (Some n) = Some (without v n)
without_with v n = None

-- the cut :keep of these values and numbers; `None` if either is absent or malformed
abbrev pub keep_with : Option KeptValues → Option (List ℕ) → Option CutSeen
keep_with (Some vs) (Some ns) = Some (keep vs ns)
keep_with vs ns = None

-- what a map says with the value under a key (`here`), or without one (`there`)
abbrev pub or_else : Option Datum → Option CutSeen → Option CutSeen → Option CutSeen
or_else None here there = there
or_else (Some d) here there = here

-- the integer that a map has under this key; `None` if there is none
abbrev pub int_at : List ℕ → Entries → Option ℤ
int_at key es = option_and_then integer_in (value_at key es)

-- the integer that a map has under this key; `Some None` if the key is absent, and `None` if its
-- value is no integer
abbrev pub optional_int_at : List ℕ → Entries → Option (Option ℤ)
optional_int_at key es = integer_or_absent (value_at key es)

-- the cut of a map with the key :without, which has a value, and the key :before, which has a
-- number
abbrev pub without_of : Entries → Option CutSeen
without_of es =
    without_with (int_at (codes "without") es) (number_in (value_at (codes "before") es))

-- the cut of a map with the key :keep, which has the values, and maybe the key :numbers
abbrev pub keep_of : Entries → Option CutSeen
keep_of es =
    keep_with (values_in (value_at (codes "keep") es))
    (numbers_in (value_at (codes "numbers") es))

-- the cut of a map with the keys :cell and :other, and maybe the keys :key and :numbers
abbrev pub cell_of : Entries → Option CutSeen
cell_of es =
    cell_with (values_in (value_at (codes "cell") es)) (optional_int_at (codes "key") es)
    (int_at (codes "other") es) (numbers_in (value_at (codes "numbers") es))

-- The cut that a map names by the first of the keys :until, :from, :without, :keep and :cell that
-- it has.
abbrev pub cut_of : Entries → Option CutSeen
cut_of es =
    or_else (value_at (codes "until") es)
    (option_map until (number_in (value_at (codes "until") es)))
    (or_else (value_at (codes "from") es)
    (option_map from (number_in (value_at (codes "from") es)))
    (or_else (value_at (codes "without") es) (without_of es)
    (or_else (value_at (codes "keep") es) (keep_of es) (cell_of es))))

-- the cut that a form is, if it is one: a map that names a cut
abbrev pub cut_in : Datum → Option CutSeen
cut_in (dictionary es) = cut_of es
cut_in other = None

-- these cuts, and those of the vector after them, if all are cuts
abbrev pub cuts_with : List CutSeen → Items → Option (List CutSeen)
cuts_with cuts no_items = Some cuts
cuts_with cuts (item d ds) = option_and_then (λ c. cuts_with (cuts ++ c ∷ []) ds) (cut_in d)

-- the cuts in a vector, in order; none if the value is absent
abbrev pub cuts_in : Option Datum → Option (List CutSeen)
cuts_in None = Some []
cuts_in (Some (vector ds)) = cuts_with [] ds
cuts_in (Some other) = None

-- ---- basis

-- What is counted: a value, alone or under a key; no value under a key; a mutex that is held, or
-- free.
abbrev pub counted_with : Option (Option ℤ) → Option (Option ℤ) → Bool → Bool → Option Counted
counted_with (Some None) (Some (Some v)) held free = Some (counted.Value v)
counted_with (Some (Some k)) (Some (Some v)) held free = Some (counted.Entry k v)
counted_with (Some (Some k)) (Some None) held free = Some (counted.NoEntry k)
counted_with (Some None) (Some None) true free = Some counted.Held
counted_with (Some None) (Some None) false true = Some counted.Free
counted_with k v held free = None

-- the number from which on a count counts; 0 if the value is absent
abbrev pub start_number : Option Datum → Option ℕ
start_number None = Some 0
start_number (Some d) = number_in (Some d)

-- the count of this content from this number on; `None` if either is absent or malformed
abbrev pub count_with : Option Counted → Option ℕ → Option Basis
count_with (Some c) (Some n) = Some (Counting (record { counted = c; from = n }))
count_with c n = None

-- the content that a map says is counted, by its keys :key, :value, :held and :free
abbrev pub counted_of : Entries → Option Counted
counted_of es =
    counted_with (optional_int_at (codes "key") es) (optional_int_at (codes "value") es)
    (is_some (value_at (codes "held") es)) (is_some (value_at (codes "free") es))

-- the count of what was ahead of the removal with the first number, by puts from the second number
-- on; `None` if either is malformed
abbrev pub ahead_with : Option ℕ → Option ℕ → Option Basis
ahead_with (Some number) (Some start) = Some (Ahead number start)
ahead_with number start = None

-- what was ahead of the removal with this number, if the key :ahead has a value; otherwise the
-- count of this content
abbrev pub count_from : Option Datum → Option Counted → Option ℕ → Option Basis
count_from None what start = count_with what start
count_from (Some d) what start = ahead_with (number_in (Some d)) start

-- The count that a map names. With the key :ahead no other key matters, except :from.
abbrev pub basis_of : Entries → Option Basis
basis_of es =
    count_from (value_at (codes "ahead") es) (counted_of es)
    (start_number (value_at (codes "from") es))

-- which operation is tried first: :number, the default, or :return
abbrev pub first_in : Option Datum → Option TryFirst
first_in None = Some LeastNumber
first_in (Some (atom (keyword k))) =
    if same_bytes k (codes "number") then Some LeastNumber
    else if same_bytes k (codes "return") then Some LeastReturn else None
first_in (Some other) = None

-- a number of steps, or none if the value is absent; another value is neither
abbrev pub steps_in : Option Datum → Option (Option ℕ)
steps_in None = Some None
steps_in (Some d) = option_map (λ n. Some n) (number_in (Some d))

-- the search of a part, with this operation tried first and at most this many steps; `None` if
-- either is malformed
abbrev pub search_with : Option TryFirst → Option (Option ℕ) → Option Basis
search_with (Some first) (Some steps) = Some (Search (record { first = first; steps = steps }))
search_with first steps = None

-- how a part is searched, by the value under :search; with none, the operation with the least
-- number is tried first
abbrev pub search_in : Option Datum → Option Basis
search_in None = search_with (Some LeastNumber) (Some None)
search_in (Some (dictionary es)) =
    search_with (first_in (value_at (codes "first") es)) (steps_in (value_at (codes "steps") es))
search_in (Some other) = None

-- what shows that a part has no valid order, by the values under :count and :search: a count, or
-- without one a search
abbrev pub basis_in : Option Datum → Option Datum → Option Basis
basis_in None search = search_in search
basis_in (Some (dictionary es)) search = basis_of es
basis_in (Some other) search = None

-- ---- reasons

-- the reason with this object, these cuts and this basis; `None` if one of them is absent or
-- malformed
abbrev pub reason_with : Option ℕ → Option (List CutSeen) → Option Basis → Option ReasonSeen
reason_with (Some x) (Some cs) (Some e) = Some (record { object = x; cuts = cs; basis = e })
reason_with x cs e = None

-- The reason that a form is, if it is one: a map whose :object is a number from 0 to 65,535, whose
-- :cuts is a vector of cuts, and whose :count, if it has one, is a count. Without a count its
-- :search may say how the part is searched. Other keys are ignored.
abbrev pub reason_in : Datum → Option ReasonSeen
reason_in (dictionary es) =
    reason_with (object_in (natural_in (value_at (codes "object") es)))
    (cuts_in (value_at (codes "cuts") es))
    (basis_in (value_at (codes "count") es) (value_at (codes "search") es))
reason_in other = None

-- The forms are these reasons, one by one and in order.
abbrev pub Denotes : List Datum → List Reason → Type 0
Denotes ds rs = map reason_in ds ≡ map (λ r. Some (reason_seen r)) rs
