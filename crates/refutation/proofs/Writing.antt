-- The lines that are made for reasons spell forms that denote them: each form is well-formed, so its text spells it,
-- and what it denotes is the reason. Each by cases of what a reason is made of.
use Rattle.std.proofs.Common.{◌≡◌, ℕ, ◌≤◌, ◌==◌, Bool, true, false, suc, List, [], ◌∷◌, ◌++◌, map, Option, Some, None}
use Rattle.std.proofs.Common.{◌+◌, ◌<◌, length, take, lit<, refl, ap, sym, ◌∙◌, append_assoc, arith, get_or}
use Rattle.std.specs.Prelude.{ℤ, codes, if◌then◌else◌}
use Rattle.std.specs.List.{AllByRecursion}
use Rattle.std.specs.List.Sorted.{IsStrictlySortedBy}
use Rattle.std.specs.Ordering.{nat_cmp, int_cmp}
use Rattle.std.proofs.lemmas.Grind.{common_steps}
use Rattle.std.proofs.lemmas.List.{append-nil, take_more}
use Rattle.std.proofs.lemmas.Bool.{le-leb}
use Rattle.std.proofs.lemmas.Bool.Decides.{nat_tests}
use Rattle.std.proofs.lemmas.Cmp.{nat_cmp_total, int_cmp_total}
use Rattle.edn_reader.specs.Datum.{Datum, entries_of, items_of, DatumFits, ItemsFit, EntriesFit, Lacks, max_open}
use Rattle.edn_reader.specs.Text.{text_of}
use Rattle.edn_reader.specs.Laws.{EachSpelled}
use Rattle.edn_reader.proofs.Joined.{lines_spell_them}
use Rattle.edn.specs.Fields.{max_object, same_bytes, value_at}
use Rattle.cuts.specs.declared.keeping.Values.{Values}
use Rattle.cuts.specs.declared.keeping.Values.TheVariants.{All, Only}
use Rattle.cuts.specs.declared.cutting.Cut.{Cut}
use Rattle.cuts.specs.declared.cutting.Cut.TheVariants.{From, Until, Without, Keep, Cell, Entry}
use Rattle.cuts.specs.declared.counting.Counted.{Counted}
use Rattle.cuts.specs.declared.counting.Counted.TheVariants as counted
use Rattle.order_search.specs.declared.trials.TryFirst.{TryFirst}
use Rattle.order_search.specs.declared.trials.TryFirst.TheVariants.{LeastNumber, LeastReturn}
use Rattle.refutation.specs.declared.reason.Basis.{Basis}
use Rattle.refutation.specs.declared.reason.Basis.TheVariants.{Search, Counting, Ahead}
use Rattle.refutation.specs.declared.reason.Reason.{Reason}
use Rattle.refutation.specs.Denotes as spec
use Rattle.refutation.specs.Denotes.{max_number, integers_with, numbers_with, values_in, numbers_in, cut_in, cuts_with}
use Rattle.refutation.specs.Denotes.{basis_in, reason_in, CutSeen, seen_values, seen_cut, reason_seen}
use Rattle.refutation.specs.Lines.{Pairs, integer_datum, number_datum, values_datum, numbers_pairs, cut_datum}
use Rattle.refutation.specs.Lines.{from_pairs, count_pairs, search_pairs, basis_pairs, datum_of, reason_line}
use Rattle.refutation.specs.Lines.{reason_lines, AreReasonsInRange, SpellsReasons}
use Rattle.refutation.specs.Written.{AreNumberKeys, AreTypedValues, IsTypedCut, AreTypedSteps}
use Rattle.refutation.specs.Written.{IsTypedBasis, IsTypedReason, IsWritten}
use Rattle.refutation.proofs.Rising.{put_next}

-- ---- they are well-formed

abbrev PairsFit : ℕ → Pairs → Type 0
PairsFit n ps = EntriesFit n (entries_of ps)

integers_fit : (n : ℕ) (zs : List ℤ) → ItemsFit n (items_of (map integer_datum zs))
integers_fit n [] = tt
integers_fit n (z ∷ zs) = (tt, integers_fit n zs)

numbers_fit : (n : ℕ) (ns : List ℕ) → ItemsFit n (items_of (map number_datum ns))
numbers_fit n [] = tt
numbers_fit n (m ∷ ns) = (tt, numbers_fit n ns)

values_fit : (vs : Values) → DatumFits 13 (values_datum vs)
values_fit All = tt
values_fit (Only s) = (lit< tt, integers_fit 12 s.keys)

lacks_numbers : (k : List ℕ) (ns : List ℕ) → (k ≡ codes "numbers" → ⊥)
    → Lacks k (entries_of (numbers_pairs ns))
lacks_numbers k [] other = tt
lacks_numbers k (n ∷ ns) other = (other, tt)

numbers_pairs_fit : (ns : List ℕ) → PairsFit 13 (numbers_pairs ns)
numbers_pairs_fit [] = tt
numbers_pairs_fit (n ∷ ns) = (tt, (lit< tt, numbers_fit 12 (n ∷ ns)), tt)

cut_fits : (c : Cut) → DatumFits 14 (cut_datum c)
cut_fits (From n) = (lit< tt, (tt, tt, tt))
cut_fits (Until n) = (lit< tt, (tt, tt, tt))
cut_fits (Without v n) = (lit< tt, ((λ h. cc, tt), tt, (tt, tt, tt)))
cut_fits (Keep vs ns) =
    (lit< tt, (lacks_numbers (codes "keep") ns.keys (λ h. cc), values_fit vs, numbers_pairs_fit ns.keys))
cut_fits (Cell vs other ns) = (
  lit< tt,
  (
    (λ h. cc, lacks_numbers (codes "cell") ns.keys (λ h. cc)),
    values_fit vs,
    (lacks_numbers (codes "other") ns.keys (λ h. cc), tt, numbers_pairs_fit ns.keys),
  ),
)
cut_fits (Entry key vs other ns) = (
  lit< tt,
  (
    (λ h. cc, (λ h. cc, lacks_numbers (codes "cell") ns.keys (λ h. cc))),
    values_fit vs,
    (
      (λ h. cc, lacks_numbers (codes "key") ns.keys (λ h. cc)),
      tt,
      (lacks_numbers (codes "other") ns.keys (λ h. cc), tt, numbers_pairs_fit ns.keys),
    ),
  ),
)

cuts_fit : (cs : List Cut) → ItemsFit 14 (items_of (map cut_datum cs))
cuts_fit [] = tt
cuts_fit (c ∷ cs) = (cut_fits c, cuts_fit cs)

apart : (k l : List ℕ) → same_bytes k l ≡ false → same_bytes k k ≡ true → k ≡ l → ⊥
apart k l other own e = let t : true ≡ false = sym own ∙ (ap (same_bytes k) e ∙ other) in cc

count_fits : (c : Counted) (n : ℕ) → PairsFit 14 (count_pairs c n)
count_fits (counted.Value v) n = ((λ h. cc, tt), tt, (tt, tt, tt))
count_fits (counted.Entry k v) n = ((λ h. cc, (λ h. cc, tt)), tt, ((λ h. cc, tt), tt, (tt, tt, tt)))
count_fits (counted.NoEntry k) n = ((λ h. cc, tt), tt, (tt, tt, tt))
count_fits counted.Held n = ((apart (codes "held") (codes "from") refl refl, tt), tt, (tt, tt, tt))
count_fits counted.Free n = ((apart (codes "free") (codes "from") refl refl, tt), tt, (tt, tt, tt))

lacks_search : (k : List ℕ) (first : TryFirst) (steps : Option ℕ) → (k ≡ codes "search" → ⊥)
    → Lacks k (entries_of (search_pairs first steps))
lacks_search k LeastNumber None other = tt
lacks_search k first steps other = (other, tt)

lacks_basis : (k : List ℕ) (e : Basis) → (k ≡ codes "count" → ⊥) → (k ≡ codes "search" → ⊥)
    → Lacks k (entries_of (basis_pairs e))
lacks_basis k (Search trial) count search = lacks_search k trial.first trial.steps search
lacks_basis k e count search = (count, tt)

search_fits : (first : TryFirst) (steps : Option ℕ) → PairsFit 15 (search_pairs first steps)
search_fits LeastNumber None = tt
search_fits LeastReturn None = (tt, (lit< tt, (tt, tt, tt)), tt)
search_fits LeastNumber (Some n) =
    (tt, (lit< tt, ((apart (codes "first") (codes "steps") refl refl, tt), tt, (tt, tt, tt))), tt)
search_fits LeastReturn (Some n) =
    (tt, (lit< tt, ((apart (codes "first") (codes "steps") refl refl, tt), tt, (tt, tt, tt))), tt)

-- the pairs of a count of what was ahead, where the test of the number from which it counts is a variable
abbrev ahead_by : Bool → ℕ → ℕ → Pairs
ahead_by at_first number n =
    (codes "ahead", number_datum number) ∷ (if at_first then [] else from_pairs n)

ahead_fits : (at_first : Bool) (number n : ℕ) → PairsFit 14 (ahead_by at_first number n)
ahead_fits true number n = (tt, tt, tt)
ahead_fits false number n = ((λ h. cc, tt), tt, (tt, tt, tt))

basis_fits : (e : Basis) → PairsFit 15 (basis_pairs e)
basis_fits (Search trial) = search_fits trial.first trial.steps
basis_fits (Counting c) = (tt, (lit< tt, count_fits c.counted c.from), tt)
basis_fits (Ahead number from) = (tt, (lit< tt, ahead_fits (from == 0) number from), tt)

pub datum_fits : (r : Reason) → DatumFits max_open (datum_of r)
datum_fits r = (
  lit< tt,
  (
    (
      λ h. cc,
      lacks_basis (codes "object") r.basis (λ h. cc) (apart (codes "object") (codes "search") refl refl),
    ),
    tt,
    (
      lacks_basis (codes "cuts") r.basis (λ h. cc) (λ h. cc),
      (lit< tt, cuts_fit r.cuts.items),
      basis_fits r.basis,
    ),
  ),
)

-- ---- they denote the reasons

number_read : (n : ℕ) → n ≤ max_number → spec.number_in (Some (number_datum n)) ≡ Some n
number_read n h = rw (le-leb n max_number h)

integers_read : (xs zs : List ℤ) → IsStrictlySortedBy int_cmp (xs ++ zs)
    → integers_with xs (items_of (map integer_datum zs)) ≡ Some (xs ++ zs)
integers_read xs [] h = rw append-nil
integers_read xs (z ∷ zs) h =
    rw (put_next int_cmp int_cmp_total xs z zs h) (
    rw append_assoc at (integers_read (xs ++ z ∷ []) zs (rw append_assoc h))
    )

numbers_read : (xs ns : List ℕ) → AllByRecursion (λ n. n ≤ max_number) ns
    → IsStrictlySortedBy nat_cmp (xs ++ ns)
    → numbers_with xs (items_of (map number_datum ns)) ≡ Some (xs ++ ns)
numbers_read xs [] small h = rw append-nil
numbers_read xs (n ∷ ns) small h =
    rw (number_read n small.0, put_next nat_cmp nat_cmp_total xs n ns h) (
    rw append_assoc at (numbers_read (xs ++ n ∷ []) ns small.1 (rw append_assoc h))
    )

values_read : (vs : Values) → AreTypedValues vs → values_in (Some (values_datum vs))
    ≡ Some (seen_values vs)
values_read All t = refl
values_read (Only s) t = rw (integers_read [] s.keys t)

numbers_at : List ℕ → Option (List ℕ)
numbers_at ns = numbers_in (value_at (codes "numbers") (entries_of (numbers_pairs ns)))

numbers_at_read : (ns : List ℕ) → AreNumberKeys ns → numbers_at ns ≡ Some ns
unfolding numbers_at
numbers_at_read [] t = refl
numbers_at_read (n ∷ ns) t = numbers_read [] (n ∷ ns) t.in_range t.rising

-- a cut with its set of numbers, whether or not it is empty
keep_read : (d : Datum) (ns : List ℕ)
    → spec.cut_of (entries_of ((codes "keep", d) ∷ numbers_pairs ns))
    ≡ spec.keep_with (values_in (Some d)) (numbers_at ns)
unfolding numbers_at
keep_read d [] = refl
keep_read d (n ∷ ns) = refl

cell_read : (d : Datum) (other : ℤ) (ns : List ℕ)
    → spec.cut_of (entries_of ((codes "cell", d) ∷ (codes "other", integer_datum other) ∷ numbers_pairs ns))
    ≡ spec.cell_with (values_in (Some d)) (Some None) (Some other) (numbers_at ns)
unfolding numbers_at
cell_read d other [] = refl
cell_read d other (n ∷ ns) = refl

entry_read : (d : Datum) (key other : ℤ) (ns : List ℕ)
    → spec.cut_of (entries_of ((codes "cell", d) ∷ (codes "key", integer_datum key)
    ∷ (codes "other", integer_datum other) ∷ numbers_pairs ns))
    ≡ spec.cell_with (values_in (Some d)) (Some (Some key)) (Some other) (numbers_at ns)
unfolding numbers_at
entry_read d key other [] = refl
entry_read d key other (n ∷ ns) = refl

cut_read : (c : Cut) → IsTypedCut c → cut_in (cut_datum c) ≡ Some (seen_cut c)
cut_read (From n) t = rw (number_read n t)
cut_read (Until n) t = rw (number_read n t)
cut_read (Without v n) t = rw (number_read n t)
cut_read (Keep vs ns) t = rw (keep_read (values_datum vs) ns.keys, values_read vs t.0, numbers_at_read ns.keys t.1)
cut_read (Cell vs other ns) t =
    rw (cell_read (values_datum vs) other ns.keys, values_read vs t.0, numbers_at_read ns.keys t.1)
cut_read (Entry key vs other ns) t =
    rw (entry_read (values_datum vs) key other ns.keys, values_read vs t.0, numbers_at_read ns.keys t.1)

cuts_read : (before : List CutSeen) (cs : List Cut) → AllByRecursion IsTypedCut cs
    → cuts_with before (items_of (map cut_datum cs)) ≡ Some (before ++ map seen_cut cs)
cuts_read before [] t = rw append-nil
cuts_read before (c ∷ cs) t = rw (cut_read c t.0, cuts_read (before ++ seen_cut c ∷ []) cs t.1, append_assoc)

count_read : (c : Counted) (n : ℕ) → n ≤ max_number
    → spec.basis_of (entries_of (count_pairs c n)) ≡ Some (Counting (record { counted = c; from = n }))
count_read (counted.Value v) n h = rw (number_read n h)
count_read c n h = rw (number_read n h)

search_read : (first : TryFirst) (steps : Option ℕ) → AreTypedSteps steps
    → basis_in (value_at (codes "count") (entries_of (search_pairs first steps)))
    (value_at (codes "search") (entries_of (search_pairs first steps)))
    ≡ Some (Search (record { first = first; steps = steps }))
search_read LeastNumber None t = refl
search_read LeastReturn None t = refl
search_read LeastNumber (Some n) t = rw (number_read n t)
search_read LeastReturn (Some n) t = rw (number_read n t)

ahead_read : (at_first : Bool) (number n : ℕ) → (n == 0) ≡ at_first → number ≤ max_number
    → n ≤ max_number → spec.basis_of (entries_of (ahead_by at_first number n)) ≡ Some (Ahead number n)
ahead_read true number n is h k = rw (number_read number h, zero_is n is)
  where
    zero_is : (n : ℕ) → (n == 0) ≡ true → n ≡ 0
    zero_is n e = grind (arith, nat_tests)
ahead_read false number n is h k = rw (number_read number h, number_read n k)

basis_read : (e : Basis) → IsTypedBasis e
    → basis_in (value_at (codes "count") (entries_of (basis_pairs e)))
    (value_at (codes "search") (entries_of (basis_pairs e))) ≡ Some e
basis_read (Search trial) t = search_read trial.first trial.steps t
basis_read (Counting c) t = count_read c.counted c.from t
basis_read (Ahead number from) t = ahead_read (from == 0) number from refl t.0 t.1

datum_denotes : (r : Reason) → r.object ≤ max_object → IsTypedReason r
    → reason_in (datum_of r) ≡ Some (reason_seen r)
datum_denotes r small t =
    rw (le-leb r.object max_object small, cuts_read [] r.cuts.items t.0, basis_read r.basis t.1)

-- ---- the lines

-- the lines of some reasons and one more
lines_more : (rs : List Reason) (r : Reason) → reason_lines (rs ++ r ∷ []) ≡ reason_lines rs ++ reason_line r
lines_more [] r = refl
lines_more (q ∷ rs) r =
    ap (λ t. text_of (datum_of q) ++ 10 ∷ t) (lines_more rs r)
    ∙ sym (append_assoc (text_of (datum_of q)) (10 ∷ reason_lines rs) (reason_line r))

pub line_after : (rs : List Reason) (i : ℕ) (r : Reason) → i < length rs → r ≡ get_or rs i r
    → reason_lines (take (i + 1) rs) ≡ reason_lines (take i rs) ++ reason_line r
line_after rs i r lt is = rw (take_more rs i r lt, ← is) (lines_more (take i rs) r)

-- what holds of the first i elements and of the next holds of the first i + 1
pub all_taken : {X : Type 0} (P : X → Type 0) (xs : List X) (i : ℕ) (x : X) → i < length xs → x ≡ get_or xs i x
    → AllByRecursion P (take i xs) → P x → AllByRecursion P (take (i + 1) xs)
all_taken P xs i x lt is h p = grind (arith, common_steps)

each_spelled : (rs : List Reason) → AllByRecursion IsWritten rs → EachSpelled (map datum_of rs)
each_spelled [] w = tt
each_spelled (r ∷ rs) w = (w.0.spelled, each_spelled rs w.1)

each_denoted : (rs : List Reason) → AreReasonsInRange rs → AllByRecursion IsWritten rs
    → map reason_in (map datum_of rs) ≡ map (λ r. Some (reason_seen r)) rs
each_denoted [] small w = refl
each_denoted (r ∷ rs) small w = rw (
  datum_denotes r (small 0 r (omega arith)) w.0.typed,
  each_denoted rs (λ k d lt. small (suc k) d (omega arith)) w.1,
)

pub lines_spell : (rs : List Reason) → AllByRecursion IsWritten rs → AreReasonsInRange rs
    → SpellsReasons rs (reason_lines rs)
lines_spell rs w small = record {
  forms = map datum_of rs;
  spelled = lines_spell_them (map datum_of rs) (each_spelled rs w);
  denoted = each_denoted rs small w;
}
