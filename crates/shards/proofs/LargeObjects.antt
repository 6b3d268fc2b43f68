-- One more map is counted on an object, which is put on the list of the large ones when its number passes the limit; so
-- no object is on it twice. In the end the list is sorted.
use Rattle.std.proofs.Common.{◌≡◌, ◌≢◌, ℕ, ◌+◌, ◌<◌, inl, inr, false, List, [], ◌∷◌, ◌++◌, Some, None, map}
use Rattle.std.proofs.Common.{nat_eq, unwrap_or, ap, sym, ◌∙◌, arith}
use Rattle.std.proofs.lemmas.Cmp.{nat_eq_equiv}
use Rattle.std.specs.List.{IsDistinct}
use Rattle.std.specs.List.Sorted.{IsNonDecreasing, IsPermutation}
use Rattle.std.proofs.lemmas.Bool.{cases_eq, ne_eqb}
use Rattle.std.proofs.lemmas.List.Elements.{All-map, Contains-append_left, Contains-push, Contains-push_cases}
use Rattle.std.proofs.lemmas.List.Folds.{list_any_none}
use Rattle.std.proofs.lemmas.List.Kept.{AllPairs-from_increasing}
use Rattle.std.proofs.lemmas.List.Sorted.{Contains-permutation, IsPermutation-sym}
use Rattle.std.proofs.lemmas.Map.Keys.{IsDistinct-IsPermutation, IsDistinct-push, IsStrictlyIncreasing-from_distinct}
use Rattle.model.specs.Lists.{In}
use Rattle.model.proofs.Lists.{in_from_contains, contains_from_in}
use Rattle.model.proofs.Lists.{in_map_from, all_from_in, all_from_pairs, pairs_from_all, pairs_map}
use Rattle.number_map.specs.Lookup.{value_of}
use Rattle.number_map.specs.declared.NumberMap.{NumberMap}
use Rattle.history.specs.Faults.{max_maps}
use Rattle.shards.specs.declared.division.LargeObject.{LargeObject}
use Rattle.shards.specs.declared.tally.Tally.{Tally}
use Rattle.shards.specs.LargeObjects.{AreLarge}
use Rattle.shards.specs.Tallies.{CountsOne, IsTally}

abbrev pub count_of : NumberMap ℕ → ℕ → ℕ
count_of counts x = unwrap_or (value_of counts x) 0

-- ---- no maps

pub none_counted : (t : Tally) → ((x : ℕ) → value_of t.counts x ≡ None) → t.large.items ≡ [] → IsTally t (λ x. 0)
unfolding IsDistinct
none_counted t none empty = record {
  counted = λ x. ap (λ o. unwrap_or o 0) (none x);
  once = rw empty tt;
  large = λ x. (λ c. absurd (in_from_contains [] x (rw empty at c)), λ l. absurd (omega (arith, l)));
}

-- ---- one more map

-- the number of one object is one more
pub record IsOneMore (old new : NumberMap ℕ) (x : ℕ) : Type 0 where
  pub own : value_of new x ≡ Some (count_of old x + 1)
  pub others : (k : ℕ) → k ≢ x → value_of new k ≡ value_of old k

counted_more : (old new : NumberMap ℕ) (x : ℕ) (counts more : ℕ → ℕ) → IsOneMore old new x
    → ((y : ℕ) → count_of old y ≡ counts y) → more x ≡ counts x + 1 → ((y : ℕ) → y ≢ x → more y ≡ counts y)
    → (y : ℕ) → count_of new y ≡ more y
counted_more old new x counts more one h own others y = elim (cases_eq y x) [
  | inl q ↦ rw (q, one.own, h x, own)
  | inr ne ↦ rw (one.others y ne, h y, others y ne)
]

pub counts_pushed : (old new : Tally) (x : ℕ) → IsOneMore old.counts new.counts x
    → new.large.items ≡ old.large.items ++ x ∷ [] → count_of old.counts x ≡ max_maps → CountsOne x old new
counts_pushed old new x one pushed at counts more h own others = record {
  counted = counted_more old.counts new.counts x counts more one h.counted own others;
  once = rw pushed (IsDistinct-push nat_eq_equiv old.large.items x h.once (list_any_none (nat_eq x) old.large.items
      (all_from_in (λ y. nat_eq x y ≡ false) old.large.items (λ y i. ne_eqb x y (λ q. none (rw q i))))));
  large = λ y. rw pushed (
    λ c. elim (Contains-push_cases old.large.items x y c) [
      | inl i ↦
          let l = (h.large y).0 i in
          elim (cases_eq y x) [
            | inl q ↦ absurd (none (rw q at (in_from_contains old.large.items y i)))
            | inr ne ↦ let same_count = others y ne in omega (arith, l, same_count)
          ]
      | inr q ↦ let here : more y ≡ counts x + 1 = rw (← q) own in omega (arith, here, there)
    ],
    λ l. elim (cases_eq y x) [
      | inl q ↦ rw q (Contains-push old.large.items x)
      | inr ne ↦
          let same_count = others y ne in
          Contains-append_left old.large.items (x ∷ []) y ((h.large y).1 (omega (arith, l, same_count)))
    ],
  );
}
  where
    there : counts x ≡ max_maps
    there = sym (h.counted x) ∙ at

    none : In x old.large.items → ⊥
    none i = let l = (h.large x).0 (contains_from_in old.large.items x i) in omega (arith, l, there)

-- A tally of some numbers is also a tally of numbers that are equal to them.
pub tally_same : (t : Tally) (counts more : ℕ → ℕ) → IsTally t counts → ((y : ℕ) → more y ≡ counts y)
    → IsTally t more
tally_same t counts more h same = record {
  counted = λ y. rw (same y) (h.counted y);
  once = h.once;
  large = λ y. rw (same y) (h.large y);
}

-- ---- the list

-- an object that has too many maps, with how many it has
abbrev pub large_with : NumberMap ℕ → ℕ → LargeObject
large_with counts x = record { object = x; maps = count_of counts x }

pub are_large : (t : Tally) (xs : List ℕ) (large : List LargeObject) → IsPermutation t.large.items xs
    → IsNonDecreasing xs → large ≡ map (large_with t.counts) xs → (counts : ℕ → ℕ) → IsTally t counts
    → AreLarge counts large
are_large t xs large moved sorted is counts h =
    let entry = large_with t.counts in
    rw is (record {
      rising = all_from_pairs (λ (a b : LargeObject). a.object < b.object) (map entry xs)
          (pairs_map (λ (a b : LargeObject). a.object < b.object) entry xs
          (pairs_from_all (λ a b. a < b) xs (AllPairs-from_increasing xs (IsStrictlyIncreasing-from_distinct xs sorted
          (IsDistinct-IsPermutation nat_eq nat_eq_equiv.symm t.large.items xs moved h.once)))));
      counted = All-map (λ (o : LargeObject). o.maps ≡ counts o.object) entry xs
          (all_from_in (λ x. count_of t.counts x ≡ counts x) xs (λ x i. h.counted x));
      more = All-map (λ (o : LargeObject). max_maps < o.maps) entry xs
          (all_from_in (λ x. max_maps < count_of t.counts x) xs (λ x i. rw (h.counted x) ((h.large x).0
          (Contains-permutation xs t.large.items x (IsPermutation-sym t.large.items xs moved)
          (contains_from_in xs x i)))));
      each = λ x l.
          let there = in_from_contains xs x (Contains-permutation t.large.items xs x moved ((h.large x).1 l)) in
          contains_from_in (map (λ (o : LargeObject). o.object) (map entry xs)) x
          (in_map_from (λ (o : LargeObject). o.object) (entry x) (map entry xs) (in_map_from entry x xs there));
    })
