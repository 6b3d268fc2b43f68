-- Keys in rising order, put in one by one, are the same keys: each comes after all that are there (`put_last`), so
-- the list only grows at its end (`put_next`). By induction along the keys.
use Rattle.std.proofs.Common.{◌≡◌, List, [], ◌∷◌, ◌++◌, refl, ap, ◌∙◌}
use Rattle.std.specs.Ordering.{match_ordering, ordering_reverse}
use Rattle.std.specs.declared.cmp.Ordering.{Ordering}
use Rattle.std.specs.declared.cmp.Ordering.TheVariants.{Less, Greater}
use Rattle.std.specs.Cmp.{IsTotalOrder}
use Rattle.std.specs.List.{AllByRecursion}
use Rattle.std.specs.List.Sorted.{IsStrictlySortedBy}
use Rattle.std.specs.BTreeSet.{insert_key}
use Rattle.std.proofs.lemmas.Map.Keys.{sorted_head, sorted_tail}

-- a key that all others are below comes last
put_last : {K : Type 0} (R : K → K → Ordering) → IsTotalOrder R → (xs : List K) (k : K)
    → AllByRecursion (λ x. R x k ≡ Less) xs
    → insert_key R xs k ≡ xs ++ k ∷ []
put_last R o [] k h = refl
put_last R o (x ∷ xs) k h =
    let greater : R k x ≡ Greater = o.antisymm k x ∙ ap ordering_reverse h.0 in
    ap (λ (r : Ordering). match_ordering r (k ∷ x ∷ xs) (x ∷ xs) (x ∷ insert_key R xs k)) greater
    ∙ ap (λ ys. x ∷ ys) (put_last R o xs k h.1)

in_middle : {K : Type 0} (P : K → Type 0) (xs : List K) (k : K) (ks : List K)
    → AllByRecursion P (xs ++ k ∷ ks) → P k
in_middle P [] k ks h = h.0
in_middle P (x ∷ xs) k ks h = in_middle P xs k ks h.1

all_below : {K : Type 0} (R : K → K → Ordering) (xs : List K) (k : K) (ks : List K)
    → IsStrictlySortedBy R (xs ++ k ∷ ks)
    → AllByRecursion (λ x. R x k ≡ Less) xs
all_below R [] k ks h = tt
all_below R (x ∷ xs) k ks h = (
  in_middle (λ y. R x y ≡ Less) xs k ks (sorted_head R x (xs ++ k ∷ ks) h),
  all_below R xs k ks
      (sorted_tail R x (xs ++ k ∷ ks) h),
)

pub put_next : {K : Type 0} (R : K → K → Ordering) → IsTotalOrder R
    → (xs : List K) (k : K) (ks : List K)
    → IsStrictlySortedBy R (xs ++ k ∷ ks) → insert_key R xs k ≡ xs ++ k ∷ []
put_next R o xs k ks h = put_last R o xs k (all_below R xs k ks h)
