-- A search by halves finds the event with a number among events whose numbers rise (`found_here`), or there is none
-- (`none_here`): the comparison with the number rises along the events.
use Rattle.std.proofs.Common.{◌≡◌, ℕ, ◌<◌, ◌≤◌, ◌⊎◌, inl, inr, Bool, true, false, List, [], ◌∷◌, length, Some, None}
use Rattle.std.proofs.Common.{AllPairs, get_or, refl, ap, sym, ◌∙◌, cond, zero, suc, subst, arith}
use Rattle.std.specs.Prelude.{find, nat_eq}
use Rattle.std.specs.List.Sorted.{IsNonDecreasingBy, IsPartitionPoint}
use Rattle.std.specs.Ordering.{nat_cmp, ordering_index, MatchOrdering}
use Rattle.std.specs.Cmp.{ranked}
use Rattle.std.specs.declared.cmp.Ordering.{Ordering}
use Rattle.std.specs.declared.cmp.Ordering.TheVariants.{Less, Equal, Greater}
use Rattle.std.proofs.lemmas.Bool.{cases_order, eq-eqb, ne_eqb}
use Rattle.events.specs.declared.event.Event.{Event}
use Rattle.reason_report.specs.Operations.{event_at}

-- ---- the first element that passes a test

-- the first element that passes a test is found
find_here : {X : Type 0} (p : X → Bool) → (xs : List X) (k : ℕ) (d : X) → k < length xs → p (get_or xs k d) ≡ true
    → ((j : ℕ) → j < k → p (get_or xs j d) ≡ false)
    → find p xs ≡ Some (get_or xs k d)
find_here p [] k d l here before = absurd (omega (arith, l))
find_here p (x ∷ xs) zero d l here before = ap (λ b. cond b (Some x) (find p xs)) here
find_here p (x ∷ xs) (suc k) d l here before =
    ap (λ b. cond b (Some x) (find p xs)) (before 0 (omega arith))
    ∙ find_here p xs k d (omega (arith, l)) here (λ j m. before (suc j) (omega (arith, m)))

find_none : {X : Type 0} (p : X → Bool) → (xs : List X) → ((k : ℕ) (d : X) → k < length xs → p (get_or xs k d) ≡ false)
    → find p xs ≡ None
find_none p [] h = refl
find_none p (x ∷ xs) h = ap (λ b. cond b (Some x) (find p xs)) (h 0 x (omega arith))
    ∙ find_none p xs (λ k d l. h (suc k) d (omega (arith, l)))

-- ---- by numbers

-- the greater of two numbers compares no less with a third
index_rises : (a b n : ℕ) → a ≤ b → ordering_index (nat_cmp a n) ≤ ordering_index (nat_cmp b n)
index_rises a b n l = grind arith

-- so events whose numbers rise can be searched
pub search_rises : (es : List Event) (n : ℕ) → AllPairs (λ a b. a.number < b.number) es
    → IsNonDecreasingBy (λ e. ordering_index (nat_cmp e.number n)) es
search_rises es n up i j d l m = elim (cases_order i j) [
  | inl s ↦ subst
      (λ k. ordering_index (nat_cmp (get_or es i d).number n) ≤ ordering_index (nat_cmp (get_or es k d).number n)) s
      (omega arith)
  | inr r ↦ elim r [
    | inl t ↦ let g = up i j d t m in index_rises (get_or es i d).number (get_or es j d).number n (omega (arith, g))
    | inr t ↦ absurd (omega arith)
  ]
]

-- what the search found is the event
pub found_here : (es : List Event) (n k : ℕ) (d : Event) → AllPairs (λ a b. a.number < b.number) es → k < length es
    → nat_cmp (get_or es k d).number n ≡ Equal
    → Some (get_or es k d) ≡ event_at es n
found_here es n k d up l eq =
    let here : (get_or es k d).number ≡ n = ranked (get_or es k d).number n Equal (sym eq) in
    sym (find_here (λ (e : Event). nat_eq e.number n) es k d l (eq-eqb (get_or es k d).number n here)
    (λ j m. let g = up j k d m l in ne_eqb (get_or es j d).number n (λ s. absurd (omega (arith, g, here, s)))))

-- a search that found nothing says that no event has the number
pub none_here : (es : List Event) (n i : ℕ)
    → IsPartitionPoint (λ e. nat_cmp e.number n ≡ Less) (λ e. nat_cmp e.number n ≡ Greater) es i → None ≡ event_at es n
none_here es n i h = sym
    (find_none (λ (e : Event). nat_eq e.number n) es
    (λ k d l. ne_eqb (get_or es k d).number n
    (λ s. apart k d l s (ranked (get_or es k d).number n) (cases_order k i))))
  where
    apart : (k : ℕ) (d : Event) → k < length es → (get_or es k d).number ≡ n
        → ((r : Ordering) → r ≡ nat_cmp (get_or es k d).number n
        → MatchOrdering r ((get_or es k d).number < n) ((get_or es k d).number ≡ n) (n < (get_or es k d).number))
        → (k ≡ i) ⊎ ((k < i) ⊎ (i < k)) → ⊥
    apart k d l s rank (inl t) = let g = rank Greater (sym (h.1 k d (omega arith) l)) in omega (arith, g, s)
    apart k d l s rank (inr (inl t)) = let g = rank Less (sym (h.0 k d (omega arith) t)) in omega (arith, g, s)
    apart k d l s rank (inr (inr t)) = let g = rank Greater (sym (h.1 k d (omega arith) l)) in omega (arith, g, s)
