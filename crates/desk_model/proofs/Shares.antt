-- Lists of several processes, each in rising order of numbers, in which no number stands twice: merged into one.
use Rattle.std.proofs.Common.{◌≡◌, ℕ, zero, suc, ◌<◌, ◌≤◌, ◌==◌, inl, inr, List, [], ◌∷◌, ◌++◌, filter, flat_map}
use Rattle.std.proofs.Common.{ap, sym, ◌∙◌, arith}
use mathlib.Core.Logic.{dite}
use native.Mathlib.Decide.{ℕ_discrete}
use Rattle.std.proofs.lemmas.Bool.{eqb-true, eq-eqb, ne_eqb}
use Rattle.model.specs.Lists.{In}
use Rattle.model.proofs.Lists.{Pairs, in_filter, in_filter_passes, in_append, pairs_filter, pairs_weaker}
use Rattle.model.proofs.Lists.{pairs_append, pairs_flat_map}
use Rattle.model.proofs.Lists.{filter_all, filter_none, filter-flat_map, flat_map_same, batches, in_left, in_right}

-- the numbers below n
abbrev upto : ℕ → List ℕ
upto zero = []
upto (suc n) = upto n ++ n ∷ []

upto_below : (n t : ℕ) → In t (upto n) → t < n
upto_below zero t i = absurd i
upto_below (suc n) t i = elim (in_append t (upto n) (n ∷ []) i) [
  | inl j ↦ let l = upto_below n t j in omega arith
  | inr j ↦ elim j [ inl e ↦ omega (arith, e) | inr k ↦ absurd k ]
]

upto_has : (n t : ℕ) → t < n → In t (upto n)
upto_has zero t l = absurd (omega arith)
upto_has (suc n) t l = dite (ℕ_discrete t n)
    (λ same. in_right t (upto n) (n ∷ []) (inl same))
    (λ other. in_left t (upto n) (n ∷ []) (upto_has n t (omega (arith, other))))

upto_rises : (n : ℕ) → Pairs (λ a b. a < b) (upto n)
upto_rises zero = tt
upto_rises (suc n) = pairs_append (λ a b. a < b) (upto n) (n ∷ []) (upto_rises n) (λ y i. absurd i, tt)
    (λ a b i j. elim j [ inl e ↦ let l = upto_below n a i in omega (arith, e) | inr k ↦ absurd k ])

-- the list of each process, and of each number the process that has it, if any
pub record Shares {X : Type 0} (number process : X → ℕ) (count : ℕ) (owner : ℕ → ℕ) (lists : ℕ → List X) : Type 0 where
  pub rising : (c : ℕ) → Pairs (λ a b. number a < number b) (lists c)
  pub below : (c : ℕ) (m : X) → In m (lists c) → number m < count
  pub owned : (c : ℕ) (m : X) → In m (lists c) → owner (number m) ≡ c
  pub own : (c : ℕ) (m : X) → In m (lists c) → process m ≡ c

abbrev of_number : {X : Type 0} → (X → ℕ) → ℕ → List X → List X
of_number number t ms = filter (λ m. number m == t) ms

-- the elements of all lists in the order of their numbers, if `owner` says of each number whose it is
abbrev pub merged : {X : Type 0} → (X → ℕ) → ℕ → (ℕ → ℕ) → (ℕ → List X) → List X
merged number count owner lists = flat_map (λ t. of_number number t (lists (owner t))) (upto count)

module _ {X : Type 0} (number process : X → ℕ) (count : ℕ) (owner : ℕ → ℕ) (lists : ℕ → List X)
    (s : Shares number process count owner lists) where
  -- the numbers of the merged elements rise
  pub merged_rises : Pairs (λ a b. number a < number b) (merged number count owner lists)
  merged_rises = pairs_flat_map (λ a b. number a < number b) (λ a b. a < b)
      (λ t. of_number number t (lists (owner t))) (upto count) (upto_rises count)
      (λ t i. pairs_filter (λ a b. number a < number b) (λ m. number m == t) (lists (owner t)) (s.rising (owner t)))
      (λ t u l a b i j.
      let e = eqb-true (number a) t (in_filter_passes (λ m. number m == t) a (lists (owner t)) i) in
      let f = eqb-true (number b) u (in_filter_passes (λ m. number m == u) b (lists (owner u)) j) in
      omega arith)

  -- of the element with one number, what the process c has
  cut : (c t : ℕ) → filter (λ m. process m == c) (of_number number t (lists (owner t))) ≡ of_number number t (lists c)
  cut c t = dite (ℕ_discrete (owner t) c)
      (λ same. filter_all (λ m. process m == c) (of_number number t (lists (owner t)))
      (λ m i. eq-eqb (process m) c (s.own (owner t) m (in_filter (λ m. number m == t) m (lists (owner t)) i) ∙ same))
      ∙ ap (λ k. of_number number t (lists k)) same)
      (λ other. filter_none (λ m. process m == c) (of_number number t (lists (owner t)))
      (λ m i. ne_eqb (process m) c
      (λ e. other (sym (s.own (owner t) m (in_filter (λ m. number m == t) m (lists (owner t)) i)) ∙ e)))
      ∙ sym (filter_none (λ m. number m == t) (lists c)
      (λ m i. ne_eqb (number m) t (λ e. other (ap owner (sym e) ∙ s.owned c m i)))))

  -- the merged elements of one process are its list
  pub merged_part : (c : ℕ) → filter (λ m. process m == c) (merged number count owner lists) ≡ lists c
  merged_part c =
      filter-flat_map (λ m. process m == c) (λ t. of_number number t (lists (owner t))) (upto count)
      ∙ (flat_map_same (λ t. filter (λ m. process m == c) (of_number number t (lists (owner t))))
      (λ t. of_number number t (lists c)) (upto count) (λ t i. cut c t)
      ∙ batches number (upto count) (lists c) (upto_rises count)
      (pairs_weaker (λ a b. number a < number b) (λ a b. number a ≤ number b) (lists c) (λ a b i j l. omega arith)
      (s.rising c))
      (λ m i. upto_has count (number m) (s.below c m i)))
