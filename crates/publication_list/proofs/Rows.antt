-- Lists of rows: the words that lead from place to place, and a place taken out.
use Rattle.std.proofs.Common.{◌≡◌, ◌≢◌, ◌⊎◌, ℕ, zero, suc, ◌+◌, ◌-◌, ◌<◌, ◌≤◌, List, [], ◌∷◌, ◌++◌, length, get_or}
use Rattle.std.proofs.Common.{remove, length-append, refl, sym, ap, ◌∙◌, inl, inr, lt_of_not-le, arith}
use mathlib.Core.Logic.{dite}
use mathlib.Mathlib.Logic.Function.Basic.{update, forall_update_iff}
use native.Mathlib.Decide.{dec_le, ℕ_discrete}
use Rattle.std.proofs.lemmas.List.{get_or-append-add}
use Rattle.std.proofs.lemmas.List.Edits.{get_or-remove_below, get_or-remove_above, length-remove}
use Rattle.publication_list.specs.PublicationList.{IsDistinct, word_at}

module _ {A : Type 0} where
  -- what holds of the new value at i, and of the old ones elsewhere, holds of the function with that value
  pub updated_all : (P : ℕ → A → Type 0) (f : ℕ → A) (i : ℕ) (value : A) → P i value → ((j : ℕ) → j ≢ i → P j (f j))
      → (j : ℕ) → P j (update ℕ_discrete f i value j)
  updated_all P f i value here others = (forall_update_iff ℕ_discrete f P).1 (here, others)

-- the word that leads to a place in the list
pub word_at_in : (l : List ℕ) (k : ℕ) → k < length l → word_at l k ≡ 1 + get_or l k 0
word_at_in [] k h = absurd (omega arith)
word_at_in (x ∷ xs) zero h = refl
word_at_in (x ∷ xs) (suc k) h = word_at_in xs k (omega arith)

-- the word past the end of the list is 0
pub word_at_past : (l : List ℕ) (k : ℕ) → length l ≤ k → word_at l k ≡ 0
word_at_past [] k h = refl
word_at_past (x ∷ xs) zero h = absurd (omega arith)
word_at_past (x ∷ xs) (suc k) h = word_at_past xs k (omega arith)

pub word_at_append : (xs ys : List ℕ) (k n : ℕ) → n ≡ length xs + k → word_at (xs ++ ys) n ≡ word_at ys k
word_at_append [] ys k n e = ap (word_at ys) (omega arith)
word_at_append (x ∷ xs) ys k zero e = absurd (omega arith)
word_at_append (x ∷ xs) ys k (suc n) e = word_at_append xs ys k n (omega arith)

pub remove_append : (xs ys : List ℕ) (k n : ℕ) → n ≡ length xs + k → remove (xs ++ ys) n ≡ xs ++ remove ys k
remove_append [] ys k n e = ap (remove ys) (omega arith)
remove_append (x ∷ xs) ys k zero e = absurd (omega arith)
remove_append (x ∷ xs) ys k (suc n) e = ap (λ z. x ∷ z) (remove_append xs ys k n (omega arith))

-- where a place of the shorter list was before
pub was_at : (l : List ℕ) (i k : ℕ) → i < length l → k < length (remove l i)
    → (j : ℕ) × (j < length l) × (get_or (remove l i) k 0 ≡ get_or l j 0)
    × (((k < i) × (j ≡ k)) ⊎ ((i ≤ k) × (j ≡ k + 1)))
was_at l i k inside low = let long = length-remove l i inside in dite (dec_le i k)
    (λ above. (k + 1, omega arith, get_or-remove_above l i 0 k above inside, inr (above, refl)))
    (λ n. let below = lt_of_not-le n in (k, omega arith, get_or-remove_below l i 0 k below inside, inl (below, refl)))

-- where a place of the longer list is then
pub is_at : (l : List ℕ) (i j : ℕ) → i < length l → j < length l → j ≢ i
    → (k : ℕ) × (k < length (remove l i)) × (get_or (remove l i) k 0 ≡ get_or l j 0)
is_at l i j inside low other = let long = length-remove l i inside in dite (dec_le i j)
    (λ above. (
      j - 1,
      omega arith,
      get_or-remove_above l i 0 (j - 1) (omega arith) inside ∙ ap (λ z. get_or l z 0) (omega arith),
    ))
    (λ n. let below = lt_of_not-le n in (j, omega arith, get_or-remove_below l i 0 j below inside))

pub word_at-remove_below : (l : List ℕ) (i k : ℕ) → i < length l → k < i → word_at (remove l i) k ≡ word_at l k
word_at-remove_below l i k inside low =
    grind (arith, word_at_in, get_or-remove_below l i 0 k low inside, length-remove l i inside)

pub word_at-remove_above : (l : List ℕ) (i k : ℕ) → i < length l → i ≤ k → word_at (remove l i) k ≡ word_at l (suc k)
word_at-remove_above l i k inside above =
    let next : k + 1 ≡ suc k = omega arith in
    grind (arith, word_at_past, word_at_in, get_or-remove_above l i 0 k above inside, length-remove l i inside)

pub distinct_right : (xs ys : List ℕ) → IsDistinct (xs ++ ys) → IsDistinct ys
distinct_right xs ys d i j li lj e = let long = length-append xs ys in
    let both : length xs + i ≡ length xs + j =
    d (length xs + i) (length xs + j) (omega arith) (omega arith)
    (get_or-append-add xs ys i 0 ∙ (e ∙ sym (get_or-append-add xs ys j 0))) in omega arith

pub distinct_remove : (l : List ℕ) (p : ℕ) → p < length l → IsDistinct l → IsDistinct (remove l p)
distinct_remove l p inside d i j li lj e =
    let a = was_at l p i inside li in
    let b = was_at l p j inside lj in
    let same : a.0 ≡ b.0 = d a.0 b.0 a.1 b.1 (sym a.2 ∙ (e ∙ b.2)) in
    omega (arith, a.3, b.3)

-- what was taken out is gone
pub gone : (l : List ℕ) (p k : ℕ) → p < length l → IsDistinct l → k < length (remove l p)
    → get_or (remove l p) k 0 ≢ get_or l p 0
gone l p k inside d low e =
    let a = was_at l p k inside low in
    let same : a.0 ≡ p = d a.0 p a.1 inside (sym a.2 ∙ e) in
    omega (arith, a.3)

pub distinct_more : (x : ℕ) (xs : List ℕ) → ((k : ℕ) → k < length xs → get_or xs k 0 ≢ x) → IsDistinct xs
    → IsDistinct (x ∷ xs)
distinct_more x xs fresh d i j li lj e = grind (arith, fresh, d)

found : (n : ℕ) (l : List ℕ)
    → ((i : ℕ) × (i < length l) × (get_or l i 0 ≡ n)) ⊎ ((i : ℕ) → i < length l → get_or l i 0 ≢ n)
found n [] = inr (λ i h e. omega arith)
found n (x ∷ xs) = dite (ℕ_discrete x n) (λ e. inl (0, omega arith, e))
    (λ ne. elim (found n xs) [
      | inl t ↦ let l = t.1 in
          inl (suc t.0, omega arith, t.2)
      | inr t ↦ inr (λ i. elim i as (λ i. i < length (x ∷ xs) → get_or (x ∷ xs) i 0 ≢ n) [
        | zero ↦ λ h. ne
        | suc j ↦ λ h. t j (omega arith)
      ])
    ])

-- distinct numbers below n are at most n
pub few_below : (n : ℕ) (l : List ℕ) → IsDistinct l → ((k : ℕ) → k < length l → get_or l k 0 < n) → length l ≤ n
few_below zero [] d low = omega arith
few_below zero (x ∷ xs) d low = let h = low 0 (omega arith) in absurd (omega arith)
few_below (suc n) l d low = elim (found n l) [
  | inl t ↦ let long = length-remove l t.0 t.1 in
      let rest = few_below n (remove l t.0) (distinct_remove l t.0 t.1 d) (λ k h.
      let a = was_at l t.0 k t.1 h in
      let other : get_or (remove l t.0) k 0 ≢ n = λ f. gone l t.0 k t.1 d h (f ∙ sym t.2) in
      omega (arith, low a.0 a.1, a.2)) in
      omega arith
  | inr t ↦ omega (arith, few_below n l d (λ k h. omega (arith, low k h, t k h)))
]
