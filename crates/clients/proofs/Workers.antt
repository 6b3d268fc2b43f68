-- The threads of a run, by the place at which they were started.
use Rattle.std.proofs.Common.{◌≡◌, ℕ, ◌+◌, ◌<◌, List, [], ◌∷◌, ◌++◌, length, get_or, length-append, sym, ap, ◌∙◌, subst}
use Rattle.std.proofs.Common.{arith}
use Rattle.std.proofs.lemmas.List.{get_or-append-add, get_or_append_left}
use mathlib.Core.Logic.{dite}
use native.Mathlib.Decide.{ℕ_discrete}

module _ {A : Type 0} (Q : A → ℕ → Type 0) (l m : List A) (a : A) (grown : m ≡ l ++ a ∷ []) where
  long : length m ≡ length l + 1
  long = ap length grown ∙ length-append l (a ∷ [])

  last : (d : A) → get_or m (length l) d ≡ a
  last d = let at : length l ≡ length l + 0 = omega arith in
      ap (λ z. get_or z (length l) d) grown ∙ (ap (λ i. get_or (l ++ a ∷ []) i d) at ∙ get_or-append-add l (a ∷ []) 0 d)

  earlier : (k : ℕ) (d : A) → k < length l → get_or m k d ≡ get_or l k d
  earlier k d low = ap (λ z. get_or z k d) grown ∙ get_or_append_left l (a ∷ []) d k low

  -- what holds of each at its place holds of the last and of the others
  pub all_but_last : ((k : ℕ) (d : A) → k < length m → Q (get_or m k d) k)
      → Q a (length l) × ((k : ℕ) (d : A) → k < length l → Q (get_or l k d) k)
  all_but_last each = (
    subst (λ z. Q z (length l)) (last a) (each (length l) a (omega (arith, long))),
    λ k d low. subst (λ z. Q z k) (earlier k d low) (each k d (omega (arith, long))),
  )

  -- and the other way round
  pub and_last : ((k : ℕ) (d : A) → k < length l → Q (get_or l k d) k) → Q a (length l) → (k : ℕ) (d : A) → k < length m
      → Q (get_or m k d) k
  and_last before here k d low = dite (ℕ_discrete k (length l))
      (λ same. subst (λ j. Q (get_or m j d) j) (sym same) (subst (λ z. Q z (length l)) (sym (last d)) here))
      (λ other. let inside : k < length l = omega (arith, long) in
      subst (λ z. Q z k) (sym (earlier k d inside)) (before k d inside))
