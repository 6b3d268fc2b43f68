-- A function with another value at one number.
use Rattle.std.proofs.Common.{◌≡◌, ◌≢◌, ℕ, eq-eqb, ne_eqb, refl, ap, sym, subst, cond}
use mathlib.Core.Logic.{dite}
use native.Mathlib.Decide.{ℕ_discrete}
use Rattle.desk_model.specs.Transitions.{changed}

module _ {A : Type 0} where
  -- a function that was changed at i has the new value there
  pub changed_here : (f : ℕ → A) (i : ℕ) (value : A) → changed f i value i ≡ value
  unfolding changed
  changed_here f i value = ap (λ b. cond b value (f i)) (eq-eqb i i refl)

  -- a function that was changed at i has its old values elsewhere
  pub changed_else : (f : ℕ → A) (i : ℕ) (value : A) (j : ℕ) → j ≢ i → changed f i value j ≡ f j
  unfolding changed
  changed_else f i value j other = ap (λ b. cond b value (f j)) (ne_eqb j i other)

  -- what holds of the new value at i, and of the old ones elsewhere, holds of the changed function
  pub changed_all : (P : ℕ → A → Type 0) (f : ℕ → A) (i : ℕ) (value : A) → P i value
      → ((j : ℕ) → j ≢ i → P j (f j)) → (j : ℕ) → P j (changed f i value j)
  changed_all P f i value here others j = dite (ℕ_discrete j i)
      (λ same. subst (λ z. P z (changed f i value z)) (sym same) (subst (P i) (sym (changed_here f i value)) here))
      (λ other. subst (P j) (sym (changed_else f i value j other)) (others j other))
