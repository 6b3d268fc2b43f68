-- A test gives true or false, and each result has its consequence. These are stated once here for all proofs of the
-- crate, and each is immediate.
use Rattle.std.proofs.Common.{◌≡◌, ◌⊎◌, inl, inr, ◌&&◌, Bool, true, false, Option, Some, None, IfSome}
use Rattle.std.proofs.Common.{refl, arith, ap, ◌∙◌, List, [], ◌∷◌}
use Rattle.std.specs.List.{list_all}
use Rattle.model.specs.Lists.{In}
use Rattle.std.specs.Prelude.{ℤ}
use Rattle.std.specs.Ordering.{int_eq}
use Rattle.std.proofs.lemmas.Int.{ints}

-- false is not true
pub false_is_not_true : false ≡ true → ⊥
false_is_not_true e = absurd (cc e)

-- a test is true or false
pub true_or_false : (b : Bool) → (b ≡ true) ⊎ (b ≡ false)
true_or_false true = inl refl
true_or_false false = inr refl

-- integers that the test finds equal are equal
pub same_by_test : (v a : ℤ) → int_eq v a ≡ true → v ≡ a
same_by_test v a e = grind (arith, ints)

-- what holds of the value of an option, if it has one
pub some_at : {T : Type 0} (P : T → Type 0) (o : Option T) → ((p : T) → o ≡ Some p → P p) → IfSome o P
some_at P None f = tt
some_at P (Some p) f = f p refl

-- if a list passes a test, each element passes it
pub each_passes : {X : Type 0} (p : X → Bool) (xs : List X) → list_all p xs ≡ true → (x : X) → In x xs → p x ≡ true
each_passes p [] h x i = absurd i
each_passes p (y ∷ ys) h x i = grind (arith, each_passes p ys)

-- if each element passes a test, the list passes it
pub all_pass : {X : Type 0} (p : X → Bool) (xs : List X) → ((x : X) → In x xs → p x ≡ true) → list_all p xs ≡ true
all_pass p [] f = refl
all_pass p (x ∷ xs) f = ap (λ b. b && list_all p xs) (f x (inl refl)) ∙ all_pass p xs (λ y i. f y (inr i))
