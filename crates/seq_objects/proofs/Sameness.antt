-- Two lists are equal where a test of their elements says so, and then what is seen of them is equal.
use Rattle.std.proofs.Common.{◌≡◌, ℤ, Bool, List, reverse, ◌&&◌, ap, sym, subst, ◌∙◌, int_eq, rules}
use Rattle.std.proofs.lemmas.List.{reverse-reverse}
use Rattle.std.specs.Bool.{Decides}
use Rattle.std.specs.Cmp.{signed_Decides}
use Rattle.std.specs.Cmp.Rules.{signed_items}
use Rattle.std.specs.Cmp.Lexicographic.{pointwise, pointwise_decides}

pub reverse-injective : (xs ys : List ℤ) → reverse xs ≡ reverse ys → xs ≡ ys
reverse-injective xs ys e = sym (reverse-reverse xs) ∙ ap reverse e ∙ reverse-reverse ys

-- a view that tells lists apart
pub same_views : {A C : Type 0} (view : A → C) → ((a b : A) → view a ≡ view b → a ≡ b)
    → (a b : A) (c d : C) (r : Bool) → view a ≡ c → view b ≡ d → Decides r (a ≡ b) → Decides r (c ≡ d)
same_views view apart a b c d r ac bd decides =
    (λ t. sym ac ∙ ap view (decides.0 t) ∙ bd, λ e. decides.1 (apart a b (ac ∙ e ∙ sym bd)))

-- the test of the code decides whether two lists of integers are equal
pub decides_items : (xs ys : List ℤ) (r : Bool) → r ≡ pointwise int_eq xs ys → Decides r (xs ≡ ys)
decides_items xs ys r is = subst (λ b. Decides b (xs ≡ ys)) (sym is) (signed_items xs ys)

pairs_equal : (x y : ℤ × ℤ) → Decides (int_eq x.0 y.0 && int_eq x.1 y.1) (x ≡ y)
pairs_equal x y = search (rules, signed_Decides)

pub decides_pairs : (xs ys : List (ℤ × ℤ)) (r : Bool) → r ≡ pointwise (λ x y. int_eq x.0 y.0 && int_eq x.1 y.1) xs ys
    → Decides r (xs ≡ ys)
decides_pairs xs ys r is = subst (λ b. Decides b (xs ≡ ys)) (sym is) (pointwise_decides pairs_equal xs ys)
