-- When keys are the same, and which keys some pairs have: equality of bytes decides equality of keys (`same_is`,
-- `same_not`), and one more pair adds its key. By induction along the pairs.
use Rattle.std.proofs.Common.{arith, ◌≡◌, ℕ, Bool, true, false, cond, List, [], ◌∷◌, ◌++◌, refl, sym, ap, ◌∙◌, inl, inr}
use Rattle.std.specs.Prelude.{◌||◌}
use Rattle.std.specs.Str.{bytes_eq}
use Rattle.std.proofs.lemmas.Bool.{cases_Bool}
use Rattle.std.proofs.lemmas.Slice.Eq.{bytes_eq-Decides}
use Rattle.edn_reader.specs.Datum.{Datum}
use Rattle.edn_reader.specs.Names.{name_bytes}
use Rattle.edn_reader.specs.View.{view, pair_views}
use Rattle.edn_reader.specs.declared.form.Name.{Name}
use Rattle.edn_reader.specs.declared.form.Form.{Form}

pub same_is : (a b : List ℕ) → bytes_eq a b ≡ true → a ≡ b
same_is a b e = (bytes_eq-Decides a b).0 e

pub same_self : (a : List ℕ) → bytes_eq a a ≡ true
same_self a = (bytes_eq-Decides a a).1 refl

pub same_not : (a b : List ℕ) → (a ≡ b → ⊥) → bytes_eq a b ≡ false
same_not a b h = elim (cases_Bool (bytes_eq a b)) [ inl e ↦ absurd (h (same_is a b e)) | inr e ↦ e ]

pub or_last : (x y : Bool) → (x || (y || false)) ≡ (x || y)
or_last x y = grind arith

pub same_comm : (a b : List ℕ) → bytes_eq a b ≡ bytes_eq b a
same_comm a b = elim (cases_Bool (bytes_eq a b)) [
  | inl e ↦ e ∙ sym (rw (same_is a b e) (same_self b))
  | inr
      e ↦ (let n : bytes_eq b a ≡ false =
      same_not b a (λ q. true_not_false (sym (same_self a) ∙ ap (λ (x : List ℕ). bytes_eq a x) (sym q) ∙ e)) in
      e ∙ sym n)
]
  where
    true_not_false : true ≡ false → ⊥
    true_not_false e = cc

pub if_or : (x y : Bool) → cond x true y ≡ (y || x)
if_or x y = grind arith

pub pair_views-append : (xs : List (Name × Form)) (x : Name × Form)
    → pair_views (xs ++ x ∷ []) ≡ pair_views xs ++ (name_bytes x.0, view x.1) ∷ []
pair_views-append [] x = refl
pair_views-append (y ∷ ys) x =
    ap (λ (r : List (List ℕ × Datum)). (name_bytes y.0, view y.1) ∷ r) (pair_views-append ys x)
