-- A status of yes means that a certificate is found for each object (`yes_of`, `each_found`), and the text is that of
-- the certificates (`found_text`). By induction over the answers.
use Rattle.std.proofs.Common.{arith, ◌≡◌, ◌∙◌, Bool, true, ℕ, List, [], ◌∷◌, ◌++◌, All, Option, Some, IsSome}
use Rattle.std.proofs.Common.{refl, ap, sym, subst, inl, inr}
use Rattle.std.specs.List.{list_all, cons_option, filter_map}
use Rattle.std.proofs.lemmas.Bool.{and_parts}
use Rattle.std.proofs.lemmas.List.{append-nil}
use Rattle.model.specs.Lists.{In}
use Rattle.model.proofs.Lists.{all_from_in}
use Rattle.certificate.specs.declared.Certificate.{Certificate}
use Rattle.certificate.specs.Lines.{certificate_line, certificate_lines}
use Rattle.history_commands.specs.Outputs.{status_by}
use Rattle.history_commands.specs.declared.status.Status.TheVariants as status_is

-- ---- by the status

-- a status is a yes only if each object has an order
pub yes_of : (b c : Bool) → status_by b c ≡ status_is.Yes → c ≡ true
yes_of b c e = grind arith

-- a status is a no only if an object is impossible
pub no_of : (b c : Bool) → status_by b c ≡ status_is.No → b ≡ true
no_of b c e = grind arith

-- ---- all found

-- answers with or without a certificate, and the text that their lines make up
module _ {A : Type 0} (is_found : A → Bool) (certificate : A → Option Certificate) (line : A → List ℕ)
    (text : List A → List ℕ)
    (found : (a : A) → is_found a ≡ true → (c : Certificate) × (certificate a ≡ Some c)
    × (line a ≡ certificate_lines (c ∷ [])))
    (nothing : text [] ≡ []) (more : (a : A) (rest : List A) → text (a ∷ rest) ≡ line a ++ text rest) where
  each_in : (answers : List A) → list_all is_found answers ≡ true → (a : A) → In a answers → IsSome (certificate a)
  each_in [] e a i = absurd i
  each_in (b ∷ rest) e a i =
      let parts = and_parts (is_found b) (list_all is_found rest) e in
      elim i [
        | inl s ↦ subst (λ (x : A). IsSome (certificate x)) (sym s) (subst IsSome (sym (found b parts.0).1) refl)
        | inr j ↦ each_in rest parts.1 a j
      ]

  pub each_found : (answers : List A) → list_all is_found answers ≡ true → All (λ a. IsSome (certificate a)) answers
  each_found answers e = all_from_in (λ (a : A). IsSome (certificate a)) answers (each_in answers e)

  pub found_text : (answers : List A) → list_all is_found answers ≡ true
      → text answers ≡ certificate_lines (filter_map certificate answers)
  found_text [] e = nothing
  found_text (a ∷ rest) e =
      let parts = and_parts (is_found a) (list_all is_found rest) e in
      let one = found a parts.0 in
      more a rest ∙ ap (λ x. x ++ text rest) (one.2 ∙ append-nil (certificate_line one.0))
      ∙ ap (λ x. certificate_line one.0 ++ x) (found_text rest parts.1)
      ∙ ap (λ (o : Option Certificate). certificate_lines (cons_option o (filter_map certificate rest))) (sym one.1)
