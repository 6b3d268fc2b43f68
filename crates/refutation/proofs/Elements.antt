-- A set is read element by element: one more form adds its integer to the keys.
use Rattle.std.proofs.Common.{◌≡◌, ℕ, ◌+◌, ◌<◌, List, ◌∷◌, length, drop, get_or, Option, Some, ap, sym, ◌∙◌}
use Rattle.std.specs.Prelude.{ℤ, option_and_then}
use Rattle.std.specs.Ordering.{int_cmp}
use Rattle.std.specs.BTreeSet.{insert_key}
use Rattle.std.proofs.lemmas.List.{drop_more}
use Rattle.edn_reader.specs.Truncation.{integer_in}
use Rattle.edn_reader.specs.Datum.{items_of}
use Rattle.edn_reader.specs.View.{view, views}
use Rattle.edn_reader.specs.declared.form.Form.{Form}
use Rattle.refutation.specs.Denotes.{integers_with}

-- the integer of one form is added to the keys, and the forms after it are left
pub integer_added : (forms : List Form) (i : ℕ) (form : Form) (keys new : List ℤ) (integer : ℤ)
    (result : Option (List ℤ)) → i < length forms
    → form ≡ get_or forms i form → Some integer ≡ integer_in (view form) → new ≡ insert_key int_cmp keys integer
    → integers_with keys (items_of (views (drop i forms))) ≡ result
    → integers_with new (items_of (views (drop (i + 1) forms))) ≡ result
integer_added forms i form keys new integer result lt is own same h =
    let first = ap (λ (xs : List Form). integers_with keys (items_of (views xs)))
    (drop_more forms i form lt ∙ ap (λ (y : Form). y ∷ drop (i + 1) forms) (sym is)) in
    ap (λ (ks : List ℤ). integers_with ks (items_of (views (drop (i + 1) forms)))) same
    ∙ (ap (option_and_then (λ integer. integers_with (insert_key int_cmp keys integer)
    (items_of (views (drop (i + 1) forms))))) own
    ∙ (sym first ∙ h))
