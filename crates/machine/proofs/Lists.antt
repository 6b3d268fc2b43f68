-- Lists by number, and what is past their end: a list that is written at one place has the new value there, and each
-- other value where it was (`get_or-set_by`). By induction along the list.
use Rattle.std.proofs.Common.{◌≡◌, ◌≢◌, ℕ, zero, suc, [], ◌∷◌, ◌<◌, List, length, Option, Some, None, set}
use Rattle.std.proofs.Common.{get_or, map, slice_get, refl, ap, sym, ◌∙◌, arith}
use Rattle.std.proofs.lemmas.List.{get_or_past, get_or-set_same, get_or-set_other}
use Rattle.std.proofs.lemmas.Option.{same_Some}
use mathlib.Core.Logic.{dite}
use native.Mathlib.Decide.{ℕ_discrete}
use Rattle.desk_model.specs.Transitions.{changed}
use Rattle.desk_model.proofs.Changed.{changed_here, changed_else}

-- what no number below the length finds, no number finds
pub none_past : {A : Type 0} (xs : List (Option A)) (n : ℕ) (v : A) → length xs ≡ n
    → ((x : ℕ) → x < n → get_or xs x None ≢ Some v) → (x : ℕ) → get_or xs x None ≢ Some v
none_past xs n v long none x e = grind (arith, get_or_past xs x None, none x)

-- a list with another value at i, seen by number through f, is the function with another value at i
pub get_or-set_by : {A B : Type 0} (f : A → B) (xs : List A) (i : ℕ) (new none : A) → i < length xs → (j : ℕ)
    → f (get_or (set xs i new) j none) ≡ changed (λ k. f (get_or xs k none)) i (f new) j
get_or-set_by {A} {B} f xs i new none low j =
    let g : ℕ → B = λ k. f (get_or xs k none) in
    dite (ℕ_discrete j i)
    (λ same. ap (λ k. f (get_or (set xs i new) k none)) same ∙ ap f (get_or-set_same xs i new none low)
    ∙ sym (ap (changed g i (f new)) same ∙ changed_here g i (f new)))
    (λ other. ap f (get_or-set_other xs i j new none other) ∙ sym (changed_else g i (f new) j other))

-- a list with another element at one place, as a changed function
pub get_or-set : {A : Type 0} (xs : List A) (i : ℕ) (new none : A) → i < length xs → (j : ℕ)
    → get_or (set xs i new) j none ≡ changed (λ k. get_or xs k none) i new j
get_or-set xs i new none low j = get_or-set_by (λ x. x) xs i new none low j

-- an element that is there is written
pub slice_get-set_same : {A : Type 0} (xs : List A) (i : ℕ) (new old : A) → slice_get xs i ≡ Some old
    → slice_get (set xs i new) i ≡ Some new
slice_get-set_same [] i new old e = absurd (cc)
slice_get-set_same (x ∷ xs) zero new old e = refl
slice_get-set_same (x ∷ xs) (suc i) new old e = slice_get-set_same xs i new old e

pub slice_get-set_other : {A : Type 0} (xs : List A) (i : ℕ) (new : A) (j : ℕ) → j ≢ i
    → slice_get (set xs i new) j ≡ slice_get xs j
slice_get-set_other [] i new j other = refl
slice_get-set_other (x ∷ xs) zero new zero other = absurd (other refl)
slice_get-set_other (x ∷ xs) zero new (suc j) other = refl
slice_get-set_other (x ∷ xs) (suc i) new zero other = refl
slice_get-set_other (x ∷ xs) (suc i) new (suc j) other = slice_get-set_other xs i new j (λ e. other (ap suc e))

-- an element is replaced by one that f cannot tell from it
pub map-set_same_at : {A B : Type 0} (f : A → B) (xs : List A) (i : ℕ) (new old : A) → slice_get xs i ≡ Some old
    → f new ≡ f old → map f (set xs i new) ≡ map f xs
map-set_same_at f [] i new old e h = refl
map-set_same_at f (x ∷ xs) zero new old e h = ap (λ z. z ∷ map f xs) (h ∙ ap f (sym (same_Some x old e)))
map-set_same_at f (x ∷ xs) (suc i) new old e h = ap (λ zs. f x ∷ zs) (map-set_same_at f xs i new old e h)
