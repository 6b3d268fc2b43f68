-- Steps that are taken or passed over, one list after another: the transitions of both lists together are those of
-- their concatenation (`joined_steps`). By induction along the steps.
use Rattle.std.proofs.lemmas.List.{take_more, map-append}
use Rattle.std.proofs.Common.{◌≡◌, inl, inr, ℕ, ◌+◌, ◌<◌, List, [], ◌∷◌, ◌++◌, take, length}
use Rattle.std.proofs.Common.{get_or, map, ap, sym, ◌∙◌, subst, arith}
use Rattle.model.specs.declared.Kind.{Kind}
use Rattle.desk_model.specs.World.{World}
use Rattle.desk_model.specs.Transitions.{Step}
use Rattle.machine.specs.Machines.{State}
use Rattle.machine.specs.Runs.{TakesPossible}
use Rattle.machine.specs.Steps.{IsLike}

-- of two lists of steps, one after the other, the transitions are those of both, and so is their number
pub joined_steps : (kinds : List Kind) (quota : ℕ) (start : World) (steps : List (ℕ × Step)) (n : ℕ) (between : World)
    (more : List (ℕ × Step)) (k : ℕ) (after : World)
    → TakesPossible kinds quota start steps n between → TakesPossible kinds quota between more k after
    → TakesPossible kinds quota start (steps ++ more) (n + k) after
joined_steps kinds quota start [] n between more k after here there = let none = here.0 in
    subst (λ (m : ℕ). TakesPossible kinds quota start more m after) (let e : k ≡ n + k = omega arith in e)
    (subst (λ (z : World). TakesPossible kinds quota z more k after) here.1 there)
joined_steps kinds quota start (m ∷ steps) n between more k after here there = elim here [
  | inl t ↦ inl (t.0, t.1, joined_steps kinds quota t.0 steps n between more k after t.2 there)
  | inr p ↦
      let e = p.2 in inr (
        p.0,
        p.1 + k,
        let f : n + k ≡ p.1 + k + 1 = omega arith in
            f,
        joined_steps kinds quota start steps p.1 between more k after p.3 there,
      )
]

-- one element more of a list, seen through f
pub taken_more : {A B : Type 0} (f : A → B) (xs : List A) (i : ℕ) (v : A) → i < length xs → v ≡ get_or xs i v
    → map f (take i xs) ++ f v ∷ [] ≡ map f (take (i + 1) xs)
taken_more f xs i v low e = ap (λ z. map f (take i xs) ++ f z ∷ []) e
    ∙ (sym (map-append f (take i xs) (get_or xs i v ∷ [])) ∙ ap (map f) (sym (take_more xs i v low)))

pub like_both : (a b c : State) → IsLike a b → IsLike b c → IsLike a c
like_both a b c h j = record { kinds = j.kinds ∙ h.kinds; clients = j.clients ∙ h.clients; quota = j.quota ∙ h.quota }
