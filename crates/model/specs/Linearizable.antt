-- Linearizable histories, after Herlihy and Wing, TOPLAS 1990, section 2.
use Rattle.std.specs.Prelude.{◌≡◌, ℕ, ⊤, List, [], ◌∷◌, Some}
use Rattle.model.specs.declared.Kind.{Kind}
use Rattle.model.specs.Specification.{Specification}
use Rattle.model.specs.Objects.{specification}
use Rattle.model.specs.Histories.{Event, Inv, Res, by_object, IsSequential, IsCompletion}
use Rattle.model.specs.Histories.{IsEquivalent, Operation, IsOperation, Precedes}

-- From this content on each operation is possible and is replied to as the specification says. The
-- last may be pending, and then it need only be one that the object has.
abbrev pub RepliesFrom : (object : Specification) → object.Content → List Event → Type 0
RepliesFrom object c [] = ⊤
RepliesFrom object c (Inv p x op ∷ []) = object.has op
RepliesFrom object c (Inv p x op ∷ Res q y r ∷ rest) =
    (after : object.Content) × (object.next c op ≡ Some (after, r)) × RepliesFrom object after rest
RepliesFrom object c others = ⊥

-- A specification, said of the events of one object: the sequential histories that are replied to
-- so from the empty content on.
abbrev pub InSpecification : Specification → List Event → Type 0
InSpecification object s = IsSequential s × RepliesFrom object object.empty s

-- A sequential history is legal if each object alone is in its specification.
abbrev pub IsLegal : (ℕ → Specification) → List Event → Type 0
IsLegal objects s = (x : ℕ) → InSpecification (objects x) (by_object x s)

-- H is linearizable if some completion of it is equivalent to one legal sequential history S
-- over all objects, and S keeps the order of H: what precedes in H precedes in S.
pub record IsLinearizableFor (objects : ℕ → Specification) (h : List Event) : Type 0 where
  pub completion : List Event
  pub completes : IsCompletion h completion
  pub sequence : List Event
  pub sequential : IsSequential sequence
  pub legal : IsLegal objects sequence
  pub equivalent : IsEquivalent completion sequence
  pub order : (e f : Operation) → IsOperation completion e → IsOperation completion f
      → Precedes h e f → Precedes sequence e f

-- H is linearizable, each object being of one of the kinds here.
abbrev pub IsLinearizable : (ℕ → Kind) → List Event → Type 0
IsLinearizable kinds h = IsLinearizableFor (λ x. specification (kinds x)) h
