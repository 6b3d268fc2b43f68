-- The parts that workers gather, and what they are together.
use Rattle.std.specs.Prelude.{◌≡◌, ℕ, ◌<◌, ◌↔◌, ◌%◌, ◌⊎◌, List, length, get_or, map, Option, Some}
use Rattle.std.specs.Prelude.{Result, IfOk, All, AllPairs, Contains}
use Rattle.std.specs.Ordering.{nat_cmp}
use Rattle.std.specs.BTreeMap.{BTreeMap, get}
use Rattle.model.specs.Orders.{calls_on}
use Rattle.events.specs.declared.event.Event.{Event}
use Rattle.events.specs.Events.{IsNamed, kind_of_object, denoted}
use Rattle.events.specs.Operations.{ObjectCalls, operations_on, calls_of}

-- what a worker gathers: the objects whose numbers leave this remainder
pub record IsGatheredPart (es : List Event) (part parts : ℕ) (os : List ObjectCalls) : Type 0 where
  pub named : (x : ℕ) → Contains (map (λ o. o.object) os) x ↔ (IsNamed es x × (x % parts ≡ part))
  pub kinds : All (λ o. o.kind ≡ kind_of_object es o.object) os
  pub operations : All (λ o. o.ops ≡ operations_on o.object es) os
  pub calls : All (λ o. calls_of o.ops ≡ calls_on o.object (denoted es)) os

-- the result for each part has the objects of that part, unless an allocation failed for it
abbrev pub AreGathered : {V E : Type 0} → (V → List ObjectCalls) → List Event → List (Result V E)
    → Type 0
AreGathered {V} {E} items es rs =
    (i : ℕ) (d : Result V E) → i < length rs
    → IfOk (get_or rs i d) (λ v. IsGatheredPart es i (length rs) (items v))

-- what is kept of object x if these were put in: one of them, or what was kept before
abbrev pub IsPutIn : List ObjectCalls → ℕ → Option ObjectCalls → Option ObjectCalls → Type 0
IsPutIn os x old new =
    ((o : ObjectCalls) × Contains os o × (o.object ≡ x) × (new ≡ Some o))
    ⊎ ((Contains (map (λ o. o.object) os) x → ⊥) × (new ≡ old))

-- the history of a named object
pub record IsHistoryOfObject (es : List Event) (x : ℕ) (o : ObjectCalls) : Type 0 where
  pub object : o.object ≡ x
  pub named : IsNamed es x
  pub kind : o.kind ≡ kind_of_object es o.object
  pub operations : o.ops ≡ operations_on o.object es
  pub calls : calls_of o.ops ≡ calls_on o.object (denoted es)

-- each named object has its history, and no other has one
pub record IsWhole (es : List Event) (m : BTreeMap ℕ ObjectCalls) : Type 0 where
  pub right : (x : ℕ) (o : ObjectCalls) → get nat_cmp m x ≡ Some o → IsHistoryOfObject es x o
  pub whole : (x : ℕ) → IsNamed es x → (o : ObjectCalls) × (get nat_cmp m x ≡ Some o)

-- what a split of a history gives: the histories of all named objects, in rising object number
pub record AreAll (es : List Event) (os : List ObjectCalls) : Type 0 where
  pub rising : AllPairs (λ a b. a.object < b.object) os
  pub named : (x : ℕ) → Contains (map (λ o. o.object) os) x ↔ IsNamed es x
  pub kinds : All (λ o. o.kind ≡ kind_of_object es o.object) os
  -- each has all its operations, with their ends
  pub operations : All (λ o. o.ops ≡ operations_on o.object es) os
  -- those that did not fail are its calls in the history that the events denote
  pub calls : All (λ o. calls_of o.ops ≡ calls_on o.object (denoted es)) os
