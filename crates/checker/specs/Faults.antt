-- What can be wrong with an order of an object's operations, and which fault is the first.
use Rattle.std.specs.Prelude.{◌≡◌, ◌≢◌, ℕ, ℤ, pos, negsuc, ◌≤ℤ◌, ◌==◌, ◌<◌, ◌≤◌, List, [], ◌∷◌}
use Rattle.std.specs.Prelude.{Option, Some, None, IsSome, All, Contains, slice_get, take, find}
use Rattle.std.specs.Prelude.{option_map, option_and_then}
use Rattle.model.specs.declared.Kind.{Kind}
use Rattle.model.specs.Objects.{Content, empty, next}
use Rattle.model.specs.Orders.{Call, Return}
use Rattle.checker.specs.declared.refusal.OrderFault.{OrderFault}
use Rattle.checker.specs.declared.refusal.OrderFault.TheVariants.{UnknownOperation, Repeated}
use Rattle.checker.specs.declared.refusal.OrderFault.TheVariants.{TooLate, NotPossible, WrongReply}
use Rattle.checker.specs.declared.refusal.OrderFault.TheVariants.{Omitted}

-- the call with this number
abbrev pub call_with_number : List Call → ℤ → Option Call
call_with_number calls (pos n) = find (λ c. c.number == n) calls
call_with_number calls (negsuc n) = None

-- the content after a call, if there is one and it is possible
abbrev pub after_call : Option Call → Content → Option Content
after_call None c = None
after_call (Some e) c = option_map (λ s. s.0) (next c e.op)

-- the content after the calls with these numbers, if each is possible in its turn
abbrev pub content_after : List Call → Option Content → List ℤ → Option Content
content_after calls c [] = c
content_after calls c (z ∷ zs) =
    content_after calls (option_and_then (after_call (call_with_number calls z)) c) zs

-- k is the greatest of the numbers
pub record IsGreatest (k : ℤ) (zs : List ℤ) : Type 0 where
  pub stands : Contains zs k
  pub above : All (λ z. z ≤ℤ k) zs

-- the entry at a place names a call
pub record HasNumberAt (calls : List Call) (order : List ℤ) (place : ℕ) (z : ℤ) (c : Call) : Type 0
  where
    pub here : slice_get order place ≡ Some z
    pub named : call_with_number calls z ≡ Some c

-- the content in which the call at a place is done
abbrev pub content_at : Kind → List Call → List ℤ → ℕ → Option Content
content_at kind calls order i = content_after calls (Some (empty kind)) (take i order)

-- What is wrong at a place of an order: its entry is no call; or it stood earlier; or the call
-- returned before the greatest invocation among the earlier entries; or the call is not possible
-- there; or it returned another reply than it has there.
abbrev pub IsFaultAt : Kind → List Call → List ℤ → ℕ → OrderFault → Type 0
IsFaultAt kind calls order i (UnknownOperation z) =
    (slice_get order i ≡ Some z) × (call_with_number calls z ≡ None)
IsFaultAt kind calls order i (Repeated z) = (slice_get order i ≡ Some z) × Contains (take i order) z
IsFaultAt kind calls order i (TooLate z by) =
    (c : Call) × (r : Return) × HasNumberAt calls order i z c × (c.returned ≡ Some r) × (r.at < by)
    × IsGreatest (pos by) (take i order)
IsFaultAt kind calls order i (NotPossible z) =
    (c : Call) × (d : Content) × HasNumberAt calls order i z c
    × (content_at kind calls order i ≡ Some d) × (next d c.op ≡ None)
IsFaultAt kind calls order i (WrongReply z gives) =
    (c : Call) × (r : Return) × (d after : Content) × HasNumberAt calls order i z c
    × (c.returned ≡ Some r) × (content_at kind calls order i ≡ Some d)
    × (next d c.op ≡ Some (after, gives)) × (r.reply ≢ gives)
IsFaultAt kind calls order i (Omitted n) = ⊥

-- which of two faults of one place comes first
abbrev pub rank : OrderFault → ℕ
rank (UnknownOperation z) = 1
rank (Repeated z) = 2
rank (TooLate z by) = 3
rank (NotPossible z) = 4
rank (WrongReply z gives) = 5
rank (Omitted n) = 6

-- the order is faulty at some place and at none before it, and of the faults there this is the
-- first
pub record IsFirstAtPlace (kind : Kind) (calls : List Call) (order : List ℤ) (fault : OrderFault) :
    Type 0 where
  pub place : ℕ
  pub stands : IsFaultAt kind calls order place fault
  pub earlier : (i : ℕ) (f : OrderFault) → i < place → IsFaultAt kind calls order i f → ⊥
  pub first : (f : OrderFault) → IsFaultAt kind calls order place f → rank fault ≤ rank f

-- no place is faulty, and this is the least call that returned and is not in the order
pub record IsLeastOmitted (kind : Kind) (calls : List Call) (order : List ℤ) (n : ℕ) : Type 0 where
  pub places : (i : ℕ) (f : OrderFault) → IsFaultAt kind calls order i f → ⊥
  pub call : Call
  pub known : Contains calls call
  pub number : call.number ≡ n
  pub returned : IsSome call.returned
  pub left_out : Contains order (pos n) → ⊥
  pub least : All (λ c. IsSome c.returned → c.number < n → Contains order (pos c.number)) calls

-- the first fault of an order: that of its first faulty place, or else the least operation that is
-- left out
abbrev pub IsFirstFault : Kind → List Call → List ℤ → OrderFault → Type 0
IsFirstFault kind calls order (Omitted n) = IsLeastOmitted kind calls order n
IsFirstFault kind calls order fault = IsFirstAtPlace kind calls order fault
