-- Numbered histories, and orders of one object's operations by the numbers of their invocations.
-- A valid order names a linearization of the object's own history, as Herlihy and Wing's section 3
-- on locality takes one for each object. That it does is a theorem of the crate `locality`.
use Rattle.std.specs.Prelude.{◌≡◌, ◌≢◌, ℕ, ℤ, pos, ◌<◌, ◌==◌, ◌&&◌, ⊤, List, [], ◌∷◌, Option, Some}
use Rattle.std.specs.Prelude.{None, IfSome, IsSome, All, AllPairs, Contains, map, filter}
use Rattle.std.specs.Prelude.{if◌then◌else◌}
use Rattle.std.specs.Option.{option_or}
use Rattle.model.specs.declared.Kind.{Kind}
use Rattle.model.specs.declared.AnyOp.{AnyOp}
use Rattle.model.specs.declared.AnyReply.{AnyReply}
use Rattle.model.specs.Specification.{Specification}
use Rattle.model.specs.Objects.{Content, next, any}
use Rattle.model.specs.Histories.{Event, Inv, Res, IsWellFormed}

-- an event with its number
pub record Numbered : Type 0 where
  pub number : ℕ
  pub event : Event

-- the history without its numbers
abbrev pub events : List Numbered → List Event
events h = map (λ m. m.event) h

-- a numbered history: numbers rise, and it is well-formed
pub record IsHistory (h : List Numbered) : Type 0 where
  pub rising : AllPairs (λ a b. a.number < b.number) h
  pub well_formed : IsWellFormed (events h)

-- a response: its number and its reply
pub record Return : Type 0 where
  pub at : ℕ
  pub reply : AnyReply

-- an operation on one object: the number of its invocation, and its response, if there is one
pub record Call : Type 0 where
  pub number : ℕ
  pub op : AnyOp
  pub returned : Option Return

-- a call with its process and its object
pub record ProcessCall : Type 0 where
  pub process : ℕ
  pub object : ℕ
  pub call : Call

-- what an event is to an operation of process p on object x that is under way: its response, or
-- nothing
abbrev pub response_in : ℕ → ℕ → ℕ → Event → Option Return
response_in p x number (Inv q y op) = None
response_in p x number (Res q y r) =
    if (p == q) && (x == y) then Some (record { at = number; reply = r }) else None

-- the first response to process p on object x
abbrev pub response_of : ℕ → ℕ → List Numbered → Option Return
response_of p x [] = None
response_of p x (m ∷ later) = option_or (response_in p x m.number m.event) (response_of p x later)

-- the operation that an event begins, with its response among the later events, in front of the
-- others
abbrev pub begins : ℕ → Event → List Numbered → List ProcessCall → List ProcessCall
begins number (Inv p x op) later others =
    record {
      process = p;
      object = x;
      call = record { number = number; op = op; returned = response_of p x later };
    }
    ∷ others
begins number (Res p x r) later others = others

-- the operations of a well-formed history, in the order of their invocations
abbrev pub calls_in : List Numbered → List ProcessCall
calls_in [] = []
calls_in (m ∷ later) = begins m.number m.event later (calls_in later)

-- the operations on one object
abbrev pub calls_on : ℕ → List Numbered → List Call
calls_on x h = map (λ e. e.call) (filter (λ e. e.object == x) (calls_in h))

-- the first returned before the second was invoked
abbrev pub ReturnsBefore : Call → Call → Type 0
ReturnsBefore a b = (r : Return) × (a.returned ≡ Some r) × (r.at < b.number)

-- along the calls, from this content on, each is possible, and each recorded reply is the one that
-- the step gives
abbrev pub RepliesBy : {C : Type 0} → (C → AnyOp → Option (C × AnyReply)) → C → List Call → Type 0
RepliesBy step c [] = ⊤
RepliesBy {C} step c (e ∷ es) =
    (after : C) × (reply : AnyReply) × (step c e.op ≡ Some (after, reply))
    × IfSome e.returned (λ r. r.reply ≡ reply) × RepliesBy step after es

-- A valid order of the operations of an object, of which no two have one number: a list of their
-- numbers.
pub record IsValidOrderOf (object : Specification) (calls : List Call) (order : List ℤ)
    : Type 0 where
  -- each number is that of an operation of the object
  pub entries : List Call
  pub numbers : order ≡ map (λ e. pos e.number) entries
  pub known : All (Contains calls) entries
  -- no number is in it twice
  pub once : AllPairs (λ a b. a ≢ b) order
  -- each operation that returned is in it
  pub whole : All (λ e. IsSome e.returned → Contains entries e) calls
  -- no call comes after one that it precedes
  pub in_order : AllPairs (λ a b. ReturnsBefore b a → ⊥) entries
  -- along the order from the empty content each is possible, and what it returned is the reply
  pub replies : RepliesBy object.next object.empty entries

-- as `RepliesBy`, in the contents of all kinds
abbrev pub RepliesAlong : Content → List Call → Type 0
RepliesAlong c es = RepliesBy next c es

-- A valid order of the operations of an object of this kind. It is valid for the kind's own
-- specification exactly if it is valid here, in the contents of all kinds: `one_kind_among_all`
-- of the crate `locality`.
abbrev pub IsValidOrder : Kind → List Call → List ℤ → Type 0
IsValidOrder kind calls order = IsValidOrderOf (any kind) calls order

-- no order of the calls is valid
abbrev pub HasNoValidOrder : Kind → List Call → Type 0
HasNoValidOrder kind calls = (order : List ℤ) → IsValidOrder kind calls order → ⊥
