-- What is noted of one more map of a piece, of its process and of its object; and what is taken
-- over from one more piece. No public clause names these.
use Rattle.std.specs.Prelude.{◌≡◌, ◌≢◌, ℕ, ◌+◌, List, [], ◌∷◌, ◌++◌, Option, Some, None}
use Rattle.std.specs.Option.{option_or}
use Rattle.model.specs.declared.Kind.{Kind}
use Rattle.seq_objects.specs.declared.function.Function.{Function}
use Rattle.seq_objects.specs.Functions.{kind_of_function}
use Rattle.events.specs.declared.event.Event.{Event}
use Rattle.events.specs.Operations.{IsListed}
use Rattle.history.specs.declared.seen.Process.{Process}
use Rattle.history.specs.declared.piece.FirstMap.{FirstMap}
use Rattle.history.specs.Seen.{IsProcessFault, IsNoOther, doing_after}
use Rattle.history.specs.Views.{map_type}

-- the map is recorded as the first of its process, or is allowed after those before it
abbrev pub IsFirstOrAllowed : Option Process → List FirstMap → List FirstMap → FirstMap → Type 0
IsFirstOrAllowed None old new m = new ≡ old ++ m ∷ []
IsFirstOrAllowed (Some p) old new m =
    (new ≡ old)
    × IsProcessFault (Some p) (map_type m.map_type) m.function m.object None

-- the process of one more map
pub record NotesProcess (old new : ℕ → Option Process) (old_firsts new_firsts : List FirstMap)
    (m : FirstMap) : Type 0 where
  pub checked : IsFirstOrAllowed (old m.process) old_firsts new_firsts m
  pub own : new m.process ≡ Some (doing_after (map_type m.map_type) m.function m.object)
  pub others : (p : ℕ) → p ≢ m.process → new p ≡ old p

-- the object of one more map, which has this function
pub record NotesObject (old new : ℕ → Option Kind) (old_objects new_objects : List ℕ) (object : ℕ)
    (f : Function) : Type 0 where
  pub checked : IsNoOther (old object) (kind_of_function f)
  pub own : new object ≡ Some (kind_of_function f)
  pub others : (x : ℕ) → x ≢ object → new x ≡ old x
  pub listed : (x : ℕ) → IsListed (old x) old_objects x → IsListed (new x) new_objects x

-- ---- one more piece

-- the event with its number counted from n maps earlier
abbrev pub shift_event : ℕ → Event → Event
shift_event n e =
    record { number = n + e.number; process = e.process; object = e.object; action = e.action }

-- if two kinds are kept of an object, they are the same
abbrev pub IsOneKind : Option Kind → Option Kind → Type 0
IsOneKind before own = (kind : Kind) → own ≡ Some kind → IsNoOther before kind

-- the key has the value of its own, if there is one, and all else is as it was
pub record TakesOver {V : Type 0} (old own new : ℕ → Option V) (key : ℕ) : Type 0 where
  pub at_key : new key ≡ option_or (own key) (old key)
  pub others : (k : ℕ) → k ≢ key → new k ≡ old k
