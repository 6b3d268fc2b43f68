-- Linearizability as the text of Herlihy and Wing reads, TOPLAS 1990, section 2.
use Rattle.std.specs.Prelude.{ℕ, ◌<◌, List, length, filter}
use Rattle.model.specs.Specification.{Specification}
use Rattle.model.specs.Histories.{Event, IsSequential, IsCompletion, IsEquivalent, Operation}
use Rattle.model.specs.Histories.{responds, Precedes}
use Rattle.model.specs.Linearizable.{IsLegal}

-- the operation has both its events in H
abbrev pub IsCompleteIn : List Event → Operation → Type 0
IsCompleteIn h e = e.turn < length (filter (responds e.process) h)

-- As `IsLinearizableFor`, except that S keeps only the order of operations with both events in H.
pub record IsLinearizableAsWritten (objects : ℕ → Specification) (h : List Event) : Type 0 where
  pub completion : List Event
  pub completes : IsCompletion h completion
  pub sequence : List Event
  pub sequential : IsSequential sequence
  pub legal : IsLegal objects sequence
  pub equivalent : IsEquivalent completion sequence
  pub order : (e f : Operation) → IsCompleteIn h e → IsCompleteIn h f
      → Precedes h e f → Precedes sequence e f
