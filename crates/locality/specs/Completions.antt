-- When responses complete a history, by the responses alone.
use Rattle.std.specs.Prelude.{◌≡◌, ◌≢◌, List, ◌∷◌, ◌++◌, IsTrue, All, AllPairs}
use Rattle.model.specs.Histories.{Event, process_of, matches, is_pending}

-- an invocation of H that no later event of H matches
pub record IsPendingIn (h : List Event) (invocation : Event) : Type 0 where
  pub before : List Event
  pub after : List Event
  pub whole : h ≡ before ++ invocation ∷ after
  pub pending : IsTrue (is_pending invocation after)

-- Each of the added events matches a pending invocation of H, and no two of them are of one
-- process. As a process of a well-formed history has one pending invocation at most, each has an
-- invocation of its own.
pub record AnswersPending (h added : List Event) : Type 0 where
  pub each : All (λ r. (invocation : Event) × IsPendingIn h invocation
      × IsTrue (matches invocation r)) added
  pub apart : AllPairs (λ r s. process_of r ≢ process_of s) added
