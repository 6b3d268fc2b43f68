-- Runs: lists of transitions from the world at the start.
use Rattle.std.specs.Prelude.{◌≡◌, ◌⊎◌, ℕ, ◌+◌, List, [], ◌∷◌, nat_lt, if◌then◌else◌}
use Rattle.model.specs.declared.Kind.{Kind}
use Rattle.desk_model.specs.World.{World, absent, idle, initial_world}
use Rattle.desk_model.specs.Transitions.{Step, Transition}

-- The world once the first clients have come, and nothing else has happened: no ticket was drawn,
-- and no object is held.
abbrev pub start_world : ℕ → World
start_world clients = record initial_world {
  stage = λ c. if nat_lt c clients then idle else absent;
}

module _ (kinds : List Kind) (quota : ℕ) where
  -- these transitions, each of one client, lead from one world to another
  abbrev pub Leads : World → List (ℕ × Step) → World → Type 0
  Leads w [] after = after ≡ w
  Leads w (m ∷ ms) after =
      (between : World) × Transition kinds quota m.1 w m.0 between × Leads between ms after

  -- the transition is possible in no way
  abbrev pub IsImpossible : World → ℕ × Step → Type 0
  IsImpossible w m = (after : World) → Transition kinds quota m.1 w m.0 after → ⊥

  -- The transitions that are possible at their turn are taken, and the others are counted and
  -- passed over.
  abbrev pub TakesPossible : World → List (ℕ × Step) → ℕ → World → Type 0
  TakesPossible w [] refused after = (refused ≡ 0) × (after ≡ w)
  TakesPossible w (m ∷ ms) refused after =
      ((between : World) × Transition kinds quota m.1 w m.0 between
      × TakesPossible between ms refused after)
      ⊎ (IsImpossible w m × (others : ℕ) × (refused ≡ others + 1) × TakesPossible w ms others after)

-- a run: these transitions lead from the start to the world w
abbrev pub IsRun : List Kind → ℕ → ℕ → List (ℕ × Step) → World → Type 0
IsRun kinds clients quota moves w = Leads kinds quota (start_world clients) moves w

-- the world after some run
abbrev pub IsWorldOfRun : List Kind → ℕ → ℕ → World → Type 0
IsWorldOfRun kinds clients quota w = (moves : List (ℕ × Step)) × IsRun kinds clients quota moves w
