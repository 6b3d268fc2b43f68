-- How the decisions on all objects are made, claim by claim. No public clause speaks of it.
use Rattle.std.specs.Prelude.{◌≡◌, ◌<◌, ℕ, List, [], ◌∷◌, ◌++◌, length, map, get_or, All}
use Rattle.events.specs.Operations.{ObjectCalls, calls_of}
use Rattle.verifying.specs.declared.claim.Claim.{Claim}
use Rattle.verifying.specs.declared.decision.Decision.{Decision}
use Rattle.verifying.specs.declared.decision.Decision.TheVariants.{Open}
use Rattle.verifying.specs.Decisions.{IsDecision}

-- what a list of answers has at a place after its end
abbrev pub no_answer : ℕ × Decision
no_answer = (0, Open)

-- the answers are on these objects, one by one
abbrev pub NumbersAre : List ObjectCalls → List (ℕ × Decision) → Type 0
NumbersAre objects answers = map (λ a. a.0) answers ≡ map (λ o. o.object) objects

-- each object is open
pub record AreAllOpen (objects : List ObjectCalls) (answers : List (ℕ × Decision)) : Type 0 where
  pub numbers : NumbersAre objects answers
  pub undecided : All (λ a. a.1 ≡ Open) answers

-- the decision on an object at a place, by these claims
abbrev pub IsDecidedAt : List Claim → ℕ → ObjectCalls → Decision → Type 0
IsDecidedAt claims limit o d = IsDecision claims limit o.object o.kind (calls_of o.ops) d

-- what one more claim makes of the decision on an object
abbrev pub IsNextDecision : ℕ → Claim → ObjectCalls → Decision → Decision → Type 0
IsNextDecision limit e o old new =
    (claims : List Claim) → IsDecidedAt claims limit o old
    → IsDecidedAt (claims ++ e ∷ []) limit o new

-- one more claim was taken: the numbers are the same, and each decision is the next one
pub record AreDecisionsTaken (objects : List ObjectCalls) (limit : ℕ) (e : Claim)
    (old new : List (ℕ × Decision)) : Type 0 where
  pub numbers : map (λ a. a.0) new ≡ map (λ a. a.0) old
  pub each : (i : ℕ) (o : ObjectCalls) → i < length objects → o ≡ get_or objects i o
      → IsNextDecision limit e o (get_or old i no_answer).1 (get_or new i no_answer).1

-- these are decisions on the objects by these claims
pub record AreDecided (objects : List ObjectCalls) (claims : List Claim) (limit : ℕ)
    (answers : List (ℕ × Decision)) : Type 0 where
  pub numbers : NumbersAre objects answers
  pub each : (i : ℕ) (o : ObjectCalls) → i < length objects → o ≡ get_or objects i o
      → IsDecidedAt claims limit o (get_or answers i no_answer).1
