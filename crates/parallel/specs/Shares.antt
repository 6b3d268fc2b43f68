-- How workers share the objects of a history.
use Rattle.std.specs.Prelude.{◌≡◌, ℕ, ◌+◌, ◌*◌, ◌<◌, ◌≤◌, ◌⊎◌, List, length, get_or, Option, Some}
use Rattle.std.specs.Prelude.{None, Result, Ok, Err, OnOk, IfErr}
use Rattle.events.specs.Operations.{ObjectCalls, calls_of}
use Rattle.certificate.specs.declared.Certificate.{Certificate}
use Rattle.checker.specs.declared.refusal.Refusal.{Refusal}
use Rattle.checker.specs.Checking.{IsFine, IsRefused}
use Rattle.parallel.specs.declared.share.RefusedObject.{RefusedObject}

-- the most workers of one command
abbrev pub max_workers : ℕ
max_workers = 16

-- the object at this place falls to the worker: the places worker, worker + workers, and so on
abbrev pub FallsTo : ℕ → ℕ → ℕ → Type 0
FallsTo worker workers k = (turn : ℕ) × (k ≡ worker + turn * workers)

-- the object at this place has a valid order among the certificates
abbrev pub IsFineAt : List ObjectCalls → List Certificate → ℕ → Type 0
IsFineAt os certificates k =
    (d : ObjectCalls)
    → IsFine (get_or os k d).kind (calls_of (get_or os k d).ops) certificates (get_or os k d).object

-- why the object at this place is refused
abbrev pub IsRefusedAt : List ObjectCalls → List Certificate → ℕ → Refusal → Type 0
IsRefusedAt os certificates k r =
    (d : ObjectCalls)
    → IsRefused (get_or os k d).kind (calls_of (get_or os k d).ops) certificates
    (get_or os k d).object r

-- what a worker found is the refusal at the first of its places that has one
pub record IsFirstOfShare (worker workers : ℕ) (os : List ObjectCalls)
    (certificates : List Certificate) (f : RefusedObject) : Type 0 where
  pub inside : f.place < length os
  pub own : FallsTo worker workers f.place
  pub refused : IsRefusedAt os certificates f.place f.refusal
  pub before : (k : ℕ) → k < f.place → FallsTo worker workers k → IsFineAt os certificates k

-- what a worker answers: each of its objects has a valid order, or what it found first
pub record IsShare (worker workers : ℕ) (os : List ObjectCalls) (certificates : List Certificate)
    (r : Result (Unit {0}) RefusedObject) : Type 0 where
  pub fine : OnOk r
      ((k : ℕ) → k < length os → FallsTo worker workers k → IsFineAt os certificates k)
  pub found : IfErr r (IsFirstOfShare worker workers os certificates)

-- what this worker found is at no lesser place
abbrev pub IsNotBefore : RefusedObject → Result (Unit {0}) RefusedObject → Type 0
IsNotBefore f r = IfErr r (λ g. f.place ≤ g.place)

-- of what was found so far and what a worker found, that of the lesser place
abbrev pub IsEarlier : Option RefusedObject → Result (Unit {0}) RefusedObject → Option RefusedObject
    → Type 0
IsEarlier least (Ok u) next = next ≡ least
IsEarlier None (Err g) next = next ≡ Some g
IsEarlier (Some f) (Err g) next =
    ((f.place ≤ g.place) × (next ≡ Some f)) ⊎ ((g.place < f.place) × (next ≡ Some g))
