-- How the beginning of an order goes on to a whole one, apart from any search for it. There are n
-- calls, by place, listed in any order. A beginning is the list `done` of the places of its calls,
-- the last one first, with the content that they leave. Wing and Gong, "Testing and Verifying
-- Concurrent Objects", JPDC 17, 1993, section 4, search like this.
use Rattle.std.specs.Prelude.{◌≡◌, ◌≢◌, ℕ, ◌<◌, List, [], ◌∷◌, Some}
use Rattle.model.specs.declared.AnyReply.{AnyReply}
use Rattle.model.specs.Objects.{Content, next}
use Rattle.model.specs.Orders.{Call, Return, ReturnsBefore}
use Rattle.model.specs.Lists.{In}

-- the place is below n, and its call is not done
abbrev pub IsLeft : ℕ → List ℕ → ℕ → Type 0
IsLeft n done k = (k < n) × (In k done → ⊥)

-- no other call that is left returned before the call at k was invoked
abbrev pub IsCandidate : (n : ℕ) (call : ℕ → Call) → List ℕ → ℕ → Type 0
IsCandidate n call done k = (j : ℕ) → IsLeft n done j → j ≢ k → ReturnsBefore (call j) (call k) → ⊥

-- each call that returned is done
abbrev pub AreReturnedDone : (n : ℕ) (call : ℕ → Call) → List ℕ → Type 0
AreReturnedDone n call done = (j : ℕ) (r : Return) → IsLeft n done j → (call j).returned ≡ Some r
    → ⊥

-- The call at k is possible with the first content, and leaves the second. Its recorded reply, if
-- there is one, is the one that `next` gives.
pub record DoesCall (call : ℕ → Call) (k : ℕ) (before after : Content) : Type 0 where
  pub reply : AnyReply
  pub does : next before (call k).op ≡ Some (after, reply)
  pub agrees : (r : Return) → (call k).returned ≡ Some r → r.reply ≡ reply

-- From the calls at the places `done`, with this content, the next places go on to an order of all
-- calls that returned.
abbrev pub Continues : (n : ℕ) (call : ℕ → Call) → List ℕ → Content → List ℕ → Type 0
Continues n call done c [] = AreReturnedDone n call done
Continues n call done c (k ∷ rest) =
    IsLeft n done k × IsCandidate n call done k × (after : Content) × DoesCall call k c after
    × Continues n call (k ∷ done) after rest

-- no order of all calls that returned goes on from the calls at the places `done`, with this
-- content
abbrev pub IsDead : (n : ℕ) (call : ℕ → Call) → List ℕ → Content → Type 0
IsDead n call done c = (rest : List ℕ) → Continues n call done c rest → ⊥

-- no order of all calls that returned goes on with k from the calls at the places `done`, with this
-- content
abbrev pub IsDeadAt : (n : ℕ) (call : ℕ → Call) → List ℕ → Content → ℕ → Type 0
IsDeadAt n call done c k = (rest : List ℕ) → Continues n call done c (k ∷ rest) → ⊥

-- no order of all calls that returned goes on with a place below `at` from the calls at the places
-- `done`, with this content
abbrev pub IsTried : (n : ℕ) (call : ℕ → Call) → List ℕ → Content → ℕ → Type 0
IsTried n call done c at = (k : ℕ) → k < at → IsDeadAt n call done c k

-- the places done are those below `high` that are not in the list of those not done
pub record Describes (n : ℕ) (high : ℕ) (not_done : List ℕ) (done : List ℕ) : Type 0 where
  pub bound : (k : ℕ) → In k done → k < high
  pub apart : (k : ℕ) → In k not_done → In k done → ⊥
  pub cover : (k : ℕ) → k < n → k < high → (In k not_done → ⊥) → In k done

-- a pair of the places that are done and a content, from which no order of all calls that returned
-- goes on
pub record IsDeadPair (n : ℕ) (call : ℕ → Call) (high : ℕ) (not_done : List ℕ)
    (c : Content) : Type 0 where
  pub done : List ℕ
  pub describes : Describes n high not_done done
  pub dead : IsDead n call done c
