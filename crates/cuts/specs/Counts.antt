-- Counts: a content is taken away no more often than it was there before and was set.
use Rattle.std.specs.Prelude.{◌≡◌, ◌==◌, ◌+◌, ◌<◌, ℕ, nat_lt, not, ◌&&◌}
use Rattle.std.specs.Prelude.{List, Option, Some, None, count_by, if◌then◌else◌}
use Rattle.model.specs.declared.Kind.{Kind}
use Rattle.model.specs.Orders.{Call}
use Rattle.cuts.specs.declared.counting.Counted.{Counted}
use Rattle.cuts.specs.declared.counting.Counted.TheVariants.{Value, Entry, NoEntry, Held, Free}
use Rattle.cuts.specs.declared.counting.Count.{Count}
use Rattle.cuts.specs.Parts.{reply_of, ended_before}
use Rattle.cuts.specs.Kinds.Counting.{sets, takes, may_count_from}

-- how many calls that had not returned before this number set the content
abbrev pub set_since : Counted → ℕ → List Call → ℕ
set_since what from calls = count_by
    (λ e. sets what e.op (reply_of e.returned) && not (ended_before from e.returned)) calls

-- how many calls that were invoked at this number or later took the content away
abbrev pub taken_since : Counted → ℕ → List Call → ℕ
taken_since what from calls = count_by
    (λ e. takes what e.op (reply_of e.returned) && not (nat_lt e.number from)) calls

-- how often an empty object contains what is counted
abbrev pub times_at_first : Counted → ℕ
times_at_first (Value v) = 0
times_at_first (Entry k v) = 0
times_at_first (NoEntry k) = 1
times_at_first Held = 0
times_at_first Free = 1

-- How often the object can have contained what is counted before this number, at most. Of a queue,
-- stack or heap that is known only at the beginning. Nothing is counted at a set, a counter or a
-- lock.
abbrev pub most_before : Kind → Counted → ℕ → Option ℕ
most_before kind what from =
    if from == 0 then Some (times_at_first what) else (if may_count_from kind then Some 1 else None)

-- The content was taken away from a number on more often than it was there before and was set.
pub record IsOverdrawn (kind : Kind) (count : Count) (calls : List Call) : Type 0 where
  pub most : ℕ
  pub before : most_before kind count.counted count.from ≡ Some most
  pub more : most + set_since count.counted count.from calls
      < taken_since count.counted count.from calls
