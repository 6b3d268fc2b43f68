-- A value that definitely is not in a queue, stack or heap before some number of a map: at least as
-- many removals of it had returned by then as puts of it were invoked. What was done with it before
-- has no part in what is done with it later.
use Rattle.std.specs.Prelude.{◌≡◌, ◌≤◌, ℕ, ℤ, nat_lt, Bool, not, ◌&&◌, ◌||◌, List, count_by, filter}
use Rattle.std.specs.Ordering.{int_eq}
use Rattle.model.specs.Orders.{Call}
use Rattle.cuts.specs.Parts.{reply_of, takes_out, ended_before}
use Rattle.cuts.specs.Kinds.Containers.{puts_in}

-- whether a call puts in the value, and was invoked before this number
abbrev pub is_put_before : ℤ → ℕ → Call → Bool
is_put_before v number e = puts_in (int_eq v) e.op && nat_lt e.number number

-- whether a call took out the value, and returned before this number
abbrev pub is_taken_before : ℤ → ℕ → Call → Bool
is_taken_before v number e =
    takes_out (int_eq v) e.op (reply_of e.returned) && ended_before number e.returned

-- At least as many calls took out the value and returned before this number as calls put it in and
-- were invoked before it.
pub record IsAbsent (v : ℤ) (number : ℕ) (calls : List Call) : Type 0 where
  pub taken : count_by (is_put_before v number) calls ≤ count_by (is_taken_before v number) calls

-- the calls except two sorts: those that put in the value and were invoked before this number, and
-- those that took it out and returned before it
abbrev pub calls_without : ℤ → ℕ → List Call → List Call
calls_without v number calls =
    filter (λ e. not (is_put_before v number e || is_taken_before v number e)) calls

-- The value definitely was absent before this number, and the part is the calls without those that
-- had put it in or taken it out by then.
abbrev pub IsWithout : ℤ → ℕ → List Call → List Call → Type 0
IsWithout v number calls part = IsAbsent v number calls × (part ≡ calls_without v number calls)
