-- What definitely was ahead of what a removal found: these values must have been taken out before
-- it.
use Rattle.std.specs.Prelude.{◌≡◌, ◌==◌, ◌<◌, ℕ, ℤ, nat_lt, min, Bool, true, not, ◌&&◌, ◌||◌, List}
use Rattle.std.specs.Prelude.{Contains, count_by, if◌then◌else◌, Option, Some, None}
use Rattle.std.specs.Option.{option_map_or}
use Rattle.std.specs.List.{find, list_all}
use Rattle.std.specs.Ordering.{int_eq}
use Rattle.model.specs.declared.AnyOp.{AnyOp}
use Rattle.model.specs.declared.AnyReply.{AnyReply}
use Rattle.model.specs.declared.AnyReply.TheVariants.{Value}
use Rattle.model.specs.Orders.{Call, Return}
use Rattle.cuts.specs.Parts.{reply_of, takes_out, ended_before}
use Rattle.cuts.specs.Kinds.Containers.{puts_in, is_removal, is_value_ahead}
use Rattle.cuts.specs.Kinds.Containers.{takes_first, takes_last}

-- what a reply shows, with the number of its response
abbrev pub found_in : ℕ → AnyReply → Option (ℕ × Option ℤ)
found_in at (Value found) = Some (at, found)
found_in at reply = None

-- the number of the response of a removal that returned, and what it found: a value, or nothing
abbrev pub found_by : AnyOp → Option Return → Option (ℕ × Option ℤ)
found_by op None = None
found_by op (Some r) = if is_removal op then found_in r.at r.reply else None

-- The number of the first call that puts in the value; 0: there is none. Then no put counts, since
-- no call returned before the number 0.
abbrev pub first_put : ℤ → List Call → ℕ
first_put v calls =
    option_map_or (λ (e : Call). e.number) (find (λ e. puts_in (int_eq v) e.op) calls) 0

-- The number before which a put must have returned to count: the removal's own, or, if the removal
-- found a value in a queue, the number of the first put of this value if that is less.
abbrev pub ahead_before : Option ℤ → AnyOp → ℕ → List Call → ℕ
ahead_before None op number calls = number
ahead_before (Some b) op number calls =
    if takes_first op then min number (first_put b calls) else number

-- If a removal found a value in a stack, each put of this value returned before the number from
-- which on puts count.
abbrev pub are_settled : Option ℤ → AnyOp → ℕ → List Call → Bool
are_settled None op from calls = true
are_settled (Some b) op from calls =
    if takes_last op
    then list_all (λ e. not (puts_in (int_eq b) e.op) || ended_before from e.returned) calls
    else true

-- whether a call put in one of these values, was invoked at the first number or later, and returned
-- before the second
abbrev pub is_put_ahead : (ℤ → Bool) → ℕ → ℕ → Call → Bool
is_put_ahead keeps from before e =
    puts_in keeps e.op && (ended_before before e.returned && not (nat_lt e.number from))

-- whether a call took out one of these values, or may have, since it is pending
abbrev pub may_take : (ℤ → Bool) → AnyOp → Option AnyReply → Bool
may_take keeps op None = is_removal op
may_take keeps op (Some reply) = takes_out keeps op (Some reply)

-- Whether a call took out one of these values, or may have, and may come before the removal of this
-- number, which returned at `at`: it is another call, and was not invoked after that response.
abbrev pub may_precede : (ℤ → Bool) → ℕ → ℕ → Call → Bool
may_precede keeps number at e =
    may_take keeps e.op (reply_of e.returned) && not (e.number == number || nat_lt at e.number)

-- The removal of this number is blocked: more values definitely were ahead of what it found than
-- other calls can have taken out before it. Only puts count that were invoked at the number `from`
-- or later.
pub record IsBlocked (number from : ℕ) (calls : List Call) : Type 0 where
  pub removal : Call
  pub known : Contains calls removal
  pub named : removal.number ≡ number
  pub at : ℕ
  pub found : Option ℤ
  pub told : found_by removal.op removal.returned ≡ Some (at, found)
  pub settled : are_settled found removal.op from calls ≡ true
  pub more : count_by (may_precede (is_value_ahead found removal.op) number at) calls
      < count_by (is_put_ahead (is_value_ahead found removal.op) from
      (ahead_before found removal.op number calls)) calls
