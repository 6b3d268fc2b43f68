-- Parts of the calls of an object. If the calls have a valid order, the part has one.
use Rattle.std.specs.Prelude.{◌≡◌, ◌==◌, ◌≤◌, ◌+◌, ℕ, ℤ, nat_lt, Bool, true, false, not, ◌&&◌, List}
use Rattle.std.specs.Prelude.{All, Contains, map, filter, count_by, if◌then◌else◌, Option, Some}
use Rattle.std.specs.Prelude.{None, is_some, option_map}
use Rattle.std.specs.Option.{option_map_or}
use Rattle.std.specs.List.{filter_map}
use Rattle.model.specs.declared.AnyOp.{AnyOp}
use Rattle.model.specs.declared.AnyReply.{AnyReply}
use Rattle.model.specs.declared.AnyReply.TheVariants.{Value}
use Rattle.model.specs.Orders.{Call, Return}
use Rattle.cuts.specs.Kinds.Register.{setting}
use Rattle.cuts.specs.Kinds.Keeping.{fits}
use Rattle.cuts.specs.Kinds.Containers.{puts_in, is_removal}
use Rattle.cuts.specs.Kinds.Starts.{key_of, leaves, written}

-- ---- Projection: the part keeps some calls, chosen by their values, or by their keys.

-- the reply with which a call returned; `None` of a pending call
abbrev pub reply_of : Option Return → Option AnyReply
reply_of None = None
reply_of (Some r) = Some r.reply

-- whether a reply is a value, and this value is kept
abbrev pub is_kept_value : (ℤ → Bool) → Option AnyReply → Bool
is_kept_value keeps (Some (Value (Some v))) = keeps v
is_kept_value keeps reply = false

-- whether an operation took out a kept value
abbrev pub takes_out : (ℤ → Bool) → AnyOp → Option AnyReply → Bool
takes_out keeps op reply = is_removal op && is_kept_value keeps reply

-- how many calls put in a kept value, pending calls too
abbrev pub put_count : (ℤ → Bool) → List Call → ℕ
put_count keeps calls = count_by (λ e. puts_in keeps e.op) calls

-- how many calls returned a kept value that they took out
abbrev pub taken_count : (ℤ → Bool) → List Call → ℕ
taken_count keeps calls = count_by (λ e. takes_out keeps e.op (reply_of e.returned)) calls

-- whether an operation is a removal (`is_removal`) that has not returned
abbrev pub is_pending_removal : AnyOp → Option Return → Bool
is_pending_removal op returned = is_removal op && not (is_some returned)

-- how many pending removals were invoked before this number
abbrev pub pending_before : ℕ → List Call → ℕ
pending_before number calls =
    count_by (λ e. is_pending_removal e.op e.returned && nat_lt e.number number) calls

-- The part that keeps these values, and the calls with these numbers, is closed.
pub record IsClosed (all : Bool) (keeps : ℤ → Bool) (kept : ℕ → Bool)
    (calls : List Call) : Type 0 where
  -- `all` may say that all values are kept only if they are.
  pub every : all ≡ true → (v : ℤ) → keeps v ≡ true
  -- Each call is kept or left out as its operation and its reply allow (`fits`).
  pub each : All (λ e. fits all keeps (kept e.number) e.op (reply_of e.returned) ≡ true) calls
  -- A pending removal may have taken any value. The part leaves it out only if as many kept values
  -- were taken out, or can be by the pending removals that were invoked before it, as can have been
  -- put in.
  pub pending : All (λ e. is_pending_removal e.op e.returned ≡ true → kept e.number ≡ false
      → put_count keeps calls ≤ taken_count keeps calls + pending_before e.number calls) calls

-- the calls whose numbers are kept
abbrev pub kept_calls : (ℕ → Bool) → List Call → List Call
kept_calls kept calls = filter (λ e. kept e.number) calls

-- ---- A prefix: what was invoked before a number. A call that had not returned by then is pending.

-- the return of a call if its number is below this one; otherwise `None`: the call is pending
abbrev pub return_before : ℕ → Option Return → Option Return
return_before until None = None
return_before until (Some r) = if nat_lt r.at until then Some r else None

-- the call as it is in a prefix: pending if it had not returned before this number
abbrev pub call_before : ℕ → Call → Call
call_before until e =
    record { number = e.number; op = e.op; returned = return_before until e.returned }

-- the prefix of these calls: those that were invoked before this number, pending if they had not
-- returned by then
abbrev pub calls_before : ℕ → List Call → List Call
calls_before until calls = map (call_before until) (filter (λ e. nat_lt e.number until) calls)

-- ---- A suffix: what can take effect from a call on that tells what the object then contains.

-- A suffix may begin with the call of this number. It returned at `at`, and leaves what `first`
-- leaves. At a map each call is on its key, and at a set on its element.
pub record IsStart (calls : List Call) (from at : ℕ)
    (first : Option (AnyOp × AnyReply)) : Type 0 where
  pub call : Call
  pub known : Contains calls call
  pub number : call.number ≡ from
  pub reply : AnyReply
  pub returned : call.returned ≡ Some (record { at = at; reply = reply })
  pub told : leaves call.op reply ≡ Some first
  pub one_key : All (λ e. key_of e.op ≡ key_of call.op) calls

-- whether a call returned before this number; a pending call did not
abbrev pub ended_before : ℕ → Option Return → Bool
ended_before from None = false
ended_before from (Some r) = nat_lt r.at from

-- the value that a call left in a register, whatever the register contained; `None` if the suffix
-- begins with no operation
abbrev pub written_before : Option (AnyOp × AnyReply) → AnyOp → AnyReply → Option ℤ
written_before None op reply = None
written_before (Some first) op reply = written op reply

-- a write of this value, invoked at the first number and returned at the second
abbrev pub write_call : ℕ → ℕ → ℤ → Call
write_call number at v = record {
  number = number;
  op = (setting (Some v)).0;
  returned = Some (record { at = at; reply = (setting (Some v)).1 });
}

-- a pending call of this operation
abbrev pub pending_call : ℕ → AnyOp → Call
pending_call number op = record { number = number; op = op; returned = None }

-- A call that overlaps the first one can have taken effect before it. If the first one left a
-- value, a write becomes a write, and so does a swap that was not refused: it may also take effect
-- before the first one. Any other call becomes pending, so that it may be left out.
abbrev pub overlapping : Option (AnyOp × AnyReply) → ℕ → AnyOp → Option Return → Call
overlapping first number op None = pending_call number op
overlapping first number op (Some r) =
    option_map_or (write_call number r.at) (written_before first op r.reply)
    (pending_call number op)

-- what a call of a suffix becomes: it stays as it is if it was invoked after `at`, where the
-- suffix's first call returned, and otherwise it overlaps the first call
abbrev pub call_later : Option (AnyOp × AnyReply) → ℕ → Call → Call
call_later first at e = if nat_lt at e.number then e else overlapping first e.number e.op e.returned

-- a call with this operation and this reply, invoked at the first number and returned at the second
abbrev pub returned_call : ℕ → ℕ → AnyOp × AnyReply → Call
returned_call from at first = record {
  number = from;
  op = first.0;
  returned = Some (record { at = at; reply = first.1 });
}

-- What a call becomes in the suffix that begins with the call `from`: that call becomes `first`, or
-- is left out if it left nothing (`None`). A call that returned before `from` is left out.
abbrev pub call_from : ℕ → ℕ → Option (AnyOp × AnyReply) → Call → Option Call
call_from from at first e =
    if e.number == from then option_map (returned_call from at) first
    else (if ended_before from e.returned then None else Some (call_later first at e))

-- The suffix of these calls that begins with the call `from`, which returned at `at`. That call
-- becomes `first`, or is left out if it left nothing (`None`).
abbrev pub calls_from : ℕ → ℕ → Option (AnyOp × AnyReply) → List Call → List Call
calls_from from at first calls = filter_map (call_from from at first) calls
