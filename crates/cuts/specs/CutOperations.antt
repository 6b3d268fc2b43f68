-- What becomes of one operation of an object, failed ones too. The code works on these.
use Rattle.std.specs.Prelude.{◌≡◌, ◌==◌, ◌⊎◌, ℕ, ℤ, nat_lt, min, Bool, true, false, not, ◌&&◌}
use Rattle.std.specs.Prelude.{List, [], ◌∷◌, Contains, ◌-◌, ◌||◌, if◌then◌else◌}
use Rattle.std.specs.Prelude.{Option, Some, None, option_map}
use Rattle.std.specs.Option.{option_map_or}
use Rattle.std.specs.List.{find, list_all}
use Rattle.std.specs.Ordering.{int_eq}
use Rattle.model.specs.declared.AnyOp.{AnyOp}
use Rattle.model.specs.declared.AnyReply.{AnyReply}
use Rattle.events.specs.declared.operations.End.{End}
use Rattle.events.specs.declared.operations.End.TheVariants.{Returned, Pending, Failed}
use Rattle.events.specs.declared.operations.Operation.{Operation}
use Rattle.cuts.specs.declared.counting.Counted.{Counted}
use Rattle.cuts.specs.Ahead.{found_in}
use Rattle.cuts.specs.Kinds.Counting.{sets, takes}
use Rattle.cuts.specs.declared.kinds.CellId.{CellId}
use Rattle.cuts.specs.Cells.{done_at, opened_at}
use Rattle.cuts.specs.Kinds.Register.{setting}
use Rattle.cuts.specs.Parts.{takes_out, written_before}
use Rattle.cuts.specs.Kinds.Keeping.{fits}
use Rattle.cuts.specs.Kinds.Containers.{puts_in, is_removal, takes_first, takes_last}
use Rattle.cuts.specs.Kinds.Starts.{key_of}

-- whether an operation failed, by how it ended
abbrev pub has_failed : End → Bool
has_failed (Returned at reply) = false
has_failed Pending = false
has_failed Failed = true

-- ---- projection

-- whether an operation may be kept, or left out; a failed one may be either
abbrev pub op_fits : Bool → (ℤ → Bool) → Bool → AnyOp → End → Bool
op_fits all keeps kept op (Returned at reply) = fits all keeps kept op (Some reply)
op_fits all keeps kept op Pending = fits all keeps kept op None
op_fits all keeps kept op Failed = true

-- whether an operation is a removal that is pending; one that failed is not
abbrev pub is_open_removal : AnyOp → End → Bool
is_open_removal op (Returned at reply) = false
is_open_removal op Pending = is_removal op
is_open_removal op Failed = false

-- the operation did not fail, and its number is kept
abbrev pub is_kept_call : (ℕ → Bool) → Operation → Bool
is_kept_call kept o = not (has_failed o.«end») && kept o.number

-- whether the first pending removals, this many, are kept
abbrev pub keeps_first : (ℕ → Bool) → ℕ → List Operation → Bool
keeps_first kept most [] = true
keeps_first kept most (o ∷ ops) =
    if is_open_removal o.op o.«end»
    then (most == 0 || kept o.number) && keeps_first kept (most - 1) ops
    else keeps_first kept most ops

-- whether an operation that did not fail puts in a kept value
abbrev pub is_put : (ℤ → Bool) → AnyOp → End → Bool
is_put keeps op (Returned at reply) = puts_in keeps op
is_put keeps op Pending = puts_in keeps op
is_put keeps op Failed = false

-- whether an operation returned a kept value that it took out
abbrev pub is_taken : (ℤ → Bool) → AnyOp → End → Bool
is_taken keeps op (Returned at reply) = takes_out keeps op (Some reply)
is_taken keeps op Pending = false
is_taken keeps op Failed = false

-- ---- a prefix

-- how an operation ends in a prefix: it is pending if it had not returned before this number
abbrev pub end_before : ℕ → End → End
end_before until (Returned at reply) = if nat_lt at until then Returned at reply else Pending
end_before until Pending = Pending
end_before until Failed = Failed

-- what an operation becomes in the prefix up to this number; `None`: it failed, or was not invoked
-- before this number
abbrev pub operation_before : ℕ → Operation → Option Operation
operation_before until o =
    if has_failed o.«end» then None
    else (if nat_lt o.number until
    then Some (record { number = o.number; op = o.op; «end» = end_before until o.«end» })
    else None)

-- ---- a value that is absent

-- whether an operation that did not fail puts in the value, and was invoked before this number
abbrev pub op_is_put_before : ℤ → ℕ → ℕ → AnyOp → End → Bool
op_is_put_before v before number op (Returned at reply) =
    puts_in (int_eq v) op && nat_lt number before
op_is_put_before v before number op Pending = puts_in (int_eq v) op && nat_lt number before
op_is_put_before v before number op Failed = false

-- whether an operation took out the value, and returned before this number
abbrev pub op_is_taken_before : ℤ → ℕ → AnyOp → End → Bool
op_is_taken_before v before op (Returned at reply) =
    takes_out (int_eq v) op (Some reply) && nat_lt at before
op_is_taken_before v before op Pending = false
op_is_taken_before v before op Failed = false

-- whether an operation put in the value and was invoked before this number, or took it out and
-- returned before it
abbrev pub is_cut_out : ℤ → ℕ → Operation → Bool
is_cut_out v before o =
    op_is_put_before v before o.number o.op o.«end» || op_is_taken_before v before o.op o.«end»

-- whether an operation did not fail, and did neither of these before this number: put in the value,
-- or take it out
abbrev pub stays : ℤ → ℕ → Operation → Bool
stays v before o = not (has_failed o.«end») && not (is_cut_out v before o)

-- ---- a suffix

-- the operation failed, or it is on this key (`None`: it has no key)
abbrev pub IsOnKey : Option ℤ → Operation → Type 0
IsOnKey key o = (has_failed o.«end» ≡ true) ⊎ (key_of o.op ≡ key)

-- whether an operation returned before this number
abbrev pub is_over : ℕ → End → Bool
is_over from (Returned at reply) = nat_lt at from
is_over from Pending = false
is_over from Failed = false

-- a write of this value, invoked at the first number and returned at the second
abbrev pub as_write : ℕ → ℕ → ℤ → Operation
as_write number at v =
    record { number = number; op = (setting (Some v)).0; «end» = Returned at (setting (Some v)).1 }

-- a pending operation
abbrev pub as_pending : ℕ → AnyOp → Operation
as_pending number op = record { number = number; op = op; «end» = Pending }

-- an operation that overlaps the first one: if that left a value, a write or a swap that was not
-- refused is a write, and any other is pending
abbrev pub overlapping_operation : Option (AnyOp × AnyReply) → ℕ → AnyOp → End → Operation
overlapping_operation first number op (Returned at reply) =
    option_map_or (as_write number at) (written_before first op reply) (as_pending number op)
overlapping_operation first number op Pending = as_pending number op
overlapping_operation first number op Failed = as_pending number op

-- what an operation of a suffix becomes: it stays as it is if it was invoked after `at`, where the
-- suffix's first operation returned
abbrev pub operation_later : Option (AnyOp × AnyReply) → ℕ → Operation → Operation
operation_later first at o =
    if nat_lt at o.number then o else overlapping_operation first o.number o.op o.«end»

-- an operation with this reply, invoked at the first number and returned at the second
abbrev pub as_returned : ℕ → ℕ → AnyOp × AnyReply → Operation
as_returned from at first =
    record { number = from; op = first.0; «end» = Returned at first.1 }

-- what an operation becomes in the suffix that begins with the operation `from`; `None`: it failed,
-- or the suffix leaves it out
abbrev pub operation_from : ℕ → ℕ → Option (AnyOp × AnyReply) → Operation → Option Operation
operation_from from at first o =
    if has_failed o.«end» then None
    else (if o.number == from then option_map (as_returned from at) first
    else (if is_over from o.«end» then None else Some (operation_later first at o)))

-- ---- counts

-- whether an operation that did not fail sets the content, and had not returned before this number
abbrev pub is_set : Counted → ℕ → AnyOp → End → Bool
is_set what from op (Returned at reply) = sets what op (Some reply) && not (nat_lt at from)
is_set what from op Pending = sets what op None
is_set what from op Failed = false

-- whether an operation that was invoked at this number or later took the content away
abbrev pub is_gone : Counted → ℕ → ℕ → AnyOp → End → Bool
is_gone what from number op (Returned at reply) =
    takes what op (Some reply) && not (nat_lt number from)
is_gone what from number op Pending = false
is_gone what from number op Failed = false

-- ---- what was ahead of what a removal found

-- the number of the return of a removal, and what it found: a value, or nothing; `None` of any
-- other operation, and of a removal that is pending or failed
abbrev pub op_found : AnyOp → End → Option (ℕ × Option ℤ)
op_found op (Returned at reply) = if is_removal op then found_in at reply else None
op_found op Pending = None
op_found op Failed = None

-- the number of the first operation that did not fail and puts in the value; 0: there is none
abbrev pub op_first_put : ℤ → List Operation → ℕ
op_first_put v ops = option_map_or (λ (o : Operation). o.number)
    (find (λ o. is_put (int_eq v) o.op o.«end») ops) 0

-- The number before which a put must have returned to count: the removal's own, or, if the removal
-- found a value in a queue, the number of the first put of this value if that is less.
abbrev pub op_ahead_before : Option ℤ → AnyOp → ℕ → List Operation → ℕ
op_ahead_before None op number ops = number
op_ahead_before (Some b) op number ops =
    if takes_first op then min number (op_first_put b ops) else number

-- whether an operation put in one of these values, was invoked at the first number or later, and
-- returned before the second
abbrev pub op_is_put_ahead : (ℤ → Bool) → ℕ → ℕ → ℕ → AnyOp → End → Bool
op_is_put_ahead keeps from before number op (Returned at reply) =
    puts_in keeps op && (nat_lt at before && not (nat_lt number from))
op_is_put_ahead keeps from before number op Pending = false
op_is_put_ahead keeps from before number op Failed = false

-- whether an operation failed, or puts in another value, or returned before this number
abbrev pub op_is_settled : ℤ → ℕ → Operation → Bool
op_is_settled b from o = not (is_put (int_eq b) o.op o.«end») || is_over from o.«end»

-- If a removal found a value in a stack: whether each put of this value returned before this
-- number. Otherwise it is true.
abbrev pub op_are_settled : Option ℤ → AnyOp → ℕ → List Operation → Bool
op_are_settled None op from ops = true
op_are_settled (Some b) op from ops =
    if takes_last op then list_all (op_is_settled b from) ops else true

-- whether an operation took out one of these values, or is a pending removal
abbrev pub op_may_take : (ℤ → Bool) → AnyOp → End → Bool
op_may_take keeps op (Returned at reply) = takes_out keeps op (Some reply)
op_may_take keeps op Pending = is_removal op
op_may_take keeps op Failed = false

-- whether another operation than the removal of this number took out one of these values, or may
-- have, and was not invoked after `at`, where the removal returned
abbrev pub op_may_precede : (ℤ → Bool) → ℕ → ℕ → Operation → Bool
op_may_precede keeps number at o =
    op_may_take keeps o.op o.«end» && not (o.number == number || nat_lt at o.number)

-- the operation of this number is a removal that returned at `at`, and this is what it found
pub record IsRemoval (ops : List Operation) (number : ℕ) (op : AnyOp) (at : ℕ)
    (found : Option ℤ) : Type 0 where
  pub operation : Operation
  pub known : Contains ops operation
  pub named : operation.number ≡ number
  pub same : operation.op ≡ op
  pub told : op_found op operation.«end» ≡ Some (at, found)

-- ---- cells

-- what an operation becomes if one that returned becomes what `done` says, and a pending one what
-- `pending` says; `None`: it failed, or the part leaves it out
abbrev pub op_recast : (AnyOp → AnyReply → Option (AnyOp × AnyReply)) → (AnyOp → Option AnyOp)
    → ℕ → AnyOp → End → Option Operation
op_recast done pending number op (Returned at reply) =
    option_map (as_returned number at) (done op reply)
op_recast done pending number op Pending = option_map (as_pending number) (pending op)
op_recast done pending number op Failed = None

-- what an operation becomes in the part at this cell; `None`: it failed, or the part leaves it out
abbrev pub operation_at : CellId → (ℤ → Bool) → ℤ → (ℕ → Bool) → Operation → Option Operation
operation_at place keeps other kept o = op_recast (done_at place keeps other (kept o.number))
    (opened_at place keeps other) o.number o.op o.«end»
