-- One cell of an object, as a register of which the part keeps some contents. All others are one
-- other value, so that a call that shows another content can stay as a write of it.
use Rattle.std.specs.Prelude.{ℕ, ℤ, Bool, false, List, Option, Some, None, option_map}
use Rattle.std.specs.Prelude.{if◌then◌else◌}
use Rattle.std.specs.List.{filter_map}
use Rattle.model.specs.declared.AnyOp.{AnyOp}
use Rattle.model.specs.declared.AnyReply.{AnyReply}
use Rattle.model.specs.Orders.{Call}
use Rattle.cuts.specs.declared.kinds.CellId.{CellId}
use Rattle.cuts.specs.declared.kinds.CellId.TheVariants.{OfRegister, OfKey}
use Rattle.cuts.specs.declared.touches.Need.{Need}
use Rattle.cuts.specs.declared.touches.Need.TheVariants.{Any, Is}
use Rattle.cuts.specs.declared.touches.Leave.{Leave}
use Rattle.cuts.specs.declared.touches.Leave.TheVariants.{AsItWas, Content}
use Rattle.cuts.specs.declared.touches.Touch.{Touch}
use Rattle.cuts.specs.Kinds.{keeps_none, own_call, touch_at}
use Rattle.cuts.specs.Kinds.Register.{setting, replacing, finding}
use Rattle.cuts.specs.Recasts.{recast}

-- whether the part keeps this content; `none` says whether it keeps having no value
abbrev pub keeps_content : Bool → (ℤ → Bool) → Option ℤ → Bool
keeps_content none keeps None = none
keeps_content none keeps (Some v) = keeps v

-- The call that a touch becomes, if it leaves this content in the part. What the call found stays
-- known only if it is kept. If all that the call names is kept, and the call is one of a register,
-- it stays as it is (`own`).
abbrev pub change : (Option ℤ → Bool) → Option (AnyOp × AnyReply) → Need → Option ℤ
    → AnyOp × AnyReply
change keeps (Some own) Any c = own
change keeps (Some own) (Is found) c = if keeps found then own else setting c
change keeps None (Is found) c = if keeps found then replacing found c else setting c
change keeps own need c = setting c

-- What a touch becomes, as a call of a register. One that leaves a kept content stays. Of the
-- others those stay that the part chooses (`kept`). One that leaves another content leaves the
-- other value. One that finds a content and leaves it stays as a read if the content is kept,
-- and becomes a write of the other value if it is not.
abbrev pub cut_touch : (Option ℤ → Bool) → ℤ → Bool → Option (AnyOp × AnyReply) → Need → Leave
    → Option (AnyOp × AnyReply)
cut_touch keeps other kept own need (Content c) =
    if keeps c then Some (change keeps own need c)
    else (if kept then Some (change keeps None need (Some other)) else None)
cut_touch keeps other kept own (Is c) AsItWas =
    if kept then (if keeps c then Some (finding c) else Some (setting (Some other))) else None
cut_touch keeps other kept own need AsItWas = None

-- what an operation that returned becomes, by what it did to the cell
abbrev pub touched_call : (Option ℤ → Bool) → ℤ → Bool → Option (AnyOp × AnyReply) → Option Touch
    → Option (AnyOp × AnyReply)
touched_call keeps other kept own None = None
touched_call keeps other kept own (Some t) = cut_touch keeps other kept own t.need t.leave

-- what a pending operation becomes: it stays only if it can leave a kept content
abbrev pub touched_op : (Option ℤ → Bool) → ℤ → Option Touch → Option AnyOp
touched_op keeps other t =
    option_map (λ (f : AnyOp × AnyReply). f.0) (touched_call keeps other false None t)

-- ---- calls

-- what an operation that returned becomes, as a call of a register, in the part at this cell;
-- `None`: the part leaves it out
abbrev pub done_at : CellId → (ℤ → Bool) → ℤ → Bool → AnyOp → AnyReply → Option (AnyOp × AnyReply)
done_at place keeps other kept op reply =
    touched_call (keeps_content (keeps_none place) keeps) other kept (own_call place op reply)
    (touch_at place op (Some reply))

-- what a pending operation becomes in the part at this cell: it stays only if it can leave a kept
-- content
abbrev pub opened_at : CellId → (ℤ → Bool) → ℤ → AnyOp → Option AnyOp
opened_at place keeps other op =
    touched_op (keeps_content (keeps_none place) keeps) other (touch_at place op None)

-- what a call becomes, as one of a register, in the part at this cell; `None`: the part leaves it
-- out
abbrev pub call_at : CellId → (ℤ → Bool) → ℤ → (ℕ → Bool) → Call → Option Call
call_at place keeps other kept e = recast (done_at place keeps other (kept e.number))
    (opened_at place keeps other) e.number e.op e.returned

-- The part of these calls at one cell of the object, as calls of a register. It keeps these values
-- of the cell, and has one other value in place of all others.
abbrev pub calls_at : CellId → (ℤ → Bool) → ℤ → (ℕ → Bool) → List Call → List Call
calls_at place keeps other kept calls = filter_map (call_at place keeps other kept) calls

-- The part of a register's calls that keeps some values, and "no value", and has one other value in
-- place of all others.
abbrev pub cell_calls : (ℤ → Bool) → ℤ → (ℕ → Bool) → List Call → List Call
cell_calls keeps other kept calls = calls_at OfRegister keeps other kept calls

-- The part of a map's calls on one key, as calls of a register, that keeps some values. No value,
-- and all values that are not kept, are the other value.
abbrev pub entry_calls : ℤ → (ℤ → Bool) → ℤ → (ℕ → Bool) → List Call → List Call
entry_calls key keeps other kept calls = calls_at (OfKey key) keeps other kept calls
