-- What becomes of a call: the part leaves it out, or it becomes a call of another operation, with
-- the same numbers.
use Rattle.std.specs.Prelude.{ℕ, Option, Some, None, option_map}
use Rattle.model.specs.declared.AnyOp.{AnyOp}
use Rattle.model.specs.declared.AnyReply.{AnyReply}
use Rattle.model.specs.Orders.{Call, Return}
use Rattle.cuts.specs.Parts.{pending_call, returned_call}

-- `done` says what an operation with this reply becomes, and `pending` what a pending one becomes
abbrev pub recast : (AnyOp → AnyReply → Option (AnyOp × AnyReply)) → (AnyOp → Option AnyOp)
    → ℕ → AnyOp → Option Return → Option Call
recast done pending number op None = option_map (pending_call number) (pending op)
recast done pending number op (Some r) =
    option_map (returned_call number r.at) (done op r.reply)
