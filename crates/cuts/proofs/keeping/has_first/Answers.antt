use Rattle.std.proofs.Common.{sym, ◌∙◌}
use Rattle.cuts.specs.Cuts.{keeps_number}
use Rattle.cuts.proofs.Kept.{one_missing}
use Rattle.cuts.proofs.keeping.has_first.Goals as goal

pub returns-then-not-contains : goal.returns-then-not-contains
returns-then-not-contains c =
    one_missing (keeps_number c.args.numbers.now) c.args.most c.loop-operation.left c.loop-operation.operation-index
    c.args.operations.now _ c.loop-operation-test.true c.loop-operation.invariant
    (sym c.is_pending_removal.ensures ∙ c.if-is_pending_removal.true)
    c.if-left-gt0.true (sym c.contains.ensures ∙ c.if-not-contains.true)
