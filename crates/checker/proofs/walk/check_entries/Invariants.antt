use Rattle.std.proofs.Common.{take}
use Rattle.checker.proofs.Steps.{Walk}
use Rattle.checker.proofs.walk.check_entries.Given as goal

abbrev pub invariant-loop-entry : goal.invariant-loop-entry
invariant-loop-entry g l =
    Walk l.fn.kind l.ops (take l.entry-index l.order) l.seen.items (g.S.SeqObject.content l.object) l.greatest
