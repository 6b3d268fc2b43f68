use Rattle.std.proofs.Common.{sym}
use Rattle.checker.proofs.Marks.{first_unmarked}
use Rattle.checker.proofs.walk.first_omitted.Goals as goal

pub returns-then-not-seen-k-clause-some : goal.returns-then-not-seen-k-clause-some
returns-then-not-seen-k-clause-some c =
    first_unmarked c.args.ops.now c.args.seen.now c.loop-k.k _ c.loop-k-test.true c.loop-k.invariant
    (sym c.if-has_returned.ensures) c.if-not-seen-k.true
