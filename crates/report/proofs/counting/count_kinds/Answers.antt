use Rattle.report.proofs.Uses.{kinds_on}
use Rattle.report.proofs.counting.count_kinds.Goals as goal

pub loop-invoked-preserved : goal.loop-invoked-preserved
loop-invoked-preserved c =
    let l = c.loop-invoked in
    let kinds = kinds_on c.args.all.now l.invoked-index _ _ _ c.loop-invoked-test.true l.invariant.kinds
    c.in_ok-note_kind.ensures.kinds in
    record { kinds = kinds; counted = c.in_ok-note_kind.ensures.counted l.invariant.counted }
