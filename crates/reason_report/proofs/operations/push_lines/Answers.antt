use Rattle.reason_report.proofs.SegmentsLeft.{segment_pushed, operations_left}
use Rattle.reason_report.proofs.operations.push_lines.Goals as goal

pub loop-operation-preserved : goal.loop-operation-preserved
loop-operation-preserved c =
    let l = c.loop-operation in
    let left = operations_left c.args.commented c.args.events.now c.args.operations.now l.operation-index _
    c.loop-operation-test.true in
    segment_pushed _ _ _ _ _ _ c.in_ok-push_operation.ensures left l.invariant
