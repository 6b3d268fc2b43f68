use Rattle.reason_report.proofs.SegmentsLeft.{segment_pushed, segments_left}
use Rattle.reason_report.proofs.segments.push_segments.Goals as goal

pub loop-segment-preserved : goal.loop-segment-preserved
loop-segment-preserved c =
    let l = c.loop-segment in
    segment_pushed _ _ _ _ _ _ c.in_ok-push_segment.ensures
    (segments_left c.args.segments.now l.segment-index _ c.loop-segment-test.true) l.invariant
