use Rattle.std.proofs.Common.{rules}
use Rattle.edn.proofs.Fronts.{within, further, fails}
use Rattle.report.specs.Segments.{segments_text}
use Rattle.report.proofs.LinesLeft.{segments_left}
use Rattle.report.proofs.segments.write_segments.Goals as goal

pub returns-in_err-write_segment : goal.returns-in_err-write_segment
returns-in_err-write_segment g c =
    let l = c.loop-segment in
    let h = c.in_err-write_segment.ensures.sent in
    let left = segments_left c.args.segments.now l.segment-index _ c.loop-segment-test.true in
    record {
      sent = fails _ _ _ _ _ (search rules)
          (within _ _ _ _ l.invariant.done _ _ _ l.invariant.parts left l.invariant.sent h.1.0) h.1.1;
    }

pub loop-segment-preserved : goal.loop-segment-preserved
loop-segment-preserved g c =
    let l = c.loop-segment in
    let h = c.in_ok-write_segment.ensures.sent.0 in
    let ps = c.args.segments.now in
    let f = further _ _ _ (segments_text ps) l.invariant.done _ _ _ l.invariant.parts
    (segments_left ps l.segment-index _ c.loop-segment-test.true) l.invariant.sent h.0 in
    record { usable = h.1; done = f.0; parts = f.1; sent = f.2 }
