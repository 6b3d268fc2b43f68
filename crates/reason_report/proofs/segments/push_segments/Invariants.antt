use Rattle.std.proofs.Common.{◌≡◌, ◌++◌, drop}
use Rattle.reason_report.specs.Segments.{segments_text}
use Rattle.reason_report.proofs.segments.push_segments.Given as goal

abbrev pub invariant-loop-segment : goal.invariant-loop-segment
invariant-loop-segment l =
    l.text.items ++ segments_text (drop l.segment-index l.segments) ≡ l.initial.text.items ++ segments_text l.segments
