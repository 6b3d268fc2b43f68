use Rattle.std.proofs.Common.{◌≡◌, ℕ, List, ◌++◌, drop, false}
use Rattle.std.specs.Io.KnownBytes.{Appends}
use Rattle.report.specs.Segments.{segments_text}
use Rattle.report.proofs.segments.write_segments.Given as goal

abbrev pub invariant-loop-segment : goal.invariant-loop-segment
invariant-loop-segment g l = record {
  usable : g.S.Sink.broken l.sink ≡ false;
  done : List ℕ;
  parts : segments_text l.segments ≡ done ++ segments_text (drop l.segment-index l.segments);
  sent : Appends (g.S.Sink.sent l.initial.sink) (g.S.Sink.sent l.sink) done;
}
