use Rattle.std.proofs.Common.{◌≡◌, ℕ, List, ◌++◌, drop, false}
use Rattle.std.specs.Io.KnownBytes.{Appends}
use Rattle.report.specs.Lines.{kind_lines}
use Rattle.report.proofs.writing.write_kinds.Given as goal

abbrev pub invariant-loop-kind : goal.invariant-loop-kind
invariant-loop-kind g l = record {
  usable : g.S.Sink.broken l.sink ≡ false;
  done : List ℕ;
  parts : kind_lines l.commented l.kinds ≡ done ++ kind_lines l.commented (drop l.kind-index l.kinds);
  sent : Appends (g.S.Sink.sent l.initial.sink) (g.S.Sink.sent l.sink) done;
}
