use Rattle.std.proofs.Common.{◌≡◌, take}
use Rattle.std.specs.List.{AllByRecursion}
use Rattle.refutation.specs.Lines.{reason_lines}
use Rattle.refutation.specs.Written.{IsWritten}
use Rattle.refutation.proofs.writer.reason_lines.Given as goal

abbrev pub invariant-loop-reason : goal.invariant-loop-reason
invariant-loop-reason l = record {
  made : l.text.items ≡ reason_lines (take l.reason-index l.reasons);
  written : AllByRecursion IsWritten (take l.reason-index l.reasons);
}
