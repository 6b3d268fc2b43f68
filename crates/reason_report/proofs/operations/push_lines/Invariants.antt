use Rattle.std.proofs.Common.{◌≡◌, ◌++◌, drop}
use Rattle.reason_report.specs.Operations.{operations_text}
use Rattle.reason_report.proofs.operations.push_lines.Given as goal

abbrev pub invariant-loop-operation : goal.invariant-loop-operation
invariant-loop-operation l =
    l.text.items ++ operations_text l.commented l.events (drop l.operation-index l.operations)
    ≡ l.initial.text.items ++ operations_text l.commented l.events l.operations
