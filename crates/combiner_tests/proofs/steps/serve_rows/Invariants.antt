use Rattle.std.proofs.Common.{◌≡◌}
use Rattle.combiner_tests.proofs.steps.serve_rows.Given as goal

abbrev pub invariant-loop-row : goal.invariant-loop-row
invariant-loop-row l = l.pass.desk ≡ l.initial.pass.desk
