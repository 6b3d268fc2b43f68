use Rattle.std.proofs.Common.{◌≡◌}
use Rattle.combiner_tests.proofs.serving.serve_twice.Given as goal

abbrev pub invariant-loop : goal.invariant-loop
invariant-loop g l = (goal.iterator-loop g).can_next l.iterator' × (goal.iterator-loop g).is_finite l.iterator'
    × (l.pass.desk ≡ l.initial.pass.desk)
