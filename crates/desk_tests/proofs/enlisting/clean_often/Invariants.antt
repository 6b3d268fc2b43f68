use Rattle.std.proofs.Common.{◌≡◌}
use Rattle.desk_tests.proofs.enlisting.clean_often.Given as goal

abbrev pub invariant-loop : goal.invariant-loop
invariant-loop l = l.walker.roster ≡ l.fn.roster.id
