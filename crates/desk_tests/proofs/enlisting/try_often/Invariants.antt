use Rattle.std.proofs.Common.{◌≡◌}
use Rattle.desk_tests.proofs.enlisting.try_often.Given as goal

abbrev pub invariant-loop : goal.invariant-loop
invariant-loop l = l.place.roster ≡ l.fn.roster.id
