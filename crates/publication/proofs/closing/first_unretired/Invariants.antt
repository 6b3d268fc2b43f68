use Rattle.std.proofs.Common.{◌≡◌}
use Rattle.publication.specs.Closing.{HaveEnded, HasLearntEnds}
use Rattle.publication.proofs.closing.first_unretired.Given as goal

abbrev pub invariant-loop-client : goal.invariant-loop-client
invariant-loop-client g l =
    (l.last.desk ≡ l.initial.last.desk) × HaveEnded l.client l.last × HasLearntEnds l.initial.last l.last
