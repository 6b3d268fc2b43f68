use Rattle.std.proofs.Common.{◌≡◌, ◌++◌, length}
use Rattle.history_commands.specs.Outputs.{lines_on}
use Rattle.history_commands.proofs.answers.text_of.Given as goal

abbrev pub invariant-answers : goal.invariant-answers
invariant-answers g l =
    let line = g.A.Answer.lines l.fn.history in l.text.items ++ lines_on line l.rest ≡ lines_on line l.answers

abbrev pub decreases-answers : goal.decreases-answers
decreases-answers g l = length l.rest
