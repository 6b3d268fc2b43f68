use Rattle.std.proofs.Common.{◌≡◌, ◌++◌, length}
use Rattle.std.specs.List.{AllZip}
use Rattle.refutation.specs.Refutations.{IsReasonAnswer}
use Rattle.history_commands.specs.Refuted.{refutations_text}
use Rattle.history_commands.proofs.refuting.text_of.Given as goal

abbrev pub invariant-reasons : goal.invariant-reasons
invariant-reasons l = record {
  text : l.text.items ++ refutations_text l.fn.history l.fn.steps l.reasons_left l.answers_left
      ≡ refutations_text l.fn.history l.fn.steps l.reasons l.answers;
  each : AllZip (IsReasonAnswer l.fn.history) l.reasons_left l.answers_left;
}

abbrev pub decreases-reasons : goal.decreases-reasons
decreases-reasons l = length l.reasons_left
