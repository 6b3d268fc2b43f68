-- The output of a check of a history by certificates.
use Rattle.std.specs.Prelude.{◌≡◌, ℕ, List}
use Rattle.reading.specs.Texts.{IsLinearizableText}
use Rattle.text_check.specs.Verdicts.{IsJudgement}
use Rattle.history_commands.specs.Outputs.{IsVerdictOutput}
use Rattle.history_commands.specs.declared.status.Status.{Status}
use Rattle.history_commands.specs.declared.status.Status.TheVariants.{Yes}

-- The lines of a verdict that holds of these texts. If it is a yes the history is linearizable.
pub record IsCheck (h c : List ℕ) (status : Status) (out : List ℕ) : Type 0 where
  pub output : IsVerdictOutput (IsJudgement h c) status out
  pub linearizable : status ≡ Yes → IsLinearizableText h
