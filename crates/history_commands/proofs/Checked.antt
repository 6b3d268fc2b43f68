-- The status of the lines of a verdict tells which verdict it is: no other verdict gives a yes.
use Rattle.std.proofs.Common.{arith, ◌≡◌, ◌≢◌, ◌∙◌, ℕ, List, sym}
use Rattle.checker.specs.declared.refusal.Refusal.{Refusal}
use Rattle.report.specs.declared.verdict.Verdict.{Verdict}
use Rattle.report.specs.declared.verdict.Verdict.TheVariants.{Yes, No}
use Rattle.reading.specs.Texts.{IsLinearizableText}
use Rattle.text_check.specs.Verdicts.{IsJudgement, OnYes}
use Rattle.history_commands.specs.Checked.{IsCheck}
use Rattle.history_commands.specs.Outputs.{IsVerdictOutput, status_of}
use Rattle.history_commands.specs.declared.status.Status.{Status}
use Rattle.history_commands.specs.declared.status.Status.TheVariants as status_is

refusal_is_no_yes : (r : Refusal) → status_of (No r) ≢ status_is.Yes
refusal_is_no_yes r e = grind arith

yes_shows : (P : Type 0) (v : Verdict) → OnYes v P → status_of v ≡ status_is.Yes → P
yes_shows P (Yes s) p e = p
yes_shows P (No r) p e = absurd (refusal_is_no_yes r e)
yes_shows P v p e = absurd cc

-- the output of a verdict that holds is that of a check
pub is_check : (h c : List ℕ) (status : Status) (out : List ℕ) → IsVerdictOutput (IsJudgement h c) status out
    → IsCheck h c status out
is_check h c status out k =
    record { output = k; linearizable = λ e. yes_shows (IsLinearizableText h) k.0 k.1.linearizable (sym k.2 ∙ e) }
