-- What a check of two sources does.
use Rattle.std.specs.Prelude.{ℕ, List, Option, false}
use Rattle.std.specs.Io.KnownBytes.{Appends}
use Rattle.edn.specs.Given.{WasRead}
use Rattle.edn.specs.Sent.{WritesPrefix}
use Rattle.text_check.specs.Verdicts.{IsJudgement}
use Rattle.report.specs.Lines.{verdict_text}
use Rattle.report.specs.declared.verdict.Verdict.{Verdict}
use Rattle.reading.specs.Reads.{read_limit}

-- The texts of the history and of the certificates were read, and the verdict holds of them. What
-- their sources have left is given as it was before and after.
pub record IsVerdictOnRead (history history_left certificates certificates_left : Option (List ℕ))
    (v : Verdict) : Type 0 where
  pub first : List ℕ
  pub second : List ℕ
  pub first_read : WasRead read_limit history history_left first
  pub second_read : WasRead read_limit certificates certificates_left second
  pub holds : IsJudgement first second v

-- The verdict is on what was read of both sources, and its lines were written. What the sink was
-- sent is given as it was before and after.
abbrev pub IsJudged : Option (List ℕ) → Option (List ℕ) → Option (List ℕ) → Option (List ℕ)
    → Option (List ℕ) → Option (List ℕ) → Verdict → Type 0
IsJudged history history_left certificates certificates_left sent_before sent v =
    IsVerdictOnRead history history_left certificates certificates_left v
    × Appends sent_before sent (verdict_text false v)

-- Some verdict is on what was read of both sources, and a beginning of its lines was written.
abbrev pub IsCutOff : Option (List ℕ) → Option (List ℕ) → Option (List ℕ) → Option (List ℕ)
    → Option (List ℕ) → Option (List ℕ) → Type 0
IsCutOff history history_left certificates certificates_left sent_before sent =
    (v : Verdict) × IsVerdictOnRead history history_left certificates certificates_left v
    × WritesPrefix sent_before sent (verdict_text false v)
