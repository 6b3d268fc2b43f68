-- What a verdict says.
use Rattle.std.specs.Prelude.{◌≡◌, ◌≢◌, ⊤, ℕ, List, Result, IfOk, IfErr}
use Rattle.events.specs.declared.event.Event.{Event}
use Rattle.certificate.specs.declared.Certificate.{Certificate}
use Rattle.checker.specs.Refusals.{AreValid, IsFirstRefusal}
use Rattle.checker.specs.declared.refusal.Refusal.TheVariants as refusal
use Rattle.report.specs.Counts.{AreCountsOf}
use Rattle.report.specs.declared.verdict.Verdict.{Verdict}
use Rattle.reading.specs.Texts.{IsLinearizableText}
use Rattle.text_check.specs.Texts.{AreValidTexts, IsFirstRefusalText, IsFirstFault}
use Rattle.text_check.specs.Texts.{AreSoundSoFar, DenoteOnly}
use Rattle.report.specs.Verdicts.{verdict_of}
use Rattle.reading.specs.declared.text_failure.TextFailure.{TextFailure}
use Rattle.reading.specs.declared.text_failure.TextFailure.TheVariants as stopped
use Rattle.report.specs.declared.verdict.Verdict.TheVariants.{Yes, No, Malformed, NoMemory}

-- What a verdict says about the certificates of a history. Yes: they are valid, and the counts are
-- those of the history. No: this is their first refusal. `NoMemory` says nothing.
abbrev pub SaysOfCertificates : List Event → List Certificate → Verdict → Type 0
SaysOfCertificates es cs (Yes s) = AreValid es cs × AreCountsOf es s
SaysOfCertificates es cs (No r) = IsFirstRefusal es cs r × (r ≢ refusal.NoMemory)
SaysOfCertificates es cs (Malformed f) = ⊥
SaysOfCertificates es cs NoMemory = ⊤

-- What a verdict says about the text of a history and that of certificates. Yes: they denote a
-- history and valid certificates, and the counts are those of that history. No: they denote a
-- history and certificates, of which this is the first refusal. Malformed: this is the fault of the
-- first text that has one. NoMemory: nothing was wrong yet.
abbrev pub SaysOfTexts : List ℕ → List ℕ → Verdict → Type 0
SaysOfTexts h c (Yes s) = (texts : AreValidTexts h c) × AreCountsOf texts.client_events s
SaysOfTexts h c (No r) = IsFirstRefusalText h c r
SaysOfTexts h c (Malformed f) = IsFirstFault h c f
SaysOfTexts h c NoMemory = AreSoundSoFar h c

-- if the verdict is Yes, this holds
abbrev pub OnYes : Verdict → Type 0 → Type 0
OnYes (Yes s) P = P
OnYes (No r) P = ⊤
OnYes (Malformed f) P = ⊤
OnYes NoMemory P = ⊤

-- the verdict is Yes, or an allocation failed
abbrev pub IsYesUnlessMemory : Verdict → Type 0
IsYesUnlessMemory (Yes s) = ⊤
IsYesUnlessMemory (No r) = ⊥
IsYesUnlessMemory (Malformed f) = ⊥
IsYesUnlessMemory NoMemory = ⊤

-- all that `judge` promises of its answer
pub record IsJudgement (h c : List ℕ) (v : Verdict) : Type 0 where
  pub linearizable : OnYes v (IsLinearizableText h)
  -- The verdict is true of the texts.
  pub judges : SaysOfTexts h c v
  -- Texts of which the second has valid certificates for the first lead to Yes, unless an
  -- allocation fails.
  pub accepts : AreValidTexts h c → IsYesUnlessMemory v

-- What was read of both texts: the history and the certificates that they denote, or what
-- stopped the first that was stopped.
pub record AreBothRead {V : Type 0} (items : V → List Certificate) (h c : List ℕ)
    (r : Result (List Event × V) TextFailure) : Type 0 where
  pub texts : IfOk r (λ both. DenoteOnly h c both.0 (items both.1))
  pub stop : IfErr r (λ s. SaysOfTexts h c (verdict_of s))
  pub accepts : IfErr r (λ s. AreValidTexts h c → s ≡ stopped.NoMemory)
