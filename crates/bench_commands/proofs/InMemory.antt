-- A text in memory is read whole, or it is too long to be judged. So a verdict on the bytes that were read is one on
-- the text (`holds`), by cases on the verdict.
use Rattle.std.proofs.Common.{◌≡◌, ◌∙◌, ◌<◌, ◌≤◌, ◌+◌, ◌⊎◌, ◌++◌, ℕ, List, length, Option, Some, None, ap, sym, subst}
use Rattle.std.proofs.Common.{inl, inr, arith}
use Rattle.std.proofs.lemmas.Bool.{cases_lt}
use Rattle.std.proofs.lemmas.List.{append-nil, length-append}
use Rattle.edn_reader.specs.Datum.{max_length}
use Rattle.edn.specs.Given.{WasRead}
use Rattle.edn_reader.specs.Sound.{IsShort, IsUnreadable}
use Rattle.edn_reader.specs.declared.fault.EdnFault.{EdnFault}
use Rattle.reading.specs.declared.text_failure.Fault.TheVariants.{HistoryText, HistoryMaps, CertificateText}
use Rattle.reading.specs.declared.text_failure.Fault.TheVariants.{CertificateForms}
use Rattle.report.specs.declared.verdict.Verdict.{Verdict}
use Rattle.report.specs.declared.verdict.Verdict.TheVariants.{Yes, No, Malformed, NoMemory}
use Rattle.reading.specs.Texts.{IsLinearizableText}
use Rattle.text_check.specs.Verdicts.{IsJudgement, SaysOfTexts, OnYes}
use Rattle.reading.specs.Reads.{read_limit}
use Rattle.text_check.specs.Checks.{IsVerdictOnRead}

-- two texts are one, or both are too long
abbrev Alike : List ℕ → List ℕ → Type 0
Alike text bytes = (bytes ≡ text) ⊎ ((max_length < length bytes) × (max_length < length text))

was_read : (text bytes : List ℕ) (left : Option (List ℕ)) → WasRead read_limit (Some text) left bytes → Alike text bytes
was_read text bytes None r = absurd r.consumed
was_read text bytes (Some left) r = elim (cases_lt (length bytes) read_limit) [
  | inl less ↦ inl (sym (r.consumed ∙ ap (λ xs. bytes ++ xs) (r.whole less) ∙ append-nil bytes))
  | inr more ↦
      let parts : length text ≡ length bytes + length left = ap length r.consumed ∙ length-append bytes left in
      inr (
        (let m : read_limit ≤ length bytes = more in omega (arith, m)),
        (let m : read_limit ≤ length bytes = more in omega (arith, m, parts)),
      )
]

not_short : {X : Type 0} (text : List ℕ) → max_length < length text → IsShort text → X
not_short text long short = absurd (let s : length text ≤ max_length = short in omega (arith, long, s))

unreadable : (text bytes : List ℕ) (e : EdnFault) → max_length < length bytes → max_length < length text
    → IsUnreadable bytes e → IsUnreadable text e
unreadable text bytes e long whole u = record {
  not_memory = u.not_memory;
  too_long = (λ k. whole, λ k. u.too_long.1 long);
  nothing = λ other. absurd (other (u.too_long.1 long));
}

-- ---- of the history

module _ (h b c : List ℕ) (long : max_length < length b) (whole : max_length < length h) where
  judges_history : (v : Verdict) → SaysOfTexts b c v → SaysOfTexts h c v
  judges_history (Yes s) j = not_short b long j.0.history_short
  judges_history (No r) j = not_short b long j.history_short
  judges_history (Malformed (HistoryText e)) j = unreadable h b e long whole j
  judges_history (Malformed (HistoryMaps f)) j = not_short b long j.0
  judges_history (Malformed (CertificateText e)) j = not_short b long j.0.0
  judges_history (Malformed (CertificateForms f)) j = not_short b long j.0.0
  judges_history NoMemory j = elim j [
    | inl sound ↦ not_short b long sound.0
    | inr sound ↦ not_short b long sound.0.0
  ]

  yes_history : (v : Verdict) → SaysOfTexts b c v → OnYes v (IsLinearizableText h)
  yes_history (Yes s) j = not_short b long j.0.history_short
  yes_history (No r) j = tt
  yes_history (Malformed f) j = tt
  yes_history NoMemory j = tt

  holds_history : (v : Verdict) → IsJudgement b c v → IsJudgement h c v
  holds_history v k = record {
    linearizable = yes_history v k.judges;
    judges = judges_history v k.judges;
    accepts = λ valid. not_short h whole valid.history_short;
  }

-- ---- of the certificates

module _ (h c b : List ℕ) (long : max_length < length b) (whole : max_length < length c) where
  judges_certificates : (v : Verdict) → SaysOfTexts h b v → SaysOfTexts h c v
  judges_certificates (Yes s) j = not_short b long j.0.certificates_short
  judges_certificates (No r) j = not_short b long j.certificates_short
  judges_certificates (Malformed (HistoryText e)) j = j
  judges_certificates (Malformed (HistoryMaps f)) j = j
  judges_certificates (Malformed (CertificateText e)) j = (j.0, unreadable c b e long whole j.1)
  judges_certificates (Malformed (CertificateForms f)) j = not_short b long j.1.0
  judges_certificates NoMemory j = elim j [
    | inl sound ↦ inl sound
    | inr (denoted, inl sound) ↦ not_short b long sound.0
    | inr (denoted, inr sound) ↦ not_short b long sound.0
  ]

  holds_certificates : (v : Verdict) → IsJudgement h b v → IsJudgement h c v
  holds_certificates v k = record {
    linearizable = k.linearizable;
    judges = judges_certificates v k.judges;
    accepts = λ valid. not_short c whole valid.certificates_short;
  }

-- ---- of both

holds : (h c first second : List ℕ) (v : Verdict) → Alike h first → Alike c second → IsJudgement first second v
    → IsJudgement h c v
holds h c first second v a b k =
    let one : IsJudgement h second v = elim a [
      | inl same ↦ subst (λ x. IsJudgement x second v) same k
      | inr long ↦ holds_history h first second long.0 long.1 v k
    ] in
    elim b [
      | inl same ↦ subst (λ x. IsJudgement h x v) same one
      | inr long ↦ holds_certificates h c second long.0 long.1 v one
    ]

-- what holds of the bytes that were read of texts in memory holds of the texts
pub holds_in_memory : (h c first second : List ℕ) (history_left certificates_left : Option (List ℕ)) (v : Verdict)
    → first ≡ h → second ≡ c
    → IsVerdictOnRead (Some first) history_left (Some second) certificates_left v → IsJudgement h c v
holds_in_memory h c first second history_left certificates_left v is_first is_second j =
    holds h c j.first j.second v
    (was_read h j.first history_left
    (subst (λ x. WasRead read_limit (Some x) history_left j.first) is_first j.first_read))
    (was_read c j.second certificates_left
    (subst (λ x. WasRead read_limit (Some x) certificates_left j.second) is_second j.second_read))
    j.holds
