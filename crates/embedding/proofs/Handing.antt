-- The caller gets a part of the lines, and the number that the call returns shows what its status shows of all lines
-- (`shows`): the number of an allocation failure shows nothing, and another one is that of the output.
use Rattle.std.proofs.Common.{◌≡◌, ◌≢◌, ◌∙◌, ◌⊎◌, ℕ, List, codes, inl, inr, refl, ap, sym}
use Rattle.report.specs.declared.verdict.Verdict.{Verdict}
use Rattle.report.specs.declared.verdict.Verdict.TheVariants as verdict
use Rattle.text_check.specs.Texts.{AreValidTexts}
use Rattle.text_check.specs.Verdicts.{IsYesUnlessMemory}
use Rattle.history_commands.specs.Checked.{IsCheck}
use Rattle.history_commands.specs.Outputs.{status_number, status_of}
use Rattle.history_commands.specs.declared.output.Output.{Output}
use Rattle.history_commands.specs.declared.status.Status.{Status}
use Rattle.history_commands.specs.declared.status.Status.TheVariants.{Yes, No, OutOfMemory}
use Rattle.std.specs.Prelude.{Result, Ok, Err, IfOk, IfErr}
use Rattle.std.specs.declared.alloc.AllocError.{AllocError}
use Rattle.embedding.specs.Handed.{IsAnswered, IsHandedOut}

-- a function of the library that handed out the output that was made, or the line of an allocation failure, has
-- answered
pub answered : (IsMade : Status → List ℕ → Type 0) (made : Result Output AllocError) (result : ℕ)
    (before after : List ℕ) (told : ℕ) → IfOk made (λ o. IsMade o.status o.text.items)
    → IfOk made (λ o. (result ≡ status_number o.status) × IsHandedOut o.text.items before after told)
    → IfErr made (λ e. (result ≡ status_number OutOfMemory) × IsHandedOut (codes "out of memory\n") before after told)
    → IsAnswered IsMade result before after told
answered IsMade (Ok o) result before after told is given memory = inl (o.status, o.text.items, is, given.0, given.1)
answered IsMade (Err e) result before after told is given memory = inr memory

-- A number other than that of an allocation failure shows what its status shows of lines.
pub shows : (IsMade : Status → List ℕ → Type 0) (Q : Type 0) (own : Status) (result : ℕ) (before after : List ℕ)
    (told : ℕ) → ((status : Status) → status_number status ≡ status_number own → status ≡ own)
    → own ≢ OutOfMemory → ((status : Status) (text : List ℕ) → IsMade status text → status ≡ own → Q)
    → IsAnswered IsMade result before after told → result ≡ status_number own → Q
shows IsMade Q own result before after told by_number other show (inl a) e =
    show a.0 a.1 a.2 (by_number a.0 (sym a.3 ∙ e))
shows IsMade Q own result before after told by_number other show (inr m) e =
    absurd (other (sym (by_number OutOfMemory (sym m.0 ∙ e))))

-- a yes is not an allocation failure
pub yes_is_other : Yes ≢ OutOfMemory
yes_is_other e = absurd cc

-- a no is not an allocation failure
pub no_is_other : No ≢ OutOfMemory
no_is_other e = absurd cc

-- ---- a check of valid certificates

yes_or_memory : (v : Verdict) → IsYesUnlessMemory v → (status_of v ≡ Yes) ⊎ (status_of v ≡ OutOfMemory)
yes_or_memory (verdict.Yes s) is = inl refl
yes_or_memory (verdict.No r) is = absurd is
yes_or_memory (verdict.Malformed f) is = absurd is
yes_or_memory verdict.NoMemory is = inr refl

pub accepted : (h c : List ℕ) (result : ℕ) (before after : List ℕ) (told : ℕ)
    → IsAnswered (IsCheck h c) result before after told → AreValidTexts h c
    → (result ≡ status_number Yes) ⊎ (result ≡ status_number OutOfMemory)
accepted h c result before after told (inl a) valid =
    let k = a.2.output in elim (yes_or_memory k.0 (k.1.accepts valid)) [
      | inl e ↦ inl (a.3 ∙ ap status_number (k.2 ∙ e))
      | inr e ↦ inr (a.3 ∙ ap status_number (k.2 ∙ e))
    ]
accepted h c result before after told (inr m) valid = inr m.0
