-- A command sends all lines of its output, or a prefix of them: its parts are put together from what was sent.
use Rattle.std.proofs.Common.{arith, ◌≡◌, ◌≢◌, ◌∙◌, ℕ, Bool, true, false, List, Option, refl, subst, sym, inl, inr}
use Rattle.std.specs.Prelude.{◌⊎◌, Result, Ok, Err, IfOk}
use Rattle.std.specs.Io.KnownBytes.{Appends}
use Rattle.std.specs.declared.alloc.AllocError.{AllocError}
use Rattle.edn.specs.Given.{WasRead}
use Rattle.edn.specs.Sent.{WritesPrefix}
use Rattle.events.specs.declared.event.Event.{Event}
use Rattle.reading.specs.Reads.{read_limit}
use Rattle.reading.specs.Texts.{IsHistoryRead}
use Rattle.reading.specs.TwoTexts.{AreRead}
use Rattle.reading.specs.declared.text_failure.TextFailure.{TextFailure}
use Rattle.checker.specs.declared.refusal.Refusal.{Refusal}
use Rattle.checker.specs.declared.refusal.Refusal.TheVariants as refusal
use Rattle.report.specs.declared.verdict.Verdict.{Verdict}
use Rattle.report.specs.declared.verdict.Verdict.TheVariants as verdict
use Rattle.report.specs.Lines.{verdict_text}
use Rattle.history_commands.specs.Outputs.{IsExactly, IsOutOfMemory, IsVerdictOutput, status_number, status_of}
use Rattle.history_commands.specs.declared.output.Output.{Output}
use Rattle.history_commands.specs.declared.status.Status.{Status}
use Rattle.history_commands.specs.declared.status.Status.TheVariants.{No, OutOfMemory}
use Rattle.history_commands.specs.declared.status.Status.TheVariants.{Failed}
use Rattle.file_commands.specs.Leaves.{IsMade, Leaves}
use Rattle.file_commands.specs.OnFiles.{OnText, OnTexts}

-- an output of one relation is an output of another
pub leaves_as : {P Q : Status → List ℕ → Type 0} {before after : Option (List ℕ)} {number : ℕ} {broken : Bool}
    → Leaves P before number after broken → ((status : Status) (out : List ℕ) → P status out → Q status out)
    → Leaves Q before number after broken
leaves_as h more = record {
  written = λ n. let k = h.written n in (k.0, k.1, more k.0 k.1 k.2, k.3, k.4);
  usable = h.usable;
  failed = h.failed;
  front = λ e. let k = h.front e in (k.0, k.1, more k.0 k.1 k.2, k.3);
}

-- no number but its own is that of a failed output
own_number : (status : Status) → status ≢ Failed → status_number status ≢ status_number Failed
own_number status h e = grind arith

module _ (status : Status) (lines : List ℕ) {before after : Option (List ℕ)} {broken : Bool} where
  -- a command that wrote all its lines leaves them, with their status
  pub wrote_all : status ≢ Failed → Appends before after lines → broken ≡ false
      → Leaves (IsExactly status lines) before (status_number status) after broken
  wrote_all other sent usable = record {
    written = λ n. (status, lines, (refl, refl), refl, sent);
    usable = λ n. usable;
    failed = λ e. absurd (own_number status other e);
    front = λ e. absurd (own_number status other e);
  }

  -- a command whose output failed leaves a beginning of its lines, with the status for that
  pub wrote_front : WritesPrefix before after lines → broken ≡ true
      → Leaves (IsExactly status lines) before (status_number Failed) after broken
  wrote_front sent failed = record {
    written = λ n. absurd (n refl);
    usable = λ n. absurd (n refl);
    failed = λ e. failed;
    front = λ e. (status, lines, (refl, refl), sent);
  }

-- ---- what was made

-- what was made has this property, or an allocation failed
pub made_as : (P : Status → List ℕ → Type 0) (made : Result Output AllocError)
    → IfOk made (λ o. P o.status o.text.items)
    → (status : Status) (out : List ℕ) → IsMade made status out → P status out ⊎ IsOutOfMemory status out
made_as P (Ok o) h status out k = inl (subst (λ s. P s out) (sym k.0) (subst (P o.status) (sym k.1) h))
made_as P (Err e) h status out k = inr k

-- what was made has this property
pub made_is : (P : Status → List ℕ → Type 0) (o : Output) → P o.status o.text.items
    → (status : Status) (out : List ℕ) → IsMade (Ok o) status out → P status out
made_is P o h status out k = subst (λ s. P s out) (sym k.0) (subst (P o.status) (sym k.1) h)

-- What was made of a text that was read has this property, or an allocation failed.
pub made_on_text : (IsDone : List ℕ → Status → List ℕ → Type 0) (one one_left : Option (List ℕ)) (text : List ℕ)
    (made : Result Output AllocError) → WasRead read_limit one one_left text
    → IfOk made (λ o. IsDone text o.status o.text.items)
    → (status : Status) (out : List ℕ) → IsMade made status out → OnText IsDone one one_left status out
made_on_text IsDone one one_left text made read does status out k =
    elim (made_as (IsDone text) made does status out k) [
      | inl done ↦ inl (text, read, done)
      | inr memory ↦ inr memory
    ]

-- What was made of two texts that were read has this property, or an allocation failed.
pub made_on_texts : (IsDone : List ℕ → List ℕ → Status → List ℕ → Type 0)
    (one one_left other other_left : Option (List ℕ)) (history : Result (List Event) TextFailure)
    (bytes text : List ℕ) (made : Result Output AllocError) → AreRead one one_left other other_left history bytes
    → text ≡ bytes
    → ((h : List ℕ) → IsHistoryRead h history → IfOk made (λ o. IsDone h text o.status o.text.items))
    → (status : Status) (out : List ℕ) → IsMade made status out
    → OnTexts IsDone one one_left other other_left status out
made_on_texts IsDone one one_left other other_left history bytes text made r same does status out k =
    elim (made_as (IsDone r.history_text text) made (does r.history_text r.history_read) status out k) [
      | inl done ↦ inl (
        r.history_text,
        text,
        r.first_read,
        subst (WasRead read_limit other other_left) (sym same) r.second_read,
        done,
      )
      | inr memory ↦ inr memory
    ]

-- what was made is exactly this
pub exactly : (o : Output) (own : Status) (lines : List ℕ) → IsExactly own lines o.status o.text.items
    → (status : Status) (out : List ℕ) → IsMade (Ok o) status out → IsExactly own lines status out
exactly o own lines h status out k = (k.0 ∙ h.0, k.1 ∙ h.1)

-- ---- a verdict

no_fails : (r : Refusal) → status_of (verdict.No r) ≢ Failed
no_fails r e = grind arith

verdict_is_written : (v : Verdict) → status_of v ≢ Failed
verdict_is_written (verdict.No r) e = no_fails r e
verdict_is_written v e = absurd cc

-- the lines of this verdict, of which it holds
module _ (IsSaid : Verdict → Type 0) (v : Verdict) (said : IsSaid v) {before after : Option (List ℕ)} {broken : Bool}
  where
    -- a command that wrote the lines of its verdict leaves them with the verdict's status
    pub wrote_verdict : Appends before after (verdict_text false v) → broken ≡ false
        → Leaves (IsVerdictOutput IsSaid) before (status_number (status_of v)) after broken
    wrote_verdict sent usable = leaves_as
        (wrote_all (status_of v) (verdict_text false v) (verdict_is_written v) sent usable)
        (λ status out k. (v, said, k.0, k.1))

    -- a command whose output failed leaves a beginning of its lines, with the status for that
    pub wrote_front_of : WritesPrefix before after (verdict_text false v) → broken ≡ true
        → Leaves (IsVerdictOutput IsSaid) before (status_number Failed) after broken
    wrote_front_of sent failed =
        leaves_as (wrote_front (status_of v) (verdict_text false v) sent failed) (λ status out k. (v, said, k.0, k.1))
