-- The verdict on a check follows from what the check answers: yes for valid certificates, no with the first refusal,
-- and an allocation failure by itself. By cases on the answer.
use Rattle.std.proofs.Common.{◌≡◌, ◌∙◌, List, subst, sym}
use Rattle.std.specs.Prelude.{Result, Ok, Err, OnOk, IfErr}
use Rattle.events.specs.declared.event.Event.{Event}
use Rattle.certificate.specs.declared.Certificate.{Certificate}
use Rattle.checker.specs.Refusals.{AreValid, IsFirstRefusal}
use Rattle.checker.specs.declared.refusal.Refusal.{Refusal}
use Rattle.checker.specs.declared.refusal.Refusal.TheVariants as refusal
use Rattle.report.specs.Verdicts.{IsVerdictOnCheck}
use Rattle.report.specs.declared.verdict.Verdict.{Verdict}
use Rattle.report.specs.declared.verdict.Verdict.TheVariants.{Yes, No, Malformed, NoMemory}
use Rattle.text_check.specs.Verdicts.{IsYesUnlessMemory, SaysOfCertificates, OnYes}

module _ (es : List Event) where
  pub on_yes : (P : Type 0) (r : Result (Unit {0}) Refusal) (v : Verdict) → IsVerdictOnCheck es r v → OnOk r P
      → OnYes v P
  on_yes P (Ok u) (Yes s) k p = p
  on_yes P (Ok u) (No q) k p = tt
  on_yes P (Ok u) (Malformed f) k p = tt
  on_yes P (Ok u) NoMemory k p = tt
  on_yes P (Err e) (Yes s) k p = absurd k
  on_yes P (Err e) (No q) k p = tt
  on_yes P (Err e) (Malformed f) k p = tt
  on_yes P (Err e) NoMemory k p = tt

  -- the verdict on a check says what the check says of the certificates
  pub judges_by : (cs : List Certificate) (r : Result (Unit {0}) Refusal) (v : Verdict) → IsVerdictOnCheck es r v
      → OnOk r (AreValid es cs) → IfErr r (IsFirstRefusal es cs) → SaysOfCertificates es cs v
  judges_by cs (Ok u) (Yes s) k valid first = (valid, k)
  judges_by cs (Ok u) (No q) k valid first = absurd k
  judges_by cs (Ok u) (Malformed f) k valid first = absurd k
  judges_by cs (Ok u) NoMemory k valid first = tt
  judges_by cs (Err e) (Yes s) k valid first = absurd k
  judges_by cs (Err e) (No q) k valid first = (subst (IsFirstRefusal es cs) (sym k.0) first, λ is. k.1 (sym k.0 ∙ is))
  judges_by cs (Err e) (Malformed f) k valid first = absurd k
  judges_by cs (Err e) NoMemory k valid first = tt

  -- the verdict is Yes if the check refused nothing, except for an allocation failure
  pub yes_unless_memory : (r : Result (Unit {0}) Refusal) (v : Verdict) → IsVerdictOnCheck es r v
      → IfErr r (λ e. e ≡ refusal.NoMemory) → IsYesUnlessMemory v
  yes_unless_memory (Ok u) (Yes s) k e = tt
  yes_unless_memory (Ok u) (No q) k e = k
  yes_unless_memory (Ok u) (Malformed f) k e = k
  yes_unless_memory (Ok u) NoMemory k e = tt
  yes_unless_memory (Err r) (Yes s) k e = tt
  yes_unless_memory (Err r) (No q) k e = k.1 e
  yes_unless_memory (Err r) (Malformed f) k e = k
  yes_unless_memory (Err r) NoMemory k e = tt
