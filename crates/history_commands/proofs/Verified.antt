-- The status and the text of a verification are those of `IsVerification` (`is_verification`): if each object has an
-- order, the verdict on these certificates; otherwise a line for each object (`are_open`). By cases on the decisions.
use Rattle.std.proofs.Common.{arith, ◌≡◌, ◌≢◌, ◌∙◌, ◌⊎◌, ◌||◌, ℕ, true, false, List, [], ◌∷◌, ◌++◌, inl, inr, refl, ap}
use Rattle.std.proofs.Common.{sym, subst}
use Rattle.std.specs.List.{list_all, list_any}
use Rattle.std.proofs.lemmas.List.{append_assoc}
use Rattle.std.proofs.lemmas.List.Folds.{Any-from_list_any}
use Rattle.model.specs.Linearizable.{IsLinearizable}
use Rattle.model.specs.Orders.{events}
use Rattle.model.specs.Lists.{In}
use Rattle.model.proofs.Lists.{all_at}
use Rattle.events.specs.declared.event.Event.{Event}
use Rattle.events.specs.Events.{kind_of_object, denoted}
use Rattle.checker.specs.Refusals.{AreValid}
use Rattle.verifying.specs.declared.claim.Claim.{Claim}
use Rattle.verifying.specs.declared.decision.Decision.{Decision}
use Rattle.verifying.specs.declared.decision.Decision.TheVariants.{Order, Impossible, OutOfSteps, NoMemory, Open}
use Rattle.verifying.specs.Decisions.{AreDecisionsOn, IsDecisionOn, certificates_decided, is_impossible, is_order}
use Rattle.report.specs.declared.verdict.Verdict.{Verdict}
use Rattle.report.specs.declared.verdict.Verdict.TheVariants as verdict
use Rattle.reading.specs.Texts.{DenotesHistory, IsLinearizableText}
use Rattle.report.specs.Verdicts.{IsVerdictOnCheck}
use Rattle.std.specs.Prelude.{Ok}
use Rattle.edn_reader.specs.Sound.{IsShort}
use Rattle.history_commands.specs.Searches.{IsHistoryUnread}
use Rattle.history_commands.specs.Verified.{decision_lines, impossible_lines, verified_status, IsVerifiedOutput}
use Rattle.history_commands.specs.Verified.{LacksSomeOrder, DenotesClaims, IsEvidenceFault, IsExplained, IsVerdictBy}
use Rattle.history_commands.specs.Verified.{IsVerdictText, IsVerification, IsVerificationOutput}
use Rattle.history_commands.specs.Outputs.{lines_on, status_of}
use Rattle.history_commands.specs.declared.status.Status.TheVariants as status_is
use Rattle.history_commands.specs.declared.status.Status.{Status}
use Rattle.history_commands.proofs.AllFound.{no_of, yes_of}

-- ---- the lines that say why

explains : (es : List Event) (claims : List Claim) (limit : ℕ) (answers : List (ℕ × Decision))
    → ((a : ℕ × Decision) → In a answers → IsDecisionOn es claims limit a.0 a.1)
    → list_any (λ a. is_impossible a.1) answers ≡ true → IsExplained es (lines_on (decision_lines es) answers)
explains es claims limit [] each e = absurd cc
explains es claims limit (a ∷ rest) each e =
    go a.1 (each a (inl refl)) e (explains es claims limit rest (λ b i. each b (inr i)))
  where
    later : (line : List ℕ) → IsExplained es (lines_on (decision_lines es) rest)
        → IsExplained es (line ++ lines_on (decision_lines es) rest)
    later line k = record {
      object = k.object;
      refuted = k.refuted;
      holds = k.holds;
      before = line ++ k.before;
      after = k.after;
      lines = ap (λ text. line ++ text) k.lines
          ∙ sym (append_assoc line k.before (impossible_lines es k.object k.refuted ++ k.after));
    }

    go : (d : Decision) → IsDecisionOn es claims limit a.0 d
        → (is_impossible d || list_any (λ a. is_impossible a.1) rest) ≡ true
        → (list_any (λ a. is_impossible a.1) rest ≡ true → IsExplained es (lines_on (decision_lines es) rest))
        → IsExplained es (decision_lines es a.0 d ++ lines_on (decision_lines es) rest)
    go (Order c) h t again = again t
    go (Impossible f) h t again = record {
      object = a.0;
      refuted = f;
      holds = h.impossible.0;
      before = [];
      after = lines_on (decision_lines es) rest;
      lines = refl;
    }
    go (OutOfSteps n) h t again = later (decision_lines es a.0 (OutOfSteps n)) (again t)
    go NoMemory h t again = later (decision_lines es a.0 NoMemory) (again t)
    go Open h t again = later (decision_lines es a.0 Open) (again t)

-- what four calls appended to a text, one after the other
pub joined : (text a b c d text1 text2 text3 text4 : List ℕ) → text1 ≡ text ++ a → text2 ≡ text1 ++ b
    → text3 ≡ text2 ++ c → text4 ≡ text3 ++ d → text4 ≡ text ++ (a ++ (b ++ (c ++ d)))
joined text a b c d text1 text2 text3 text4 first second third fourth =
    rw (fourth, third, second, first) (simp append_assoc)

-- where some object has no order
pub are_open : (es : List Event) (claims : List Claim) (limit : ℕ) (status : Status) (text : List ℕ)
    (answers : List (ℕ × Decision))
    → AreDecisionsOn es claims limit answers
    → list_all (λ a. is_order a.1) answers ≡ false → status ≡ verified_status answers
    → text ≡ lines_on (decision_lines es) answers
    → LacksSomeOrder es claims limit status text
are_open es claims limit status text answers decided some s t = record {
  answers = answers;
  decided = decided;
  some_open = some;
  status_is = s;
  text_is = t;
  refuted = λ e. decided.impossible
      (Any-from_list_any (λ (a : ℕ × Decision). is_impossible a.1) answers (no_of _ _ (sym s ∙ e)));
  explained = λ e. subst (IsExplained es) (sym t)
      (explains es claims limit answers
      (λ a i. all_at (λ (a : ℕ × Decision). IsDecisionOn es claims limit a.0 a.1) answers decided.decisions a i)
      (no_of _ _ (sym s ∙ e)));
}

-- ---- each object has an order

-- the verdict on certificates that are valid
pub on_valid : (es : List Event) (claims : List Claim) (limit : ℕ) (answers : List (ℕ × Decision))
    → AreDecisionsOn es claims limit answers
    → list_all (λ a. is_order a.1) answers ≡ true → AreValid es (certificates_decided answers)
    → IsLinearizable (kind_of_object es) (events (denoted es))
    → (v : Verdict) → IsVerdictOnCheck es (Ok tt) v → IsVerdictBy es claims limit v
on_valid es claims limit answers decided all valid linearizable (verdict.Yes s) counts =
    record {
      answers = answers;
      decided = decided;
      all = all;
      valid = valid;
      linearizable = linearizable;
      counts = counts;
    }
on_valid es claims limit answers decided all valid linearizable (verdict.No r) k = k
on_valid es claims limit answers decided all valid linearizable (verdict.Malformed f) k = k
on_valid es claims limit answers decided all valid linearizable verdict.NoMemory k = tt

-- ---- texts

-- what is put out of a history that was read
pub on_text : (h e : List ℕ) (limit : ℕ) (es : List Event) (status : Status) (text : List ℕ) → IsShort h
    → DenotesHistory h es
    → ((claims : List Claim) × DenotesClaims e claims × IsVerifiedOutput es claims limit status text)
    ⊎ IsEvidenceFault e status text
    → IsVerificationOutput h e limit status text
on_text h e limit es status text short denotes (inl (claims, claimed, inl k)) =
    inl (short, es, denotes, inl (claims, claimed, k))
on_text h e limit es status text short denotes (inl (claims, claimed, inr (v, by, is, lines))) =
    inr (v, said v by, is, lines)
  where
    said : (v : Verdict) → IsVerdictBy es claims limit v → IsVerdictText h e limit v
    said (verdict.Yes s) k = (short, es, denotes, claims, claimed, k)
    said (verdict.No r) k = k
    said (verdict.Malformed f) k = absurd k
    said verdict.NoMemory k = tt
on_text h e limit es status text short denotes (inr fault) = inl (short, es, denotes, inr fault)

-- what stops the reading of a history stops its verification
pub unread : (h e : List ℕ) (limit : ℕ) (v : Verdict) → IsHistoryUnread h v → IsVerdictText h e limit v
unread h e limit v u = grind arith

-- ---- what the status shows

status_not_yes : (answers : List (ℕ × Decision)) → list_all (λ a. is_order a.1) answers ≡ false
    → verified_status answers ≢ status_is.Yes
status_not_yes answers some e =
    let all = yes_of (list_any (λ (a : ℕ × Decision). is_impossible a.1) answers)
    (list_all (λ (a : ℕ × Decision). is_order a.1) answers) e in
    absurd (cc (sym all ∙ some))

verdict_yes : (h e : List ℕ) (limit : ℕ) (v : Verdict) → IsVerdictText h e limit v → status_of v ≡ status_is.Yes
    → IsLinearizableText h
verdict_yes h e limit (verdict.Yes s) k is =
    record { client_events = k.1; history_text = k.2; linearizable = k.5.linearizable }
verdict_yes h e limit (verdict.No r) k is = absurd k
verdict_yes h e limit v k g = absurd cc

verdict_not_no : (h e : List ℕ) (limit : ℕ) (v : Verdict) → IsVerdictText h e limit v → status_of v ≢ status_is.No
verdict_not_no h e limit v k f = grind arith

open_not_yes : status_is.Undecided ≢ status_is.Yes
open_not_yes e = absurd cc

open_not_no : status_is.Undecided ≢ status_is.No
open_not_no e = absurd cc

pub is_verification : (h e : List ℕ) (limit : ℕ) (status : Status) (out : List ℕ)
    → IsVerificationOutput h e limit status out → IsVerification h e limit status out
is_verification h e limit status out (inl (short, es, denotes, inl undecided)) = record {
  output = inl (short, es, denotes, inl undecided);
  linearizable =
      λ is. absurd (status_not_yes undecided.2.answers undecided.2.some_open (sym undecided.2.status_is ∙ is));
  refuted = λ is. record { client_events = es; history_text = denotes; not_linearizable = undecided.2.refuted is };
  explained = λ is. (es, denotes, undecided.2.explained is);
}
is_verification h e limit status out (inl (short, es, denotes, inr fault)) = record {
  output = inl (short, es, denotes, inr fault);
  linearizable = λ is. absurd (open_not_yes (sym fault.3.0 ∙ is));
  refuted = λ is. absurd (open_not_no (sym fault.3.0 ∙ is));
  explained = λ is. absurd (open_not_no (sym fault.3.0 ∙ is));
}
is_verification h e limit status out (inr v) = record {
  output = inr v;
  linearizable = λ is. verdict_yes h e limit v.0 v.1 (sym v.2 ∙ is);
  refuted = λ is. absurd (verdict_not_no h e limit v.0 v.1 (sym v.2 ∙ is));
  explained = λ is. absurd (verdict_not_no h e limit v.0 v.1 (sym v.2 ∙ is));
}
