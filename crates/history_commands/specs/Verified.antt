-- The output of a verification of a history by claims, and the exit status.
use Rattle.std.specs.Prelude.{◌≡◌, ◌≢◌, ◌⊎◌, ℕ, true, false, ⊤, List, [], ◌++◌, codes, decimal}
use Rattle.std.specs.Prelude.{Option, Some, None}
use Rattle.std.specs.Global.{Vec}
use Rattle.std.specs.List.{list_all}
use Rattle.edn_reader.specs.Datum.{Datum}
use Rattle.edn_reader.specs.Sound.{IsShort}
use Rattle.edn_reader.specs.Spells.{Spells}
use Rattle.edn_reader.specs.Faults as edn
use Rattle.edn_reader.specs.declared.fault.FaultKind.TheVariants as edn_kind
use Rattle.model.specs.Linearizable.{IsLinearizable}
use Rattle.model.specs.Orders.{calls_on, events}
use Rattle.events.specs.declared.event.Event.{Event}
use Rattle.events.specs.Events.{kind_of_object, denoted}
use Rattle.checker.specs.Refusals.{AreValid}
use Rattle.refutation.specs.Lines.{reason_line}
use Rattle.reason_report.specs.Operations.{operations_text}
use Rattle.verifying.specs.declared.claim.Claim.{Claim}
use Rattle.verifying.specs.declared.fault.ClaimFaultKind.{ClaimFaultKind}
use Rattle.verifying.specs.declared.fault.ClaimFaultKind.TheVariants.{NotACertificate, NotAReason}
use Rattle.verifying.specs.declared.fault.ClaimFaultKind.TheVariants as form_kind
use Rattle.verifying.specs.declared.fault.ClaimTextFault.{ClaimTextFault}
use Rattle.verifying.specs.declared.fault.ClaimTextFault.TheVariants.{Text, Forms}
use Rattle.verifying.specs.Denotes.{Denotes}
use Rattle.verifying.specs.Texts.{IsClaimTextFault}
use Rattle.verifying.specs.declared.decision.ShownReason.{ShownReason}
use Rattle.verifying.specs.declared.decision.Decision.{Decision}
use Rattle.verifying.specs.declared.decision.Decision.TheVariants.{Order, Impossible, OutOfSteps}
use Rattle.verifying.specs.declared.decision.Decision.TheVariants.{NoMemory, Open}
use Rattle.verifying.specs.Decisions.{AreDecisionsOn, IsShownReason, certificates_decided}
use Rattle.verifying.specs.Decisions.{is_impossible, is_order}
use Rattle.report.specs.declared.verdict.Summary.{Summary}
use Rattle.report.specs.declared.verdict.Verdict.{Verdict}
use Rattle.report.specs.declared.verdict.Verdict.TheVariants as verdict
use Rattle.report.specs.Counts.{AreCountsOf}
use Rattle.reading.specs.declared.text_failure.TextFailure.TheVariants.{Faulty}
use Rattle.reading.specs.Texts.{DenotesHistory, IsHistoryFault, IsLinearizableText}
use Rattle.reading.specs.Texts.{IsNotLinearizableText}
use Rattle.history_commands.specs.Outputs.{IsExactly, IsOutput, lines_on, status_on}
use Rattle.history_commands.specs.declared.status.Status.{Status}
use Rattle.history_commands.specs.declared.status.Status.TheVariants as ends

-- ---- evidence that denotes no claims

-- the code of what is wrong with an element; an allocation failure has none
abbrev pub code_of : ClaimFaultKind → List ℕ
code_of NotACertificate = codes "K1"
code_of NotAReason = codes "N1"
code_of form_kind.NoMemory = []

-- the line of a fault of the text of claims
abbrev pub evidence_fault_line : ClaimTextFault → List ℕ
evidence_fault_line (Text e) =
    codes "malformed evidence: E"
    ++ (decimal (edn.number_of e.kind) ++ (codes " at byte " ++ (decimal e.place ++ codes "\n")))
evidence_fault_line (Forms f) =
    codes "malformed evidence: "
    ++ (code_of f.kind ++ (codes " at form " ++ (decimal f.form ++ codes "\n")))

-- a fault that is not an allocation failure
abbrev pub IsOfClaimText : ClaimTextFault → Type 0
IsOfClaimText (Text e) = e.kind ≢ edn_kind.NoMemory
IsOfClaimText (Forms f) = f.kind ≢ form_kind.NoMemory

-- The text of claims has this fault, and its line says so. Nothing is decided.
abbrev pub IsEvidenceFault : List ℕ → Status → List ℕ → Type 0
IsEvidenceFault e status text =
    (f : ClaimTextFault) × IsClaimTextFault e f × IsOfClaimText f
    × IsExactly ends.Undecided (evidence_fault_line f) status text

-- the text, which is not too long to be read, denotes these claims
abbrev pub DenotesClaims : List ℕ → List Claim → Type 0
DenotesClaims e claims = IsShort e × (ds : List Datum) × Spells ds e × Denotes ds claims

-- ---- lines

-- the sentence that was claimed with a reason, of which nothing is checked
abbrev pub note_line : Option (Vec ℕ) → List ℕ
note_line None = []
note_line (Some note) = codes "; " ++ (note.items ++ codes "\n")

-- The lines on an object of which no order is valid: that it is so, the sentence, the operations of
-- the part of which no order is valid, and the reason that names it.
abbrev pub impossible_lines : List Event → ℕ → ShownReason → List ℕ
impossible_lines es x f =
    ((codes "; object " ++ decimal x) ++ codes ": impossible\n")
    ++ (note_line f.note
    ++ (operations_text true es f.part.ops ++ (codes "; " ++ reason_line f.reason)))

-- the lines on an object without an order, and nothing on one that has an order
abbrev pub decision_lines : List Event → ℕ → Decision → List ℕ
decision_lines es x (Order c) = []
decision_lines es x (Impossible f) = impossible_lines es x f
decision_lines es x (OutOfSteps n) =
    (codes "; object " ++ decimal x) ++ (codes ": out of steps after " ++ (decimal n ++ codes "\n"))
decision_lines es x NoMemory = (codes "; object " ++ decimal x) ++ codes ": out of memory\n"
decision_lines es x Open = (codes "; object " ++ decimal x) ++ codes ": open\n"

-- no, if some object is impossible; yes, if each has an order
abbrev pub verified_status : List (ℕ × Decision) → Status
verified_status answers = status_on is_impossible is_order answers

-- ---- what is decided

-- No order of the calls of an object is valid, as is shown, and the lines that say so are in the
-- text.
pub record IsExplained (es : List Event) (text : List ℕ) : Type 0 where
  pub object : ℕ
  pub refuted : ShownReason
  pub holds : IsShownReason object (kind_of_object es object) (calls_on object (denoted es)) refuted
  pub before : List ℕ
  pub after : List ℕ
  pub lines : text ≡ before ++ (impossible_lines es object refuted ++ after)

-- Some object of the history has no order: the decisions on all objects by these claims, and what
-- they show.
pub record LacksSomeOrder (es : List Event) (claims : List Claim) (limit : ℕ) (status : Status)
    (text : List ℕ)
    : Type 0 where
  pub answers : List (ℕ × Decision)
  pub decided : AreDecisionsOn es claims limit answers
  pub some_open : list_all (λ a. is_order a.1) answers ≡ false
  pub status_is : status ≡ verified_status answers
  pub text_is : text ≡ lines_on (decision_lines es) answers
  -- if it is a no the history is not linearizable, and the text says why
  pub refuted : status ≡ ends.No → IsLinearizable (kind_of_object es) (events (denoted es)) → ⊥
  pub explained : status ≡ ends.No → IsExplained es text

-- Each object of the history, which has these counts, has an order that these claims give.
pub record IsCertified (es : List Event) (claims : List Claim) (limit : ℕ) (s : Summary)
    : Type 0 where
  pub answers : List (ℕ × Decision)
  pub decided : AreDecisionsOn es claims limit answers
  pub all : list_all (λ a. is_order a.1) answers ≡ true
  pub valid : AreValid es (certificates_decided answers)
  pub linearizable : IsLinearizable (kind_of_object es) (events (denoted es))
  pub counts : AreCountsOf es s

-- The verdict if each object has an order, or an allocation failed.
abbrev pub IsVerdictBy : List Event → List Claim → ℕ → Verdict → Type 0
IsVerdictBy es claims limit (verdict.Yes s) = IsCertified es claims limit s
IsVerdictBy es claims limit (verdict.No r) = ⊥
IsVerdictBy es claims limit (verdict.Malformed f) = ⊥
IsVerdictBy es claims limit verdict.NoMemory = ⊤

-- The output of the decisions: some object has no order, or the verdict.
abbrev pub IsVerifiedOutput : List Event → List Claim → ℕ → Status → List ℕ → Type 0
IsVerifiedOutput es claims limit status text =
    IsOutput (LacksSomeOrder es claims limit) (IsVerdictBy es claims limit) status text

-- ---- the outputs for texts

-- The output for a history that is denoted: some object has no order, or the evidence denotes no
-- claims.
abbrev pub LacksSomeOrderText : List ℕ → List ℕ → ℕ → Status → List ℕ → Type 0
LacksSomeOrderText h e limit status text =
    IsShort h × (es : List Event) × DenotesHistory h es
    × (((claims : List Claim) × DenotesClaims e claims × LacksSomeOrder es claims limit status text)
    ⊎ IsEvidenceFault e status text)

-- the verdict on the history, or the fault of its text
abbrev pub IsVerdictText : List ℕ → List ℕ → ℕ → Verdict → Type 0
IsVerdictText h e limit (verdict.Yes s) =
    IsShort h × (es : List Event) × DenotesHistory h es
    × (claims : List Claim) × DenotesClaims e claims × IsCertified es claims limit s
IsVerdictText h e limit (verdict.No r) = ⊥
IsVerdictText h e limit (verdict.Malformed f) = IsHistoryFault h (Faulty f)
IsVerdictText h e limit verdict.NoMemory = ⊤

-- the output of a verification of a history's text by the text of its evidence: the lines on
-- objects without an order, or a verdict
abbrev pub IsVerificationOutput : List ℕ → List ℕ → ℕ → Status → List ℕ → Type 0
IsVerificationOutput h e limit status text =
    IsOutput (LacksSomeOrderText h e limit) (IsVerdictText h e limit) status text

-- the lines show that an object of the history that the text denotes has no valid order
abbrev pub IsExplainedText : List ℕ → List ℕ → Type 0
IsExplainedText h out = (es : List Event) × DenotesHistory h es × IsExplained es out

-- The result of a verification of one text by another, whatever that holds: if it is a yes the
-- history is linearizable. If it is a no it is not, and the lines show it.
pub record IsVerification (h e : List ℕ) (limit : ℕ) (status : Status) (out : List ℕ) : Type 0 where
  pub output : IsVerificationOutput h e limit status out
  pub linearizable : status ≡ ends.Yes → IsLinearizableText h
  pub refuted : status ≡ ends.No → IsNotLinearizableText h
  pub explained : status ≡ ends.No → IsExplainedText h out
