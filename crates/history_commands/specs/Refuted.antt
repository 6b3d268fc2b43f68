-- The output of a check of reasons why a history is not linearizable, and the exit status.
use Rattle.std.specs.Prelude.{◌≡◌, ◌≢◌, ◌⊎◌, ℕ, false, List, [], ◌∷◌, ◌++◌, codes, decimal, length}
use Rattle.std.specs.List.{list_any, AllZip}
use Rattle.edn_reader.specs.Datum.{Datum}
use Rattle.edn_reader.specs.Sound.{IsShort}
use Rattle.edn_reader.specs.Spells.{Spells}
use Rattle.edn_reader.specs.Faults as edn
use Rattle.edn_reader.specs.declared.fault.FaultKind.TheVariants as edn_kind
use Rattle.model.specs.Linearizable.{IsLinearizable}
use Rattle.model.specs.Orders.{calls_on, events}
use Rattle.events.specs.declared.event.Event.{Event}
use Rattle.events.specs.Events.{kind_of_object, denoted}
use Rattle.events.specs.Operations.{ObjectCalls, calls_of}
use Rattle.refutation.specs.declared.reason.Reason.{Reason}
use Rattle.refutation.specs.declared.refuting.WhyNotShown.{WhyNotShown}
use Rattle.refutation.specs.declared.refuting.WhyNotShown.TheVariants.{Possible, NotExceeded}
use Rattle.refutation.specs.declared.refuting.WhyNotShown.TheVariants.{OutOfSteps}
use Rattle.refutation.specs.declared.refuting.WhyNotShown.TheVariants as why_not
use Rattle.refutation.specs.declared.refuting.ReasonAnswer.{ReasonAnswer}
use Rattle.refutation.specs.declared.refuting.ReasonAnswer.TheVariants.{Impossible, NotShown}
use Rattle.refutation.specs.declared.refuting.ReasonAnswer.TheVariants.{NoPart, OtherObject}
use Rattle.refutation.specs.Refutations.{IsReasonAnswer, shows_impossible, steps_of}
use Rattle.reason_report.specs.Operations.{operations_text}
use Rattle.refutation.specs.Denotes.{Denotes}
use Rattle.refutation.specs.Faults.{reason_fault_number}
use Rattle.refutation.specs.Texts.{IsReasonTextFault}
use Rattle.refutation.specs.declared.fault.ReasonFaultKind.TheVariants as form_kind
use Rattle.refutation.specs.declared.fault.ReasonTextFault.{ReasonTextFault}
use Rattle.refutation.specs.declared.fault.ReasonTextFault.TheVariants.{Text, Forms}
use Rattle.reading.specs.Texts.{DenotesHistory, IsNotLinearizableText}
use Rattle.history_commands.specs.Searches.{IsHistoryUnread}
use Rattle.history_commands.specs.Outputs.{IsExactly, IsOutput, status_by}
use Rattle.history_commands.specs.declared.status.Status.{Status}
use Rattle.history_commands.specs.declared.status.Status.TheVariants as ends

-- ---- reasons that are no reasons

-- the line of a fault of the text of reasons
abbrev pub reasons_fault_line : ReasonTextFault → List ℕ
reasons_fault_line (Text e) =
    codes "malformed reasons: E"
    ++ (decimal (edn.number_of e.kind) ++ (codes " at byte " ++ (decimal e.place ++ codes "\n")))
reasons_fault_line (Forms f) =
    codes "malformed reasons: N"
    ++ (decimal (reason_fault_number f.kind) ++
    (codes " at form " ++ (decimal f.form ++ codes "\n")))

-- a fault that is not an allocation failure
abbrev pub IsOfReasonText : ReasonTextFault → Type 0
IsOfReasonText (Text e) = e.kind ≢ edn_kind.NoMemory
IsOfReasonText (Forms f) = f.kind ≢ form_kind.NoMemory

-- the text of reasons has this fault, and its line says so
abbrev pub IsReasonsFault : List ℕ → Status → List ℕ → Type 0
IsReasonsFault r status text =
    (f : ReasonTextFault) × IsReasonTextFault r f × IsOfReasonText f
    × IsExactly ends.Malformed (reasons_fault_line f) status text

-- ---- the answers to reasons

-- the object of a reason, at the beginning of a line
abbrev pub reason_object_text : Reason → List ℕ
reason_object_text reason = codes "object " ++ decimal reason.object

-- how many calls a part has, and of how many, such as `3 of 80`
abbrev pub counts_text : ℕ → ObjectCalls → List ℕ
counts_text whole part =
    decimal (length (calls_of part.ops)) ++ (codes " of " ++ decimal whole)

-- the line of a part that has no valid order, of an object of this many calls
abbrev pub shown_line : ℕ → Reason → ObjectCalls → List ℕ
shown_line whole reason part =
    codes "not linearizable: "
    ++ (reason_object_text reason
    ++ (codes ": " ++ (counts_text whole part ++ codes " operations have no valid order\n")))

-- why it is not shown that no order is valid
abbrev pub why_not_text : ℕ → WhyNotShown → List ℕ
why_not_text limit (Possible order) = codes ": not shown: the part has a valid order\n"
why_not_text limit NotExceeded = codes ": not shown: the count is not exceeded\n"
why_not_text limit OutOfSteps =
    codes ": not shown: out of steps after " ++ (decimal limit ++ codes "\n")
why_not_text limit why_not.NoMemory = codes ": not shown: out of memory\n"

-- the lines of an answer on an object of this many calls: if no order is valid, with the
-- operations of the part
abbrev pub refutation_lines : List Event → ℕ → ℕ → Reason → ReasonAnswer → List ℕ
refutation_lines es whole limit reason (Impossible part) =
    shown_line whole reason part ++ operations_text false es part.ops
refutation_lines es whole limit reason (NotShown part why) =
    reason_object_text reason ++ why_not_text (steps_of reason.basis limit) why
refutation_lines es whole limit reason NoPart =
    reason_object_text reason ++ codes ": not shown: the cuts name no part\n"
refutation_lines es whole limit reason OtherObject =
    reason_object_text reason ++ codes ": not shown: it is not in the history\n"

-- how many calls the object of a reason has
abbrev pub call_count_on : List Event → Reason → ℕ
call_count_on es reason = length (calls_on reason.object (denoted es))

-- the lines of the answers to the reasons, in order
abbrev pub refutations_text : List Event → ℕ → List Reason → List ReasonAnswer → List ℕ
refutations_text es limit [] answers = []
refutations_text es limit (r ∷ rs) [] = []
refutations_text es limit (r ∷ rs) (a ∷ answers) =
    refutation_lines es (call_count_on es r) limit r a ++ refutations_text es limit rs answers

-- no, if one of the answers is that no order is valid; otherwise undecided
abbrev pub refute_status : List ReasonAnswer → Status
refute_status answers = status_by (list_any shows_impossible answers) false

-- The answers to the reasons, one by one, and what they show.
pub record AreAnswered (es : List Event) (reasons : List Reason) (limit : ℕ)
    (status : Status) (text : List ℕ) : Type 0 where
  pub answers : List ReasonAnswer
  pub each : AllZip (IsReasonAnswer es) reasons answers
  pub status_is : status ≡ refute_status answers
  pub text_is : text ≡ refutations_text es limit reasons answers
  -- if it is a no the history is not linearizable
  pub refuted : status ≡ ends.No → IsLinearizable (kind_of_object es) (events (denoted es)) → ⊥

-- The answers to the reasons that a text denotes, one by one, and what they show. The text is not
-- too long to be read.
abbrev pub AreAnsweredIn : List Event → List ℕ → ℕ → Status → List ℕ → Type 0
AreAnsweredIn es r limit status text =
    IsShort r × (ds : List Datum) × Spells ds r × (reasons : List Reason) × Denotes ds reasons
    × AreAnswered es reasons limit status text

-- The history's text is not too long to be read, and denotes a history. The output has the answers
-- to the reasons on this history, or says what is wrong with the text of the reasons.
abbrev pub IsRefuteText : List ℕ → List ℕ → ℕ → Status → List ℕ → Type 0
IsRefuteText h r limit status text =
    IsShort h × (es : List Event) × DenotesHistory h es
    × (AreAnsweredIn es r limit status text ⊎ IsReasonsFault r status text)

-- the output of a check of reasons
abbrev pub IsRefuteOutput : List ℕ → List ℕ → ℕ → Status → List ℕ → Type 0
IsRefuteOutput h r limit status text =
    IsOutput (IsRefuteText h r limit) (IsHistoryUnread h) status text

-- The result of a check of reasons: if it is a no the history is not linearizable.
pub record IsRefute (h r : List ℕ) (limit : ℕ) (status : Status) (out : List ℕ) : Type 0 where
  pub output : IsRefuteOutput h r limit status out
  pub refuted : status ≡ ends.No → IsNotLinearizableText h
