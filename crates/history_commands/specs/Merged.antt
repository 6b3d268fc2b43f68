-- The merge of the findings on the shards of a history: the answer for each, and the output.
use Rattle.std.specs.Prelude.{◌≡◌, ◌≢◌, ◌⊎◌, ℕ, false, List, [], ◌∷◌, ◌++◌, codes, decimal, map}
use Rattle.std.specs.Prelude.{fold, nat_lt, if◌then◌else◌, All, Any, length}
use Rattle.std.specs.List.{AllZip, flat_map, list_all, list_any}
use Rattle.std.specs.List.Sorted.{IsNonDecreasingBy, IsPermutation}
use Rattle.edn_reader.specs.declared.fault.FaultKind.TheVariants.{TooLong}
use Rattle.events.specs.declared.event.Event.{Event}
use Rattle.events.specs.Events.{kind_of_object, denoted}
use Rattle.history.specs.declared.fault.HistoryFaultKind.TheVariants.{TooMany}
use Rattle.reading.specs.declared.text_failure.TextFailure.TheVariants.{Faulty}
use Rattle.reading.specs.Texts.{DenotesHistory, IsHistoryFault, IsLinearizableText}
use Rattle.reading.specs.Texts.{IsNotLinearizableText}
use Rattle.model.specs.Linearizable.{IsLinearizable}
use Rattle.model.specs.Orders.{calls_on, events}
use Rattle.reading.specs.declared.text_failure.Fault.{Fault}
use Rattle.reading.specs.declared.text_failure.Fault.TheVariants.{HistoryText, HistoryMaps}
use Rattle.reading.specs.declared.text_failure.Fault.TheVariants.{CertificateText, CertificateForms}
use Rattle.report.specs.declared.verdict.Summary.{Summary}
use Rattle.report.specs.declared.verdict.Verdict.TheVariants as verdict
use Rattle.report.specs.Lines.{fault_line, verdict_text}
use Rattle.shards.specs.Dividing.{object_named, with_numbers}
use Rattle.shards.specs.Tables.{FitsTable}
use Rattle.verifying.specs.declared.claim.Claim.{Claim}
use Rattle.verifying.specs.declared.decision.Decision.{Decision}
use Rattle.verifying.specs.declared.decision.Decision.TheVariants.{Order, Impossible, OutOfSteps}
use Rattle.verifying.specs.declared.decision.Decision.TheVariants.{NoMemory, Open}
use Rattle.verifying.specs.declared.decision.ShownReason.{ShownReason}
use Rattle.verifying.specs.declared.fault.ClaimTextFault.{ClaimTextFault}
use Rattle.verifying.specs.Decisions.{AreDecisionsOn, IsShownReason, is_impossible, is_order}
use Rattle.verifying.specs.Texts.{IsClaimTextFault}
use Rattle.history_commands.specs.ShardCounts.{AreAdded, AreSums, Counted, counted}
use Rattle.history_commands.specs.ShardCounts.{nothing_counted, seen_counts}
use Rattle.history_commands.specs.Verified.{DenotesClaims, IsOfClaimText, decision_lines}
use Rattle.history_commands.specs.Verified.{evidence_fault_line, impossible_lines}
use Rattle.history_commands.specs.declared.finding.Finding.{Finding}
use Rattle.history_commands.specs.declared.finding.Finding.TheVariants.{Certified, Undecided}
use Rattle.history_commands.specs.declared.finding.Finding.TheVariants.{Refuted, Malformed}
use Rattle.history_commands.specs.declared.merging.Merging.{Merging}
use Rattle.history_commands.specs.declared.object_lines.ObjectLines.{ObjectLines}
use Rattle.history_commands.specs.declared.shard_answer.ShardAnswer.{ShardAnswer}
use Rattle.history_commands.specs.declared.status.Status.{Status}
use Rattle.history_commands.specs.declared.status.Status.TheVariants as ends

-- what a merge takes of a shard: its number, how many shards there are, and how many maps this one
-- was given; its text and its table, the evidence on it, and how many steps a search takes at most
-- for which a claim names no number
pub record Shard : Type 0 where
  pub number : ℕ
  pub count : ℕ
  pub maps : ℕ
  pub text : List ℕ
  pub table : List ℕ
  pub evidence : List ℕ
  pub limit : ℕ

-- the answer for a shard: the finding, a line on the shard or nothing, the lines on each of its
-- objects that has no order, and the counts of its history
pub record Answer : Type 0 where
  pub finding : Finding
  pub note : List ℕ
  pub lines : List (ℕ × List ℕ)
  pub counts : Counted

-- ---- the order of findings

-- how bad a finding is: certified 0, undecided 1, refuted 2, malformed 3
abbrev pub finding_rank : Finding → ℕ
finding_rank Certified = 0
finding_rank Undecided = 1
finding_rank Refuted = 2
finding_rank Malformed = 3

-- the worse of two findings
abbrev pub worse : Finding → Finding → Finding
worse f g = if nat_lt (finding_rank f) (finding_rank g) then g else f

-- the worst of these findings: malformed before refuted, before undecided, before certified
abbrev pub worst : List Finding → Finding
worst fs = fold worse Certified fs

-- the exit status of a merge, by its worst finding
abbrev pub status_with : Finding → Status
status_with Certified = ends.Yes
status_with Undecided = ends.Undecided
status_with Refuted = ends.No
status_with Malformed = ends.Malformed

-- ---- a shard of which nothing is decided

-- a line on a shard, such as `shard 5: too large`
abbrev pub shard_line : ℕ → List ℕ → List ℕ
shard_line number said = (codes "shard " ++ (decimal number ++ codes ": ")) ++ said

-- the answer has this finding, and a line that says this about the shard, and no lines on objects
abbrev pub IsNoted : ℕ → Finding → List ℕ → Answer → Type 0
IsNoted number finding said a =
    (a.finding ≡ finding) × (a.note ≡ shard_line number said) × (a.lines ≡ [])
    × (a.counts ≡ nothing_counted)

-- the text has too many bytes, or too many maps
abbrev pub IsTooLarge : Fault → Type 0
IsTooLarge (HistoryText e) = e.kind ≡ TooLong
IsTooLarge (HistoryMaps f) = f.kind ≡ TooMany
IsTooLarge (CertificateText e) = ⊥
IsTooLarge (CertificateForms f) = ⊥

-- The answer for a shard whose text has this fault: the text is malformed, unless it is too large,
-- which says nothing about the full history.
abbrev pub AnswersFault : ℕ → Fault → Answer → Type 0
AnswersFault number f a =
    (IsTooLarge f × IsNoted number Undecided (codes "too large\n") a)
    ⊎ ((IsTooLarge f → ⊥) × IsNoted number Malformed (fault_line f) a)

-- ---- a shard that is decided

-- what the decisions on all objects show: an object is impossible, or each has an order
abbrev pub finding_on : List (ℕ × Decision) → Finding
finding_on decisions =
    if list_any (λ d. is_impossible d.1) decisions then Refuted
    else if list_all (λ d. is_order d.1) decisions then Certified else Undecided

-- the reason names the object by this number
abbrev pub shown_on : ℕ → ShownReason → ShownReason
shown_on x f = record f { reason = record f.reason { object = x } }

-- the decision, in which a reason, if one shows it, names the object by this number
abbrev pub decided_on : ℕ → Decision → Decision
decided_on x (Order c) = Order c
decided_on x (Impossible f) = Impossible (shown_on x f)
decided_on x (OutOfSteps n) = OutOfSteps n
decided_on x NoMemory = NoMemory
decided_on x Open = Open

-- the object with this number and its lines, in which a reason names it so; unless it has an order
abbrev pub lines_by : List Event → ℕ → Decision → List (ℕ × List ℕ)
lines_by es x d = if is_order d then [] else (x, decision_lines es x (decided_on x d)) ∷ []

-- The answer by claims on the history that events denote, and what it shows. The history and the
-- claims have the names of a shard, the lines those of the full history, which are given.
pub record AnswersClaims (whole_name : ℕ → ℕ) (es : List Event) (claims : List Claim) (limit : ℕ)
    (a : Answer) : Type 0 where
  pub decisions : List (ℕ × Decision)
  pub decided : AreDecisionsOn es claims limit decisions
  pub finding_is : a.finding ≡ finding_on decisions
  pub note_is : a.note ≡ []
  pub lines_are : a.lines ≡ flat_map (λ d. lines_by es (whole_name d.0) d.1) decisions
  pub counts_are : a.counts ≡ counted es
  pub certified : a.finding ≡ Certified → IsLinearizable (kind_of_object es) (events (denoted es))
  pub refuted : a.finding ≡ Refuted → IsLinearizable (kind_of_object es) (events (denoted es)) → ⊥

-- The answer by evidence on the history that events denote: the evidence denotes claims, or it is
-- malformed, and a line on the shard says so.
abbrev pub AnswersEvidence : ℕ → (ℕ → ℕ) → List Event → List ℕ → ℕ → Answer → Type 0
AnswersEvidence number whole_name es evidence limit a =
    ((claims : List Claim) × DenotesClaims evidence claims
    × AnswersClaims whole_name es claims limit a)
    ⊎ ((f : ClaimTextFault) × IsClaimTextFault evidence f × IsOfClaimText f
    × IsNoted number Undecided (evidence_fault_line f) a)

-- The answer for the events of a shard, whose table gives them the numbers of the full history, or
-- does not fit. The evidence is in these numbers.
abbrev pub AnswersTable : ℕ → (ℕ → ℕ) → List Event → List ℕ → List ℕ → ℕ → Answer → Type 0
AnswersTable number whole_name es table evidence limit a =
    ((ns : List ℕ) × FitsTable ns table es
    × AnswersEvidence number whole_name (with_numbers ns es) evidence limit a)
    ⊎ (((ns : List ℕ) → FitsTable ns table es → ⊥)
    × IsNoted number Malformed (codes "its table does not fit\n") a)

-- what is said of a shard with this number of maps, if it was given another number
abbrev pub miscounted : ℕ → ℕ → List ℕ
miscounted maps given =
    (codes "it has " ++ (decimal maps ++ codes " maps, and not ")) ++ (decimal given ++ codes "\n")

-- The answer for the events of a shard that was given this number of maps: the shard has as many,
-- or another number, and a line says so.
abbrev pub AnswersCounted : ℕ → ℕ → (ℕ → ℕ) → List Event → List ℕ → List ℕ → ℕ → Answer → Type 0
AnswersCounted number maps whole_name es table evidence limit a =
    ((length es ≡ maps) × AnswersTable number whole_name es table evidence limit a)
    ⊎ ((length es ≢ maps) × IsNoted number Malformed (miscounted (length es) maps) a)

-- the number that an object has in the full history, by its name in the shard
abbrev pub whole_name : Shard → ℕ → ℕ
whole_name s = object_named s.count s.number

-- The answer for a shard, whose text denotes a history, or has a fault.
abbrev pub AnswersShard : Shard → Answer → Type 0
AnswersShard s a =
    ((es : List Event) × DenotesHistory s.text es
    × AnswersCounted s.number s.maps (whole_name s) es s.table s.evidence s.limit a)
    ⊎ ((f : Fault) × IsHistoryFault s.text (Faulty f) × AnswersFault s.number f a)

-- ---- what is kept

-- the objects of lines, each with its text
abbrev pub seen_lines : List ObjectLines → List (ℕ × List ℕ)
seen_lines lines = map (λ l. (l.object, l.text.items)) lines

-- the answer for a shard, apart from how it is in memory
abbrev pub answer_seen : ShardAnswer → Answer
answer_seen a =
    record {
      finding = a.finding;
      note = a.note.items;
      lines = seen_lines a.lines.items;
      counts = seen_counts a.counts;
    }

-- The merge took these shards, and no others, and keeps the answers for them.
pub record AreMerged (m : Merging) (shards : List Shard) : Type 0 where
  pub answers : List Answer
  pub each : AllZip AnswersShard shards answers
  pub finding_is : m.finding ≡ worst (map (λ a. a.finding) answers)
  pub notes_are : m.notes.items ≡ flat_map (λ a. a.note) answers
  pub lines_are : seen_lines m.lines.items ≡ flat_map (λ a. a.lines) answers
  pub counts_are : AreAdded (seen_counts m.counts) (map (λ a. a.counts) answers)

-- ---- the output

-- these are the lines in rising number of the objects
pub record AreInOrder (lines sorted : List (ℕ × List ℕ)) : Type 0 where
  pub same : IsPermutation lines sorted
  pub rising : IsNonDecreasingBy (λ l. l.0) sorted

-- The lines if this is the worst finding: those of a yes with the counts of all shards, or the
-- lines on shards; and then, unless one of these is malformed, the lines on objects.
abbrev pub AreLinesWith : Finding → List Answer → List ℕ → Type 0
AreLinesWith Certified answers out =
    (s : Summary) × AreSums s (map (λ a. a.counts) answers)
    × (out ≡ verdict_text false (verdict.Yes s))
AreLinesWith Malformed answers out = out ≡ flat_map (λ a. a.note) answers
AreLinesWith f answers out =
    (sorted : List (ℕ × List ℕ)) × AreInOrder (flat_map (λ a. a.lines) answers) sorted
    × (out ≡ flat_map (λ a. a.note) answers ++ flat_map (λ l. l.1) sorted)

-- the answers on these shards, and the worst of them with its lines
pub record IsMergeOutput (shards : List Shard) (status : Status) (out : List ℕ) : Type 0 where
  pub answers : List Answer
  pub each : AllZip AnswersShard shards answers
  pub status_is : status ≡ status_with (worst (map (λ a. a.finding) answers))
  pub lines : AreLinesWith (worst (map (λ a. a.finding) answers)) answers out

-- No order of the calls of an object is valid, as is shown, and the lines that say so, by the name
-- of the object in the full history, are in the text.
pub record IsExplainedBy (whole_name : ℕ → ℕ) (es : List Event) (text : List ℕ) : Type 0 where
  pub object : ℕ
  pub refuted : ShownReason
  pub holds : IsShownReason object (kind_of_object es object) (calls_on object (denoted es)) refuted
  pub before : List ℕ
  pub after : List ℕ
  pub lines : text ≡ before
      ++ (impossible_lines es (whole_name object) (shown_on (whole_name object) refuted) ++ after)

-- The lines show that an object of the shard, in the numbers of the full history, has no valid
-- order.
pub record IsExplainedShard (s : Shard) (out : List ℕ) : Type 0 where
  pub events : List Event
  pub denoted : DenotesHistory s.text events
  pub numbers : List ℕ
  pub fits : FitsTable numbers s.table events
  pub explained : IsExplainedBy (whole_name s) (with_numbers numbers events) out

-- the text denotes a history of this many maps of clients
pub record HasMaps (maps : ℕ) (text : List ℕ) : Type 0 where
  pub events : List Event
  pub denoted : DenotesHistory text events
  pub counted : length events ≡ maps

-- the text denotes a history of this many maps of clients, or is too large for one
abbrev pub HasMapsOrIsLarge : ℕ → List ℕ → Type 0
HasMapsOrIsLarge maps text =
    HasMaps maps text ⊎ ((f : Fault) × IsHistoryFault text (Faulty f) × IsTooLarge f)

-- The result of a merge: if it is a yes the history of each shard is linearizable. If it is a no
-- that of one is not, and the lines show it. If it is a yes each shard has as many maps as it was
-- given; unless it is malformed, each that is not too large has.
pub record IsMerge (shards : List Shard) (status : Status) (out : List ℕ) : Type 0 where
  pub output : IsMergeOutput shards status out
  pub linearizable : status ≡ ends.Yes → All (λ s. IsLinearizableText s.text) shards
  pub refuted : status ≡ ends.No → Any (λ s. IsNotLinearizableText s.text) shards
  pub explained : status ≡ ends.No → Any (λ s. IsExplainedShard s out) shards
  pub counted : status ≡ ends.Yes → All (λ s. HasMaps s.maps s.text) shards
  pub none_miscounted : status ≢ ends.Malformed
      → All (λ s. HasMapsOrIsLarge s.maps s.text) shards
