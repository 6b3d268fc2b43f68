-- The output of a run, and its exit status.
use Rattle.std.specs.Prelude.{◌≡◌, ◌≢◌, ◌<◌, ◌⊎◌, ⊤, ℕ, List, [], true, ◌++◌, codes, map}
use Rattle.std.specs.List.{range_with_len}
use Rattle.model.specs.declared.Kind.{Kind}
use Rattle.seq_objects.specs.Kinds.{kinds_of}
use Rattle.clients.specs.Workloads.{Work}
use Rattle.clients.specs.Drawing.{client_calls}
use Rattle.clients.specs.Made.{IsRunRecord}
use Rattle.desk_model.specs.World.{AnyEntry, AnyEvent}
use Rattle.desk_model.specs.Records.{IsSoundRecord}
use Rattle.events.specs.declared.event.Event.{Event}
use Rattle.model.specs.declared.AnyOp.{AnyOp}
use Rattle.model.specs.declared.AnyReply.{AnyReply}
use Rattle.recorder.specs.Histories.{AreEventsOf, journals_in, logs_in}
use Rattle.recorder.specs.Records.{Recorded}
use Rattle.report.specs.declared.verdict.Summary.{Summary}
use Rattle.certificate.specs.declared.Certificate.{Certificate}
use Rattle.transcript.specs.Written.{IsHistoryText}
use Rattle.transcript.specs.Accounts.{AreCertificatesOf, IsAccepted, IsRecordRefused}
use Rattle.report.specs.Lines.{verdict_text}
use Rattle.report.specs.declared.verdict.Verdict.{Verdict}
use Rattle.report.specs.declared.verdict.Verdict.TheVariants.{Yes, No, Malformed, NoMemory}
use Rattle.report.specs.Counts.{AreCountsOf}
use Rattle.text_check.specs.Verdicts.{IsYesUnlessMemory}
use Rattle.command_line.specs.declared.lines.RunOptions.{RunOptions}
use Rattle.history_commands.specs.Comments.{comment_lines}
use Rattle.history_commands.specs.Outputs.{status_of}
use Rattle.history_commands.specs.declared.status.Status.{Status}
use Rattle.history_commands.specs.declared.status.Status.TheVariants as status_is

-- a record's journals, as they are
abbrev pub journals_of : Recorded AnyOp AnyReply → ℕ → List AnyEvent
journals_of r = journals_in (λ (op : AnyOp). op) (λ (reply : AnyReply). reply) r

-- a record's logs, as they are
abbrev pub logs_of : Recorded AnyOp AnyReply → ℕ → List AnyEntry
logs_of r = logs_in (λ (op : AnyOp). op) (λ (reply : AnyReply). reply) r

-- the record is sound, for objects of some kinds and some quota
abbrev pub HasSoundRecord : Recorded AnyOp AnyReply → Type 0
HasSoundRecord r =
    (kinds : List Kind) × (quota : ℕ) × IsSoundRecord kinds quota (journals_of r) (logs_of r)

-- the counts are those of the journals' history
abbrev pub HaveCounts : (ℕ → List AnyEvent) → Summary → Type 0
HaveCounts journals s = (es : List Event) × AreEventsOf journals es × AreCountsOf es s

-- What a verdict says of a record's journals and logs: its certificates are accepted, and the
-- counts are those of its history; or this is their first refusal.
abbrev pub Says : (ℕ → List AnyEvent) → (ℕ → List AnyEntry) → Verdict → Type 0
Says journals logs (Yes s) = IsAccepted journals logs × HaveCounts journals s
Says journals logs (No r) = IsRecordRefused journals logs r
Says journals logs (Malformed f) = ⊥
Says journals logs NoMemory = ⊤

-- the lines of the record's history, then this text, and its certificates as comments
pub record IsTextOf (journals : ℕ → List AnyEvent) (logs : ℕ → List AnyEntry)
    (between text : List ℕ) : Type 0 where
  pub history : List ℕ
  pub certificates : List Certificate
  pub is_history : IsHistoryText journals history
  pub are_certificates : AreCertificatesOf journals logs certificates
  pub text_is : text ≡ history ++ (between ++ comment_lines certificates)

-- The lines of the record's history, then this text, its certificates as comments, and the verdict
-- on the record as comments. The verdict on a sound record is yes, except if an allocation fails.
pub record IsReported (journals : ℕ → List AnyEvent) (logs : ℕ → List AnyEntry) (between : List ℕ)
    (status : Status) (text : List ℕ) : Type 0 where
  pub own : List ℕ
  pub verdict : Verdict
  pub is_text : IsTextOf journals logs between own
  pub says : Says journals logs verdict
  pub accepted : (kinds : List Kind) (quota : ℕ) → IsSoundRecord kinds quota journals logs
      → IsYesUnlessMemory verdict
  pub status_is : status ≡ status_of verdict
  pub text_is : text ≡ own ++ verdict_text true verdict

-- A thread could not be started, and one line says so. A client alone needs no thread.
abbrev pub HasNoThread : ℕ → Status → List ℕ → Type 0
HasNoThread clients status text =
    (status ≡ status_is.NoThread) × (text ≡ codes "no thread\n") × (1 < clients)

-- The certificates of the record are accepted. The lines are those of its history, then this text,
-- its certificates as comments, and a yes with the counts of its history.
pub record IsAcceptedOutput (journals : ℕ → List AnyEvent) (logs : ℕ → List AnyEntry)
    (between out : List ℕ) : Type 0 where
  pub accepted : IsAccepted journals logs
  pub history : List ℕ
  pub is_history : IsHistoryText journals history
  pub certificates : List Certificate
  pub are_certificates : AreCertificatesOf journals logs certificates
  pub counts : Summary
  pub are_counts : HaveCounts journals counts
  pub out_is : out
      ≡ history ++ (between ++ (comment_lines certificates ++ verdict_text true (Yes counts)))

-- the objects of a run with these options, and the calls of its clients, as they are drawn
abbrev pub work_of : RunOptions → Work
work_of o =
    record {
      kinds = kinds_of o.kinds o.objects;
      calls = map (client_calls o.kinds o.objects o.calls o.seed) (range_with_len 0 o.clients);
    }

-- The output of a run: the record of clients that made these calls, or the line that says why there
-- is none.
abbrev pub IsRunOutput : RunOptions → Status → List ℕ → Type 0
IsRunOutput o status text =
    ((r : Recorded AnyOp AnyReply) × IsRunRecord (work_of o) r
    × IsReported (journals_of r) (logs_of r) [] status text)
    ⊎ HasNoThread o.clients status text

-- the record of such a run, the certificates of which are accepted, and its lines
pub record IsAcceptedRun (o : RunOptions) (out : List ℕ) : Type 0 where
  pub recorded : Recorded AnyOp AnyReply
  pub ran : IsRunRecord (work_of o) recorded
  pub lines : IsAcceptedOutput (journals_of recorded) (logs_of recorded) [] out

-- What a run gives: a yes comes with the record of such a run, the certificates of which are
-- accepted, and it is never a no.
pub record IsRunResult (o : RunOptions) (status : Status) (out : List ℕ) : Type 0 where
  pub output : IsRunOutput o status out
  pub accepted : status ≡ status_is.Yes → IsAcceptedRun o out
  pub never_no : status ≢ status_is.No
