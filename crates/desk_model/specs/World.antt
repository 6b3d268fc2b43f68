-- The world of flat combining: a clock that hands out tickets; of each object a holder, a row in
-- hand and a log; of each client the stage of its call and the calls that are over. Objects and
-- clients are named by number.
-- After Hendler, Incze, Shavit, Tzafrir, SPAA 2010, section 2: a client's row is its publication
-- record, and the holder of an object is its combiner.
use Rattle.std.specs.Prelude.{◌≡◌, ℕ, ◌+◌, ◌==◌, Bool, false, List, [], ◌∷◌, ◌++◌, map, length}
use Rattle.std.specs.Prelude.{slice_index_or, Option, Some, None, if◌then◌else◌}
use Rattle.model.specs.declared.Kind.{Kind}
use Rattle.model.specs.declared.AnyOp.{AnyOp}
use Rattle.model.specs.declared.AnyReply.{AnyReply}
use Rattle.model.specs.Objects.{Content, empty, next, some_kind}
use Rattle.desk_model.specs.declared.LogEntry.{LogEntry}
use Rattle.desk_model.specs.declared.Request.{Request}
use Rattle.desk_model.specs.declared.Answer.{Answer}
use Rattle.desk_model.specs.declared.Answer.TheVariants.{Reply, Refused}
use Rattle.desk_model.specs.declared.JournalEvent.{JournalEvent}
use Rattle.desk_model.specs.declared.JournalEvent.TheVariants.{Invoked, Returned}
use Rattle.desk_model.specs.declared.DoneCall.{DoneCall}

-- an entry of a log, with an operation and a reply of any kind
abbrev pub AnyEntry : Type 0
AnyEntry = LogEntry AnyOp AnyReply

-- a request with an operation of any kind
abbrev pub AnyRequest : Type 0
AnyRequest = Request AnyOp

-- an answer with a reply of any kind
abbrev pub AnyAnswer : Type 0
AnyAnswer = Answer AnyReply

-- an event of a journal, with an operation or a reply of any kind
abbrev pub AnyEvent : Type 0
AnyEvent = JournalEvent AnyOp AnyReply

-- a call that is over, with an operation and a reply of any kind
abbrev pub AnyDone : Type 0
AnyDone = DoneCall AnyOp AnyReply

-- How far a client's call has come. An absent client has not come yet; one that is idle has no
-- call.
pub data Stage : Type 0 where
  absent : Stage
  idle : Stage
  -- the call has its ticket
  drawn : AnyRequest → Stage
  -- its request is in the client's row
  posted : AnyRequest → Stage
  -- it was picked up by the holder of its object
  picked : AnyRequest → Stage
  -- its answer is in the client's row
  answered : AnyRequest → AnyAnswer → Stage
  -- the client has the answer, and has not yet drawn the ticket of the return
  taken : AnyRequest → AnyAnswer → Stage

-- The desk or the machine as plain data: the clock, and what there is of each object and of each
-- client, by number.
pub record World : Type 0 where
  -- the next ticket
  pub clock : ℕ
  -- the client that holds the object
  pub holder : ℕ → Option ℕ
  -- the row that the holder has picked up, and not yet answered or put back
  pub hand : ℕ → Option ℕ
  -- what the object has served, in order
  pub log : ℕ → List AnyEntry
  -- how far the client's call has come
  pub stage : ℕ → Stage
  -- the calls that are over, in order
  pub done : ℕ → List AnyDone
  -- whether the client has ended
  pub ended : ℕ → Bool

-- at the start no ticket was drawn, and no client has come
abbrev pub initial_world : World
initial_world =
    record {
      clock = 0;
      holder = λ _. None;
      hand = λ _. None;
      log = λ _. [];
      stage = λ _. absent;
      done = λ _. [];
      ended = λ _. false;
    }

-- the kind of an object, by its number
abbrev pub kind_at : List Kind → ℕ → Kind
kind_at kinds x = slice_index_or kinds x some_kind

-- what an answer to a request of this client puts into the log of the request's object
abbrev pub logged : ℕ → AnyRequest → AnyAnswer → List AnyEntry
logged c q (Reply r) = record { client = c; ticket = q.ticket; op = q.op; reply = r } ∷ []
logged c q Refused = []

-- what an answer to a request of this client puts into the log of the object x: nothing if the
-- request is for another object
abbrev pub logged_on : ℕ → ℕ → AnyRequest → AnyAnswer → List AnyEntry
logged_on x c q a = if q.object == x then logged c q a else []

-- the entries of one client
abbrev pub entries_of_client : ℕ → List AnyEntry → List AnyEntry
entries_of_client c [] = []
entries_of_client c (e ∷ es) = if e.client == c then e
    ∷ entries_of_client c es else entries_of_client c es

-- what the calls of a client that are over have put into the log of x
abbrev pub served : ℕ → ℕ → List AnyDone → List AnyEntry
served x c [] = []
served x c (d ∷ ds) = logged_on x c d.request d.answer ++ served x c ds

-- what the call of a client that is not over has put into the log of x
abbrev pub served_now : ℕ → ℕ → Stage → List AnyEntry
served_now x c (answered q a) = logged_on x c q a
served_now x c (taken q a) = logged_on x c q a
served_now x c t = []

-- the request of the call that is not over
abbrev pub request_of : Stage → Option AnyRequest
request_of absent = None
request_of idle = None
request_of (drawn q) = Some q
request_of (posted q) = Some q
request_of (picked q) = Some q
request_of (answered q a) = Some q
request_of (taken q a) = Some q

-- how many calls of a client are not over: one or none
abbrev pub under_way : Option AnyRequest → ℕ
under_way None = 0
under_way (Some q) = 1

-- how many calls a client has made
abbrev pub calls_made : List AnyDone → Option AnyRequest → ℕ
calls_made ds q = length ds + under_way q

-- how many tickets a client has drawn: two for each call that is over, one for the call that is not
abbrev pub tickets_drawn : List AnyDone → Option AnyRequest → ℕ
tickets_drawn ds q = length ds + length ds + under_way q

-- the invocation of a request, as an event of a journal
abbrev pub invoked : AnyRequest → AnyEvent
invoked q = Invoked q.ticket q.object q.op

-- The journal of a client: the invocation and the return of each call that is over, then the
-- invocation of the call that is not.
abbrev pub journal_of : List AnyDone → Option AnyRequest → List AnyEvent
journal_of [] None = []
journal_of [] (Some q) = invoked q ∷ []
journal_of (d ∷ ds) q = invoked d.request ∷ Returned d.returned d.answer ∷ journal_of ds q

-- the journal of client c in this world
abbrev pub journal_in : World → ℕ → List AnyEvent
journal_in w c = journal_of (w.done c) (request_of (w.stage c))

-- the ticket of an event of a journal
abbrev pub ticket_of : AnyEvent → ℕ
ticket_of (Invoked t x op) = t
ticket_of (Returned t a) = t

-- the tickets that a client has drawn, in order
abbrev pub tickets_in : World → ℕ → List ℕ
tickets_in w c = map ticket_of (journal_in w c)

-- From this content on, each operation of the log was possible, and its reply is the one that
-- `next` gives; and the object contains this after it.
abbrev pub Replays : Content → List AnyEntry → Content → Type 0
Replays c [] after = c ≡ after
Replays c (e ∷ es) after =
    (between : Content) × (next c e.op ≡ Some (between, e.reply)) × Replays between es after

-- A log is legal if it is replayed from the empty content.
abbrev pub IsLegalLog : Kind → List AnyEntry → Type 0
IsLegalLog kind log = (after : Content) × Replays (empty kind) log after

-- the first list begins with the second
abbrev pub StartsWith : List AnyEntry → List AnyEntry → Type 0
StartsWith log seen = (more : List AnyEntry) × (log ≡ seen ++ more)

-- what serving an operation did: it was done, or an allocation failed and nothing was done
abbrev pub Serves : Content → AnyOp → AnyAnswer → Content → Type 0
Serves c op (Reply r) after = next c op ≡ Some (after, r)
Serves c op Refused after = after ≡ c
