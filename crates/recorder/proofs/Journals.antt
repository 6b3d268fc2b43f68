-- A journal whose calls and returns come in turn makes events of one process that does only what it may (`runs_of`),
-- with the tickets as numbers (`numbers_of`). By induction on the turns.
use Rattle.std.proofs.Common.{◌≡◌, ℕ, ◌<◌, inl, inr, List, [], ◌∷◌, map, length, Some, refl, ap, sym, ◌∙◌, subst}
use Rattle.std.proofs.lemmas.Bool.{eq-eqb}
use Rattle.model.specs.declared.Kind.{Kind}
use Rattle.model.specs.declared.AnyOp.{AnyOp}
use Rattle.model.specs.Orders.{Numbered, Return, ProcessCall, calls_in}
use Rattle.model.specs.Lists.{In}
use Rattle.locality.proofs.ProcessHistories.{first, calls_in-call}
use Rattle.desk_model.specs.declared.Answer.TheVariants.{Reply, Refused}
use Rattle.desk_model.specs.declared.JournalEvent.TheVariants.{Invoked, Returned}
use Rattle.desk_model.specs.World.{AnyAnswer, AnyEvent, ticket_of}
use Rattle.desk_model.specs.Sound.{IsAmong}
use Rattle.desk_model.specs.Records.{Denotes}
use Rattle.events.specs.declared.event.Action.TheVariants.{Invoke}
use Rattle.events.specs.declared.event.Event.{Event}
use Rattle.events.specs.Events.{HasShape}
use Rattle.events.proofs.ProcessRuns.{idle, busy, Runs}
use Rattle.recorder.specs.Histories.{action_of, events_of_journal}

-- a reply has the shape that the operation's replies have
abbrev pub Fits : AnyOp → AnyAnswer → Type 0
Fits op (Reply r) = HasShape op r
Fits op Refused = Unit {0}

-- calls and returns in turn, the last call perhaps without its return
pub data InTurn : List AnyEvent → Type 0 where
  none : InTurn []
  last : (ticket object : ℕ) (op : AnyOp) → InTurn (Invoked ticket object op ∷ [])
  -- an invocation, its return and what comes after both
  call : (ticket object : ℕ) (op : AnyOp) (ticket' : ℕ) (answer : AnyAnswer) (rest : List AnyEvent) → Fits op answer
      → InTurn rest → InTurn (Invoked ticket object op ∷ Returned ticket' answer ∷ rest)

-- so are those of a journal that denotes events in which each reply has its shape
pub in_turn : (client : ℕ) (events : List AnyEvent) (history : List Numbered) → Denotes client events history
    → ((o : ProcessCall) (r : Return) → In o (calls_in history) → o.call.returned ≡ Some r → HasShape o.call.op r.reply)
    → InTurn events
in_turn client [] history denoted shape = none
in_turn client (Invoked ticket object op ∷ []) history denoted shape = last ticket object op
in_turn client (Invoked ticket object op ∷ Returned ticket' (Reply r) ∷ rest) history denoted shape =
    let (later, is, denoted') = denoted in
    let calls : calls_in history ≡ first client ticket object op ticket' r ∷ calls_in later =
    ap calls_in is ∙ calls_in-call client ticket object op ticket' r later in
    let fits : HasShape op r =
    shape (first client ticket object op ticket' r) (record { at = ticket'; reply = r })
    (subst (In (first client ticket object op ticket' r)) (sym calls) (inl refl)) refl in
    call ticket object op ticket' (Reply r) rest fits
    (in_turn client rest later denoted' (λ o s i back. shape o s (subst (In o) (sym calls) (inr i)) back))
in_turn client (Invoked ticket object op ∷ Returned ticket' Refused ∷ rest) history denoted shape =
    call ticket object op ticket' Refused rest tt (in_turn client rest history denoted shape)
in_turn client events history denoted k = absurd denoted

-- the client does what it may
pub runs_of : (client object : ℕ) (events : List AnyEvent) → InTurn events
    → Runs client idle (events_of_journal client object events)
runs_of client object l none = tt
runs_of client object l (last ticket object' op) = (λ q. (tt, tt), λ q. absurd (cc (q, eq-eqb client client refl)))
runs_of client object l (call ticket object' op ticket' answer events fits rest) =
    (λ q. (tt, back answer fits (runs_of client object' events rest)), λ q. absurd (cc (q, eq-eqb client client refl)))
  where
    back : (answer : AnyAnswer) → Fits op answer → Runs client idle (events_of_journal client object' events)
        → Runs client (busy object' op)
        (record { number = ticket'; process = client; object = object'; action = action_of answer }
        ∷ events_of_journal client object' events)
    back (Reply r) f later = (λ q. ((refl, f), later), λ q. absurd (cc (q, eq-eqb client client refl)))
    back Refused f later = (λ q. (refl, later), λ q. absurd (cc (q, eq-eqb client client refl)))

-- the tickets are the numbers, and the client is the process
pub numbers_of : (client object : ℕ) (events : List AnyEvent)
    → map (λ (e : Event). e.number) (events_of_journal client object events) ≡ map ticket_of events
numbers_of client object [] = refl
numbers_of client object (Invoked ticket object' op ∷ events) =
    ap (λ ns. ticket ∷ ns) (numbers_of client object' events)
numbers_of client object (Returned ticket answer ∷ events) = ap (λ ns. ticket ∷ ns) (numbers_of client object events)

-- the process of each event of a client's journal is the client
pub process_of_each : (client object : ℕ) (events : List AnyEvent) (e : Event)
    → In e (events_of_journal client object events) → e.process ≡ client
process_of_each client object [] e i = absurd i
process_of_each client object (Invoked ticket object' op ∷ events) e i = elim i [
  | inl s ↦ ap (λ (f : Event). f.process) s
  | inr j ↦ process_of_each client object' events e j
]
process_of_each client object (Returned ticket answer ∷ events) e i = elim i [
  | inl s ↦ ap (λ (f : Event). f.process) s
  | inr j ↦ process_of_each client object events e j
]

-- an invocation among the events is one of the journal
pub invocation_of : (client object : ℕ) (events : List AnyEvent) (e : Event) (op : AnyOp)
    → In e (events_of_journal client object events) → e.action ≡ Invoke op → In (Invoked e.number e.object op) events
invocation_of client object [] e op i q = absurd i
invocation_of client object (Invoked ticket object' o ∷ events) e op i q = elim i [
  | inl s ↦
      let act : Invoke o ≡ Invoke op = ap (λ (f : Event). f.action) (sym s) ∙ q in
      let same : op ≡ o = cc (act) in
      inl (ap (λ (f : Event). Invoked f.number f.object op) s ∙ ap (Invoked ticket object') same)
  | inr j ↦ inr (invocation_of client object' events e op j q)
]
invocation_of client object (Returned ticket answer ∷ events) e op i q = elim i [
  | inl s ↦ absurd (not_back answer (ap (λ (f : Event). f.action) (sym s) ∙ q))
  | inr j ↦ inr (invocation_of client object events e op j q)
]
  where
    not_back : (answer : AnyAnswer) → action_of answer ≡ Invoke op → ⊥
    not_back (Reply r) k = absurd (cc)
    not_back Refused k = absurd (cc)

-- where each call is on one of the objects, so is each event
pub object_of_each : (kinds : List Kind) (client object : ℕ) (events : List AnyEvent) → InTurn events
    → ((j : AnyEvent) → In j events → IsAmong kinds j) → (e : Event) → In e (events_of_journal client object events)
    → e.object < length kinds
object_of_each kinds client object l none among e i = absurd i
object_of_each kinds client object l (last ticket object' op) among e i = elim i [
  | inl s ↦ subst (λ n. n < length kinds) (ap (λ (f : Event). f.object) (sym s))
      (among (Invoked ticket object' op) (inl refl)).0
  | inr j ↦ absurd j
]
object_of_each kinds client object l (call ticket object' op ticket' answer events fits rest) among e i = elim i [
  | inl s ↦ subst (λ n. n < length kinds) (ap (λ (f : Event). f.object) (sym s))
      (among (Invoked ticket object' op) (inl refl)).0
  | inr j ↦ elim j [
    | inl s ↦ subst (λ n. n < length kinds) (ap (λ (f : Event). f.object) (sym s))
        (among (Invoked ticket object' op) (inl refl)).0
    | inr k ↦ object_of_each kinds client object' events rest (λ g l. among g (inr (inr l))) e k
  ]
]
