-- The journal of a client denotes its events, and the operations among them: by induction over its calls.
use Rattle.std.proofs.Common.{◌≡◌, ℕ, ◌<◌, ◌==◌, inl, inr, List, [], ◌∷◌, map, Option, Some, None, refl, ap, ◌∙◌, arith}
use Rattle.std.proofs.lemmas.Bool.{eq-eqb, and_from}
use Rattle.model.specs.Histories.{Inv, Res, process_of, IsSequential}
use Rattle.model.specs.Orders.{Numbered, events, ProcessCall, calls_in}
use Rattle.model.specs.Lists.{In}
use Rattle.model.proofs.Lists.{Pairs}
use Rattle.desk_model.specs.declared.Answer.TheVariants.{Reply, Refused}
use Rattle.desk_model.specs.declared.JournalEvent.TheVariants.{Returned}
use Rattle.desk_model.specs.World.{AnyRequest, AnyAnswer, AnyDone, invoked, journal_of, ticket_of}
use Rattle.desk_model.specs.Records.{Denotes}
use Rattle.locality.proofs.ProcessHistories.{at, first, calls_in-call}

abbrev invocation : ℕ → AnyRequest → Numbered
invocation client asked = at asked.ticket (Inv client asked.object asked.op)

-- the events of a call that is over, in front of others
abbrev turn : ℕ → AnyRequest → ℕ → AnyAnswer → List Numbered → List Numbered
turn client asked u (Reply r) ms = invocation client asked ∷ at u (Res client asked.object r) ∷ ms
turn client asked u Refused ms = ms

abbrev pub denoted : ℕ → List AnyDone → Option AnyRequest → List Numbered
denoted client [] None = []
denoted client [] (Some asked) = invocation client asked ∷ []
denoted client (d ∷ done) asked = turn client d.request d.returned d.answer (denoted client done asked)

-- and its operation
abbrev pub ended : ℕ → AnyRequest → ℕ → AnyAnswer → List ProcessCall → List ProcessCall
ended client asked u (Reply r) os = first client asked.ticket asked.object asked.op u r ∷ os
ended client asked u Refused os = os

-- the calls that a client made: those that are over, and the one that is not
abbrev pub made : ℕ → List AnyDone → Option AnyRequest → List ProcessCall
made client [] None = []
made client [] (Some asked) = record {
  process = client;
  object = asked.object;
  call = record { number = asked.ticket; op = asked.op; returned = None };
} ∷ []
made client (d ∷ done) asked = ended client d.request d.returned d.answer (made client done asked)

pub denotes : (client : ℕ) (done : List AnyDone) (asked : Option AnyRequest)
    → Denotes client (journal_of done asked) (denoted client done asked)
denotes client [] None = refl
denotes client [] (Some asked) = refl
denotes client (d ∷ done) asked = go d.answer (denotes client done asked)
  where
    go : (a : AnyAnswer) → Denotes client (journal_of done asked) (denoted client done asked)
        → Denotes client (invoked d.request ∷ Returned d.returned a ∷ journal_of done asked)
        (turn client d.request d.returned a (denoted client done asked))
    go (Reply r) h = (denoted client done asked, refl, h)
    go Refused h = h

-- each event is of the client, and its number is a ticket of the journal
pub of_client : (client : ℕ) (done : List AnyDone) (asked : Option AnyRequest) (m : Numbered)
    → In m (denoted client done asked)
    → (process_of m.event ≡ client) × In m.number (map ticket_of (journal_of done asked))
of_client client [] None m i = absurd i
of_client client [] (Some asked) m i = elim i [
  | inl e ↦ (ap (λ (m : Numbered). process_of m.event) e, inl (ap (λ (m : Numbered). m.number) e))
  | inr j ↦ absurd j
]
of_client client (d ∷ done) asked m i = go d.answer i (of_client client done asked m)
  where
    go : (a : AnyAnswer) → In m (turn client d.request d.returned a (denoted client done asked))
        → (In m (denoted client done asked)
        → (process_of m.event ≡ client) × In m.number (map ticket_of (journal_of done asked)))
        → (process_of m.event ≡ client)
        × In m.number (d.request.ticket ∷ d.returned ∷ map ticket_of (journal_of done asked))
    go (Reply r) i f = elim i [
      | inl e ↦ (ap (λ (m : Numbered). process_of m.event) e, inl (ap (λ (m : Numbered). m.number) e))
      | inr j ↦ elim j [
        | inl e ↦ (ap (λ (m : Numbered). process_of m.event) e, inr (inl (ap (λ (m : Numbered). m.number) e)))
        | inr k ↦ let (own, drawn) = f k in (own, inr (inr drawn))
      ]
    ]
    go Refused i f = let (own, drawn) = f i in (own, inr (inr drawn))

-- the numbers rise with the tickets
pub denoted_rises : (client : ℕ) (done : List AnyDone) (asked : Option AnyRequest)
    → Pairs (λ t u. t < u) (map ticket_of (journal_of done asked))
    → Pairs (λ a b. a.number < b.number) (denoted client done asked)
denoted_rises client [] None h = tt
denoted_rises client [] (Some asked) h = (λ y i. absurd i, tt)
denoted_rises client (d ∷ done) asked (invoked_first, (returned_first, rest)) =
    go d.answer (denoted_rises client done asked rest)
  where
    later : (m : Numbered) → In m (denoted client done asked) → In m.number (map ticket_of (journal_of done asked))
    later m i = (of_client client done asked m i).1

    go : (a : AnyAnswer) → Pairs (λ a b. a.number < b.number) (denoted client done asked)
        → Pairs (λ a b. a.number < b.number) (turn client d.request d.returned a (denoted client done asked))
    go (Reply r) k = (
      λ m i. elim i [
        | inl e ↦ let l = invoked_first d.returned (inl refl) in omega (arith, ap (λ (m : Numbered). m.number) e)
        | inr j ↦ invoked_first m.number (inr (later m j))
      ],
      (λ m i. returned_first m.number (later m i), k),
    )
    go Refused k = k

pub denoted_sequential : (client : ℕ) (done : List AnyDone) (asked : Option AnyRequest)
    → IsSequential (events (denoted client done asked))
denoted_sequential client [] None = tt
denoted_sequential client [] (Some asked) = refl
denoted_sequential client (d ∷ done) asked = go d.answer (denoted_sequential client done asked)
  where
    go : (a : AnyAnswer) → IsSequential (events (denoted client done asked))
        → IsSequential (events (turn client d.request d.returned a (denoted client done asked)))
    go (Reply r) h = (
      and_from (client == client) (d.request.object == d.request.object) (eq-eqb client client refl)
          (eq-eqb d.request.object d.request.object refl),
      h,
    )
    go Refused h = h

-- the operations among the events
pub made_in : (client : ℕ) (done : List AnyDone) (asked : Option AnyRequest)
    → calls_in (denoted client done asked) ≡ made client done asked
made_in client [] None = refl
made_in client [] (Some asked) = refl
made_in client (d ∷ done) asked = go d.answer (made_in client done asked)
  where
    go : (a : AnyAnswer) → calls_in (denoted client done asked) ≡ made client done asked
        → calls_in (turn client d.request d.returned a (denoted client done asked))
        ≡ ended client d.request d.returned a (made client done asked)
    go (Reply r) h =
        calls_in-call client d.request.ticket d.request.object d.request.op d.returned r (denoted client done asked)
        ∙ ap (λ os. first client d.request.ticket d.request.object d.request.op d.returned r ∷ os) h
    go Refused h = h
