-- The objects that journals name are those that their events name: each invocation of a journal is an event
-- (`invocation_event`), and each event is of the journal of its process (`own_event`).
use Rattle.std.proofs.Common.{ℕ, ◌==◌, List, [], ◌∷◌, Contains, refl, sym, subst, arith}
use Rattle.std.proofs.lemmas.Bool.{eq-eqb}
use Rattle.model.specs.declared.AnyOp.{AnyOp}
use Rattle.model.specs.Lists.{In}
use Rattle.model.proofs.Lists.{in_filter, in_filter_from, in_from_contains, contains_from_in}
use Rattle.desk_model.specs.declared.JournalEvent.TheVariants.{Invoked, Returned}
use Rattle.desk_model.specs.World.{AnyEvent}
use Rattle.events.specs.declared.event.Action.TheVariants.{Invoke}
use Rattle.events.specs.declared.event.Event.{Event}
use Rattle.events.specs.Events.{IsNamed}
use Rattle.recorder.specs.Histories.{events_of_journal, events_of, AreEventsOf, IsNamedIn}
use Rattle.recorder.proofs.Journals.{invocation_of}

-- an invocation of a journal is among its events
pub invocation_event : (client before ticket named : ℕ) (op : AnyOp) (js : List AnyEvent)
    → In (Invoked ticket named op) js
    → In (record { number = ticket; process = client; object = named; action = Invoke op })
    (events_of_journal client before js)
invocation_event client before ticket named op [] i = absurd i
invocation_event client before ticket named op (Invoked u z o ∷ js) i =
    let later = invocation_event client z ticket named op js in grind (arith, later)
invocation_event client before ticket named op (Returned u a ∷ js) i =
    let later = invocation_event client before ticket named op js in grind (arith, later)

module _ (journals : ℕ → List AnyEvent) (es : List Event) (are : AreEventsOf journals es) where
  pub own_event : (e : Event) → In e es → In e (events_of e.process (journals e.process))
  own_event e i = subst (In e) (are.each e.process)
      (in_filter_from (λ (f : Event). f.process == e.process) e es i (eq-eqb e.process e.process refl))

  -- an object that the events name is named in the journals
  pub named_in : (x : ℕ) → IsNamed es x → IsNamedIn journals x
  named_in x n =
      let e = n.event in
      let here = invocation_of e.process 0 (journals e.process) e n.op
      (own_event e (in_from_contains es e n.stands)) n.invokes in
      record {
        client = e.process;
        ticket = e.number;
        op = n.op;
        stands =
            subst (λ (y : ℕ). Contains (journals e.process) (Invoked e.number y n.op)) n.on_object
            (contains_from_in (journals e.process) (Invoked e.number e.object n.op) here);
      }

  -- an object that is named in the journals is named by the events
  pub named_by : (x : ℕ) → IsNamedIn journals x → IsNamed es x
  named_by x n =
      let e : Event = record { number = n.ticket; process = n.client; object = x; action = Invoke n.op } in
      let there : In e (events_of n.client (journals n.client)) =
      invocation_event n.client 0 n.ticket x n.op (journals n.client)
      (in_from_contains (journals n.client) (Invoked n.ticket x n.op) n.stands) in
      record {
        event = e;
        op = n.op;
        stands =
            contains_from_in es e (in_filter (λ (f : Event). f.process == n.client) e es
            (subst (In e) (sym (are.each n.client)) there));
        on_object = refl;
        invokes = refl;
      }
