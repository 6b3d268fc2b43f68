-- The journals and logs of a sound record make a record (`record_from`): tickets are distinct and below the bound,
-- and the events in their order are proper.
use Rattle.std.proofs.Common.{◌≡◌, ℕ, ◌<◌, ◌==◌, List, map, filter, length, Some, Contains, refl, sym, subst}
use Rattle.std.proofs.Common.{eq-eqb, arith}
use Rattle.model.specs.declared.Kind.{Kind}
use Rattle.model.specs.Orders.{Return, ProcessCall, calls_in, calls_on}
use Rattle.model.specs.Lists.{In}
use Rattle.model.proofs.Lists.{Pairs, in_filter, in_filter_from, in_map_from, in_from_contains, all_at}
use Rattle.model.proofs.Lists.{all_from_in, all_from_pairs, pairs_from_all, pairs_from_map}
use Rattle.locality.proofs.ProcessHistories.{part, calls_in-part}
use Rattle.desk_model.specs.declared.JournalEvent.TheVariants.{Invoked}
use Rattle.desk_model.specs.World.{AnyEntry, AnyEvent, kind_at, ticket_of}
use Rattle.desk_model.specs.Sound.{IsAmong}
use Rattle.desk_model.specs.Records.{order_of, IsSoundRecord}
use Rattle.desk_model.proofs.Owners.{owner, drawn_by}
use Rattle.desk_model.proofs.Shares.{Shares, merged, merged_rises, merged_part}
use Rattle.events.specs.declared.event.Event.{Event}
use Rattle.events.specs.Events.{HasShape, IsProper}
use Rattle.events.proofs.ProcessRuns.{idle, Runs}
use Rattle.recorder.specs.Records.{Recorded}
use Rattle.recorder.specs.Histories.{events_of, AreEventsOf, max_tickets, IsRecord, IsRecordOf, journals_in, logs_in}
use Rattle.model.specs.declared.AnyOp.{AnyOp}
use Rattle.model.specs.declared.AnyReply.{AnyReply}
use Rattle.recorder.proofs.Running.{runs_part, proper_from}
use Rattle.recorder.proofs.Shapes.{shape_ordered}
use Rattle.recorder.proofs.Journals.{InTurn, in_turn, runs_of, numbers_of, process_of_each, invocation_of}
use Rattle.recorder.proofs.Journals.{object_of_each}

abbrev number_in : Event → ℕ
number_in e = e.number

abbrev process_in : Event → ℕ
process_in e = e.process

module _ (kinds : List Kind) (quota : ℕ) (journals : ℕ → List AnyEvent) (logs : ℕ → List AnyEntry)
    (s : IsSoundRecord kinds quota journals logs) where
  -- a call that returned has a reply of its shape
  shapes : (c : ℕ) (o : ProcessCall) (r : Return) → In o (calls_in (part c s.history)) → o.call.returned ≡ Some r
      → HasShape o.call.op r.reply
  shapes c o r i back =
      let among : In o (calls_in s.history) =
      in_filter (λ (p : ProcessCall). p.process == c) o (calls_in s.history)
      (subst (In o) (calls_in-part c s.history) i) in
      let own : In o (filter (λ (p : ProcessCall). p.object == o.object) (calls_in s.history)) =
      in_filter_from (λ (p : ProcessCall). p.object == o.object) o (calls_in s.history) among
      (eq-eqb o.object o.object refl) in
      shape_ordered (kind_at kinds o.object) (calls_on o.object s.history) (order_of (logs o.object))
      (s.valid o.object) o.call r
      (in_map_from (λ (p : ProcessCall). p.call) o
      (filter (λ (p : ProcessCall). p.object == o.object) (calls_in s.history)) own) back

  pub turns_in : (c : ℕ) → InTurn (journals c)
  turns_in c = in_turn c (journals c) (part c s.history) (s.denoted.each c) (shapes c)

  number_drawn : (c : ℕ) (e : Event) → In e (events_of c (journals c)) → In e.number (map ticket_of (journals c))
  number_drawn c e i = subst (In e.number) (numbers_of c 0 (journals c))
      (in_map_from number_in e (events_of c (journals c)) i)

  shares : Shares number_in process_in s.count (owner s.tickets) (λ c. events_of c (journals c))
  shares = record {
    rising = λ c. pairs_from_map (λ t u. t < u) number_in (events_of c (journals c))
        (subst (Pairs (λ t u. t < u)) (sym (numbers_of c 0 (journals c)))
        (pairs_from_all (λ t u. t < u) (map ticket_of (journals c)) (s.tickets.rising c)));
    below = λ c e i. (drawn_by s.tickets c e.number (number_drawn c e i)).0;
    owned = λ c e i. (drawn_by s.tickets c e.number (number_drawn c e i)).1;
    own = λ c e i. process_of_each c 0 (journals c) e i;
  }

  pub events_in : List Event
  events_in = merged number_in s.count (owner s.tickets) (λ c. events_of c (journals c))

  rises : Pairs (λ a b. a.number < b.number) events_in
  unfolding events_in
  rises = merged_rises number_in process_in s.count (owner s.tickets) (λ c. events_of c (journals c)) shares

  part_in : (c : ℕ) → filter (λ e. e.process == c) events_in ≡ events_of c (journals c)
  unfolding events_in
  part_in c = merged_part number_in process_in s.count (owner s.tickets) (λ c. events_of c (journals c)) shares c

  -- each event is in its process's journal
  own_event : (e : Event) → In e events_in → In e (events_of e.process (journals e.process))
  own_event e i = subst (In e) (part_in e.process)
      (in_filter_from (λ (f : Event). f.process == e.process) e events_in i (eq-eqb e.process e.process refl))

  pub among : (c : ℕ) (j : AnyEvent) → In j (journals c) → IsAmong kinds j
  among c j i = all_at (IsAmong kinds) (journals c) (s.on_objects c) j i

  pub is_proper : IsProper events_in
  is_proper = proper_from (kind_at kinds) events_in rises
      (λ p. runs_part p idle events_in (subst (Runs p idle) (sym (part_in p)) (runs_of p 0 (journals p) (turns_in p))))
      (λ e op i q. (among e.process (Invoked e.number e.object op)
      (invocation_of e.process 0 (journals e.process) e op (own_event e i) q)).1)

  pub are_events : AreEventsOf journals events_in
  are_events = record { rising = all_from_pairs (λ a b. a.number < b.number) events_in rises; each = part_in }

  -- a ticket of the journals is below the greatest number of tickets
  module _ (low : quota < 10001) where
    drawn_low : (c t : ℕ) → In t (map ticket_of (journals c)) → t < max_tickets
    drawn_low c t i =
        let l = (drawn_by s.tickets c t i).0 in
        let few = s.few in
        omega arith

    entry_low : (x : ℕ) (e : AnyEntry) → In e (logs x) → e.ticket < max_tickets
    entry_low x e i =
        let there : Contains (journals e.client) (Invoked e.ticket x e.op) =
        all_at (λ (e : AnyEntry). Contains (journals e.client) (Invoked e.ticket x e.op)) (logs x) (s.agree x) e i in
        drawn_low e.client e.ticket
        (in_map_from ticket_of (Invoked e.ticket x e.op) (journals e.client)
        (in_from_contains (journals e.client) (Invoked e.ticket x e.op) there))

    -- the journals and logs are a record
    pub is_record : IsRecord (length kinds) journals logs
    is_record = record {
      events = events_in;
      are_events = are_events;
      proper = is_proper;
      few = all_from_in (λ (e : Event). e.number < max_tickets) events_in
          (λ e i. drawn_low e.process e.number (number_drawn e.process e (own_event e i)));
      few_logged = λ x. all_from_in (λ (e : AnyEntry). e.ticket < max_tickets) (logs x) (entry_low x);
      on_objects = all_from_in (λ (e : Event). e.object < length kinds) events_in
          (λ e i. object_of_each kinds e.process 0 (journals e.process) (turns_in e.process) (among e.process) e
          (own_event e i));
    }

-- what is made of the journals and logs of a sound record
pub record_from : {O R : Type 0} (op_in : O → AnyOp) (reply_in : R → AnyReply) (r : Recorded O R) (kinds : List Kind)
    (quota : ℕ)
    → IsSoundRecord kinds quota (journals_in op_in reply_in r) (logs_in op_in reply_in r)
    → length r.logs ≡ length kinds → quota < 10001 → IsRecordOf op_in reply_in r
record_from op_in reply_in r kinds quota s long low =
    subst (λ (n : ℕ). IsRecord n (journals_in op_in reply_in r) (logs_in op_in reply_in r)) (sym long)
    (is_record kinds quota (journals_in op_in reply_in r) (logs_in op_in reply_in r) s low)
