-- Each log of a sound world is a valid order of the calls on its object, and so its record is sound: each entry comes
-- from a call (`sources`), and the tickets say that no call comes after one that it precedes.
use Rattle.std.proofs.Common.{◌≡◌, ◌≢◌, ℕ, ◌<◌, ◌==◌, inl, List, [], ◌∷◌, ◌++◌, filter, Some, IsSome, Contains}
use Rattle.std.proofs.Common.{eqb-true, eq-eqb, refl, ap, sym, ◌∙◌, subst, append_assoc, arith}
use Rattle.model.specs.declared.Kind.{Kind}
use Rattle.model.specs.Objects.{empty}
use Rattle.model.specs.Orders.{Numbered, Return, Call, ProcessCall, calls_in, calls_on, ReturnsBefore, IsValidOrder}
use Rattle.model.specs.Lists.{In}
use Rattle.model.proofs.Lists.{Pairs, in_filter, in_filter_passes, in_filter_from, in_map, in_map_from}
use Rattle.model.proofs.Lists.{pairs_weaker, contains_from_in, all_from_in, all_at, all_from_pairs, in_right}
use Rattle.desk_model.specs.declared.JournalEvent.TheVariants.{Invoked}
use Rattle.desk_model.specs.World.{AnyEntry, World, kind_at, entries_of_client, logged, request_of, journal_in}
use Rattle.desk_model.specs.World.{tickets_in, ticket_of}
use Rattle.desk_model.specs.Sound.{Sound, IsInTime}
use Rattle.desk_model.specs.Records.{order_of, IsSoundRecord}
use Rattle.locality.proofs.Entries.{number_of}
use Rattle.locality.proofs.Merge.{one_number}
use Rattle.desk_model.proofs.Effects.{clock_few}
use Rattle.desk_model.proofs.Sources.{put_in, served_is, IsOf, is_of, put_rises, IsOver, is_over}
use Rattle.desk_model.proofs.Chosen.{Along, chosen, entry_beside, call_beside, pairs_beside, SaysSame, numbers_beside}
use Rattle.desk_model.proofs.Chosen.{replies_beside, once_in_order, in_own_entries, tickets_once, in_front}
use Rattle.desk_model.proofs.RecordHistory.{calls_by, tickets_rise, history, history_denoted, history_well_formed}
use Rattle.desk_model.proofs.RecordHistory.{calls_up, calls_of_client}
use Rattle.model.proofs.Orders.{returned_some}

-- the entry of a call that returned
abbrev entry_for : ProcessCall → Return → AnyEntry
entry_for o r = record { client = o.process; ticket = o.call.number; op = o.call.op; reply = r.reply }

-- it is in the log after entries with tickets from before the return
record IsLogged (log : List AnyEntry) (o : ProcessCall) (r : Return) : Type 0 where
  before : List AnyEntry
  after : List AnyEntry
  whole : log ≡ before ++ entry_for o r ∷ after
  early : (e : AnyEntry) → In e before → e.ticket < r.at

-- a log that has just this entry between what is before and after has it there
one_logged : (log before es after : List AnyEntry) (e : AnyEntry) → log ≡ before ++ es ++ after → es ≡ e ∷ []
    → log ≡ before ++ e ∷ after
one_logged log before es after e whole one =
    whole ∙ (append_assoc before es after ∙ ap (λ z. before ++ (z ++ after)) one)

module _ (kinds : List Kind) (quota : ℕ) (world : World) (sound : Sound kinds quota world) where
  abbrev past : List Numbered
  past = history world sound.journals.tickets

  abbrev ops : List ProcessCall
  ops = calls_in past

  put_in_log : (c object : ℕ) → entries_of_client c (world.log object) ≡ put_in object c (world.done c) (world.stage c)
  put_in_log c object = sound.counted c object ∙ served_is object c (world.done c) (world.stage c)

  sources : (object : ℕ) (e : AnyEntry) → In e (world.log object)
      → IsOf object e.client e (journal_in world e.client) (calls_by world e.client)
  sources object e i = is_of object e.client (world.done e.client) (world.stage e.client) e
      (subst (In e) (put_in_log e.client object) (in_own_entries e (world.log object) i))

  has_ticket : (object : ℕ) (e : AnyEntry) → In e (world.log object) → Contains (tickets_in world e.client) e.ticket
  has_ticket object e i = contains_from_in (tickets_in world e.client) e.ticket
      (in_map_from ticket_of (Invoked e.ticket object e.op) (journal_in world e.client) (sources object e i).invocation)

  -- no ticket stands twice in a log
  once : (object : ℕ) → Pairs (λ e f. e.ticket ≢ f.ticket) (world.log object)
  once object = tickets_once (world.log object)
      (λ c. subst (Pairs (λ (e f : AnyEntry). e.ticket < f.ticket)) (sym (put_in_log c object))
      (put_rises object c (world.done c) (world.stage c) (tickets_rise world sound.journals.tickets c)))
      (λ e f i j s. sound.journals.tickets.apart e.client f.client e.ticket (has_ticket object e i)
      (subst (Contains (tickets_in world f.client)) (sym s) (has_ticket object f j)))

  call_among : (c : ℕ) (o : ProcessCall) → In o (calls_by world c) → In o ops
  call_among c o i = in_filter (λ o. o.process == c) o ops
      (subst (In o) (sym (calls_of_client world sound.journals.tickets c)) i)

  -- a call that returned has its entry in the log, in time
  is_logged : (o : ProcessCall) (r : Return) → In o ops → o.call.returned ≡ Some r → IsLogged (world.log o.object) o r
  is_logged o r i e =
      let own : In o (calls_by world o.process) =
      subst (In o) (calls_of_client world sound.journals.tickets o.process)
      (in_filter_from (λ p. p.process == o.process) o ops i (eq-eqb o.process o.process refl)) in
      let d : IsOver o.process o r (world.done o.process) =
      is_over o.process (world.done o.process) (request_of (world.stage o.process)) o r own e in
      let t : IsInTime world o.process d.over =
      all_at (IsInTime world o.process) (world.done o.process) (sound.journals.in_time o.process) d.over d.among in
      record {
        before = t.0;
        after = t.1;
        whole = one_logged (world.log o.object) t.0 (logged o.process d.over.request d.over.answer) t.1 (entry_for o r)
            (ap world.log (sym d.object) ∙ t.2) d.logs;
        early = λ f j. subst (λ n. f.ticket < n) d.returned (all_at (λ e. e.ticket < d.over.returned) t.0 t.3 f j);
      }

  module _ (object : ℕ) where
    abbrev log : List AnyEntry
    log = world.log object

    abbrev on_object : Call → AnyEntry → ProcessCall
    on_object c e = record { process = e.client; object = object; call = c }

    -- the call of an entry
    record Beside (e : AnyEntry) (c : Call) : Type 0 where
      says : SaysSame e c
      among : In (on_object c e) ops

    beside : (e : AnyEntry) → In e log → (c : Call) × Beside e c
    beside e i =
        let s = (sources object e i).has_call in (
          s.call,
          record {
            says = record { number = s.number; op = s.op; reply = s.reply };
            among = call_among e.client (on_object s.call e) s.among;
          },
        )

    pick : (cs : List Call) × Along Beside log cs
    pick = chosen Beside log beside

    abbrev entries : List Call
    entries = pick.0

    known : (c : Call) → In c entries → Contains (calls_on object past) c
    known c i =
        let e = entry_beside Beside log entries pick.1 c i in
        contains_from_in (calls_on object past) c
        (in_map_from (λ (o : ProcessCall). o.call) (on_object c e.0) (filter (λ o. o.object == object) ops)
        (in_filter_from (λ o. o.object == object) (on_object c e.0) ops e.2.among (eq-eqb object object refl)))

    -- a call that returned stands beside its entry
    stands : (o : ProcessCall) (r : Return) → In o ops → o.object ≡ object → o.call.returned ≡ Some r
        → In o.call entries
    stands o r i on back =
        let e : AnyEntry = entry_for o r in
        let l : IsLogged (world.log o.object) o r = is_logged o r i back in
        let split : l.before ++ e ∷ l.after ≡ log = sym l.whole ∙ ap world.log on in
        let b = call_beside Beside log entries pick.1 e
        (subst (In e) split (in_right e l.before (e ∷ l.after) (inl refl))) in
        let same : on_object b.0 e ≡ o =
        one_number number_of ops (on_object b.0 e) o (calls_up world sound.journals.tickets) b.2.among i
        b.2.says.number in
        subst (λ (c : Call). In c entries) (ap (λ (o : ProcessCall). o.call) same) b.1

    whole : (o : ProcessCall) → In o (filter (λ o. o.object == object) ops) → IsSome o.call.returned → In o.call entries
    whole o i s =
        let back = returned_some o.call.returned s in
        stands o back.0 (in_filter (λ o. o.object == object) o ops i)
        (eqb-true o.object object (in_filter_passes (λ o. o.object == object) o ops i)) back.1

    in_order : Pairs (λ a b. ReturnsBefore b a → ⊥) entries
    in_order = pairs_beside Beside (λ a b. ReturnsBefore b a → ⊥) log entries pick.1
        (pairs_weaker (λ e f. (before after : List AnyEntry) (g : AnyEntry) → log ≡ before ++ g ∷ after
        → g.ticket ≡ f.ticket → In e before)
        (λ e f. (a b : Call) → Beside e a → Beside f b → ReturnsBefore b a → ⊥) log
        (λ e f i j front a b p q back.
        let l = is_logged (on_object b f) back.0 q.among back.1 in
        let first : In e l.before = front l.before l.after (entry_for (on_object b f) back.0) l.whole q.says.number in
        let t = l.early e first in
        let n = p.says.number in
        let u = back.2 in
        omega arith) (in_front log (once object)))

    pub valid : IsValidOrder (kind_at kinds object) (calls_on object past) (order_of log)
    valid = record {
      entries = entries;
      numbers = numbers_beside Beside (λ e c b. b.says) log entries pick.1;
      known = all_from_in (Contains (calls_on object past)) entries known;
      once = all_from_pairs (λ a b. a ≢ b) (order_of log) (once_in_order log (once object));
      whole = all_from_in (λ c. IsSome c.returned → Contains entries c) (calls_on object past)
          (λ c i. let o = in_map (λ (o : ProcessCall). o.call) c (filter (λ o. o.object == object) ops) i in
          subst (λ (c : Call). IsSome c.returned → Contains entries c) (sym o.2)
          (λ s. contains_from_in entries o.0.call (whole o.0 o.1 s)));
      in_order = all_from_pairs (λ a b. ReturnsBefore b a → ⊥) entries in_order;
      replies =
          let legal = sound.legal object in
          replies_beside Beside (λ e c b. b.says) (empty (kind_at kinds object)) legal.0 log entries legal.1 pick.1;
    }

-- the journals and logs of a sound world are a sound record
pub sound_record : (kinds : List Kind) (quota : ℕ) (world : World) → Sound kinds quota world
    → IsSoundRecord kinds quota (journal_in world) world.log
sound_record kinds quota world sound = record {
  count = world.clock;
  tickets = sound.journals.tickets;
  few = clock_few kinds quota world sound;
  on_objects = sound.journals.on_objects;
  history = history world sound.journals.tickets;
  denoted = history_denoted world sound.journals.tickets;
  well_formed = history_well_formed world sound.journals.tickets;
  legal = sound.legal;
  agree = λ x. all_from_in (λ e. Contains (journal_in world e.client) (Invoked e.ticket x e.op)) (world.log x)
      (λ e i. contains_from_in (journal_in world e.client) (Invoked e.ticket x e.op)
      (sources kinds quota world sound x e i).invocation);
  valid = valid kinds quota world sound;
}
