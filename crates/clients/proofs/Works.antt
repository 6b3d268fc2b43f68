-- One call more adds an invocation and a return to a client's journal (`one_made`), or an invocation alone if the call
-- stays outstanding (`stopped`). By induction along the calls.
use Rattle.std.proofs.Common.{◌≡◌, ℕ, zero, suc, ◌+◌, ◌<◌, inr, List, [], ◌∷◌, ◌++◌, length, take, drop, get_or, refl}
use Rattle.std.proofs.Common.{ap, ◌∙◌, arith, length-append, append_assoc}
use Rattle.desk_model.specs.declared.JournalEvent.TheVariants.{Invoked, Returned}
use Rattle.desk_model.specs.World.{AnyEvent, AnyAnswer, journal_of}
use Rattle.desk_invariant.specs.declared.board.Own.TheVariants as own
use Rattle.desk_invariant.specs.declared.board.DeskView.{DeskView}
use Rattle.desk_invariant.specs.Views.{own_request, journal}
use Rattle.combiner.specs.Waits.{IsCallOver, IsStillOutstanding}
use Rattle.clients.specs.Workloads.{WorkCall}
use Rattle.clients.specs.Made.{AreCallsMade, HasMadeCalls}

-- an idle client made these calls, in order, and is idle again
pub record HasMade (cs : List WorkCall) (v w : DeskView) : Type 0 where
  pub number : w.number ≡ v.number
  pub kinds : w.kinds ≡ v.kinds
  pub idle : w.own ≡ own.Idle
  pub calls : length w.done ≡ length v.done + length cs
  pub events : List AnyEvent
  pub journal : journal w ≡ journal v ++ events
  pub made : AreCallsMade cs events

-- the calls of a list are made by events, and one call more by its invocation and its return after these
made_more : (cs : List WorkCall) (call : WorkCall) (events : List AnyEvent) (invoked returned : ℕ) (answer : AnyAnswer)
    → AreCallsMade cs events
    → AreCallsMade (cs ++ call ∷ []) (events ++ Invoked invoked call.0 call.1 ∷ Returned returned answer ∷ [])
made_more [] call events invoked returned answer made = (
  invoked,
  returned,
  answer,
  [],
  ap (λ z. z ++ Invoked invoked call.0 call.1 ∷ Returned returned answer ∷ []) made,
  refl,
)
made_more (d ∷ cs) call events invoked returned answer (t', u', b, rest, is, made) = (
  t',
  u',
  b,
  rest ++ Invoked invoked call.0 call.1 ∷ Returned returned answer ∷ [],
  ap (λ z. z ++ Invoked invoked call.0 call.1 ∷ Returned returned answer ∷ []) is,
  made_more cs call rest invoked returned answer made,
)

-- an idle client that made calls and then one call more has made them all
pub one_made : (cs : List WorkCall) (call : WorkCall) (start before after : DeskView) (answer : AnyAnswer)
    → HasMade cs start before → IsCallOver before call.0 call.1 answer after
    → HasMade (cs ++ call ∷ []) start after
one_made cs call start before after answer so_far over = record {
  number = over.number ∙ so_far.number;
  kinds = over.kinds ∙ so_far.kinds;
  idle = over.idle;
  calls = omega (arith, so_far.calls, over.calls, length-append cs (call ∷ []));
  events = so_far.events ++ Invoked over.invoked call.0 call.1 ∷ Returned over.returned answer ∷ [];
  journal = over.journal
      ∙ (ap (λ z. z ++ Invoked over.invoked call.0 call.1 ∷ Returned over.returned answer ∷ []) so_far.journal
      ∙ append_assoc (journal start) so_far.events (Invoked over.invoked call.0 call.1 ∷ Returned over.returned answer
      ∷ []));
  made = made_more cs call so_far.events over.invoked over.returned answer so_far.made;
}

parts : {A : Type 0} (l : List A) (i : ℕ) (d : A) → i < length l → l ≡ take i l ++ get_or l i d ∷ drop (suc i) l
parts [] i d h = absurd (omega arith)
parts (x ∷ xs) zero d h = refl
parts (x ∷ xs) (suc i) d h = ap (λ z. x ∷ z) (parts xs i d (omega arith))

-- the call i is outstanding, after those that were made
pub stopped : (cs : List WorkCall) (i : ℕ) (none : WorkCall) (start before after : DeskView) → i < length cs
    → HasMade (take i cs) start before
    → IsStillOutstanding before (get_or cs i none).0 (get_or cs i none).1 after → HasMadeCalls cs start after
stopped cs i none start before after low so_far still =
    let p = still.1 in
    let call : WorkCall = get_or cs i none in
    record {
      number = still.2.number ∙ (ap (λ z. z.number) p.knows ∙ so_far.number);
      kinds = still.2.kinds ∙ (ap (λ z. z.kinds) p.knows ∙ so_far.kinds);
      events = so_far.events ++ Invoked p.ticket call.0 call.1 ∷ [];
      journal = (λ j. journal_of (still.2.done j) (own_request (still.2.own j)))
          ∙ (p.journal ∙ (ap (λ z. z ++ Invoked p.ticket call.0 call.1 ∷ []) so_far.journal
          ∙ append_assoc (journal start) so_far.events (Invoked p.ticket call.0 call.1 ∷ [])));
      made = inr record {
        front = take i cs;
        call = call;
        later = drop (suc i) cs;
        calls = parts cs i none low;
        events = so_far.events;
        made = so_far.made;
        ticket = p.ticket;
        last = refl;
      };
    }
