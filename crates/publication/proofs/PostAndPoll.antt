-- What a client knows over a whole post, and over a whole poll. `m` is its seat before; there is one seat after each
-- step.
use Rattle.std.proofs.Common.{◌≡◌, ⊎_elim, inl, ℕ, ◌+◌, ◌<◌, ◌≤◌, Bool, true, false, List, [], ◌∷◌, ◌++◌, map, length}
use Rattle.std.proofs.Common.{length-append, All, Option, Some, None, vec_len, vec_capacity, arith, refl, sym, ap}
use Rattle.std.proofs.Common.{subst, ◌∙◌, get_or-set_same, length-set, append-nil}
use mathlib.Core.List.{map-append}
use lib.ListN.{length-map}
use Rattle.atomic_table.specs.Table.{rest, Me}
use Rattle.model.specs.declared.AnyOp.{AnyOp}
use Rattle.model.specs.declared.AnyReply.{AnyReply}
use Rattle.desk_model.specs.declared.Request.{Request}
use Rattle.desk_model.specs.declared.Answer.{Answer}
use Rattle.desk_model.specs.declared.JournalEvent.{JournalEvent}
use Rattle.desk_model.specs.declared.JournalEvent.TheVariants.{Invoked, Returned}
use Rattle.desk_model.specs.World.{AnyEntry, AnyRequest, AnyAnswer, AnyDone, AnyEvent, kind_at, logged, logged_on}
use Rattle.desk_model.specs.World.{entries_of_client, served, calls_made}
use Rattle.desk_model.specs.World.{tickets_drawn, invoked, journal_of, IsLegalLog, StartsWith}
use Rattle.desk_model.specs.Images.{request_in, answer_in, event_in}
use Rattle.desk_model.proofs.Entries.{served_more, logged_here, logged_else}
use Rattle.desk_invariant.specs.declared.board.Journal.{Journal}
use Rattle.desk_invariant.specs.declared.board.Slot.{Slot}
use Rattle.desk_invariant.specs.declared.board.Slot.TheVariants as slot
use Rattle.desk_invariant.specs.declared.board.Own.{Own}
use Rattle.desk_invariant.specs.declared.board.Own.TheVariants as own
use Rattle.desk_invariant.specs.declared.board.DeskView.{DeskView}
use Rattle.desk_invariant.specs.Views.{seen_of, own_request, is_waiting, with_own, after_take, after_return}
use Rattle.desk_invariant.specs.Views.{MayHold, IsAccount, IsAtRest}
use Rattle.desk_invariant.proofs.Seeing.{seen_all}
use Rattle.publication.specs.Handles.{Agrees, IsClient, at_hand}
use Rattle.publication.specs.Calls.{IsPosted, IsPollAnswer}
use Rattle.desk_model.proofs.Tickets.{journal_begun, journal_over}
use Rattle.desk_invariant.specs.Views.{call_slot, journal_slot}
use Rattle.desk_model.specs.Limits.{max_objects}

-- ---- the own call, and the length of a journal

pub own_idle : (o : Own) → IsAtRest o → is_waiting o ≡ false → o ≡ own.Idle
own_idle o a e = grind arith

pub own_waiting : (o : Own) → IsAtRest o → is_waiting o ≡ true
    → (q : AnyRequest) × (o ≡ own.Waiting q) × (q.object < max_objects)
own_waiting (own.Waiting q) a e = (q, refl, a)
own_waiting own.Idle a e = absurd cc
own_waiting o a e = absurd a

-- the same client, where it is known whether a call is outstanding
pub outstanding_is : {S O R : Type 0} {op_in : O → AnyOp} {reply_in : R → AnyReply} {number calls quota : ℕ}
    {a b : Bool} {j : Journal O R}
    {m : Me (Slot S O R) DeskView} → a ≡ b → IsClient op_in reply_in number calls quota a j m
    → IsClient op_in reply_in number calls quota b j m
outstanding_is e k = rw e at k

-- The client of which a call is outstanding, and the request of that call.
pub outstanding : {S O R : Type 0} {op_in : O → AnyOp} {reply_in : R → AnyReply} {number calls quota : ℕ} {a : Bool}
    {j : Journal O R} {m : Me (Slot S O R) DeskView} → a ≡ true → IsClient op_in reply_in number calls quota a j m
    → IsClient op_in reply_in number calls quota true j m
    × ((q : AnyRequest) × (m.0.own ≡ own.Waiting q) × (q.object < max_objects))
outstanding e k =
    let k' = outstanding_is e k in (k', own_waiting _ k'.agrees.at_rest (sym k'.agrees.outstanding_is))

length-journal_of : (ds : List AnyDone) (q : Option AnyRequest) → length (journal_of ds q) ≡ tickets_drawn ds q
length-journal_of [] None = refl
length-journal_of [] (Some q) = refl
length-journal_of (d ∷ ds) q = let n = length-journal_of ds q in omega arith

-- ---- the vector of the journal, and its room

module _ {O R : Type 0} {op_in : O → AnyOp} {reply_in : R → AnyReply} {number calls quota : ℕ} {j : Journal O R}
    {v : DeskView} where
  -- the journal's vector is as long as the journal
  length-events : {outstanding : Bool} → Agrees op_in reply_in number calls quota outstanding j v
      → vec_len j.events ≡ tickets_drawn v.done (own_request v.own)
  length-events k =
      j.events.ok.0 ∙ (sym (length-map j.events.items (event_in op_in reply_in))
      ∙ (ap length k.journal_is ∙ length-journal_of v.done (own_request v.own)))

  -- there is room for the return of the outstanding call
  pub room_to_return : {q : AnyRequest} → Agrees op_in reply_in number calls quota true j v
      → v.own ≡ own.Waiting q → vec_len j.events < vec_capacity j.events
  room_to_return k is = omega (arith, rw is at (length-events k), rw is at k.calls_is, k.room, k.within)

  -- there is room for one call more
  pub room_to_call : Agrees op_in reply_in number calls quota false j v → calls < quota
      → vec_len j.events < vec_capacity j.events
  room_to_call k few =
      let is = own_idle v.own k.at_rest (sym k.outstanding_is) in
      omega (arith, rw is at (length-events k), rw is at k.calls_is, k.room)

-- a journal after one event more
journal_grows : {O R : Type 0} (op_in : O → AnyOp) (reply_in : R → AnyReply) (before after : Journal O R)
    (event : JournalEvent O R) (events : List AnyEvent)
    → map (event_in op_in reply_in) before.events.items ≡ events
    → after.events.items ≡ before.events.items ++ event ∷ []
    → map (event_in op_in reply_in) after.events.items ≡ events ++ event_in op_in reply_in event ∷ []
journal_grows op_in reply_in before after event events is more =
    ap (map (event_in op_in reply_in)) more
    ∙ (map-append (event_in op_in reply_in) before.events.items (event ∷ [])
    ∙ ap (λ z. z ++ event_in op_in reply_in event ∷ []) is)

-- ---- a whole post

module _ {S O R : Type 0} {op_in : O → AnyOp} {reply_in : R → AnyReply} {number calls quota : ℕ} {j : Journal O R}
    {m : Me (Slot S O R) DeskView} where
  -- After a whole post the client waits for its request, and has the empty slot of its journal in hand. The last step
  -- names each seat: the slot was filled, the ticket drawn, the request in the slot stamped with it, and posted.
  pub post_turn : {p q : Request O} {filled drawn stamped posted : Me (Slot S O R) DeskView}
      → IsClient op_in reply_in number calls quota false j m
      → filled ≡ (m.0, (call_slot number, slot.Request p) ∷ rest m.1)
      → drawn ≡ (with_own (own.Drawn (request_in op_in q)) filled.0, filled.1)
      → stamped ≡ (drawn.0, (call_slot number, slot.Request q) ∷ rest drawn.1)
      → posted ≡ (with_own (own.Waiting (request_in op_in q)) stamped.0, rest stamped.1)
      → posted ≡ (with_own (own.Waiting (request_in op_in q)) m.0, (journal_slot number, slot.Nothing) ∷ [])
  post_turn {q = q} k fill draw stamp post =
      let is = own_idle m.0.own k.agrees.at_rest (sym k.agrees.outstanding_is) in
      rw (post, stamp, draw, fill) (ap (λ z. (with_own (own.Waiting (request_in op_in q)) m.0, rest z))
      (k.in_hand ∙ ap (at_hand number) is))

  -- the client after a post
  pub client_after_post : {j' : Journal O R} (q : Request O) {d : Me (Slot S O R) DeskView}
      → IsClient op_in reply_in number calls quota false j m
      → d ≡ (with_own (own.Waiting (request_in op_in q)) m.0, (journal_slot number, slot.Nothing) ∷ [])
      → q.object < max_objects → calls < quota → j'.events.items ≡ j.events.items ++ Invoked q.ticket q.object q.op ∷ []
      → vec_capacity j'.events ≡ vec_capacity j.events
      → IsClient op_in reply_in number (calls + 1) quota true j' d
  client_after_post {j' = j'} q k e low few more same =
      let h = k.agrees in
      let w : AnyRequest = request_in op_in q in
      let is = own_idle m.0.own h.at_rest (sym h.outstanding_is) in
      let n = h.calls_is in
      let count : calls_made m.0.done (own_request m.0.own) ≡ length m.0.done + 0 =
      ap (λ z. calls_made m.0.done (own_request z)) is in
      let room = h.room in
      let calls_is : calls + 1 ≡ calls_made m.0.done (Some w) = omega arith in
      let within : calls + 1 ≤ quota = omega arith in
      let wide : quota + quota ≤ vec_capacity j'.events = omega arith in
      let accounts : (x : ℕ) → IsAccount x (with_own (own.Waiting w) m.0) (seen_of m.0 x) = λ x.
      let a = h.accounts x in
      (a.0, a.1, inl (subst (λ o. MayHold x m.0.number o a.0) is a.2)) in
      rw e record {
        agrees = assumption (
          h,
          low,
          accounts,
          journal_grows op_in reply_in j j' (Invoked q.ticket q.object q.op)
              (journal_of m.0.done None) (h.journal_is ∙ ap (λ z. journal_of m.0.done (own_request z)) is) more
              ∙ sym (journal_begun m.0.done w),
        );
        free = k.free;
        in_hand = refl;
      }

  -- what a post says
  pub posted : {x t : ℕ} (op : O) {v : DeskView} {d : Me (Slot S O R) DeskView}
      → IsClient op_in reply_in number calls quota false j m → v ≡ m.0
      → d ≡ (
        with_own (own.Waiting record { object = x; ticket = t; op = op_in op }) m.0,
        (journal_slot number, slot.Nothing) ∷ [],
      ) → IsPosted v x (op_in op) d.0
  posted {x} {t} op k is e =
      let same = own_idle m.0.own k.agrees.at_rest (sym k.agrees.outstanding_is) in
      let q : AnyRequest = record { object = x; ticket = t; op = op_in op } in rw (is, e) record {
        ticket = t;
        was_idle = same;
        knows = refl;
        journal = journal_begun m.0.done q ∙ ap (λ z. journal_of m.0.done (own_request z) ++ invoked q ∷ []) (sym same);
      }

  -- ---- a whole poll that takes the answer

  -- After a whole poll the client has taken the answer and drawn its return, and has two empty slots in hand. The last
  -- step names each seat: the answer was taken, its slot emptied, and the call is over.
  pub poll_turn : (t : ℕ) {q : AnyRequest} {e : Answer R} (l : List AnyEntry)
      {taken emptied over : Me (Slot S O R) DeskView} → IsClient op_in reply_in number calls quota true j m
      → m.0.own ≡ own.Waiting q
      → taken ≡ (after_take q (answer_in reply_in e) l m.0, (call_slot number, slot.Answer e) ∷ m.1)
      → emptied ≡ (taken.0, (call_slot number, slot.Nothing) ∷ rest taken.1)
      → over ≡ (after_return q (answer_in reply_in e) t emptied.0, emptied.1)
      → over ≡ (
        after_return q (answer_in reply_in e) t (after_take q (answer_in reply_in e) l m.0),
        (call_slot number, slot.Nothing) ∷ (journal_slot number, slot.Nothing) ∷ [],
      )
  poll_turn t {q} {e} l k is take empty return = let w : AnyAnswer = answer_in reply_in e in
      rw (return, empty, take) (ap (λ z. (
        after_return q w t (after_take q w l m.0),
        (call_slot number, slot.Nothing)
            ∷ z,
      )) (k.in_hand ∙ ap (at_hand number) is))

  -- the client after a poll that took the answer
  pub client_after_poll : (t : ℕ) {j' : Journal O R} {q : AnyRequest} (e : Answer R) (l : List AnyEntry)
      {d : Me (Slot S O R) DeskView}
      → IsClient op_in reply_in number calls quota true j m → m.0.own ≡ own.Waiting q → q.object < max_objects
      → IsLegalLog (kind_at m.0.kinds q.object) l
      → entries_of_client m.0.number l ≡ served q.object m.0.number m.0.done
      ++ logged m.0.number q (answer_in reply_in e)
      → d ≡ (
        after_return q (answer_in reply_in e) t (after_take q (answer_in reply_in e) l m.0),
        (call_slot number, slot.Nothing) ∷ (journal_slot number, slot.Nothing) ∷ [],
      )
      → j'.events.items ≡ j.events.items ++ Returned t e ∷ [] → vec_capacity j'.events ≡ vec_capacity j.events
      → IsClient op_in reply_in number calls quota false j' d
  client_after_poll t {j'} {q} e l k is low legal counted f more same =
      let h = k.agrees in
      let n = h.calls_is in
      let w : AnyAnswer = answer_in reply_in e in
      let room = h.room in
      let wide = h.wide in
      let ds : List AnyDone = m.0.done ++ record { request = q; answer = w; returned = t } ∷ [] in
      -- one call more is over
      let long : length ds ≡ length m.0.done + 1 =
      length-append m.0.done (record { request = q; answer = w; returned = t } ∷ []) in
      let count : calls_made m.0.done (own_request m.0.own) ≡ length m.0.done + 1 =
      ap (λ z. calls_made m.0.done (own_request z)) is in
      rw f record {
        agrees = record {
          client_is = h.client_is;
          number_is = h.number_is;
          number_low = h.number_low;
          at_rest = tt;
          going = h.going;
          calls_is = omega arith;
          within = h.within;
          few = h.few;
          outstanding_is = refl;
          -- the journal has the return
          journal_is = journal_grows op_in reply_in j j' (Returned t e) (journal_of m.0.done (Some q))
              (h.journal_is ∙ ap (λ z. journal_of m.0.done (own_request z)) is) more
              ∙ sym (journal_over m.0.done q w t);
          room = omega arith;
          wide = length-set m.0.seen q.object l ∙ wide;
          -- the log that was seen is legal, and accounts for the calls of the client
          legal = seen_all (λ x z. IsLegalLog (kind_at m.0.kinds x) z) m.0.seen q.object l (omega arith) legal
              (λ x _. h.legal x);
          accounts = seen_all (λ x z. IsAccount x (after_return q w t (after_take q w l m.0)) z) m.0.seen q.object l
              (omega arith) (
                [],
                counted ∙ (ap (λ z. served q.object m.0.number m.0.done ++ z)
                    (sym (logged_here q.object m.0.number q w refl))
                    ∙ (sym (served_more q.object m.0.number t m.0.done q w)
                    ∙ sym (append-nil (served q.object m.0.number ds)))),
                refl,
              )
              -- another object, which this call is not for
              (λ x other. let a = h.accounts x in
              let nothing : logged_on x m.0.number q w ≡ [] = logged_else x m.0.number q w (λ g. other (sym g)) in
              let none_now : a.0 ≡ [] =
              ⊎_elim (λ g. g) (λ (g : (b : AnyAnswer) × (a.0 ≡ logged_on x m.0.number q b)). g.1
              ∙ logged_else x m.0.number q g.0 (λ z. other (sym z)))
              (subst (λ o. MayHold x m.0.number o a.0) is a.2) in (
                [],
                a.1 ∙ (ap (λ z. served x m.0.number m.0.done ++ z) (none_now ∙ sym nothing)
                    ∙ (sym (served_more x m.0.number t m.0.done q w) ∙ sym (append-nil (served x m.0.number ds)))),
                refl,
              ));
        };
        free = k.free;
        in_hand = refl;
      }

  -- what a poll that took the answer says
  pub polled : {t : ℕ} {q : AnyRequest} (e : Answer R) (l : List AnyEntry) {v u : DeskView}
      {d : Me (Slot S O R) DeskView} → IsClient op_in reply_in number calls quota true j m → v ≡ m.0
      → m.0.own ≡ own.Waiting q → q.object < max_objects
      → IsLegalLog (kind_at m.0.kinds q.object) l → StartsWith l (seen_of m.0 q.object)
      → entries_of_client m.0.number l ≡ served q.object m.0.number m.0.done
      ++ logged m.0.number q (answer_in reply_in e)
      → u ≡ after_take q (answer_in reply_in e) l m.0 → All (λ y. y.ticket < t) (seen_of u q.object)
      → d ≡ (
        after_return q (answer_in reply_in e) t (after_take q (answer_in reply_in e) l m.0),
        (call_slot number, slot.Nothing) ∷ (journal_slot number, slot.Nothing) ∷ [],
      ) → IsPollAnswer v (answer_in reply_in e) d.0
  polled {t} {q} e l {u = u} k is waits low legal begins counted took later f =
      let w : AnyAnswer = answer_in reply_in e in
      let wide = k.agrees.wide in
      let now : seen_of u q.object ≡ l =
      ap (λ z. seen_of z q.object) took ∙ get_or-set_same m.0.seen q.object l [] (omega arith) in
      rw (is, f) record {
        request = q;
        log = l;
        ticket = t;
        waited = waits;
        knows = refl;
        seen = get_or-set_same m.0.seen q.object l [] (omega arith);
        legal = legal;
        begins = begins;
        counted = counted;
        later = subst (All (λ (y : AnyEntry). y.ticket < t)) now later;
        journal = journal_over m.0.done q w t
            ∙ ap (λ z. journal_of m.0.done (own_request z) ++ Returned t w ∷ []) (sym waits);
      }
