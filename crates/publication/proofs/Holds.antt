-- A client that wins an object, serves rows and puts the object back: its fields go on agreeing with what it knows.
use mathlib.Core.Option as maybe
use mathlib.Core.Option.{some}
use lib.ListN.{get_elem?, length-map}
use Rattle.std.proofs.Common.{◌≡◌, ℕ, ◌+◌, ◌-◌, ◌<◌, ◌≤◌, Bool, List, ◌∷◌, ◌++◌, length, length-append}
use Rattle.std.proofs.Common.{vec_len, vec_capacity, refl, sym, ap, ◌∙◌, arith, length-set}
use Rattle.atomic_table.specs.Table.{rest, Me}
use Rattle.atomic_table.specs.Seated.{TableId}
use Rattle.publication_list.specs.Calls.{WalkerSeen}
use Rattle.model.specs.declared.Kind.{Kind}
use Rattle.model.specs.declared.AnyOp.{AnyOp}
use Rattle.model.specs.declared.AnyReply.{AnyReply}
use Rattle.model.specs.Objects.{Content, empty, kind_of}
use Rattle.desk_model.specs.declared.Request.{Request}
use Rattle.desk_model.specs.declared.Answer.{Answer}
use Rattle.desk_model.specs.World.{AnyEntry, kind_at, logged, IsLegalLog, Serves}
use Rattle.desk_model.specs.Images.{request_in, answer_in, entry_in}
use Rattle.desk_model.proofs.Entries.{replays_more}
use Rattle.desk_invariant.specs.declared.board.Core.{Core}
use Rattle.desk_invariant.specs.declared.board.Journal.{Journal}
use Rattle.desk_invariant.specs.declared.board.Slot.{Slot}
use Rattle.desk_invariant.specs.declared.board.Slot.TheVariants as slot
use Rattle.desk_invariant.specs.declared.board.Held.TheVariants as held
use Rattle.desk_invariant.specs.declared.board.Role.TheVariants as role
use Rattle.desk_invariant.specs.declared.board.DeskView.{DeskView}
use Rattle.desk_invariant.specs.Views.{after_miss, after_row_miss, after_win, after_pick, after_put_back}
use Rattle.desk_invariant.specs.Views.{after_answer, after_release, after_meet, IsAtRest, IsAccount}
use Rattle.desk_invariant.specs.Rule.{CoreFits}
use Rattle.desk_invariant.proofs.Seeing.{seen_all}
use Rattle.publication.specs.Handles.{Agrees, log_of, IsClient, IsPass, IsHand}
use Rattle.desk_invariant.specs.Views.{call_slot}
use Rattle.desk_model.specs.Limits.{max_clients, max_objects}

-- ---- what may change in a view with which the fields agree

-- The client sees the list l of x. `Agrees` says nothing of what it was told, holds, has put back or has missed, how
-- often it won, and what it knows of ends and of its row: `assumption` proves it where only these change.
pub agrees_seeing : {O R : Type 0} {op_in : O → AnyOp} {reply_in : R → AnyReply} {number calls quota : ℕ}
    {outstanding : Bool} {j : Journal O R} {v : DeskView} (x : ℕ) (l : List AnyEntry) → x < max_objects
    → IsLegalLog (kind_at v.kinds x) l → IsAccount x v l → Agrees op_in reply_in number calls quota outstanding j v
    → Agrees op_in reply_in number calls quota outstanding j (after_meet x l v)
agrees_seeing {v = v} x l low legal account k = let wide = k.wide in assumption (
  length-set v.seen x l ∙ wide,
  seen_all (λ y z. IsLegalLog (kind_at v.kinds y) z) v.seen x l (omega arith) legal (λ y _. k.legal y),
  seen_all (λ y z. IsAccount y v z) v.seen x l (omega arith) account (λ y _. k.accounts y),
  k,
)

-- ---- the core after one more request

module _ {S O R : Type 0} (op_in : O → AnyOp) (reply_in : R → AnyReply) where
  -- what an entry leaves of the room for entries
  pub room_taken : (before after : Core S O R) (more : List AnyEntry)
      → log_of op_in reply_in after ≡ log_of op_in reply_in before ++ more
      → (vec_len before.log < vec_capacity before.log → vec_capacity after.log ≡ vec_capacity before.log)
      → 0 < vec_capacity before.log - vec_len before.log
      → (vec_capacity after.log - vec_len after.log) + length more ≡ vec_capacity before.log - vec_len before.log
  room_taken before after more e same room =
      let n : vec_len before.log ≡ length (log_of op_in reply_in before) =
      before.log.ok.0 ∙ sym (length-map before.log.items (entry_in op_in reply_in)) in
      let n' : vec_len after.log ≡ length (log_of op_in reply_in after) =
      after.log.ok.0 ∙ sym (length-map after.log.items (entry_in op_in reply_in)) in
      let long : length (log_of op_in reply_in after) ≡ length (log_of op_in reply_in before) + length more =
      ap length e ∙ length-append (log_of op_in reply_in before) more in
      let capacity = same (omega arith) in
      let within : vec_len after.log ≤ vec_capacity after.log = after.log.ok.1 in
      omega arith

module _ {S O R : Type 0} (content : S → Content) (op_in : O → AnyOp) (reply_in : R → AnyReply) where
  -- A core that served a request fits its log with one more entry.
  pub core_grows : (kind : Kind) (list : maybe.Option TableId) (row : ℕ) (before after : Core S O R)
      (request : Request O) (given : Answer R) → after.list ≡ before.list
      → CoreFits content op_in reply_in kind list before (log_of op_in reply_in before)
      → log_of op_in reply_in after ≡ log_of op_in reply_in before ++ logged row (request_in op_in request)
      (answer_in reply_in given)
      → Serves (content before.object) (op_in request.op) (answer_in reply_in given) (content after.object)
      → CoreFits content op_in reply_in kind list after (log_of op_in reply_in after)
  core_grows kind list row before after request given same fits log did = (
    refl,
    rw log (replays_more (empty kind) (content before.object) (content after.object) (log_of op_in reply_in before) row
        (request_in op_in request) (answer_in reply_in given)
        fits.1 did),
    fits.2 ∙ ap (λ (l : WalkerSeen). some l.roster) (sym same),
  )

-- after a miss the client's fields still agree with what it knows
pub client_after_miss : {S O R : Type 0} {op_in : O → AnyOp} {reply_in : R → AnyReply} {number calls quota : ℕ}
    {outstanding : Bool} {j : Journal O R} (i : ℕ) {m missed : Me (Slot S O R) DeskView}
    → IsClient op_in reply_in number calls quota outstanding j m → missed ≡ (after_miss i m.0, m.1)
    → IsClient op_in reply_in number calls quota outstanding j missed
client_after_miss i k e = rw e record { agrees = assumption k.agrees; free = k.free; in_hand = k.in_hand }

module _ {S O R : Type 0} (content : S → Content) (op_in : O → AnyOp) (reply_in : R → AnyReply)
    (number calls quota : ℕ) (outstanding : Bool) (j : Journal O R) where
  abbrev M : Type 0
  M = Me (Slot S O R) DeskView

  abbrev TheClient : M → Type 0
  TheClient = IsClient op_in reply_in number calls quota outstanding j

  abbrev ThePass : ℕ → Core S O R → M → Type 0
  ThePass = IsPass content op_in reply_in number calls quota outstanding j

  abbrev TheHand : ℕ → Core S O R → ℕ → Request O → M → Type 0
  TheHand = IsHand content op_in reply_in number calls quota outstanding j

  -- ---- a win and a release

  -- the core is out of its slot
  pub pass_after_win : {x : ℕ} {k core : Core S O R} (l : List AnyEntry) {m won emptied : M} → TheClient m
      → won ≡ (after_win x l m.0, (x, slot.Core k) ∷ m.1) → emptied ≡ (won.0, (x, slot.Nothing) ∷ rest won.1) → core ≡ k
      → CoreFits content op_in reply_in (kind_at m.0.kinds x) (get_elem? m.0.lists x) k l → x < max_objects
      → ThePass x core emptied
  pass_after_win {x} l c e f same fits low = rw (f, e, same) record {
    agrees = assumption c.agrees;
    holds = ap (held.Pass x) (sym fits.0);
    in_hand = ap (λ z. (x, slot.Nothing) ∷ z) c.in_hand;
    fits = (refl, rw fits.0 fits.1, fits.2);
    low = low;
  }

  -- the client after its pass was put back: its slot was filled with the core, and the object released
  pub client_after_release : {x : ℕ} {core : Core S O R} {m filled released : M} → ThePass x core m
      → filled ≡ (m.0, (x, slot.Core core) ∷ rest m.1)
      → released ≡ (after_release x (log_of op_in reply_in core) filled.0, rest filled.1)
      → IsAccount x filled.0 (log_of op_in reply_in core) → TheClient released
  client_after_release {x} {core} p e f account = rw (f, e) record {
    agrees = assumption
        (agrees_seeing x (log_of op_in reply_in core) p.low (content core.object, p.fits.1) (rw e at account) p.agrees);
    free = refl;
    in_hand = ap rest p.in_hand;
  }

  -- With the core in its slots again, the client holds the object, and the core fits its log.
  pub pass_with_core : {x : ℕ} {core : Core S O R} {m filled : M} → ThePass x core m
      → filled ≡ (m.0, (x, slot.Core core) ∷ rest m.1)
      → (filled.0.role ≡ role.Client) × (filled.0.held ≡ held.Pass x (log_of op_in reply_in core))
      × (filled.1 ≡ (x, slot.Core core) ∷ rest m.1)
      × CoreFits content op_in reply_in (kind_at filled.0.kinds x) (get_elem? filled.0.lists x)
      core (log_of op_in reply_in core)
      × IsAtRest filled.0.own
  pass_with_core p e = rw e (p.agrees.client_is, p.holds, refl, p.fits, p.agrees.at_rest)

  -- ---- misses at rows, and requests in hand

  -- With the request in its slots again, the client has that request of the row in hand.
  pub hand_with_request : {x : ℕ} {core : Core S O R} {r : ℕ} {p : Request O} {m filled : M} → TheHand x core r p m
      → filled ≡ (m.0, (call_slot r, slot.Request p) ∷ rest m.1)
      → (filled.0.role ≡ role.Client)
      × (filled.0.held ≡ held.Hand x (log_of op_in reply_in core) r (request_in op_in p))
      × (filled.1 ≡ (call_slot r, slot.Request p) ∷ rest m.1)
  hand_with_request h e = rw e (h.agrees.client_is, h.holds, refl)

  -- With the answer in its slots, the client has the request of the row in hand, and the log is legal with the answer.
  pub hand_with_answer : {x : ℕ} {k : Core S O R} (k' : Core S O R) {r : ℕ} {q : Request O} {a : Answer R}
      {m filled : M} → TheHand x k r q m
      → filled ≡ (m.0, (call_slot r, slot.Answer a) ∷ rest m.1)
      → log_of op_in reply_in k' ≡ log_of op_in reply_in k ++ logged r (request_in op_in q) (answer_in reply_in a)
      → Serves (content k.object) (op_in q.op) (answer_in reply_in a) (content k'.object)
      → (filled.0.role ≡ role.Client) × (filled.0.held ≡ held.Hand x (log_of op_in reply_in k) r (request_in op_in q))
      × (filled.1 ≡ (call_slot r, slot.Answer a) ∷ rest m.1)
      × IsLegalLog (kind_at filled.0.kinds x) (log_of op_in reply_in k
      ++ logged r (request_in op_in q) (answer_in reply_in a))
  hand_with_answer {x} {k} k' {r} {q} {a} {m} h e log did = rw e (
    h.agrees.client_is,
    h.holds,
    refl,
    (
      content k'.object,
      replays_more (empty (kind_at m.0.kinds x)) (content k.object) (content k'.object) (log_of op_in reply_in k) r
          (request_in op_in q) (answer_in reply_in a) h.fits.1 did,
    ),
  )

  -- a pass after a miss at a row
  pub pass_after_row_miss : {x : ℕ} {core : Core S O R} (i : ℕ) {m missed : M} → ThePass x core m
      → missed ≡ (after_row_miss i x m.0, m.1) → ThePass x core missed
  pass_after_row_miss i p f = rw f record {
    agrees = assumption p.agrees;
    holds = p.holds;
    in_hand = p.in_hand;
    fits = p.fits;
    low = p.low;
  }

  -- After a pick, and with the slot emptied, the client has the request in hand.
  pub hand_after_pick : {x : ℕ} {core : Core S O R} (r : ℕ) {q p : Request O} {m picked emptied : M} → ThePass x core m
      → picked ≡ (
        after_pick x (log_of op_in reply_in core) r (request_in op_in q) m.0,
        (call_slot r, slot.Request q)
            ∷ m.1,
      )
      → emptied ≡ (picked.0, (call_slot r, slot.Nothing) ∷ rest picked.1) → q ≡ p → q.object ≡ x
      → kind_of (op_in q.op) ≡ kind_at m.0.kinds x → r < max_clients → TheHand x core r p emptied
  hand_after_pick r k e f same on of_kind low = rw (f, e, ← same) record {
    agrees = assumption k.agrees;
    holds = refl;
    in_hand = ap (λ z. (call_slot r, slot.Nothing) ∷ z) k.in_hand;
    fits = k.fits;
    low = k.low;
    row_low = low;
    on = on;
    of_kind = of_kind;
  }

  -- Once the request is back in its row, the client holds the object with a free hand.
  pub pass_after_put_back : {x : ℕ} {core : Core S O R} {r : ℕ} {p : Request O} {m filled returned : M}
      → TheHand x core r p m
      → filled ≡ (m.0, (call_slot r, slot.Request p) ∷ rest m.1)
      → returned ≡ (after_put_back x (log_of op_in reply_in core) r (request_in op_in p) filled.0, rest filled.1)
      → ThePass x core returned
  pass_after_put_back h e f = rw (f, e) record {
    agrees = assumption h.agrees;
    holds = refl;
    in_hand = ap rest h.in_hand;
    fits = h.fits;
    low = h.low;
  }

  -- Once the row is answered, the client holds the object with the longer log and a free hand.
  pub pass_after_answer : {x r : ℕ} {k : Core S O R} (k' : Core S O R) {q : Request O} {a : Answer R}
      {m filled answered : M}
      → TheHand x k r q m → k'.list ≡ k.list
      → Serves (content k.object) (op_in q.op) (answer_in reply_in a) (content k'.object)
      → log_of op_in reply_in k' ≡ log_of op_in reply_in k ++ logged r (request_in op_in q) (answer_in reply_in a)
      → filled ≡ (m.0, (call_slot r, slot.Answer a) ∷ rest m.1)
      → answered ≡ (
        after_answer r x (log_of op_in reply_in k ++ logged r (request_in op_in q) (answer_in reply_in a)) filled.0,
        rest m.1,
      ) → ThePass x k' answered
  pass_after_answer {x} {r} {k} k' {q} {a} h same did log e f = rw (f, e) record {
    agrees = assumption h.agrees;
    holds = ap (held.Pass x) (sym log);
    in_hand = ap rest h.in_hand;
    fits = core_grows content op_in reply_in _ _ r k k' q a same h.fits log did;
    low = h.low;
  }
