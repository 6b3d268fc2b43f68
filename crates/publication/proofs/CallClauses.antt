-- The clauses of the desk's calls follow from what their steps told: what a seat knew before, and the view that the
-- step gave it, determine the result.
use Rattle.std.proofs.Common.{◌≡◌, ◌≢◌, ℕ, ◌<◌, Bool, List, [], ◌∷◌, ◌++◌, length, All, IsSome, IsTrue, ◌↔◌}
use Rattle.std.proofs.Common.{refl, sym, ap, arith}
use Rattle.std.proofs.lemmas.List.{get_or-set_same}
use lib.ListN.{get_elem?}
use Rattle.atomic_table.specs.Table.{rest, Me}
use Rattle.model.specs.declared.Kind.{Kind}
use Rattle.model.specs.declared.AnyOp.{AnyOp}
use Rattle.model.specs.declared.AnyReply.{AnyReply}
use Rattle.model.specs.Objects.{Content, empty, kind_of, next}
use Rattle.desk_model.specs.declared.Request.{Request}
use Rattle.desk_model.specs.Images.{request_in}
use Rattle.desk_model.specs.World.{AnyEntry, AnyRequest, AnyAnswer, logged, kind_at, Replays, IsLegalLog, StartsWith}
use Rattle.desk_model.proofs.SameKind.{replays_once}
use Rattle.desk_invariant.specs.declared.board.Core.{Core}
use Rattle.desk_invariant.specs.declared.board.Slot.{Slot}
use Rattle.desk_invariant.specs.declared.board.Slot.TheVariants as slot
use Rattle.desk_invariant.specs.declared.board.Own.TheVariants as own
use Rattle.desk_invariant.specs.declared.board.DeskView.{DeskView}
use Rattle.desk_invariant.specs.Views.{row_place, seen_of, after_win, after_row_miss, after_pick, after_put_back}
use Rattle.desk_invariant.specs.Views.{after_answer, after_release}
use Rattle.desk_invariant.specs.Rule.{CoreFits}
use Rattle.publication.specs.Handles.{DeskId, Known, PassState, Holding, Handling, log_of}
use Rattle.publication.specs.Calls.{IsWon, IsPicked, IsPickMiss, CanDoAfter, kind_held, IsAnsweredCall, IsPutBack}
use Rattle.desk_invariant.specs.Views.{call_slot}
use Rattle.desk_model.specs.Limits.{max_objects}

-- ---- a miss, a release and an answer

-- A miss at the row r tells that the pass got no request there.
pub pick_misses : (d : DeskId) (n : PassState) (r : ℕ) {p v : Holding} {missed : DeskView} → p ≡ v
    → missed ≡ after_row_miss (row_place r) v.object v.knows → All (λ b. b.row ≢ r) v.knows.back
    → IsPickMiss p r (record { desk = d; knows = missed; object = v.object; log = v.log; state = n })
pick_misses d n r is e none_back = rw is (assumption (e, none_back))

-- After `release` the client knows the log that it left: the slot was filled with the core, and the object released.
pub is_released : {S O R : Type 0} {p v : Holding} {filled released : Me (Slot S O R) DeskView} {i : ℕ} {s : Slot S O R}
    {tl : List (ℕ × Slot S O R)} → p ≡ v → filled ≡ (v.knows, (i, s) ∷ tl)
    → released ≡ (after_release v.object v.log filled.0, rest filled.1)
    → released.0 ≡ after_release p.object p.log p.knows
is_released is e f = rw (f, e, is)

-- After `release` the client has seen the log that it left.
pub log_is_seen : {S O R : Type 0} {p v : Holding} {filled released : Me (Slot S O R) DeskView} {i : ℕ} {s : Slot S O R}
    {tl : List (ℕ × Slot S O R)} → p ≡ v → filled ≡ (v.knows, (i, s) ∷ tl)
    → released ≡ (after_release v.object v.log filled.0, rest filled.1)
    → v.object < max_objects → length v.knows.seen ≡ max_objects → seen_of released.0 p.object ≡ p.log
log_is_seen {p} {v} is e f low wide = rw (f, e, is)
    (get_or-set_same v.knows.seen v.object v.log [] (omega arith))

-- After `answer` the request has this answer, and the log has its entry, if it is a reply: the slot was filled with the
-- answer, and the row answered.
pub answer_gives : {S O R : Type 0} (z : DeskId) (n : PassState) (a : AnyAnswer) {h v : Handling}
    {filled answered : Me (Slot S O R) DeskView} {log : List AnyEntry} {i : ℕ} {s : Slot S O R}
    {tl : List (ℕ × Slot S O R)} → h ≡ v → filled ≡ (v.knows, (i, s) ∷ tl)
    → answered ≡ (after_answer v.row v.object (v.log ++ logged v.row v.request a) filled.0, tl)
    → log ≡ v.log ++ logged v.row v.request a → IsLegalLog (kind_at v.knows.kinds v.object) log
    → IsAnsweredCall h a (record { desk = z; knows = answered.0; object = v.object; log = log; state = n })
answer_gives z n a {v = v} is e f grown legal =
    rw (is, f, e) (assumption (grown, legal, ap (λ z. after_answer v.row v.object z v.knows) (sym grown)))

-- ---- what the object can do

-- what the object can do by its log is what it can do
can_do : (kind : Kind) (log : List AnyEntry) (op : AnyOp) (content : Content) → Replays (empty kind) log content
    → IsSome (next content op) → CanDoAfter kind log op
can_do kind log op content h can = (content, h, can)

does : (kind : Kind) (log : List AnyEntry) (op : AnyOp) (content : Content) → Replays (empty kind) log content
    → CanDoAfter kind log op → IsSome (next content op)
does kind log op content h can = rw (replays_once (empty kind) can.0 content log can.1 h) at can.2

-- a test of the object's content tells whether the object can do the request in hand
pub can_says : (h v : Handling) (content : Content) (b : Bool) → h ≡ v → Replays (empty (kind_held v)) v.log content
    → (IsTrue b ↔ IsSome (next content v.request.op)) → IsTrue b ↔ CanDoAfter (kind_held h) h.log h.request.op
can_says h v content b is replays can = rw is (
  (λ t. can_do (kind_held v) v.log v.request.op content replays (can.0 t)),
  λ t. can.1 (does (kind_held v) v.log v.request.op content replays t),
)

-- the request in hand is possible in what the log leaves
pub may_serve : (h v : Handling) (content : Content) → h ≡ v → Replays (empty (kind_held v)) v.log content
    → CanDoAfter (kind_held h) h.log h.request.op → IsSome (next content v.request.op)
may_serve h v content is replays can = does (kind_held v) v.log v.request.op content replays (rw is at can)

-- ---- a request put back, an object opened, a request got

-- After `put_back` the request is back in its row: the slot was filled with the request, and the row returned.
pub is_put_back : {S O R : Type 0} (desk : DeskId) (state : PassState) {h v : Handling}
    {filled returned : Me (Slot S O R) DeskView} {i : ℕ} {s : Slot S O R} {tl : List (ℕ × Slot S O R)} → h ≡ v
    → filled ≡ (v.knows, (i, s) ∷ tl)
    → returned ≡ (after_put_back v.object v.log v.row v.request filled.0, rest filled.1)
    → IsPutBack h (record { desk = desk; knows = returned.0; object = v.object; log = v.log; state = state })
is_put_back desk state is e f = rw (is, f, e) assumption

module _ {S O R : Type 0} (content : S → Content) (op_in : O → AnyOp) (reply_in : R → AnyReply) where
  -- After a win the client has opened the object, whose log goes on from what it had seen: the object was won, and
  -- its slot emptied.
  pub win_gives : (client : Known) (object : ℕ) (found core : Core S O R) (log : List AnyEntry)
      (before won emptied : Me (Slot S O R) DeskView) (desk : DeskId) (state : PassState)
      → client.desk.kinds ≡ before.0.kinds → client.knows ≡ before.0
      → won ≡ (after_win object log before.0, (object, slot.Core found) ∷ before.1)
      → emptied ≡ (won.0, (object, slot.Nothing) ∷ rest won.1) → core ≡ found
      → CoreFits content op_in reply_in (kind_at before.0.kinds object) (get_elem? before.0.lists object) found log
      → StartsWith log (seen_of before.0 object)
      → IsWon client object
      (record { desk = desk; knows = emptied.0; object = object; log = log_of op_in reply_in core; state = state })
  win_gives client object found core log before won emptied desk state kinds is e f same fits begins =
      rw (f, e, same) record {
        object = refl;
        knows = λ i. after_win object (sym fits.0 i) (sym is i);
        legal = rw (kinds, fits.0) (content found.object, fits.1);
        begins = rw (is, fits.0) begins;
      }

module _ {S O R : Type 0} (op_in : O → AnyOp) where
  -- After a pick the client has got the request of the row: it was picked, and its slot emptied.
  pub pick_gives : (desk : DeskId) (state : PassState) (row : ℕ) {p v : Holding} {q q' : Request O}
      {tl : List (ℕ × Slot S O R)} {picked emptied : Me (Slot S O R) DeskView} → p ≡ v
      → picked ≡ (after_pick v.object v.log row (request_in op_in q) v.knows, (call_slot row, slot.Request q) ∷ tl)
      → emptied ≡ (picked.0, (call_slot row, slot.Nothing) ∷ rest picked.1) → q ≡ q' → q.object ≡ v.object
      → kind_of (op_in q.op) ≡ kind_at v.knows.kinds v.object
      → All (λ b. b.row ≡ row → b.request ≡ request_in op_in q) v.knows.back
      → ((p : AnyRequest) → row ≡ v.knows.number → v.knows.own ≡ own.Waiting p → request_in op_in q ≡ p)
      → IsPicked p row (record {
        desk = desk;
        knows = emptied.0;
        object = v.object;
        log = v.log;
        state = state;
        row = row;
        request = request_in op_in q';
      })
  pick_gives desk state row is e f same on of_kind again is_own = rw (is, f, e, ← same) assumption
