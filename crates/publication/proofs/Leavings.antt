-- When all clients but one have ended, and that one holds nothing, each slot of a desk has its object, or what its
-- client left. By the rule of the desk, slot by slot.
use Rattle.std.proofs.Common.{◌≡◌, ◌≢◌, ℕ, ◌<◌, ◌≤◌, true, List, [], map, length, get_or}
use Rattle.std.proofs.Common.{Option, Some, None, Contains, All, refl, sym, ap, subst, ◌∙◌, ⊎_elim, arith}
use mathlib.Core.Logic.{dite}
use mathlib.Core.Option.{some}
use native.Mathlib.Decide.{ℕ_discrete}
use lib.ListN.{get_elem?}
use Rattle.std.proofs.lemmas.Bool.{cases_lt}
use Rattle.std.proofs.lemmas.List.{get_or_past}
use Rattle.std.proofs.lemmas.List.Elements.{All-contains}
use Rattle.atomic_table.specs.Table.{Final, Seen}
use Rattle.model.specs.declared.Kind.{Kind}
use Rattle.model.specs.declared.AnyOp.{AnyOp}
use Rattle.model.specs.declared.AnyReply.{AnyReply}
use Rattle.model.specs.Objects.{Content}
use Rattle.desk_model.specs.World.{AnyEntry, AnyEvent, absent, World, journal_of, journal_in, StartsWith}
use Rattle.desk_model.specs.Sound.{Sound}
use Rattle.desk_model.specs.Records.{IsSoundRecord}
use Rattle.desk_model.proofs.Entries.{starts_same}
use Rattle.desk_model.proofs.RecordOrders.{sound_record}
use Rattle.desk_model.proofs.Beyond.{no_log_beyond, no_journal_beyond}
use Rattle.desk_model.specs.Images.{entry_in, event_in}
use Rattle.recorder.specs.Records.{Recorded}
use Rattle.desk_invariant.specs.declared.board.Core.{Core}
use Rattle.desk_invariant.specs.declared.board.Journal.{Journal}
use Rattle.desk_invariant.specs.declared.board.Plan.{Plan}
use Rattle.desk_invariant.specs.declared.board.Slot.{Slot}
use Rattle.desk_invariant.specs.declared.board.Slot.TheVariants as slot
use Rattle.desk_invariant.specs.declared.board.Held.TheVariants as held
use Rattle.desk_invariant.specs.declared.board.Role.TheVariants as role
use Rattle.desk_invariant.specs.declared.board.DeskView.{DeskView}
use Rattle.desk_invariant.specs.Views.{seen_of, journal, IsAtRest, IsAccount}
use Rattle.desk_invariant.specs.Rule.{HeldAgrees, Kept}
use Rattle.desk_invariant.proofs.Ends.{own_is}
use Rattle.desk_invariant.proofs.Seats.{mine}
use Rattle.desk_invariant.proofs.Seeing.{all_covered, accounts}
use Rattle.publication.specs.Handles.{DeskSeen, Known, log_of}
use Rattle.publication.specs.Calls.{IsClosedRecord}
use Rattle.publication.specs.Closing.{IsJournalOf, AreLogs, HaveEnded, HasLearntEnds}
use Rattle.desk_invariant.specs.Views.{journal_slot}

-- ---- all slots, once the other clients have ended

module _ {S O R : Type 0} (op_in : O → AnyOp) (reply_in : R → AnyReply) where
  -- the slots are those of a sound world, in which the last client has the view v
  pub record Leavings (kinds : List Kind) (clients quota : ℕ) (v : DeskView) (xs : List (Slot S O R)) : Type 0 where
    pub world : World
    pub sound : Sound kinds quota world
    pub number_low : v.number < clients
    pub cores : (x : ℕ) → x < length kinds
        → (k : Core S O R) × (get_elem? xs x ≡ some (slot.Core k)) × (log_of op_in reply_in k ≡ world.log x)
    pub seen : (x : ℕ) → StartsWith (world.log x) (seen_of v x)
    pub journals : (c : ℕ) → c < clients → c ≢ v.number
        → (j : Journal O R) × (get_elem? xs (journal_slot c) ≡ some (slot.Journal j))
        × (map (event_in op_in reply_in) j.events.items ≡ journal_in world c)
    pub own : journal v ≡ journal_in world v.number
    pub left : All (λ l. journal_in world l.client ≡ l.journal) v.left
    pub accounts : (x : ℕ) → IsAccount x v (world.log x)
    pub come : (c : ℕ) → world.stage c ≢ absent → c < clients

none_held : (h : Option ℕ) → ((c : ℕ) → h ≡ Some c → ⊥) → h ≡ None
none_held None never = refl
none_held (Some c) never = absurd (never c refl)

module _ {S O R : Type 0} (content : S → Content) (op_in : O → AnyOp) (reply_in : R → AnyReply) (kinds : List Kind)
    (clients quota : ℕ) where
  -- Where a client at rest holds nothing, and knows that all others have ended, each slot has its object, or what its
  -- client left.
  leavings : (id : ℕ) (view : DeskView) (words : List ℕ) (slots : List (Slot S O R)) → view.role ≡ role.Client
      → view.held ≡ held.Free → IsAtRest view.own
      → ((c : ℕ) → c < clients → c ≢ view.number → Contains view.retired c)
      → Final (Seen (Kept content op_in reply_in kinds clients quota) id view) words slots
      → Leavings op_in reply_in kinds clients quota view slots
  leavings id view words slots client free rest all end =
      let s = end.0 in
      let k = end.1.0 in
      let at = end.1.1 in
      let home = end.4 in
      let world : World = k.world in
      let ok = mine k id client at in
      let few = k.few_clients in
      let ended : (c : ℕ) → c < clients → c ≢ view.number → world.ended c ≡ true =
      λ c l other. All-contains (λ d. world.ended d ≡ true) view.retired c ok.retired (all c l other) in
      let not_mine : (x : ℕ) → world.holder x ≢ Some view.number =
      subst (HeldAgrees (length kinds) world view.number) free ok.held in
      let free_all : (x : ℕ) → world.holder x ≡ None = λ x. none_held (world.holder x)
      (λ c e. dite (ℕ_discrete c view.number)
      (λ same. not_mine x (e ∙ ap Some same))
      (λ other. let b = k.holders x c e in absurd (cc (ended c b.0 other, b.1)))) in
      record {
        world = world;
        sound = k.sound;
        number_low = k.makers.numbers id view at client;
        cores = λ x l. let b = k.tied.cores x l (free_all x) in (b.0, home x (slot.Core b.0) b.1, b.2.0);
        seen = ok.seen;
        journals = λ c l other. let b = (k.tied.journals c (omega arith)).at_last (ended c l other) in
            (b.0, home (journal_slot c) (slot.Journal b.0) b.1, b.2);
        left = λ i d l. ((k.seats id view at).left i d l).1;
        own = λ i. journal_of (ok.done i) (own_is view.own (world.stage view.number) ok.own i);
        accounts = λ x. accounts kinds quota world x view (world.log x) rest ok.done ok.own k.sound
            (starts_same (world.log x))
            (all_covered kinds quota world view.number x view.done view.own ok.done ok.own k.sound);
        come = k.come;
      }

-- ---- the record, by what is in the slots

same_core : {S O R : Type 0} (k k' : Core S O R)
    → ◌≡◌ {A = mathlib.Core.Option.Option (Slot S O R)} (some (slot.Core k)) (some (slot.Core k')) → k ≡ k'
same_core k k' e = cc

same_journal : {S O R : Type 0} (j j' : Journal O R)
    → ◌≡◌ {A = mathlib.Core.Option.Option (Slot S O R)} (some (slot.Journal j)) (some (slot.Journal j')) → j ≡ j'
same_journal j j' e = cc

module _ {S O R : Type 0} (op_in : O → AnyOp) (reply_in : R → AnyReply) (d : DeskSeen) (last : Known)
    (xs : List (Slot S O R)) (r : Recorded O R)
    (left : Leavings op_in reply_in d.id.kinds d.clients d.id.quota last.knows xs) where
  -- the record's logs and journals are those of the world
  same_logs : AreLogs (length d.id.kinds) xs r.logs → (x : ℕ)
      → map (entry_in op_in reply_in) (get_or r.logs x []) ≡ left.world.log x
  same_logs logs x = ⊎_elim
      (λ (l : x < length d.id.kinds).
      let b = left.cores x l in
      let a = logs.1 x l in
      let same = same_core b.0 a.0 (sym b.1 ∙ a.1) in
      ap (map (entry_in op_in reply_in)) (sym a.2) ∙ (ap (log_of op_in reply_in) (sym same) ∙ b.2))
      (λ (far : length d.id.kinds ≤ x). let count = logs.0 in
      ap (map (entry_in op_in reply_in)) (get_or_past r.logs x [] (omega arith))
      ∙ sym (no_log_beyond d.id.kinds d.id.quota left.world left.sound x far))
      (cases_lt x (length d.id.kinds))

  same_journals : length r.journals ≡ d.clients
      → map (event_in op_in reply_in) (get_or r.journals last.knows.number []) ≡ journal last.knows
      → ((c : ℕ) → c < d.clients → c ≢ last.knows.number → IsJournalOf xs c (get_or r.journals c [])) → (c : ℕ)
      → map (event_in op_in reply_in) (get_or r.journals c []) ≡ journal_in left.world c
  same_journals count own others c = dite (ℕ_discrete c last.knows.number)
      (λ same. subst (λ z. map (event_in op_in reply_in) (get_or r.journals z []) ≡ journal_in left.world z)
      (sym same) (own ∙ left.own))
      (λ other. ⊎_elim
      (λ (l : c < d.clients).
      let b = left.journals c l other in
      let a = others c l other in
      let same = same_journal b.0 a.0 (sym b.1 ∙ a.1) in
      ap (map (event_in op_in reply_in)) (sym a.2)
      ∙ (ap (λ (j : Journal O R). map (event_in op_in reply_in) j.events.items) (sym same) ∙ b.2))
      (λ (far : d.clients ≤ c). ap (map (event_in op_in reply_in)) (get_or_past r.journals c [] (omega arith))
      ∙ sym (no_journal_beyond d.id.kinds d.id.quota left.world left.sound d.clients left.come c far))
      (cases_lt c d.clients))

  pub closed_ok : AreLogs (length d.id.kinds) xs r.logs → length r.journals ≡ d.clients
      → map (event_in op_in reply_in) (get_or r.journals last.knows.number []) ≡ journal last.knows
      → ((c : ℕ) → c < d.clients → c ≢ last.knows.number → IsJournalOf xs c (get_or r.journals c []))
      → IsClosedRecord op_in reply_in d last r
  closed_ok logs count own others = let same = same_logs logs in record {
    left = λ i d l. same_journals count own others (get_or last.knows.left i d).client ∙ left.left i d l;
    journals = count;
    logs = logs.0;
    own = own;
    legal = λ x l. rw (same x) (left.sound.legal x);
    seen = λ x l. rw (same x) (left.seen x);
    accounts = λ x. rw (same x) (left.accounts x);
    sound = subst (λ (z : (ℕ → List AnyEvent) × (ℕ → List AnyEntry)). IsSoundRecord d.id.kinds d.id.quota z.0 z.1)
        (λ i. (λ c. sym (same_journals count own others c) i, λ x. sym (same x) i))
        (sound_record d.id.kinds d.id.quota left.world left.sound);
  }

-- ---- the same of a desk and its last client, as they are seen

module _ {O R : Type 0} (op_in : O → AnyOp) (reply_in : R → AnyReply) where
  -- what the last client has learnt of end words does not matter
  pub closed_same : (desk : DeskSeen) (start now : Known) (recorded : Recorded O R) → HasLearntEnds start now
      → IsClosedRecord op_in reply_in desk now recorded → IsClosedRecord op_in reply_in desk start recorded
  closed_same desk start now recorded is k =
      let same = subst (λ z. IsClosedRecord op_in reply_in desk z recorded) is k in assumption

module _ {S O R : Type 0} (content : S → Content) (op_in : O → AnyOp) (reply_in : R → AnyReply) where
  -- the same of a desk and its last client, as they are seen
  pub left_by : (plan : Plan) (desk : DeskSeen) (last : Known) (id : ℕ) (view : DeskView) (words : List ℕ)
      (slots : List (Slot S O R))
      → plan.kinds.items ≡ desk.id.kinds → plan.clients ≡ desk.clients → plan.quota ≡ desk.id.quota → view ≡ last.knows
      → view.role ≡ role.Client → view.held ≡ held.Free → IsAtRest view.own
      → HaveEnded desk.clients last
      → Final (Seen (Kept content op_in reply_in plan.kinds.items plan.clients plan.quota) id view) words slots
      → Leavings op_in reply_in desk.id.kinds desk.clients desk.id.quota last.knows slots
  left_by plan desk last id view words slots kinds clients quota same client free rest all end =
      subst (λ (t : List Kind × ℕ × ℕ × DeskView). Leavings op_in reply_in t.0 t.1 t.2 t.3 slots)
      (λ i. (kinds i, clients i, quota i, same i))
      (leavings content op_in reply_in plan.kinds.items plan.clients plan.quota id view words slots client free rest
      (subst (λ (t : ℕ × DeskView). (c : ℕ) → c < t.0 → c ≢ t.1.number → Contains t.1.retired c)
      (λ i. (sym clients i, sym same i)) all) end)
