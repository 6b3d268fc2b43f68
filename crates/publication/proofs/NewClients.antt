-- A new desk keeps its rule, and each client that is made of it knows that it has made no call. By the lists with
-- which a desk begins, and what making one more client adds.
use Rattle.std.proofs.Common.{◌≡◌, ℕ, zero, suc, ◌<◌, ◌≤◌, false, List, [], ◌∷◌, length, map, get_or, replicate}
use Rattle.std.proofs.Common.{refl, sym, ap, subst, ◌∙◌, arith}
use mathlib.Core.Option.{some, some-injective, some-ne-none}
use lib.ListN.{get_elem?, length-map}
use Rattle.atomic_table.specs.Table.{Me, opening}
use Rattle.atomic_table.specs.Seated.{TableId}
use Rattle.model.specs.declared.Kind.{Kind}
use Rattle.model.specs.declared.AnyOp.{AnyOp}
use Rattle.model.specs.declared.AnyReply.{AnyReply}
use Rattle.model.specs.Objects.{Content, empty, kind_with}
use Rattle.desk_model.specs.World.{kind_at, entries_of_client, IsLegalLog}
use Rattle.desk_model.specs.Images.{entry_in, event_in}
use Rattle.desk_invariant.specs.declared.board.Journal.{Journal}
use Rattle.desk_invariant.specs.declared.board.Plan.{Plan}
use Rattle.desk_invariant.specs.declared.board.Slot.{Slot}
use Rattle.desk_invariant.specs.declared.board.Slot.TheVariants as slot
use Rattle.desk_invariant.specs.declared.board.Own.TheVariants as own
use Rattle.desk_invariant.specs.declared.board.DeskView.{DeskView}
use Rattle.desk_invariant.specs.Views.{seen_of, IsAccount, new_client, first_maker, maker_of, with_own}
use Rattle.desk_invariant.specs.Rule.{Kept}
use Rattle.desk_invariant.proofs.Beginnings.{get_or-replicate_same, opening_keeps_rule}
use Rattle.publication.specs.Handles.{IsClient, at_hand}
use Rattle.publication.proofs.Growing.{there}
use Rattle.publication.specs.Making.{IsLaid, AreEmpty, kinds_with, HasRoom, IsSmall}
use Rattle.desk_invariant.specs.Views.{call_slot, journal_slot}
use Rattle.desk_model.specs.Limits.{max_clients}

module _ {A : Type 0} where
  -- what holds at each place of a list holds of an element that was found
  holds_there : (P : A → Type 0) (list : List A) (i : ℕ) (found : A) → get_elem? list i ≡ some found
      → ((k : ℕ) (d : A) → k < length list → P (get_or list k d)) → P found
  holds_there P [] i found e all = absurd (some-ne-none found (sym e))
  holds_there P (x ∷ xs) zero found e all = subst P (some-injective x found e) (all 0 found (omega arith))
  holds_there P (x ∷ xs) (suc i) found e all = holds_there P xs i found e (λ k d h. all (suc k) d (omega arith))

  -- the kind of an element that was found is at its place
  kind_there : (kind_of : A → Kind) (list : List A) (i : ℕ) (found : A) → get_elem? list i ≡ some found
      → kind_at (map kind_of list) i ≡ kind_of found
  kind_there kind_of [] i found e = absurd (some-ne-none found (sym e))
  kind_there kind_of (x ∷ xs) zero found e = ap kind_of (some-injective x found e)
  kind_there kind_of (x ∷ xs) (suc i) found e = kind_there kind_of xs i found e

module _ {S O R : Type 0} (content : S → Content) (op_in : O → AnyOp) (reply_in : R → AnyReply) where
  -- the words and slots with which a desk begins keep the rule, as its maker knows it
  pub opens_on : (plan : Plan) (objects : List S) (slots : List (Slot S O R)) → IsSmall plan
      → plan.kinds.items ≡ kinds_with content objects
      → AreEmpty content objects → IsLaid objects plan.lists.items slots
      → Kept content op_in reply_in plan.kinds.items plan.clients plan.quota
      (opening (replicate 81 0) slots (first_maker plan.kinds.items plan.lists.items))
  opens_on plan objects slots small are clean laid =
      let count : length plan.kinds.items ≡ length objects =
      ap length are ∙ length-map objects (λ o. kind_with (content o)) in let few = small.0 in
      opening_keeps_rule content op_in reply_in plan.kinds.items plan.clients plan.quota plan.lists.items
      (replicate 81 0) slots small.0 small.1 small.2 refl (get_or-replicate_same 0 81) laid.long
      (λ x l.
      let o = there objects x (omega arith) in
      let k = laid.cores x o.0 o.1 in
      let kind : kind_at plan.kinds.items x ≡ kind_with (content o.0) =
      ap (λ z. kind_at z x) are ∙ kind_there (λ o. kind_with (content o)) objects x o.0 o.1 in
      let is : content o.0 ≡ empty (kind_with (content o.0)) =
      holds_there (λ o. content o ≡ empty (kind_with (content o))) objects x o.0 o.1 clean in
      (k.0, k.1, (ap (map (entry_in op_in reply_in)) k.3, ap empty kind ∙ (sym is ∙ ap content (sym k.2)), k.4)))
      (λ i h l. laid.others i (omega arith) l)

module _ {S O R : Type 0} (op_in : O → AnyOp) (reply_in : R → AnyReply) where
  -- a client after its first step
  pub begun_ok : (kinds : List Kind) (lists : List TableId) (number quota : ℕ) (j : Journal O R)
      (m : Me (Slot S O R) DeskView) → number < max_clients
      → quota < 10001 → HasRoom quota j
      → m ≡ (with_own own.Idle (new_client kinds lists number), at_hand number own.Idle)
      → IsClient op_in reply_in number 0 quota false j m
  begun_ok kinds lists number quota j m low few room is = let within : 0 ≤ quota = omega arith in
      let legal : (x : ℕ) → IsLegalLog (kind_at kinds x) (seen_of (new_client kinds lists number) x) =
      λ x. subst (IsLegalLog (kind_at kinds x)) (sym (get_or-replicate_same [] 16 x)) (empty (kind_at kinds x), refl) in
      let accounts : (x : ℕ) → IsAccount x (with_own own.Idle (new_client kinds lists number))
      (seen_of (new_client kinds lists number) x) =
      λ x. ([], ap (entries_of_client number) (get_or-replicate_same [] 16 x), refl) in rw is record {
        agrees = assumption (ap (map (event_in op_in reply_in)) room.0);
        free = refl;
        in_hand = refl;
      }

module _ {S O R : Type 0} where
  -- its seat: the maker's, then split off, then after its first step
  pub entered : (kinds : List Kind) (lists : List TableId) (number : ℕ) (f new m : Me (Slot S O R) DeskView)
      → f ≡ (maker_of kinds lists number, [])
      → new ≡ (new_client f.0.kinds f.0.lists f.0.made, [])
      → m ≡ (with_own own.Idle new.0, (call_slot number, slot.Nothing) ∷ (journal_slot number, slot.Nothing) ∷ new.1)
      → m ≡ (with_own own.Idle (new_client kinds lists number), at_hand number own.Idle)
  entered kinds lists number f new m a b e = rw (e, b, a)
