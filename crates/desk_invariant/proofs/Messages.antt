-- A message's view must only be true. So the rule is kept when a message is sent and when it is received: only the
-- views change (`kept_views`).
use Rattle.std.proofs.Common.{arith, ◌≡◌, ℕ, List, [], ◌∷◌, ◌++◌, set, All, refl, sym, ap, ◌∙◌, subst, ◌⊎◌, inl, inr}
use mathlib.Core.Option.{some}
use lib.ListN.{get_elem?}
use Rattle.std.proofs.lemmas.List.Elements.{All-nil}
use Rattle.atomic_table.specs.Table.{State, Splits, Joins}
use Rattle.atomic_table.specs.Seated.{TableId}
use Rattle.atomic_table.proofs.Lists.{at_set, set_again, set_else}
use Rattle.model.specs.declared.Kind.{Kind}
use Rattle.model.specs.declared.AnyOp.{AnyOp}
use Rattle.model.specs.declared.AnyReply.{AnyReply}
use Rattle.model.specs.Objects.{Content}
use Rattle.desk_invariant.specs.declared.board.Slot.{Slot}
use Rattle.desk_invariant.specs.declared.board.Role.TheVariants as role
use Rattle.desk_invariant.specs.declared.board.DeskView.{DeskView}
use Rattle.desk_model.specs.World.{World, StartsWith}
use Rattle.desk_invariant.specs.Views.{seen_of, received_of, empty_message}
use Rattle.desk_invariant.specs.Rule.{HasLeft, ViewAgrees, HasOneMaker}
use Rattle.desk_invariant.proofs.Seats.{makers_stay, Rule}
use Rattle.desk_invariant.proofs.Beginnings.{get_or-replicate_same}
use Rattle.publication_list.proofs.RosterMaking.{at_end}
use Rattle.desk_model.specs.Limits.{max_objects}

-- a list whose views are those of another list, and one that is no client's and no maker's
makers_with : (clients : ℕ) (views views' : List DeskView) (message : DeskView) → message.role ≡ role.Message
    → ((j : ℕ) (u : DeskView) → get_elem? views' j ≡ some u → (get_elem? views j ≡ some u) ⊎ (message ≡ u))
    → HasOneMaker clients views → HasOneMaker clients views'
makers_with clients views views' message idle old makers = record {
  made = λ j v e is i u f. grind (arith, old j v e, old i u f, makers.made j v, makers.made i u);
  numbers = λ j v e is. grind (arith, old j v e, makers.numbers j v);
}

pub makers_more : (clients : ℕ) (views : List DeskView) (message : DeskView) → message.role ≡ role.Message
    → HasOneMaker clients views → HasOneMaker clients (views ++ message ∷ [])
makers_more clients views message idle = makers_with clients views (views ++ message ∷ []) message idle
    (λ j u e. elim (at_end views message u j e) [ inl old ↦ inl old | inr new ↦ inr new.1 ])

pub makers_drop : (clients : ℕ) (views : List DeskView) (id : ℕ) (message : DeskView) → message.role ≡ role.Message
    → HasOneMaker clients views → HasOneMaker clients (set views id message)
makers_drop clients views id message idle = makers_with clients views (set views id message) message idle
    (λ j u e. elim (at_set views id j message u e) [ inl new ↦ inr new.1 | inr old ↦ inl old.1 ])

-- a view that is no client's and no maker's owes the truth of what it carries, and nothing more
pub message_ok : (kinds : List Kind) (lists : List TableId) (world : World) (seat_of : ℕ → ℕ) (j : ℕ) (view : DeskView)
    → view.role ≡ role.Message → ((x : ℕ) → StartsWith (world.log x) (seen_of view x))
    → ((x : ℕ) → StartsWith (world.log x) (received_of view x))
    → All (HasLeft world) view.left → ViewAgrees kinds lists world seat_of j view
message_ok kinds lists world seat_of j view none seen received left = grind arith

-- nothing was seen, which each log begins with
pub nothing_seen : (world : World) (x : ℕ) → StartsWith (world.log x) (seen_of empty_message x)
nothing_seen world x = (world.log x, ap (λ z. z ++ world.log x) (sym (get_or-replicate_same [] max_objects x)))

empty_message_ok : (kinds : List Kind) (lists : List TableId) (world : World) (seat_of : ℕ → ℕ) (j : ℕ)
    → ViewAgrees kinds lists world seat_of j empty_message
empty_message_ok kinds lists world seat_of j =
    message_ok kinds lists world seat_of j empty_message refl (nothing_seen world) (λ x. (world.log x, refl))
    (All-nil (HasLeft world))

module _ {S O R : Type 0} (content : S → Content) (op_in : O → AnyOp) (reply_in : R → AnyReply) (kinds : List Kind)
    (clients quota : ℕ) where
  abbrev DeskRule : State (Slot S O R) DeskView → Type 0
  DeskRule = Rule content op_in reply_in kinds clients quota

  -- the same world, with other views
  kept_views : (state : State (Slot S O R) DeskView) (rule : DeskRule state) (views : List DeskView)
      → ((j : ℕ) (u : DeskView) → get_elem? views j ≡ some u → ViewAgrees kinds rule.lists rule.world rule.seat_of j u)
      → HasOneMaker clients views → DeskRule record { words = state.words; homes = state.homes; views = views }
  kept_views state rule views seats makers = record {
    world = rule.world;
    seat_of = rule.seat_of;
    lists = rule.lists;
    few_calls = rule.few_calls;
    few_clients = rule.few_clients;
    sound = rule.sound;
    tied = rule.tied;
    seats = seats;
    makers = makers;
    holders = rule.holders;
    come = rule.come;
  }

  -- a view is as it was, and there is one message more
  pub sending_keeps_rule : (id : ℕ) (view message : DeskView) → message.role ≡ role.Message
      → ((state : State (Slot S O R) DeskView) (rule : DeskRule state) → get_elem? state.views id ≡ some view → (j : ℕ)
      → ViewAgrees kinds rule.lists rule.world rule.seat_of j message) → Splits DeskRule id view view message
  sending_keeps_rule id view message idle ok state rule at =
      subst
      (λ (z : List DeskView). DeskRule record { words = state.words; homes = state.homes; views = z ++ message ∷ [] })
      (sym (set_again state.views id view at))
      (kept_views state rule (state.views ++ message ∷ []) (λ j u e. elim (at_end state.views message u j e) [
        | inl old ↦ rule.seats j u old
        | inr new ↦ subst (ViewAgrees kinds rule.lists rule.world rule.seat_of j) new.1 (ok state rule at j)
      ]) (makers_more clients state.views message idle rule.makers))

  -- the view takes in the message, which is spent, and becomes view'
  pub receiving_keeps_rule : (id : ℕ) (view view' : DeskView) (other : ℕ) (message : DeskView) → view'.role ≡ view.role
      → view'.number ≡ view.number → view'.made ≡ view.made
      → ((state : State (Slot S O R) DeskView) (rule : DeskRule state) → get_elem? state.views id ≡ some view
      → get_elem? state.views other ≡ some message → ViewAgrees kinds rule.lists rule.world rule.seat_of id view')
      → Joins DeskRule id view other message view' empty_message
  receiving_keeps_rule id view view' other message alike number made ok state rule at apart there =
      let mid : List DeskView = set state.views id view' in
      kept_views state rule (set mid other empty_message) (λ j u e. elim (at_set mid other j empty_message u e) [
        | inl spent ↦ subst (ViewAgrees kinds rule.lists rule.world rule.seat_of j) spent.1
            (empty_message_ok kinds rule.lists rule.world rule.seat_of j)
        | inr kept ↦ elim (at_set state.views id j view' u kept.1) [
          | inl new ↦ subst (λ (z : ℕ × DeskView). ViewAgrees kinds rule.lists rule.world rule.seat_of z.0 z.1)
              (λ i. (sym new.0 i, new.1 i)) (ok state rule at (sym (set_else state.views id other view' apart) ∙ there))
          | inr old ↦ rule.seats j u old.1
        ]
      ])
      (makers_drop clients mid other empty_message refl
      (makers_stay clients state.views id view view' at alike number made rule.makers))
