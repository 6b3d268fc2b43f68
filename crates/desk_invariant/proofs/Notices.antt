-- The end of one client comes to another by a message: the other may then count on it. The message carries only what
-- is true of the world, and an end stays so at each later step.
use Rattle.std.proofs.Common.{◌≡◌, ℕ, true, List, [], refl, sym, ◌∙◌}
use Rattle.std.proofs.lemmas.List.Elements.{All-nil, All-cons, All-append}
use Rattle.atomic_table.specs.Table.{State, Splits, Joins}
use Rattle.model.specs.declared.Kind.{Kind}
use Rattle.model.specs.declared.AnyOp.{AnyOp}
use Rattle.model.specs.declared.AnyReply.{AnyReply}
use Rattle.model.specs.Objects.{Content}
use Rattle.desk_invariant.specs.declared.board.Slot.{Slot}
use Rattle.desk_invariant.specs.declared.board.Role.TheVariants as role
use Rattle.desk_invariant.specs.declared.board.DeskView.{DeskView}
use Rattle.desk_model.specs.World.{World, journal_of}
use Rattle.desk_invariant.specs.Views.{end_notice, after_notice, empty_message, end_message}
use Rattle.desk_invariant.specs.Rule.{HasLeft, SeatAgrees}
use Rattle.desk_invariant.proofs.Seats.{seat_knowing, mine, Rule}
use Rattle.desk_invariant.proofs.Ends.{own_is}
use Rattle.desk_invariant.proofs.Messages.{message_ok, nothing_seen, sending_keeps_rule, receiving_keeps_rule}

module _ {S O R : Type 0} (content : S → Content) (op_in : O → AnyOp) (reply_in : R → AnyReply) (kinds : List Kind)
    (clients quota : ℕ) where
  abbrev DeskRule : State (Slot S O R) DeskView → Type 0
  DeskRule = Rule content op_in reply_in kinds clients quota

  pub end_message_keeps_rule : (id : ℕ) (view : DeskView) → view.role ≡ role.Client → view.ended ≡ true
      → Splits DeskRule id view view (end_message view)
  end_message_keeps_rule id view is_client over =
      sending_keeps_rule content op_in reply_in kinds clients quota id view (end_message view) refl
      (λ state rule at j.
      let world : World = rule.world in
      let ok = mine rule id is_client at in
      let asked = own_is view.own (world.stage view.number) ok.own in
      let left : HasLeft world (end_notice view) =
      (ok.ended ∙ over, λ i. journal_of (sym ok.done i) (sym asked i)) in
      message_ok kinds rule.lists world rule.seat_of j (end_message view) refl (nothing_seen world)
      (λ x. (world.log x, refl)) (All-cons (HasLeft world) (end_notice view) [] left (All-nil (HasLeft world))))

  pub notice_keeps_rule : (id : ℕ) (view : DeskView) (other : ℕ) (message : DeskView)
      → Joins DeskRule id view other message (after_notice message.left view) empty_message
  notice_keeps_rule id view other message =
      receiving_keeps_rule content op_in reply_in kinds clients quota id view (after_notice message.left view) other
      message refl refl refl
      (λ state rule at there.
      let old = rule.seats id view at in
      let client : view.role ≡ role.Client
      → (rule.seat_of view.number ≡ id) × SeatAgrees kinds rule.world view.number (after_notice message.left view) =
      λ is_client. let (sits, seat) = old.client is_client in (sits, seat_knowing seat.ready seat.retired seat) in
      let new = rule.seats other message there in
      assumption (client, All-append (HasLeft rule.world) view.left message.left old.left new.left))
