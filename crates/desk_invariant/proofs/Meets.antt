-- A meeting in both directions: a client that gets the other's message, and sends its own back, has seen the same log
-- as the other (`told_back`). By what a message adds to a view, which is at least what was seen.
use Rattle.std.proofs.Common.{◌≡◌, ℕ, ◌<◌, List, [], length, get_or, refl, sym, ap, ◌∙◌, subst, arith, get_or-set_same}
use mathlib.Core.Option as maybe
use Rattle.std.proofs.lemmas.List.Elements.{All-nil}
use Rattle.atomic_table.specs.Table.{State, Me, Step, step, keeps, Allows, Splits, Joins}
use Rattle.model.specs.declared.Kind.{Kind}
use Rattle.model.specs.declared.AnyOp.{AnyOp}
use Rattle.model.specs.declared.AnyReply.{AnyReply}
use Rattle.model.specs.Objects.{Content}
use Rattle.desk_invariant.specs.declared.board.Slot.{Slot}
use Rattle.desk_invariant.specs.declared.board.Role.TheVariants as role
use Rattle.desk_invariant.specs.declared.board.DeskView.{DeskView}
use Rattle.desk_model.specs.World.{AnyEntry, World, kind_at, entries_of_client, IsLegalLog, StartsWith}
use Rattle.desk_model.proofs.Entries.{legal_front, starts_same, starts_longer}
use Rattle.desk_invariant.specs.Views.{seen_of, received_of, after_meet, seen_message, after_message, empty_message}
use Rattle.desk_invariant.specs.Views.{IsAtRest, IsAccount}
use Rattle.desk_invariant.specs.Rule.{HasLeft, SeatAgrees}
use Rattle.desk_invariant.specs.Plays as play
use Rattle.desk_invariant.proofs.Seats.{alike, seat_knowing, mine, unmoved, Rule}
use Rattle.desk_invariant.proofs.Seeing.{all_covered, entries_start, saw, accounts}
use Rattle.desk_invariant.proofs.Messages.{message_ok, sending_keeps_rule, receiving_keeps_rule}
use Rattle.desk_model.specs.Limits.{max_objects}

module _ {S O R : Type 0} (content : S → Content) (op_in : O → AnyOp) (reply_in : R → AnyReply) (kinds : List Kind)
    (clients quota : ℕ) where
  abbrev DeskRule : State (Slot S O R) DeskView → Type 0
  DeskRule = Rule content op_in reply_in kinds clients quota

  pub seen_message_keeps_rule : (id : ℕ) (view : DeskView) → Splits DeskRule id view view (seen_message view)
  seen_message_keeps_rule id view =
      sending_keeps_rule content op_in reply_in kinds clients quota id view (seen_message view) refl
      (λ state rule at j. message_ok kinds rule.lists rule.world rule.seat_of j (seen_message view) refl
      (rule.seats id view at).seen (λ x. (rule.world.log x, refl)) (All-nil (HasLeft rule.world)))

  pub message_keeps_rule : (id : ℕ) (view : DeskView) (other : ℕ) (message : DeskView)
      → Joins DeskRule id view other message (after_message view message) empty_message
  message_keeps_rule id view other message =
      receiving_keeps_rule content op_in reply_in kinds clients quota id view (after_message view message) other message
      refl refl refl
      (λ state rule at there.
      let old = rule.seats id view at in
      let client : view.role ≡ role.Client
      → (rule.seat_of view.number ≡ id) × SeatAgrees kinds rule.world view.number (after_message view message) =
      λ is_client. let (sits, seat) = old.client is_client in (sits, seat_knowing seat.ready seat.retired seat) in
      assumption (client, (rule.seats other message there).seen))

  -- a client at rest that sees the whole log of an object keeps the rule
  pub learn_keeps_rule : (slots id object : ℕ) (me : Me (Slot S O R) DeskView) → me.0.role ≡ role.Client
      → object < max_objects → IsAtRest me.0.own
      → Allows DeskRule slots id me object (λ f. f)
      (play.learns content op_in reply_in (step slots object 0 0 maybe.none) me)
  learn_keeps_rule slots id object me is_client low calm state rule deep at small =
      let world : World = rule.world in
      let client : ℕ = me.0.number in
      let log : List AnyEntry = world.log object in
      let found : ℕ = get_or state.words object 0 in
      let look : Step (Slot S O R) = step slots object 0 0 maybe.none in
      let view' : DeskView = after_meet object log me.0 in
      let ok = mine rule id is_client at in
      let covers = all_covered kinds quota world client object me.0.done me.0.own ok.done ok.own rule.sound in
      let knows : SeatAgrees kinds world client view' =
      saw kinds world client object me.0 log low (starts_same log) covers ok in
      -- what the step tells of the log
      let legal : IsLegalLog (kind_at me.0.kinds object) log =
      subst (λ z. IsLegalLog (kind_at z object) log) (sym ok.kinds_are) (rule.sound.legal object) in
      let seen : StartsWith log (seen_of me.0 object) = ok.seen object in
      let received : StartsWith log (received_of me.0 object) = (rule.seats id me.0 at).received object in
      let wide : length me.0.seen ≡ max_objects = ok.wide_seen in
      let account : IsAccount object me.0 log =
      accounts kinds quota world object me.0 log calm ok.done ok.own rule.sound (starts_same log) covers in
      let told : play.learns content op_in reply_in look me found (view', me.1) =
      (log, refl, legal, seen, received, wide, account) in
      (view', keeps, tt, unmoved rule object id view' me.1 at is_client alike knows, told)

  -- a client at rest that sees the log that it received keeps the rule, if this goes on from what it had seen
  pub adopt_keeps_rule : (slots id object : ℕ) (me : Me (Slot S O R) DeskView) → me.0.role ≡ role.Client
      → object < max_objects → StartsWith (received_of me.0 object) (seen_of me.0 object) → IsAtRest me.0.own
      → Allows DeskRule slots id me object (λ f. f)
      (play.adopts content op_in reply_in (step slots object 0 0 maybe.none) me)
  adopt_keeps_rule slots id object me is_client low later calm state rule deep at small =
      let world : World = rule.world in
      let client : ℕ = me.0.number in
      let log : List AnyEntry = received_of me.0 object in
      let seen : List AnyEntry = seen_of me.0 object in
      let found : ℕ = get_or state.words object 0 in
      let look : Step (Slot S O R) = step slots object 0 0 maybe.none in
      let view' : DeskView = after_meet object log me.0 in
      let ok = mine rule id is_client at in
      let received : StartsWith (world.log object) log = (rule.seats id me.0 at).received object in
      let covers = starts_longer (entries_of_client client log) (entries_of_client client seen) _
      (entries_start client log seen later) (ok.covers object) in
      let knows : SeatAgrees kinds world client view' = saw kinds world client object me.0 log low received covers ok in
      -- what the step tells of the log that was received
      let legal : IsLegalLog (kind_at me.0.kinds object) log =
      subst (λ z. IsLegalLog (kind_at z object) log) (sym ok.kinds_are)
      (legal_front (kind_at kinds object) (world.log object) log received (rule.sound.legal object)) in
      let account : IsAccount object me.0 log =
      accounts kinds quota world object me.0 log calm ok.done ok.own rule.sound received covers in
      let told : play.adopts content op_in reply_in look me found (view', me.1) = (refl, legal, account) in
      (view', keeps, tt, unmoved rule object id view' me.1 at is_client alike knows, told)

-- The client `one` gets a message of `other`, sees this log, and sends a message back: then the other has received the
-- log. A prime is the view after one of these steps.
pub told_back : (object : ℕ) (one other one' one'' other' : DeskView) (log : List AnyEntry) → object < max_objects
    → one' ≡ after_message one (seen_message other) → one'' ≡ after_meet object log one'
    → length one'.seen ≡ max_objects → other' ≡ after_message other (seen_message one'')
    → received_of other' object ≡ log
told_back object one other one' one'' other' log low got met wide got_back =
    ap (λ (z : DeskView). received_of z object) got_back
    ∙ (ap (λ (z : DeskView). seen_of z object) met ∙ get_or-set_same one'.seen object log [] (omega arith))

-- a log that begins with what `one` received from `other` begins with what the other has seen
pub begins_there : (object : ℕ) (one other one' other' : DeskView) (log : List AnyEntry)
    → one' ≡ after_message one (seen_message other) → other'.seen ≡ other.seen
    → StartsWith log (received_of one' object) → StartsWith log (seen_of other' object)
begins_there object one other one' other' log got same begins =
    subst (λ z. StartsWith log (get_or z object [])) (sym same)
    (subst (λ (z : DeskView). StartsWith log (received_of z object)) got begins)
