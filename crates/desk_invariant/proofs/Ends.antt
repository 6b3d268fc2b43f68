-- The end of a client, and the sight of another's, keep the rule: an end writes one word, and who has ended stays so.
use Rattle.std.proofs.Common.{All, ◌≡◌, ◌≢◌, ℕ, ◌<◌, Bool, true, false, List, ◌∷◌, map, length, get_or, set}
use Rattle.std.proofs.Common.{Some, refl, sym, ap, ◌∙◌, subst, arith}
use mathlib.Core.Logic.{dite}
use mathlib.Core.Option as maybe
use mathlib.Core.Option.{some}
use native.Mathlib.Decide.{ℕ_discrete}
use Rattle.std.proofs.lemmas.List.Elements.{All-push, All-weaker}
use Rattle.atomic_table.specs.Table.{State, Me, Step, step, keeps, gives, Allows}
use Rattle.model.specs.declared.Kind.{Kind}
use Rattle.model.specs.declared.AnyOp.{AnyOp}
use Rattle.model.specs.declared.AnyReply.{AnyReply}
use Rattle.model.specs.Objects.{Content}
use Rattle.desk_invariant.specs.declared.board.Journal.{Journal}
use Rattle.desk_invariant.specs.declared.board.Slot.{Slot}
use Rattle.desk_invariant.specs.declared.board.Slot.TheVariants as slot
use Rattle.desk_invariant.specs.declared.board.Own.{Own}
use Rattle.desk_invariant.specs.declared.board.Held.TheVariants as held
use Rattle.desk_invariant.specs.declared.board.Role.TheVariants as role
use Rattle.desk_invariant.specs.declared.board.DeskView.{DeskView}
use Rattle.desk_model.specs.World.{Stage, absent, World, request_of, journal_of, StartsWith}
use Rattle.desk_model.specs.Transitions.{changed, ended_by}
use Rattle.desk_model.specs.Images.{event_in}
use Rattle.desk_model.proofs.Changed.{changed_here, changed_else, changed_all}
use Rattle.desk_model.proofs.Entries.{starts_same}
use Rattle.desk_model.proofs.Effects.{sound_ended}
use Rattle.desk_invariant.specs.Views.{end_place, own_request, journal, IsAtRest, after_end, after_end_seen}
use Rattle.desk_invariant.specs.Views.{after_end_unset, journal_slot}
use Rattle.desk_invariant.specs.Rule.{end_word, OwnCallAgrees, HeldAgrees, SeatAgrees, HasLeft}
use Rattle.desk_invariant.specs.Plays as play
use Rattle.desk_invariant.proofs.Seats.{Later, alike, After, kept_after, seat_knowing, mine, unmoved, Rule}
use Rattle.desk_invariant.proofs.Ties.{tied_end}
use Rattle.desk_model.specs.Limits.{max_clients}

still_ended : (world : World) (client another : ℕ) → world.ended another ≡ true
    → changed world.ended client true another ≡ true
still_ended world client =
    changed_all (λ d b. world.ended d ≡ true → b ≡ true) world.ended client true (λ e. refl) (λ d _ e. e)

later_ended : (world : World) (client another : ℕ) → another ≢ client → Later world (ended_by world client) another
later_ended world client another other =
    let logs : (y : ℕ) → StartsWith (world.log y) (world.log y) = λ y. starts_same (world.log y) in
    assumption (changed_else world.ended client true another other)

-- the client itself, which ends
seat_ended : (kinds : List Kind) (world : World) (client : ℕ) (view : DeskView) → SeatAgrees kinds world client view
    → SeatAgrees kinds (ended_by world client) client (after_end view)
seat_ended kinds world client view ok =
    let over = changed_here world.ended client true in
    let told = All-weaker (λ d. world.ended d ≡ true) (λ d. changed world.ended client true d ≡ true)
    (still_ended world client) view.retired ok.retired in
    assumption

is_ended : (b : Bool) → end_word b ≡ 1 → b ≡ true
is_ended true e = refl
is_ended false e = absurd (omega arith)

-- what a client knows of its call is what the stage says
pub own_is : (call : Own) (stage : Stage) → OwnCallAgrees call stage → own_request call ≡ request_of stage
own_is call stage is = grind arith

-- a client at rest has come
has_come : (call : Own) (stage : Stage) → IsAtRest call → OwnCallAgrees call stage → stage ≢ absent
has_come call stage calm is gone = grind arith

module _ {S O R : Type 0} (content : S → Content) (op_in : O → AnyOp) (reply_in : R → AnyReply) (kinds : List Kind)
    (clients quota : ℕ) where
  abbrev DeskRule : State (Slot S O R) DeskView → Type 0
  DeskRule = Rule content op_in reply_in kinds clients quota

  -- the end of a client that is at rest keeps the rule, if its journal, which it has in its hands, says what it knows
  pub end_keeps_rule : (slots id client : ℕ) (me : Me (Slot S O R) DeskView) (book : Journal O R)
      (more : List (ℕ × Slot S O R)) → me.0.role ≡ role.Client
      → me.0.number ≡ client → IsAtRest me.0.own → me.0.held ≡ held.Free
      → map (event_in op_in reply_in) book.events.items ≡ journal me.0
      → me.1 ≡ (journal_slot client, slot.Journal book) ∷ more
      → Allows DeskRule slots id me (end_place client) (λ _. 1)
      (λ _. play.ends content op_in reply_in (step slots (end_place client) 1 0 maybe.none) me 1)
  end_keeps_rule slots id client me book more is_client number calm free says carried state rule deep at small =
      let world : World = rule.world in
      let ok = subst (λ z. SeatAgrees kinds world z me.0) number (mine rule id is_client at) in
      let says' : map (event_in op_in reply_in) book.events.items ≡ journal_of (world.done client)
      (request_of (world.stage client)) =
      says ∙ λ i. journal_of (ok.done i) (own_is me.0.own (world.stage client) ok.own i) in
      let come = has_come me.0.own (world.stage client) calm ok.own in
      let nothing : (x : ℕ) → world.holder x ≢ Some client =
      subst (HeldAgrees (length kinds) world client) free ok.held in
      let world' : World = ended_by world client in
      let view' : DeskView = after_end me.0 in
      let after : After rule me.0 view' (set state.words (end_place client) 1)
      (set state.homes (journal_slot client) (some (slot.Journal book))) =
      record {
        world = world';
        holders = λ x d e.
            let (low, going) = rule.holders x d e in
            (low, changed_else world.ended client true d (λ same. nothing x (e ∙ ap Some same)) ∙ going);
        come = rule.come;
        sound = sound_ended kinds quota world client rule.sound;
        tied = tied_end client book ok.small come says' rule.tied;
        leave = λ d e. (still_ended world client d e, refl);
        others = λ another other. later_ended world client another (λ e. other (e ∙ sym number));
        own = subst (λ z. SeatAgrees kinds world' z view') (sym number) (seat_ended kinds world client me.0 ok);
      } in
      (view', gives, tt, rw carried (kept_after rule id view' at is_client alike after), refl)

  -- a look at the end of another client keeps the rule, and tells whether it has ended
  pub look_at_end_keeps_rule : (slots id another : ℕ) (me : Me (Slot S O R) DeskView) → me.0.role ≡ role.Client
      → another < max_clients
      → Allows DeskRule slots id me (end_place another) (λ f. f)
      (play.sees_end content op_in reply_in (step slots (end_place another) 0 0 maybe.none) me)
  look_at_end_keeps_rule slots id another me is_client low state rule deep at small =
      let world : World = rule.world in
      let found : ℕ = get_or state.words (end_place another) 0 in
      let ok = mine rule id is_client at in
      let word : found ≡ end_word (world.ended another) = rule.tied.ends another low in
      let look : Step (Slot S O R) = step slots (end_place another) 0 0 maybe.none in
      dite (ℕ_discrete found 1)
      -- the other client has ended
      (λ hit.
      let view' : DeskView = after_end_seen another me.0 in
      let is : world.ended another ≡ true = is_ended (world.ended another) (sym word ∙ hit) in
      let retired = All-push (λ d. world.ended d ≡ true) me.0.retired another ok.retired is in
      let knows : SeatAgrees kinds world me.0.number view' = seat_knowing ok.ready retired ok in
      let told : play.sees_end content op_in reply_in look me found (view', me.1) =
      λ another' place.
      let same : another ≡ another' = omega arith in
      ((λ _. ap (λ z. (after_end_seen z me.0, me.1)) same), λ miss. absurd (miss hit)) in
      (view', keeps, tt, unmoved rule (end_place another) id view' me.1 at is_client alike knows, told))
      -- it has not, so no message told its end
      (λ miss.
      let view' : DeskView = after_end_unset another me.0 in
      let knows : SeatAgrees kinds world me.0.number view' = seat_knowing ok.ready ok.retired ok in
      let not_told : All (λ l. l.client ≢ another) me.0.left =
      All-weaker (HasLeft world) (λ l. l.client ≢ another)
      (λ l left there. miss (word ∙ ap end_word (ap world.ended (sym there) ∙ left.0))) me.0.left
      (rule.seats id me.0 at).left in
      let told : play.sees_end content op_in reply_in look me found (view', me.1) =
      λ another' place.
      let same : another ≡ another' = omega arith in (
        (λ hit. absurd (miss hit)),
        λ _. (
          ap (λ z. (after_end_unset z me.0, me.1)) same,
          subst (λ z. All (λ l. l.client ≢ z) me.0.left) same not_told,
        ),
      ) in
      (view', keeps, tt, unmoved rule (end_place another) id view' me.1 at is_client alike knows, told))
