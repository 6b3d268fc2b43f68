-- Winning and releasing an object keep the rule. The client's own seat changes with what it holds (`seat_held`), and
-- every other client keeps what it knows, since it does not hold the object before or after.
use Rattle.std.proofs.Common.{◌≡◌, ◌≢◌, ℕ, ◌+◌, ◌<◌, eqb, false, List, [], ◌∷◌, length, get_or, set, Option, Some}
use Rattle.std.proofs.Common.{None, All, refl, sym, ap, subst, ◌∙◌, arith, eq-eqb, ne_eqb}
use mathlib.Core.Logic.{dite}
use mathlib.Core.Option as maybe
use mathlib.Core.Option.{some}
use native.Mathlib.Decide.{ℕ_discrete}
use prog.Atomic.{either}
use Rattle.std.proofs.lemmas.List.Elements.{All-nil, All-weaker}
use Rattle.std.proofs.lemmas.Option.{same_Some}
use lib.ListN.{get_elem?}
use Rattle.atomic_table.specs.Seated.{TableId}
use Rattle.atomic_table.specs.Table.{State, Me, Step, step, keeps, takes, gives, rest, Allows}
use Rattle.model.specs.declared.Kind.{Kind}
use Rattle.model.specs.declared.AnyOp.{AnyOp}
use Rattle.model.specs.declared.AnyReply.{AnyReply}
use Rattle.model.specs.Objects.{Content}
use Rattle.desk_invariant.specs.declared.board.Core.{Core}
use Rattle.desk_invariant.specs.declared.board.Slot.{Slot}
use Rattle.desk_invariant.specs.declared.board.Slot.TheVariants as slot
use Rattle.desk_invariant.specs.declared.board.Held.{Held}
use Rattle.desk_invariant.specs.declared.board.Held.TheVariants as held
use Rattle.desk_invariant.specs.declared.board.PutBack.{PutBack}
use Rattle.desk_invariant.specs.declared.board.Role.TheVariants as role
use Rattle.desk_invariant.specs.declared.board.DeskView.{DeskView}
use Rattle.desk_model.specs.World.{AnyEntry, World, kind_at, StartsWith}
use Rattle.desk_model.specs.Transitions.{changed, held_by}
use Rattle.desk_model.proofs.Changed.{changed_here, changed_else, changed_all}
use Rattle.desk_model.proofs.Entries.{starts_same}
use Rattle.desk_model.proofs.Effects.{sound_held}
use Rattle.desk_invariant.specs.Views.{after_miss, after_win, after_release, after_meet, IsAtRest, IsAccount}
use Rattle.desk_invariant.specs.Rule.{lock_word, HoldsOnly, CoreFits, HeldAgrees, SeatAgrees}
use Rattle.desk_invariant.specs.Plays as play
use Rattle.desk_invariant.proofs.Seats.{InRow, Later, alike, pass_of, After, AllowsIn, kept_after, looks, mine}
use Rattle.desk_invariant.proofs.Seats.{misses, Rule}
use Rattle.desk_invariant.proofs.Seeing.{all_covered, saw, accounts}
use Rattle.desk_invariant.proofs.Ties.{tied_lock}
use Rattle.desk_model.specs.Limits.{max_objects}

free_lock : (holder : Option ℕ) → lock_word holder ≡ 0 → holder ≡ None
free_lock None e = refl
free_lock (Some c) e = absurd (omega arith)

-- ---- what the clients know, when one object goes to another holder

-- another client, which does not hold the object before or after
later_held : (world : World) (object another : ℕ) (holder : Option ℕ) → world.holder object ≢ Some another
    → holder ≢ Some another → Later world (held_by world object holder) another
later_held world object another holder other away =
    let logs : (y : ℕ) → StartsWith (world.log y) (world.log y) = λ y. starts_same (world.log y) in
    let held : (y : ℕ) → world.holder y ≡ Some another
    → (changed world.holder object holder y ≡ world.holder y) × (world.hand y ≡ world.hand y)
    × (world.log y ≡ world.log y) =
    λ y g. (changed_else world.holder object holder y (λ same. other (ap world.holder (sym same) ∙ g)), refl, refl) in
    let holds = changed_all (λ y h. h ≡ Some another → world.holder y ≡ Some another) world.holder object holder
    (λ e. absurd (away e)) (λ y _ e. e) in
    assumption

-- the object that a client holds; 0 if it holds none
abbrev pub held_object : Held → ℕ
held_object (held.Pass x l) = x
held_object (held.Hand x l r q) = x
held_object o = 0

abbrev pub held_log : Held → List AnyEntry
held_log (held.Pass x l) = l
held_log (held.Hand x l r q) = l
held_log o = []

-- a pass has one object and one log
pub one_object : {holding : Held} {object object' : ℕ} {log log' : List AnyEntry} → holding ≡ held.Pass object log
    → holding ≡ held.Pass object' log' → object ≡ object'
one_object is is' = ap held_object (sym is ∙ is')

pub one_log : {holding : Held} {object object' : ℕ} {log log' : List AnyEntry} → holding ≡ held.Pass object log
    → holding ≡ held.Pass object' log' → log ≡ log'
one_log is is' = ap held_log (sym is ∙ is')

-- The client whose object goes to another holder agrees with the world then: what it holds does, and what was put back
-- is in its row, with its object held.
seat_held : (kinds : List Kind) (world : World) (client object : ℕ) (holder : Option ℕ) (view : DeskView)
    (holding : Held) (back : List PutBack) (won : ℕ)
    → All (InRow world.stage (changed world.holder object holder) client) back → SeatAgrees kinds world client view
    → HeldAgrees (length kinds) (held_by world object holder) client holding
    → SeatAgrees kinds (held_by world object holder) client (record view { held = holding; back = back; won = won })
seat_held kinds world client object holder view holding back won in_rows ok now = assumption

module _ {S O R : Type 0} (content : S → Content) (op_in : O → AnyOp) (reply_in : R → AnyReply) (kinds : List Kind)
    (clients quota : ℕ) where
  abbrev DeskRule : State (Slot S O R) DeskView → Type 0
  DeskRule = Rule content op_in reply_in kinds clients quota

  -- ---- looking at a lock, and winning the object

  -- a look at a lock keeps the rule
  pub look_at_lock_keeps_rule : (slots id object : ℕ) (me : Me (Slot S O R) DeskView) → me.0.role ≡ role.Client
      → Allows DeskRule slots id me object (λ f. f)
      (play.looks_at_lock content op_in reply_in (step slots object 0 0 maybe.none) me)
  look_at_lock_keeps_rule slots id object me is_client state rule deep at small =
      let found : ℕ = get_or state.words object 0 in
      let look : Step (Slot S O R) = step slots object 0 0 maybe.none in
      dite (ℕ_discrete found 0)
      (λ hit.
      let told : play.looks_at_lock content op_in reply_in look me found me =
      λ inside. ((λ _. refl), λ miss. absurd (miss hit)) in
      (me.0, keeps, tt, looks rule object id me.1 is_client at, told))
      (λ miss.
      let view' : DeskView = after_miss object me.0 in
      let told : play.looks_at_lock content op_in reply_in look me found (view', me.1) =
      λ inside. ((λ hit. absurd (miss hit)), λ _. refl) in
      (view', keeps, tt, misses rule object id me.1 is_client at, told))

  -- a client that has not ended and holds nothing tries to win an object
  module _ {state : State (Slot S O R) DeskView} (rule : DeskRule state) (slots id object : ℕ)
      (me : Me (Slot S O R) DeskView) (is_client : me.0.role ≡ role.Client)
      (at : get_elem? state.views id ≡ some me.0) (inside : object < length kinds)
      (free : me.0.held ≡ held.Free) (going : me.0.ended ≡ false) where
    -- the word of the lock
    abbrev found_there : ℕ
    found_there = get_or state.words object 0

    -- the step of the try
    abbrev try_to_win : Step (Slot S O R)
    try_to_win = step slots object 0 (1 + me.0.number) maybe.none

    -- the table allows the try in this state
    abbrev MayWin : Type 0
    MayWin = AllowsIn content op_in reply_in kinds clients quota state id me object
        (λ f. either (eqb f 0) (1 + me.0.number) f) (play.wins content op_in reply_in try_to_win me)

    -- nobody holds the object, and this core is in its slot
    module _ (core : Core S O R) (none_holds : rule.world.holder object ≡ None) where
      -- the log of the object
      abbrev log_there : List AnyEntry
      log_there = rule.world.log object

      -- the world after the object was won
      abbrev world_won : World
      world_won = held_by rule.world object (Some me.0.number)

      -- the client's view after it has won the object
      abbrev view_won : DeskView
      view_won = after_win object log_there me.0

      -- The client agrees with the world once it holds the object, with nothing in hand.
      winner_agrees : SeatAgrees kinds world_won me.0.number view_won
      winner_agrees =
          let world : World = rule.world in
          let client : ℕ = me.0.number in
          let ok = mine rule id is_client at in
          let nothing : (y : ℕ) → world.holder y ≢ Some client =
          subst (HeldAgrees (length kinds) world client) free ok.held in
          let holds : world_won.holder object ≡ Some client = changed_here world.holder object (Some client) in
          let empty : world.hand object ≡ None = rule.sound.empty_hand object none_holds in
          let only : HoldsOnly world_won client object =
          changed_all (λ y h. h ≡ Some client → y ≡ object) world.holder object (Some client) (λ _. refl)
          (λ y _ e. absurd (nothing y e)) in
          let now : HeldAgrees (length kinds) world_won client (held.Pass object log_there) =
          (inside, holds, empty, refl, only) in
          let still : (y : ℕ) → world.holder y ≡ Some client → world_won.holder y ≡ Some client =
          changed_all (λ y h. world.holder y ≡ Some client → h ≡ Some client) world.holder object (Some client)
          (λ _. refl) (λ y _ e. e) in
          let in_rows = All-weaker (InRow world.stage world.holder client) (InRow world.stage world_won.holder client)
          (λ b at. (at.0, still b.request.object at.1)) me.0.back ok.back in
          seat_held kinds world client object (Some client) me.0 (held.Pass object log_there) me.0.back (me.0.won + 1)
          in_rows ok now

      -- The holder of each object is a client that has not ended.
      winner_going : (y d : ℕ) → world_won.holder y ≡ Some d → (d < clients) × (rule.world.ended d ≡ false)
      winner_going y d =
          let ok = mine rule id is_client at in
          changed_all (λ y h. h ≡ Some d → (d < clients) × (rule.world.ended d ≡ false)) rule.world.holder object
          (Some me.0.number)
          (λ e.
          let same = same_Some me.0.number d e in
          let low = rule.makers.numbers id me.0 at is_client in
          (omega arith, ap rule.world.ended (sym same) ∙ (ok.ended ∙ going))) (λ y _. rule.holders y d) y

      -- The world after the object was won is as the rule asks.
      after_winning : After rule me.0 view_won (set state.words object (1 + me.0.number))
          (set state.homes object maybe.none)
      after_winning = record {
        world = world_won;
        holders = winner_going;
        come = rule.come;
        sound = sound_held kinds quota rule.world object (Some me.0.number) (λ e. absurd (cc)) rule.sound;
        -- the words and the slots agree with the new world
        tied = tied_lock object (1 + me.0.number) (Some me.0.number) maybe.none inside
            refl (λ e. absurd (cc)) rule.tied;
        leave = λ d e. (e, refl);
        -- the other clients keep what they know
        others = λ another other. later_held rule.world object another (Some me.0.number) (λ e. absurd (cc))
            (λ e. other (sym (same_Some me.0.number another e)));
        own = winner_agrees;
      }

      -- The table allows the try if the core is in its slot and fits the log.
      may_win : get_elem? state.homes object ≡ some (some (slot.Core core)) → found_there ≡ 0
          → CoreFits content op_in reply_in (kind_at kinds object) (get_elem? rule.lists object) core log_there → MayWin
      may_win at_home hit fits_world =
          let ok = mine rule id is_client at in
          let lists_are = (rule.seats id me.0 at).lists_are is_client in
          let fits : CoreFits content op_in reply_in (kind_at me.0.kinds object) (get_elem? me.0.lists object) core
          log_there =
          subst (λ (z : List Kind × List TableId). CoreFits content op_in reply_in (kind_at z.0 object)
          (get_elem? z.1 object) core log_there) (λ i. (sym ok.kinds_are i, sym lists_are i)) fits_world in
          let told : play.wins content op_in reply_in try_to_win me found_there
          (view_won, (object, slot.Core core) ∷ me.1) =
          λ _. ((λ _. (core, log_there, refl, fits, ok.seen object)), λ miss. absurd (miss hit)) in (
            view_won,
            takes object (slot.Core core),
            at_home,
            rw (eq-eqb found_there 0 hit) (kept_after rule id view_won at is_client alike after_winning),
            told,
          )

    -- At a free lock the client wins the object.
    win_hits : found_there ≡ 0 → MayWin
    win_hits hit =
        let none_holds : rule.world.holder object ≡ None =
        free_lock (rule.world.holder object) (sym (rule.tied.locks object inside) ∙ hit) in
        let (core, at_home, fits) = rule.tied.cores object inside none_holds in
        may_win core none_holds at_home hit fits

    -- At a taken lock the client notes a miss.
    win_misses : found_there ≢ 0 → MayWin
    win_misses miss =
        let view' : DeskView = after_miss object me.0 in
        let told : play.wins content op_in reply_in try_to_win me found_there (view', me.1) =
        λ _. ((λ hit. absurd (miss hit)), λ _. refl) in
        (view', keeps, tt, rw (ne_eqb found_there 0 miss) (misses rule object id me.1 is_client at), told)

  -- a try to win an object keeps the rule, for a client that holds nothing and has not ended
  pub win_keeps_rule : (slots id object word : ℕ) (me : Me (Slot S O R) DeskView) → me.0.role ≡ role.Client
      → object < length kinds → word ≡ 1 + me.0.number → me.0.held ≡ held.Free → me.0.ended ≡ false
      → Allows DeskRule slots id me object (λ f. either (eqb f 0) word f)
      (play.wins content op_in reply_in (step slots object 0 word maybe.none) me)
  win_keeps_rule slots id object word me is_client inside is free going state rule deep at small =
      rw is (dite (ℕ_discrete (get_or state.words object 0) 0)
      (win_hits rule slots id object me is_client at inside free going)
      (win_misses rule slots id object me is_client at inside free going))

  -- ---- releasing the object

  -- a client that holds an object with a free hand releases it, with a core that fits its log
  module _ {state : State (Slot S O R) DeskView} (rule : DeskRule state) (id object : ℕ)
      (me : Me (Slot S O R) DeskView) (log : List AnyEntry) (core : Core S O R) (is_client : me.0.role ≡ role.Client)
      (at : get_elem? state.views id ≡ some me.0) (holding : me.0.held ≡ held.Pass object log)
      (fits : CoreFits content op_in reply_in (kind_at me.0.kinds object) (get_elem? me.0.lists object) core log) where
    -- the world after the release
    abbrev world_released : World
    world_released = held_by rule.world object None

    -- The client agrees with the world once it holds nothing and has seen the log.
    releaser_agrees : SeatAgrees kinds world_released me.0.number (after_release object log me.0)
    releaser_agrees =
        let world : World = rule.world in
        let client : ℕ = me.0.number in
        let ok = mine rule id is_client at in
        let pass = pass_of ok holding in
        let inside = pass.inside in
        let few = rule.tied.objects in
        let low : object < max_objects = omega arith in
        let whole : List AnyEntry = world.log object in
        let covers = all_covered kinds quota world client object me.0.done me.0.own ok.done ok.own rule.sound in
        let seat = saw kinds world client object me.0 whole low (starts_same whole) covers ok in
        let nothing : (y : ℕ) → world_released.holder y ≢ Some client =
        changed_all (λ y h. h ≢ Some client) world.holder object None (λ e. absurd (cc))
        (λ y other e. other (pass.only y e)) in
        let no_rows = All-nil (InRow world.stage world_released.holder client) in
        subst (λ z. SeatAgrees kinds world_released client (after_release object z me.0)) pass.logged
        (seat_held kinds world client object None (after_meet object whole me.0) held.Free [] me.0.won no_rows seat
        nothing)

    -- The core fits the log of the world.
    core_fits : CoreFits content op_in reply_in (kind_at kinds object) (get_elem? rule.lists object) core
        (rule.world.log object)
    core_fits =
        let ok = mine rule id is_client at in
        let pass = pass_of ok holding in
        let lists_are = (rule.seats id me.0 at).lists_are is_client in
        subst (λ (z : List Kind × List TableId × List AnyEntry). CoreFits content op_in reply_in (kind_at z.0 object)
        (get_elem? z.1 object) core z.2) (λ i. (ok.kinds_are i, lists_are i, sym pass.logged i)) fits

    -- The world after the release is as the rule asks.
    after_releasing : After rule me.0 (after_release object log me.0) (set state.words object 0)
        (set state.homes object (some (slot.Core core)))
    after_releasing =
        let world : World = rule.world in
        let pass = pass_of (mine rule id is_client at) holding in
        record {
          world = world_released;
          holders = λ y d. changed_all (λ y h. h ≡ Some d → (d < clients) × (world.ended d ≡ false)) world.holder object
              None (λ e. absurd (cc)) (λ y _. rule.holders y d) y;
          come = rule.come;
          sound = sound_held kinds quota world object None (λ _. pass.free) rule.sound;
          -- the words and the slots agree with the new world
          tied = tied_lock object 0 None (some (slot.Core core)) pass.inside refl
              (λ _. (core, refl, core_fits)) rule.tied;
          leave = λ d e. (e, refl);
          -- the other clients keep what they know
          others = λ another other. later_held world object another None
              (λ e. other (sym (same_Some me.0.number another (sym pass.holds ∙ e)))) (λ e. absurd (cc));
          own = releaser_agrees;
        }

  -- a release keeps the rule, if the core in the client's hands fits the log that the client knows
  pub release_keeps_rule : (slots id object : ℕ) (me : Me (Slot S O R) DeskView) (log : List AnyEntry)
      (core : Core S O R) (more : List (ℕ × Slot S O R)) → me.0.role ≡ role.Client → me.0.held ≡ held.Pass object log
      → me.1 ≡ (object, slot.Core core) ∷ more
      → CoreFits content op_in reply_in (kind_at me.0.kinds object) (get_elem? me.0.lists object) core log
      → IsAtRest me.0.own
      → Allows DeskRule slots id me object (λ _. 0)
      (λ _. play.releases content op_in reply_in (step slots object 0 0 maybe.none) me 0)
  release_keeps_rule slots id object me log core more is_client holding carried fits calm state rule deep at small =
      let world : World = rule.world in
      let ok = mine rule id is_client at in
      let pass = pass_of ok holding in
      let view' : DeskView = after_release object log me.0 in
      let after = after_releasing rule id object me log core is_client at holding fits in
      let covers = all_covered kinds quota world me.0.number object me.0.done me.0.own ok.done ok.own rule.sound in
      let account : IsAccount object me.0 (world.log object) =
      accounts kinds quota world object me.0 (world.log object) calm ok.done ok.own rule.sound
      (starts_same (world.log object)) covers in
      let told : play.releases content op_in reply_in (step slots object 0 0 maybe.none) me 0 (view', rest me.1) =
      λ log' holding'. (
        ap (λ z. (after_release object z me.0, rest me.1)) (one_log holding holding'),
        subst (IsAccount object me.0) (pass.logged ∙ one_log holding holding') account,
      ) in
      (view', gives, tt, rw carried (kept_after rule id view' at is_client alike after), told)
