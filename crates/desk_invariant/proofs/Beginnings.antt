-- A desk begins by the rule: the first state has no client and the initial world, a new client knows nothing yet, and
-- at its first step it enters the world.
use Rattle.std.proofs.Common.{◌≡◌, ◌≢◌, ℕ, zero, suc, ◌+◌, ◌<◌, ◌≤◌, true, false, List, [], ◌∷◌, ◌++◌, length}
use Rattle.std.proofs.Common.{replicate, get_or, set, Some, refl, sym, ap, ◌∙◌, subst, ◌⊎◌, inl, inr, arith}
use mathlib.Core.Option as maybe
use mathlib.Core.Option.{some, some-ne-none, some-injective}
use lib.ListN.{get_elem?, length-map}
use Rattle.std.proofs.lemmas.List.Elements.{All-nil}
use Rattle.atomic_table.specs.Table.{State, Me, step, takes, chain, opening, Allows, Splits}
use Rattle.atomic_table.specs.Seated.{TableId}
use Rattle.atomic_table.proofs.Lists.{at_set, at_map, set_else}
use Rattle.model.specs.declared.Kind.{Kind}
use Rattle.model.specs.declared.AnyOp.{AnyOp}
use Rattle.model.specs.declared.AnyReply.{AnyReply}
use Rattle.model.specs.Objects.{Content}
use Rattle.desk_invariant.specs.declared.board.Core.{Core}
use Rattle.desk_invariant.specs.declared.board.Slot.{Slot}
use Rattle.desk_invariant.specs.declared.board.Slot.TheVariants as slot
use Rattle.desk_invariant.specs.declared.board.Own.TheVariants as own
use Rattle.desk_invariant.specs.declared.board.Held.TheVariants as held
use Rattle.desk_invariant.specs.declared.board.PutBack.{PutBack}
use Rattle.desk_invariant.specs.declared.board.Role.TheVariants as role
use Rattle.desk_invariant.specs.declared.board.DeskView.{DeskView}
use Rattle.desk_model.specs.World.{absent, idle, posted, World, initial_world, kind_at}
use Rattle.desk_model.specs.World.{entries_of_client, StartsWith, request_of}
use Rattle.desk_model.specs.Transitions.{changed, staged}
use Rattle.desk_model.proofs.Changed.{changed_here, changed_else}
use Rattle.desk_model.proofs.Initial.{sound_initial, sound_coming}
use Rattle.desk_invariant.specs.Views.{row_place, end_place, clock_place, new_client, first_maker, after_making}
use Rattle.desk_invariant.specs.Views.{seen_of, received_of, with_own, call_slot, journal_slot, table_slots}
use Rattle.desk_invariant.specs.Views.{table_words}
use Rattle.desk_invariant.specs.Rule.{row_word, OwnCallAgrees, SeatAgrees, HasLeft, ViewAgrees, HasOneMaker, CoreFits}
use Rattle.desk_invariant.specs.Rule.{CallAt}
use Rattle.desk_invariant.specs.Plays as play
use Rattle.desk_invariant.proofs.Seats.{row_leaves, alike, After, kept_after, come_after, mine, Rule}
use Rattle.desk_invariant.proofs.Ties.{tied_coming}
use Rattle.desk_invariant.proofs.Calls.{later_gone, seat_unanswered, covers_own}
use Rattle.publication_list.proofs.RosterMaking.{at_end}
use Rattle.desk_model.specs.Limits.{max_calls, max_clients, max_objects}

-- each place of a list of copies has the copy, also past the end
pub get_or-replicate_same : {A : Type 0} (a : A) (n i : ℕ) → get_or (replicate n a) i a ≡ a
get_or-replicate_same a zero i = refl
get_or-replicate_same a (suc n) zero = refl
get_or-replicate_same a (suc n) (suc i) = get_or-replicate_same a n i

unseen : (kinds : List Kind) (lists : List TableId) (client object : ℕ)
    → seen_of (new_client kinds lists client) object ≡ []
unseen kinds lists client object = get_or-replicate_same [] max_objects object

only : {A : Type 0} (a b : A) (j : ℕ) → get_elem? (a ∷ []) j ≡ some b → (j ≡ 0) × (a ≡ b)
only a b zero e = (refl, some-injective a b e)
only a b (suc j) e = absurd (some-ne-none b (sym e))

-- ---- the maker, and the client that it made

-- the view of the maker is true after it has made a client
one_made : (kinds : List Kind) (lists : List TableId) (world : World) (seat_of seat_of' : ℕ → ℕ) (i j : ℕ)
    (view : DeskView) → view.role ≡ role.Maker → ViewAgrees kinds lists world seat_of i view
    → ViewAgrees kinds lists world seat_of' j (after_making view)
one_made kinds lists world seat_of seat_of' i j view is ok =
    let none_held : (c : ℕ) → view.made + 1 ≤ c → (x : ℕ) → world.holder x ≢ Some c =
    λ c l. (ok.unmade is c (omega arith)).3 in
    grind arith

-- There is one maker still, after it has made one client more: its view became `maker`, and the client's is `new`.
makers_made : (clients : ℕ) (views views' : List DeskView) (id : ℕ) (view maker new : DeskView) → view.role ≡ role.Maker
    → get_elem? views id ≡ some view → maker.role ≡ view.role → maker.made ≡ view.made + 1 → new.role ≡ role.Client
    → new.number ≡ view.made → view.made < clients
    → ((j : ℕ) (u : DeskView) → get_elem? views' j ≡ some u
    → ((j ≡ id) × (maker ≡ u)) ⊎ (((j ≢ id) × (get_elem? views j ≡ some u)) ⊎ (new ≡ u)))
    → HasOneMaker clients views → HasOneMaker clients views'
makers_made clients views views' id view maker new is at role made new_role number low known makers = record {
  made = λ j u e f i y g.
      grind (arith, known j u e, known i y g, makers.made id view at is j u, makers.made id view at is i y);
  numbers = λ j u e f. grind (arith, known j u e, makers.numbers j u);
}

module _ {S O R : Type 0} (content : S → Content) (op_in : O → AnyOp) (reply_in : R → AnyReply) (kinds : List Kind)
    (clients quota : ℕ) where
  abbrev DeskRule : State (Slot S O R) DeskView → Type 0
  DeskRule = Rule content op_in reply_in kinds clients quota

  -- ---- the first state

  -- The maker's view, which is the only one, is true of the initial world.
  opening_seats : (lists : List TableId) (j : ℕ) (v : DeskView)
      → get_elem? (first_maker kinds lists ∷ []) j ≡ some v → ViewAgrees kinds lists initial_world (λ _. 0) j v
  opening_seats lists j v e =
      let a = only (first_maker kinds lists) v j e in
      let seen : (x : ℕ) → StartsWith [] (seen_of (first_maker kinds lists) x) =
      λ x. ([], ap (λ z. z ++ []) (sym (get_or-replicate_same [] max_objects x))) in
      let received : (x : ℕ) → StartsWith [] (received_of (first_maker kinds lists) x) = λ x. ([], refl) in
      let left = All-nil (HasLeft initial_world) in
      subst (λ z. ViewAgrees kinds lists initial_world (λ _. 0) j z) a.1 (grind arith)

  -- the rule holds of a table with words 0, the cores of all objects in their slots, and the view of the maker alone
  pub opening_keeps_rule : (lists : List TableId) (words : List ℕ) (slots : List (Slot S O R))
      → length kinds < 1 + max_objects → clients < 1 + max_clients → quota < 1 + max_calls
      → length words ≡ table_words → ((i : ℕ) → get_or words i 0 ≡ 0) → length slots ≡ table_slots
      → ((x : ℕ) → x < length kinds
      → (k : Core S O R) × (get_elem? slots x ≡ some (slot.Core k))
      × CoreFits content op_in reply_in (kind_at kinds x) (get_elem? lists x) k [])
      → ((i : ℕ) → max_objects ≤ i → i < table_slots → get_elem? slots i ≡ some slot.Nothing)
      → DeskRule (opening words slots (first_maker kinds lists))
  opening_keeps_rule lists words slots few people small wide zeros deep cores others = record {
    world = initial_world;
    seat_of = λ _. 0;
    lists = lists;
    few_calls = small;
    few_clients = people;
    holders = λ x c e. absurd (cc);
    come = λ c came. absurd (came refl);
    sound = sound_initial kinds quota;
    -- all words are zero, and the slots have the cores and nothing else
    tied = record {
      wide = wide;
      deep = length-map slots (λ (x : Slot S O R). some x) ∙ deep;
      objects = few;
      locks = λ x l. zeros x;
      rows = λ r l. zeros (row_place r);
      ends = λ c l. zeros (end_place c);
      clock = zeros clock_place;
      cores = λ x l e. let (core, home, fits) = cores x l in (core, at_map some slots x (slot.Core core) home, fits);
      calls = λ r l. at_map some slots (call_slot r) slot.Nothing (others (call_slot r) (omega arith) (omega arith));
      journals = λ c l. record {
        at_first = λ e. at_map some slots (journal_slot c) slot.Nothing
            (others (journal_slot c) (omega arith) (omega arith));
        at_last = λ e. absurd (cc);
      };
    };
    seats = opening_seats lists;
    makers = record {
      made = λ j v e is i u f.
          let a = only (first_maker kinds lists) v j e in
          let b = only (first_maker kinds lists) u i f in
          ((λ tc. absurd cc), λ tm. b.0 ∙ sym a.0);
      numbers = λ j v e is. let a = only (first_maker kinds lists) v j e in absurd cc;
    };
  }

  -- ---- making a client

  -- the maker of clients makes one more
  module _ {state : State (Slot S O R) DeskView} (rule : DeskRule state) (id : ℕ) (view : DeskView)
      (is : view.role ≡ role.Maker) (low : view.made < clients) (at : get_elem? state.views id ≡ some view) where
    -- the maker's view then
    abbrev maker_then : DeskView
    maker_then = after_making view

    -- the view of the client that is made
    abbrev client_made : DeskView
    client_made = new_client view.kinds view.lists view.made

    -- the seat of the client that is made
    abbrev seat_made : ℕ
    seat_made = length (set state.views id maker_then)

    -- the seat of each client then
    abbrev seats_then : ℕ → ℕ
    seats_then = changed rule.seat_of view.made seat_made

    -- The client that is made has seen nothing, with which each log begins.
    nothing_seen : (x : ℕ) → StartsWith (rule.world.log x) (seen_of client_made x)
    nothing_seen x =
        (rule.world.log x, ap (λ z. z ++ rule.world.log x) (sym (unseen view.kinds view.lists view.made x)))

    -- The client that is made, which knows nothing yet, agrees with the world.
    made_agrees : SeatAgrees kinds rule.world view.made client_made
    made_agrees =
        let world : World = rule.world in
        let old = rule.seats id view at in
        let (is_absent, none_done, going, none_held) = old.unmade is view.made (omega arith) in
        let few = rule.few_clients in
        record {
          number = refl;
          small = omega arith;
          kinds_are = old.maker_kinds is;
          done = sym none_done;
          own = is_absent;
          ready = λ f. absurd (cc);
          wide_seen = refl;
          seen = nothing_seen;
          covers = λ x. ([], ap (entries_of_client view.made) (unseen view.kinds view.lists view.made x));
          held = none_held;
          ended = going;
          retired = All-nil (λ d. world.ended d ≡ true);
          back = All-nil (λ (b : PutBack). (world.stage b.row ≡ posted b.request)
              × (world.holder b.request.object ≡ Some view.made));
        }

    -- The view of the client that is made is true.
    made_seat : ViewAgrees kinds rule.lists rule.world seats_then seat_made client_made
    made_seat =
        let old = rule.seats id view at in
        record {
          seen = nothing_seen;
          received = λ x. (rule.world.log x, refl);
          left = All-nil (HasLeft rule.world);
          client = λ _. (changed_here rule.seat_of view.made seat_made, made_agrees);
          unmade = λ f. absurd (cc);
          maker_kinds = λ f. absurd (cc);
          lists_are = λ _. old.maker_lists is;
          maker_lists = λ f. absurd (cc);
        }

    -- The views of the earlier clients are true still.
    earlier_seat : (j : ℕ) (u : DeskView) → get_elem? state.views j ≡ some u
        → ViewAgrees kinds rule.lists rule.world seats_then j u
    earlier_seat j u h =
        let b = rule.seats j u h in
        let not_new : u.role ≡ role.Client → u.number ≢ view.made =
        λ f same. let made = (rule.makers.made id view at is j u h).0 f in omega arith in
        let seat : u.role ≡ role.Client → (seats_then u.number ≡ j) × SeatAgrees kinds rule.world u.number u =
        λ f. let (sits, knows) = b.client f in
        (changed_else rule.seat_of view.made seat_made u.number (not_new f) ∙ sits, knows) in
        assumption seat

    -- The views of the maker, of the earlier clients and of the one that is made are true.
    seats_made : (j : ℕ) (u : DeskView) → get_elem? (set state.views id maker_then ++ client_made ∷ []) j ≡ some u
        → ViewAgrees kinds rule.lists rule.world seats_then j u
    seats_made j u e = elim (at_end (set state.views id maker_then) client_made u j e) [
      | inl t ↦ elim (at_set state.views id j maker_then u t) [
        | inl h ↦ subst (λ z. ViewAgrees kinds rule.lists rule.world seats_then j z) h.1
            (one_made kinds rule.lists rule.world rule.seat_of seats_then id j view is (rule.seats id view at))
        | inr h ↦ earlier_seat j u h.1
      ]
      | inr t ↦ subst (λ (z : ℕ × DeskView). ViewAgrees kinds rule.lists rule.world seats_then z.0 z.1)
          (λ i. (sym t.0 i, t.1 i)) made_seat
    ]

  -- The maker keeps the rule when it makes a client.
  pub making_keeps_rule : (id : ℕ) (view : DeskView) → view.role ≡ role.Maker → view.made < clients
      → Splits DeskRule id view (after_making view) (new_client view.kinds view.lists view.made)
  making_keeps_rule id view is low state rule at =
      let maker : DeskView = after_making view in
      let new : DeskView = new_client view.kinds view.lists view.made in
      record {
        world = rule.world;
        seat_of = seats_then rule id view is low at;
        lists = rule.lists;
        few_calls = rule.few_calls;
        few_clients = rule.few_clients;
        holders = rule.holders;
        come = rule.come;
        sound = rule.sound;
        tied = rule.tied;
        seats = seats_made rule id view is low at;
        -- the numbers of the clients
        makers = makers_made clients state.views (set state.views id maker ++ new ∷ []) id view maker new is at refl
            refl refl refl low
            (λ j u e. elim (at_end (set state.views id maker) new u j e) [
              | inl t ↦ elim (at_set state.views id j maker u t) [ inl h ↦ inl h | inr h ↦ inr (inl h) ]
              | inr t ↦ inr (inr t.1)
            ]) rule.makers;
      }

  -- ---- a client's first step

  -- a client that has not come takes its two slots out
  module _ {state : State (Slot S O R) DeskView} (rule : DeskRule state) (id : ℕ) (me : Me (Slot S O R) DeskView)
      (is_client : me.0.role ≡ role.Client) (at : get_elem? state.views id ≡ some me.0)
      (is : me.0.own ≡ own.Absent) (going : me.0.ended ≡ false) where
    -- the number of the client
    abbrev client_known : ℕ
    client_known = me.0.number

    -- the slots without that of the client's journal
    abbrev homes_between : List (maybe.Option (Slot S O R))
    homes_between = set state.homes (journal_slot client_known) maybe.none

    -- The client is not there yet.
    was_absent : rule.world.stage client_known ≡ absent
    was_absent =
        let ok = mine rule id is_client at in subst (λ o. OwnCallAgrees o (rule.world.stage client_known)) is ok.own

    -- The slot of the client's journal is empty.
    journal_home : get_elem? state.homes (journal_slot client_known) ≡ some (some slot.Nothing)
    journal_home =
        let ok = mine rule id is_client at in (rule.tied.journals client_known ok.small).at_first was_absent

    -- The slot of the client's requests and answers is empty, also when that of its journal is out.
    call_home : get_elem? homes_between (call_slot client_known) ≡ some (some slot.Nothing)
    call_home =
        let ok = mine rule id is_client at in
        let call : get_elem? state.homes (call_slot client_known) ≡ some (some slot.Nothing) =
        subst (CallAt content op_in reply_in (get_elem? state.homes (call_slot client_known))) was_absent
        (rule.tied.calls client_known ok.small) in
        set_else state.homes (journal_slot client_known) (call_slot client_known) maybe.none (λ e. omega arith) ∙ call

    -- The world after the client has come is as the rule asks.
    after_beginning : After rule me.0 (with_own own.Idle me.0)
        (set state.words (row_place client_known) (get_or state.words (row_place client_known) 0))
        (set homes_between (call_slot client_known) maybe.none)
    after_beginning =
        let world : World = rule.world in
        let client : ℕ = me.0.number in
        let ok = mine rule id is_client at in
        let was : world.stage client ≡ absent = was_absent in
        let found : ℕ = get_or state.words (row_place client) 0 in
        let word : found ≡ row_word (world.stage client) = rule.tied.rows client ok.small in
        record {
          world = staged world client idle;
          holders = rule.holders;
          come = come_after clients world client idle (rule.makers.numbers id me.0 at is_client) rule.come;
          sound = sound_coming kinds quota world client was rule.sound;
          -- the words and the slots agree with the new world
          tied = tied_coming client found idle ok.small (λ e. absurd (cc)) (ok.ended ∙ going) (word ∙ ap row_word was)
              (λ home. tt) rule.tied;
          leave = row_leaves world client idle (ap request_of was);
          -- the other clients keep what they know
          others = λ another other. later_gone world world.clock client idle world.done another (λ p e. absurd cc)
              (λ p e. absurd cc) refl other;
          -- the client has come, and has no call yet
          own = seat_unanswered world world.clock client idle world.done kinds me.0 own.Idle me.0.done
              (λ p e. absurd cc) (λ p e. absurd cc) (λ p a e. absurd cc) refl ok.done
              (covers_own kinds world client me.0 own.Absent is ok) ok;
        }

  -- the first step of a client keeps the rule: it takes its two slots out
  pub begin_keeps_rule : (slots id client : ℕ) (me : Me (Slot S O R) DeskView) → me.0.role ≡ role.Client
      → me.0.number ≡ client
      → client < max_clients → me.0.own ≡ own.Absent → me.0.held ≡ held.Free → me.0.ended ≡ false
      → Allows DeskRule slots id me (row_place client) (λ f. f)
      (play.begins content op_in reply_in (step slots (row_place client) 0 0 maybe.none) me)
  begin_keeps_rule slots id client me is_client number low is free going =
      subst
      (λ z. Allows DeskRule slots id me (row_place z) (λ f. f)
      (play.begins content op_in reply_in (step slots (row_place z) 0 0 maybe.none) me)) number
      (λ state rule deep at small.
      let here : ℕ = me.0.number in
      let view' : DeskView = with_own own.Idle me.0 in
      let after = after_beginning rule id me is_client at is going in
      let told : play.begins content op_in reply_in (step slots (row_place here) 0 0 maybe.none) me
      (get_or state.words (row_place here) 0)
      (view', (call_slot here, slot.Nothing) ∷ (journal_slot here, slot.Nothing) ∷ me.1) =
      λ client' place.
      let same : here ≡ client' = omega arith in
      ap (λ (z : ℕ). (view', (call_slot z, slot.Nothing) ∷ (journal_slot z, slot.Nothing) ∷ me.1)) same in (
        view',
        chain (takes (journal_slot here) slot.Nothing) (takes (call_slot here) slot.Nothing),
        (journal_home rule id me is_client at is going, call_home rule id me is_client at is going),
        kept_after rule id view' at is_client alike after,
        told,
      ))
