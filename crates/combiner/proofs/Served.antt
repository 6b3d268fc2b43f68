-- The try of a row, and a whole pass, change only what `Goes` says of a pass, and the client of the pass keeps its
-- calls (`KeepsCalls`): field by field.
use Rattle.std.proofs.Common.{◌≡◌, ◌≢◌, ℕ, ◌<◌, ◌≤◌, Bool, true, false, ◌||◌, ◌&&◌, List, [], ◌++◌, length, get_or}
use Rattle.std.proofs.Common.{set, eq-eqb, refl, sym, ap, ◌∙◌, subst, inl, inr, ⊎_elim}
use mathlib.Core.Logic.{dite}
use native.Mathlib.Decide.{ℕ_discrete}
use Rattle.std.proofs.Math.Bool.{or-true}
use Rattle.std.proofs.lemmas.Bool.{or_left, cases_lt}
use Rattle.std.proofs.lemmas.List.{get_or-set_same, get_or-set_other, set_past}
use Rattle.desk_model.specs.World.{AnyEntry, AnyRequest, AnyAnswer, kind_at, logged, StartsWith}
use Rattle.desk_model.proofs.Entries.{starts_same, starts_longer}
use Rattle.desk_invariant.specs.declared.board.Held.{Held}
use Rattle.desk_invariant.specs.declared.board.PutBack.{PutBack}
use Rattle.desk_invariant.specs.declared.board.Own.{Own}
use Rattle.desk_invariant.specs.declared.board.Own.TheVariants as own
use Rattle.desk_invariant.specs.declared.board.DeskView.{DeskView}
use Rattle.desk_invariant.specs.Views.{row_place, seen_of, is_waiting, waits_on, after_miss, after_win, after_release}
use Rattle.publication_list.specs.Calls.{WalkerSeen}
use Rattle.publication.specs.Handles.{Holding, Handling}
use Rattle.publication.specs.Calls.{IsPollMiss, IsPicked, IsPickMiss, CanDoAfter, kind_held, IsAnsweredCall, IsPutBack}
use Rattle.combiner.specs.declared.passes.Tried.{Tried}
use Rattle.combiner.specs.declared.passes.Tried.TheVariants as tried
use Rattle.combiner.specs.Passes.{KeepsCalls, Goes, IsTried, IsSettled, IsSettledBy, IsSettledNow, IsSameBut}

-- ---- what stays of a client's calls

-- what a view keeps, an equal one keeps
keeps_same : (view after view' : DeskView) → after ≡ view' → KeepsCalls view view' → KeepsCalls view after
keeps_same view after view' e kept = subst (KeepsCalls view) (sym e) kept

-- calls that are kept in two steps are kept in both together
pub keeps_on : (view between after : DeskView) → KeepsCalls view between → KeepsCalls between after
    → KeepsCalls view after
keeps_on view between after a b = record {
  number = b.number ∙ a.number;
  kinds = b.kinds ∙ a.kinds;
  own = b.own ∙ a.own;
  done = b.done ∙ a.done;
  seen = λ x. starts_longer (seen_of after x) (seen_of between x) (seen_of view x) (b.seen x) (a.seen x);
}

keeps_all : (view : DeskView) → KeepsCalls view view
keeps_all view =
    record { number = refl; kinds = refl; own = refl; done = refl; seen = λ x. starts_same (seen_of view x) }

-- what is held, put back, missed, and known of the own row does not matter
keeps_held : (view : DeskView) {held : Held} {back : List PutBack} {missed : List ℕ} {ready : Bool} {won : ℕ}
    → KeepsCalls view (record view { held = held; back = back; missed = missed; ready = ready; won = won })
keeps_held view =
    record { number = refl; kinds = refl; own = refl; done = refl; seen = λ x. starts_same (seen_of view x) }

-- ---- a pass that goes on

-- a pass goes on if only the list, the ages and the room for entries change
goes_still : (pass : Holding) {list : WalkerSeen} {ages : List ℕ} {room : ℕ}
    → Goes pass (record pass { state = record pass.state { list = list; ages = ages; room = room } })
goes_still pass = record {
  desk = refl;
  object = refl;
  places = refl;
  log = starts_same pass.log;
  seen = refl;
  calls = keeps_all pass.knows;
  ready = λ e. e;
}

-- a pass that has tried no row is where it was
pub goes_nowhere : (pass : Holding) → Goes pass pass
goes_nowhere pass = goes_still pass

-- two stretches of a pass in which rows were tried are one
pub goes_on : (pass between after : Holding) → Goes pass between → Goes between after → Goes pass after
goes_on pass between after a b = record {
  desk = b.desk ∙ a.desk;
  object = b.object ∙ a.object;
  places = b.places ∙ a.places;
  log = starts_longer after.log between.log pass.log b.log a.log;
  seen = b.seen ∙ a.seen;
  calls = keeps_on pass.knows between.knows after.knows a.calls b.calls;
  ready = λ e. b.ready (a.ready e);
}

-- where only the list and the ages changed
pub goes_same : (pass after : Holding) → IsSameBut pass after → Goes pass after
goes_same pass after same = let (list, ages, is) = same in subst (Goes pass) (sym is) (goes_still pass)

-- where only the room for entries changed
pub goes_room : (pass after : Holding) (room : ℕ) → after ≡ record pass { state = record pass.state { room = room } }
    → Goes pass after
goes_room pass after room is = subst (Goes pass) (sym is) (goes_still pass)

-- what changed only the list and the ages twice changed only these
pub same_on : (pass between after : Holding) → IsSameBut pass between → IsSameBut between after → IsSameBut pass after
same_on pass between after a b =
    let (list, ages, is) = b in
    (list, ages, is ∙ ap (λ (z : Holding). record z { state = record z.state { list = list; ages = ages } }) a.2)

-- what is known of the own call stays true if only the list and the ages change
pub same_settled : (pass after : Holding) → IsSameBut pass after → IsSettledNow pass → IsSettledNow after
same_settled pass after same settled =
    subst IsSettledNow (sym same.2) (λ request waiting on. settled request waiting on)

-- what was told of the own row stays true if only the list and the ages change
pub same_tried : (pass after : Holding) (t : Tried) → IsSameBut pass after → IsTried pass t → IsTried after t
same_tried pass after t same k = subst (λ z. IsTried z t) (sym same.2) (also t k)
  where
    also : (t : Tried) → IsTried pass t
        → IsTried (record pass { state = record pass.state { list = same.0; ages = same.1 } }) t
    also tried.Nothing k = k
    also tried.Answered k = k
    also tried.PutBack k = k

-- ---- the try of one row

-- a row at which nothing was picked up was tried
pub not_goes : (pass after : Holding) (row : ℕ) → after.desk ≡ pass.desk → after.state ≡ pass.state
    → IsPickMiss pass row after → Goes pass after
not_goes pass after row desk state missed = let k = missed.knows in record {
  desk = desk;
  object = missed.object;
  places = ap (λ z. z.places) state;
  log = subst (λ l. StartsWith l pass.log) (sym missed.log) (starts_same pass.log);
  seen = ap (λ z. z.seen) k;
  calls = keeps_same pass.knows after.knows _ k (keeps_held pass.knows);
  ready = λ e. ap (λ z. z.ready) k ∙ or_left _ _ e;
}

waits : (object : ℕ) (call : Own) (request : AnyRequest) → call ≡ own.Waiting request → request.object ≡ object
    → waits_on object call ≡ true
waits object call request e on = ap (waits_on object) e ∙ eq-eqb request.object object on

-- the own row was tried if nothing was picked up there
pub not_tried : (pass after : Holding) (row : ℕ) → IsPickMiss pass row after → row ≡ pass.knows.number
    → IsTried after tried.Nothing
not_tried pass after row missed here request waiting on =
    let k = missed.knows in
    let waiting' : pass.knows.own ≡ own.Waiting request = sym (ap (λ z. z.own) k) ∙ waiting in
    let on' : request.object ≡ pass.object = on ∙ missed.object in
    ap (λ z. z.ready) k ∙ ((λ i. pass.knows.ready
    || (eq-eqb (row_place row) (row_place pass.knows.number) (ap row_place here) i
    && waits pass.object pass.knows.own request waiting' on' i)) ∙ or-true pass.knows.ready)

-- a row whose request was picked up and answered was tried
pub answered_goes : (pass : Holding) (hand : Handling) (after : Holding) (row : ℕ) (answer : AnyAnswer)
    → hand.desk ≡ pass.desk → after.desk ≡ hand.desk → hand.state ≡ pass.state
    → after.state.places ≡ hand.state.places → IsPicked pass row hand → IsAnsweredCall hand answer after
    → Goes pass after
answered_goes pass hand after row answer desk desk' state places picked done = record {
  desk = desk' ∙ desk;
  object = done.object ∙ picked.object;
  places = places ∙ ap (λ z. z.places) state;
  log = (logged hand.row hand.request answer, done.log ∙ ap (λ z. z ++ logged hand.row hand.request answer) picked.log);
  seen = ap (λ z. z.seen) done.knows ∙ ap (λ z. z.seen) picked.knows;
  calls = keeps_on pass.knows hand.knows after.knows
      (keeps_same pass.knows hand.knows _ picked.knows (keeps_held pass.knows))
      (keeps_same hand.knows after.knows _ done.knows (keeps_held hand.knows));
  ready = λ e. ap (λ z. z.ready) done.knows ∙ or_left _ _ (ap (λ z. z.ready) picked.knows ∙ e);
}

-- the own row was tried if its request was answered
pub answered_tried : (pass : Holding) (hand : Handling) (after : Holding) (row : ℕ) (answer : AnyAnswer)
    → IsPicked pass row hand → IsAnsweredCall hand answer after → row ≡ pass.knows.number
    → IsTried after tried.Answered
answered_tried pass hand after row answer picked done here request waiting on =
    let own : hand.row ≡ hand.knows.number = picked.row ∙ (here ∙ sym (ap (λ z. z.number) picked.knows)) in
    ap (λ z. z.ready) done.knows
    ∙ (ap (λ z. hand.knows.ready || z) (eq-eqb hand.row hand.knows.number own) ∙ or-true hand.knows.ready)

-- a row whose request was picked up and put back was tried
pub back_goes : (pass : Holding) (hand : Handling) (after : Holding) (row : ℕ) → hand.desk ≡ pass.desk
    → after.desk ≡ hand.desk → hand.state ≡ pass.state → after.state ≡ hand.state → IsPicked pass row hand
    → IsPutBack hand after → Goes pass after
back_goes pass hand after row desk desk' state state' picked done = record {
  desk = desk' ∙ desk;
  object = done.object ∙ picked.object;
  places = ap (λ z. z.places) (state' ∙ state);
  log = subst (λ l. StartsWith l pass.log) (sym (done.log ∙ picked.log)) (starts_same pass.log);
  seen = ap (λ z. z.seen) done.knows ∙ ap (λ z. z.seen) picked.knows;
  calls = keeps_on pass.knows hand.knows after.knows
      (keeps_same pass.knows hand.knows _ picked.knows (keeps_held pass.knows))
      (keeps_same hand.knows after.knows _ done.knows (keeps_held hand.knows));
  ready = λ e. ap (λ z. z.ready) done.knows ∙ (ap (λ z. z.ready) picked.knows ∙ e);
}

-- the own row was tried if its request was put back, since the object cannot do it
pub back_tried : (pass : Holding) (hand : Handling) (after : Holding) (row : ℕ) → IsPicked pass row hand
    → IsPutBack hand after → (CanDoAfter (kind_held hand) hand.log hand.request.op → ⊥) → row ≡ pass.knows.number
    → IsTried after tried.PutBack
back_tried pass hand after row picked done cannot here request waiting can =
    let waits_here : pass.knows.own ≡ own.Waiting request =
    sym (ap (λ z. z.own) done.knows ∙ ap (λ z. z.own) picked.knows) ∙ waiting in
    let is : hand.request ≡ request = picked.mine request here waits_here in
    let kinds : CanDoAfter (kind_at hand.knows.kinds after.object) after.log request.op =
    subst (λ z. CanDoAfter (kind_at z after.object) after.log request.op) (ap (λ z. z.kinds) done.knows) can in
    let object : CanDoAfter (kind_held hand) after.log request.op =
    subst (λ z. CanDoAfter (kind_at hand.knows.kinds z) after.log request.op) done.object kinds in
    let log : CanDoAfter (kind_held hand) hand.log request.op =
    subst (λ z. CanDoAfter (kind_held hand) z request.op) done.log object in
    cannot (subst (λ (z : AnyRequest). CanDoAfter (kind_held hand) hand.log z.op) (sym is) log)

-- ---- the own call is settled

-- The own row was tried first, with this answer, and then other rows. Where its request was not put back, it is
-- answered.
pub settled_first : (pass after : Holding) (t : Tried) → IsTried pass t → t ≢ tried.PutBack → Goes pass after
    → IsSettledNow after
settled_first pass after tried.Nothing own other goes request waiting on =
    inl (goes.ready (own request (sym goes.calls.own ∙ waiting) (on ∙ goes.object)))
settled_first pass after tried.Answered own other goes request waiting on =
    inl (goes.ready (own request (sym goes.calls.own ∙ waiting) (on ∙ goes.object)))
settled_first pass after tried.PutBack own other goes request waiting on = absurd (other refl)

-- the own row was tried last
pub settled_last : (pass : Holding) (t : Tried) → IsTried pass t → IsSettledNow pass
settled_last pass tried.Nothing own request waiting on = inl (own request waiting on)
settled_last pass tried.Answered own request waiting on = inl (own request waiting on)
settled_last pass tried.PutBack own request waiting on = inr (own request waiting)

-- the client after its pass was put back
pub settled_after : (object : ℕ) (pass : Holding) (view : DeskView) → pass.object ≡ object
    → view ≡ after_release pass.object pass.log pass.knows → seen_of view pass.object ≡ pass.log → IsSettledNow pass
    → IsSettled object view
settled_after object pass view on is seen settled =
    subst (λ y. IsSettled y view) on
    (subst (λ l. IsSettledBy pass.object l view) (sym seen)
    (subst (IsSettledBy pass.object pass.log) (sym is) (λ request waiting at. settled request waiting at)))

-- ---- what a client keeps, with a pass or without one

-- what was seen goes on where a longer log is seen
pub seen_on : (seen : List (List AnyEntry)) (object : ℕ) (log : List AnyEntry) → StartsWith log (get_or seen object [])
    → (y : ℕ) → StartsWith (get_or (set seen object log) y []) (get_or seen y [])
seen_on seen object log begins y = dite (ℕ_discrete y object)
    (λ same. ⊎_elim
    (λ (here : object < length seen).
    let begins' = subst (λ z. StartsWith z (get_or seen object []))
    (sym (get_or-set_same seen object log [] here)) begins in
    subst (λ z. StartsWith (get_or (set seen object log) z []) (get_or seen z [])) (sym same) begins')
    (λ (past : length seen ≤ object). subst (λ z. StartsWith (get_or z y []) (get_or seen y []))
    (sym (set_past seen object log past)) (starts_same (get_or seen y [])))
    (cases_lt object (length seen)))
    (λ other. subst (λ z. StartsWith z (get_or seen y [])) (sym (get_or-set_other seen object y log [] other))
    (starts_same (get_or seen y [])))

-- a client whose pass, which it won, went on and was put back keeps its calls
pub keeps_learnt : (client : DeskView) (object : ℕ) (pass after : Holding) (client' : DeskView)
    → pass.knows ≡ after_win object pass.log client → pass.object ≡ object
    → StartsWith pass.log (seen_of client object) → Goes pass after
    → client' ≡ after_release after.object after.log after.knows → KeepsCalls client client'
keeps_learnt client object pass after client' opened on begins goes is =
    let longer : StartsWith after.log (seen_of after.knows after.object) =
    subst (λ z. StartsWith after.log (get_or z after.object [])) (sym (goes.seen ∙ ap (λ z. z.seen) opened))
    (subst (λ y. StartsWith after.log (seen_of client y)) (sym (goes.object ∙ on))
    (starts_longer after.log pass.log (seen_of client object) goes.log begins)) in
    keeps_on client after.knows client'
    (keeps_on client pass.knows after.knows (keeps_same client pass.knows _ opened (keeps_held client)) goes.calls)
    (keeps_same after.knows client' _
    is record {
      number = refl;
      kinds = refl;
      own = refl;
      done = refl;
      seen = seen_on after.knows.seen after.object after.log longer;
    })

-- a miss keeps the client's calls
pub keeps_missed : (word : ℕ) (view view' : DeskView) → view' ≡ after_miss word view → KeepsCalls view view'
keeps_missed word view view' is = keeps_same view view' _ is (keeps_held view)

-- a poll that found no answer keeps the client's calls
pub keeps_unpolled : (view view' : DeskView) → IsPollMiss view view' → KeepsCalls view view'
keeps_unpolled view view' missed =
    ⊎_elim (λ (a : (is_waiting view.own ≡ false) × (view' ≡ view)). keeps_same view view' view a.1 (keeps_all view))
    (λ (b : (view' ≡ after_miss (row_place view.number) view) × (view.ready ≡ false)).
    keeps_same view view' _ b.0 (keeps_held view)) missed
