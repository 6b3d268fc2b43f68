-- `unlink`: the row at this place is out of the list and inactive, and the walker knows its rows without it. The
-- store goes to the link of the row before it, as the walker met it, and then its mark is cleared.
use Rattle.std.proofs.Common.{arith, ℕ, ◌≡◌, ◌+◌, ◌-◌, ◌<◌, ◌≤◌, [], None, Some, length, get_or, remove, sym, ap}
use Rattle.std.proofs.Common.{◌∙◌, subst}
use Rattle.std.proofs.lemmas.Grind.{get_or_default_zero}
use Rattle.publication_list.specs.PublicationList.{word_at}
use Rattle.publication_list.specs.Inside.{walks_of}
use Rattle.publication_list.specs.declared.list_table.ListView.TheVariants as view
use Rattle.publication_list.proofs.WalkerSteps.{unlink_allowed, unlink_leaves, sleep_allowed, sleep_leaves, less_one}
use Rattle.publication_list.proofs.roster.Roster.unlink.Goals as goal
use Rattle.publication_list.proofs.roster.Roster.unlink.Goals.{After-remove-row, After-store}

-- the place is in the walker's list
inside : (c : After-remove-row) → c.args.at < length c.walker.inside.rows.items
inside c = subst (λ z. c.args.at < length z) (sym (ap (λ z. z.rows) c.walker.view_is)) c.requires.at.1

-- the row before it, as the walker has it
row_before : (c : After-remove-row)
    → 1 + c.index-before.result.now ≡ 1 + get_or c.walker.inside.rows.items (c.args.at - 1) 0
row_before c =
    let low = inside c in
    ap (λ z. 1 + z) (c.index-before.ensures
    ∙ get_or_default_zero c.walker.inside.rows.items (c.args.at - 1) c.index-before.result.now (omega arith))

-- the row that is taken out, as the walker had it
row_out : (c : After-remove-row) → c.remove-row.result ≡ get_or c.walker.inside.rows.items c.args.at 0
row_out c =
    c.remove-row.ensures.value ∙ get_or_default_zero c.walker.inside.rows.items c.args.at c.remove-row.result (inside c)

-- what the walker knows once the row is taken out
taken_out : (c : After-store) → c.args.at < length c.walker.inside.rows.items
    → 1 + c.index-before.result.now ≡ 1 + get_or c.walker.inside.rows.items (c.args.at - 1) 0
    → c.remove-row.result ≡ get_or c.walker.inside.rows.items c.args.at 0
    → c.store.new.seat.me ≡ (
      view.Walker c.walker.inside.places (remove c.walker.inside.rows.items c.args.at)
          (Some c.remove-row.result) (walks_of c.walker.inside.seat.me.0),
      [],
    )
taken_out c low before out =
    unlink_leaves (1 + c.index-before.result.now) c.word_to-next.result c.args.at _ c.walker.inside.rows.items
    (walks_of c.walker.inside.seat.me.0) _
    c.walker.invariant.met c.requires.at.0 low before _ c.store.ensures.2
    ∙ ap (λ (z : ℕ). (
      view.Walker c.walker.inside.places (remove c.walker.inside.rows.items c.args.at) (Some z)
          (walks_of c.walker.inside.seat.me.0),
      [],
    )) (sym out)

pub store-requires : goal.store-requires
store-requires c =
    let d = (goal.at.store-requires c).After-remove-row in
    let w = c.walker.invariant in
    let low = w.low (c.args.at - 1) (let at_low = inside d in omega arith) in
    let few = w.few in
    let wide = c.self.invariant.0 in
    let row = row_before d in (
      ap (λ z. z.roster) c.walker.view_is ∙ (c.requires.roster ∙ sym (ap (λ z. z.id) c.self.view_is)),
      omega arith,
      unlink_allowed _ _ c.args.at _ _ _ _ w.met c.requires.at.0 (inside d) row _ _
          (c.word_to-next.ensures ∙ ap (λ z. word_at z (c.args.at + 1)) c.as_slice.ensures.value),
    )

pub store-requires-2 : goal.store-requires-2
store-requires-2 c =
    let d = (goal.at.store-requires-2 c).After-remove-row in
    let w = c.walker.invariant in
    let low = w.low c.args.at (inside d) in
    let row = row_out d in
    let few = w.few in
    let wide = c.self.invariant.0 in (
      c.store.ensures.0 ∙ (ap (λ z. z.roster) c.walker.view_is
          ∙ (c.requires.roster ∙ sym (ap (λ z. z.id) c.self.view_is))),
      omega arith,
      sleep_allowed _ _ _ _ _ (taken_out c (inside d) (row_before d) (row_out d)) _ _,
    )

pub invariant_of-walker : goal.invariant_of-walker
invariant_of-walker c =
    let d = (goal.at.invariant_of-walker c).After-remove-row in
    let w = c.walker.invariant in
    let p = c.remove-row.ensures in
    let met = sleep_leaves _ _ _ _ _
    (taken_out (goal.at.invariant_of-walker c).After-store (inside d) (row_before d) (row_out d)) _
    c.store-2.ensures.2 in
    let less = less_one c.walker.inside.places c.walker.inside.rows.items c.args.at (inside d) w.within w.low in
    let cap = p.capacity in
    let room = w.room in
    record {
      within = subst (λ z. length z ≤ c.walker.inside.places) (sym p.items) less.0;
      met = met ∙ ap (λ z. (view.Walker c.walker.inside.places z None (walks_of c.walker.inside.seat.me.0), []))
          (sym p.items)
          ∙ ap (λ z. (view.Walker c.walker.inside.places c.remove-row.new.self.items None z, []))
          (sym (ap (λ z. walks_of z.0) met));
      few = w.few;
      room = omega arith;
      low = subst (λ z. (k : ℕ) → k < length z → get_or z k 0 < c.walker.inside.places) (sym p.items) less.1;
    }

pub returns : goal.returns
returns c =
    let d = (goal.at.returns c).After-remove-row in
    let met = sleep_leaves _ _ _ _ _
    (taken_out (goal.at.returns c).After-store (inside d) (row_before d) (row_out d)) _ c.store-2.ensures.2 in
    let is = c.walker.view_is in
    let roster = c.store-2.ensures.0 ∙ c.store.ensures.0 ∙ ap (λ z. z.roster) is in
    let rows = c.remove-row.ensures.items ∙ ap (λ z. remove z.rows c.args.at) is in
    let walks = ap (λ z. walks_of z.0) met ∙ ap (λ z. z.walks) is in
    λ j. record { roster = roster j; places = (is j).places; rows = rows j; walks = walks j }
