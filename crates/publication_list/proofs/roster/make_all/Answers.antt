-- `make_all`: places are made for the first rows, one for each. Each turn splits a place off the walker's seat,
-- which has then made one row more.
use Rattle.std.proofs.Common.{arith, ◌≡◌, ◌≤◌, ℕ, [], length, None, refl, sym, ap, ◌∙◌, subst}
use Rattle.publication_list.specs.declared.list_table.ListView.TheVariants as view
use Rattle.publication_list.specs.declared.list_table.RowKnowledge.TheVariants as own
use Rattle.publication_list.specs.Plays.{Hands, after_making, new_place}
use Rattle.publication_list.specs.Calls.{AreRowPlaces}
use Rattle.publication_list.specs.Inside.{tries_of}
use Rattle.publication_list.proofs.RosterMaking.{split_allowed, ArePlaces-more}
use Rattle.publication_list.proofs.roster.make_all.Goals as goal

pub loop-row-init : goal.loop-row-init
loop-row-init c =
    let m = c.requires.made in
    record {
      table = refl;
      seat = c.requires.seat;
      long = m.1;
      room = m.2;
      made = (ap length m.0, λ k l. absurd (omega arith));
    }

pub split_seat-chair-requires : goal.split_seat-chair-requires
split_seat-chair-requires c =
    let i = c.loop-row.invariant in
    let t = c.requires.table in
    let few = c.requires.rows in
    let low = c.loop-row-test.true in
    (i.table ∙ t.0, omega arith, split_allowed _ _ _ (omega arith) i.seat)

pub invariant_of-push_reserved : goal.invariant_of-push_reserved
invariant_of-push_reserved c =
    let i = c.loop-row.invariant in
    let few = c.requires.rows in
    let low = c.loop-row-test.true in
    let e = c.split_seat-chair.ensures.4 ∙ ap (λ (m : Hands). (new_place m.0, [])) i.seat in
    (omega arith, (own.Unknown, e ∙ (λ j. (view.Place c.loop-row.row own.Unknown (tries_of (sym e j).0), [])), refl))

pub push_reserved-requires : goal.push_reserved-requires
push_reserved-requires c =
    let i = c.loop-row.invariant in
    let n = i.long in
    let room = i.room in
    let low = c.loop-row-test.true in
    omega arith

pub loop-row-preserved : goal.loop-row-preserved
loop-row-preserved c =
    let i = c.loop-row.invariant in
    let s = c.split_seat-chair.ensures in
    let p = c.push_reserved.ensures in
    let n = i.long in
    let room = i.room in
    let len = p.len in
    let cap = p.capacity in
    let new = s.4 ∙ ap (λ (m : Hands). (new_place m.0, [])) i.seat in
    record {
      table = s.0 ∙ i.table;
      seat = s.2 ∙ ap (λ (m : Hands). (after_making m.0, m.1)) i.seat;
      long = omega arith;
      room = omega arith;
      made = ArePlaces-more c.args.seat.now.table_id c.loop-row.row c.loop-row.made.items
          c.push_reserved.new.self.items _ i.made p.items
          (λ j. record { roster = (s.3 ∙ i.table) j; row = c.loop-row.row; tries = tries_of (new j).0 });
    }

-- the loop is over at the last row
ended : (row rows : ℕ) → rows ≤ row → row ≤ rows → row ≡ rows
ended row rows a b = omega arith

pub returns-clause-seat : goal.returns-clause-seat
returns-clause-seat c =
    c.loop-row.invariant.seat
    ∙ ap (λ (z : ℕ). (view.Walker z [] None [], []))
    (ended c.loop-row.row c.args.rows c.loop-row-test.false c.loop-row.auto.row-end)

pub returns-clause-made : goal.returns-clause-made
returns-clause-made c =
    subst (λ (z : ℕ). AreRowPlaces c.args.seat.now.table_id z c.loop-row.made.items)
    (ended c.loop-row.row c.args.rows c.loop-row-test.false c.loop-row.auto.row-end) c.loop-row.invariant.made
