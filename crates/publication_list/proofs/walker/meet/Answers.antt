-- `meet`: the rows are the list as the walk met it. The loop keeps `Meeting`: the rows so far are a front of the
-- list, and the word that was read tells what follows. Each turn shortens the rest of the list.
use Rattle.std.proofs.Common.{arith, ℕ, ◌+◌, ◌-◌, ◌<◌, ◌∷◌, ◌++◌, [], length, length-append, slice_index, sym, ap}
use Rattle.std.proofs.Common.{◌∙◌, subst}
use Rattle.publication_list.specs.PublicationList.{WalkMeets}
use Rattle.publication_list.specs.Inside.{Meeting, HasMetRows, list_left, made_of, walks_of}
use Rattle.publication_list.proofs.WalkerSteps.{meet_allowed, walk_begins, walk_goes_on, follow_allowed}
use Rattle.publication_list.proofs.WalkerSteps.{walk_meets_one_more, walk_gets_shorter, walk_met_all}
use Rattle.publication_list.proofs.walker.meet.Goals as goal

pub load-at-requires : goal.load-at-requires
load-at-requires c = let t = c.requires.table in (t.0, omega arith, meet_allowed _ _ _ _ _ c.requires.seat)

pub loop-at-init : goal.loop-at-init
loop-at-init c = record {
  table = c.load-at.ensures.0;
  room = c.clear.ensures.capacity;
  long = c.clear.ensures.len ∙ ap length (sym c.clear.ensures.items);
  meeting = subst (λ z. Meeting (list_left c.args.seat.now.me.0) (walks_of c.args.seat.now.me.0)
      (made_of c.args.seat.now.me.0) z c.load-at.result
      c.load-at.new.seat.me) (sym c.clear.ensures.items) (walk_begins _ _ _ _ _ c.requires.seat c.load-at.ensures.2);
}

pub overflow_cast-row : goal.overflow_cast-row
overflow_cast-row c =
    let k = c.loop-at.invariant.meeting in
    let g = walk_goes_on _ _ _ _ _ _ k c.loop-at-test.true in
    let low = k.low (length c.loop-at.rows.items) g.0 in
    let word = g.1 in
    let few = c.requires.room.0 in
    omega arith

pub push_reserved-requires : goal.push_reserved-requires
push_reserved-requires c =
    let i = c.loop-at.invariant in
    let k = i.meeting in
    let low = (walk_goes_on _ _ _ _ _ _ k c.loop-at-test.true).0 in
    let few = k.few in
    let room = c.requires.room.1 in
    let same = i.room in
    let len = i.long in
    omega arith

pub load-at-requires-in-loop-at : goal.load-at-requires-in-loop-at
load-at-requires-in-loop-at c =
    let k = c.loop-at.invariant.meeting in
    let g = walk_goes_on _ _ _ _ _ _ k c.loop-at-test.true in
    let low = k.low (length c.loop-at.rows.items) g.0 in
    let word = g.1 in
    let few = c.requires.room.0 in
    let t = c.requires.table in
    (c.loop-at.invariant.table ∙ t.0, omega arith, follow_allowed _ _ _ _ _ k.met _)

pub loop-at-smaller : goal.loop-at-smaller
loop-at-smaller c =
    let k = c.loop-at.invariant.meeting in
    let word = (walk_goes_on _ _ _ _ _ _ k c.loop-at-test.true).1 in
    walk_gets_shorter _ _ _ _ _ _ k _ (1 + (c.loop-at.at - 1)) _ _ c.loop-at-test.true
    (omega arith) c.push_reserved.ensures.items c.load-at-in-loop-at.ensures.2

pub loop-at-preserved : goal.loop-at-preserved
loop-at-preserved c =
    let i = c.loop-at.invariant in
    let k = i.meeting in
    let word = (walk_goes_on _ _ _ _ _ _ k c.loop-at-test.true).1 in
    let p = c.push_reserved.ensures in
    let len = p.len in
    let was = i.long in
    record {
      table = c.load-at-in-loop-at.ensures.0 ∙ i.table;
      room = p.capacity ∙ i.room;
      long = (let more = ap length p.items ∙ length-append c.loop-at.rows.items ((c.loop-at.at - 1) ∷ []) in
          omega arith);
      meeting = walk_meets_one_more _ _ _ _ _ _ k _ (1 + (c.loop-at.at - 1)) _ _ c.loop-at-test.true
          (omega arith) p.items c.load-at-in-loop-at.ensures.2;
    }

pub returns-clause-seat : goal.returns-clause-seat
returns-clause-seat c =
    let k = c.loop-at.invariant.meeting in
    subst (λ z. HasMetRows z (walks_of c.args.seat.now.me.0 ++ z ∷ []) c.loop-at.seat.me)
    (sym (walk_met_all _ _ _ _ _ _ k c.loop-at-test.false)) k.met

pub returns-clause-made : goal.returns-clause-made
returns-clause-made c = c.loop-at.invariant.meeting.made

pub returns-clause-met : goal.returns-clause-met
returns-clause-met c =
    let k = c.loop-at.invariant.meeting in
    subst (WalkMeets (list_left c.args.seat.now.me.0)) (sym (walk_met_all _ _ _ _ _ _ k c.loop-at-test.false)) k.walk

pub returns-clause-low : goal.returns-clause-low
returns-clause-low c =
    let k = c.loop-at.invariant.meeting in
    subst (λ z. (j : ℕ) → j < length z → slice_index z j < made_of c.args.seat.now.me.0)
    (sym (walk_met_all _ _ _ _ _ _ k c.loop-at-test.false)) k.low

pub returns-clause-few : goal.returns-clause-few
returns-clause-few c =
    let k = c.loop-at.invariant.meeting in
    let e = ap length (walk_met_all _ _ _ _ _ _ k c.loop-at-test.false) in
    let few = k.few in
    omega arith
