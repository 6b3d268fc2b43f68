-- `try_row`: the pass goes on, and if the row is its own, it was tried as `IsTried` says. There is one law of `Served`
-- for each of the three ends: nothing there, answered, put back.
use Rattle.std.proofs.Common.{ap}
use Rattle.combiner.specs.declared.passes.Tried.TheVariants as tried
use Rattle.combiner.proofs.Served.{goes_on, goes_same, same_tried, not_goes, not_tried, answered_goes}
use Rattle.combiner.proofs.Served.{answered_tried, back_goes, back_tried}
use Rattle.combiner.proofs.passes.try_row.Goals as goal

pub answer-pass-requires-clause-possible : goal.answer-pass-requires-clause-possible
answer-pass-requires-clause-possible g c = λ κs bounds. c.possible.ensures.0 c.if-possible.true

pub returns-in-Not-clause-goes : goal.returns-in-Not-clause-goes
returns-in-Not-clause-goes g c =
    not_goes c.args.pass c.in-Not.pass c.args.row c.in-Not.ensures.desk c.in-Not.ensures.state c.in-Not.ensures.missed

pub returns-in-Not-clause-own : goal.returns-in-Not-clause-own
returns-in-Not-clause-own g c = not_tried c.args.pass c.in-Not.pass c.args.row c.in-Not.ensures.missed

pub returns-then-possible-clause-goes : goal.returns-then-possible-clause-goes
returns-then-possible-clause-goes g c =
    let places = ap (λ z. z.places) c.answer-pass.ensures.state in
    goes_on _ _ _
    (answered_goes c.args.pass c.in-Got.hand c.answer-pass.result.0 c.args.row _ c.in-Got.ensures.desk
    c.answer-pass.ensures.desk c.in-Got.ensures.state places c.in-Got.ensures.got c.answer-pass.ensures.answered)
    (goes_same c.answer-pass.result.0 _ (_, _, c.set_age.ensures))

pub returns-then-possible-clause-own : goal.returns-then-possible-clause-own
returns-then-possible-clause-own g c =
    λ here. same_tried c.answer-pass.result.0 _ tried.Answered (_, _, c.set_age.ensures)
    (answered_tried c.args.pass c.in-Got.hand c.answer-pass.result.0 c.args.row _ c.in-Got.ensures.got
    c.answer-pass.ensures.answered here)

pub returns-else-possible-clause-goes : goal.returns-else-possible-clause-goes
returns-else-possible-clause-goes g c =
    back_goes c.args.pass c.in-Got.hand c.put_back.result c.args.row c.in-Got.ensures.desk c.put_back.ensures.desk
    c.in-Got.ensures.state c.put_back.ensures.state c.in-Got.ensures.got c.put_back.ensures.put_back

pub returns-else-possible-clause-own : goal.returns-else-possible-clause-own
returns-else-possible-clause-own g c =
    back_tried c.args.pass c.in-Got.hand c.put_back.result c.args.row c.in-Got.ensures.got c.put_back.ensures.put_back
    (λ can.
    let yes = c.possible.ensures.1 can in
    let no = c.if-possible.false in
    absurd (cc))
