use Rattle.std.proofs.Common.{ap, ◌∙◌}
use Rattle.combiner.proofs.Waited.{keeps_round, returned}
use Rattle.combiner.proofs.waiting.wait_for.Goals as goal

pub returns-in-Some-poll-clause-returns : goal.returns-in-Some-poll-clause-returns
returns-in-Some-poll-clause-returns g c = returned _ _ _ _ c.loop.invariant.3 c.in-Some-poll.ensures.polled

pub loop-preserved : goal.loop-preserved
loop-preserved g c =
    let before = c.loop.invariant in
    let tried = c.enlist.ensures.tried in
    let made = c.combine-after.ensures in
    let desk = made.desk ∙ (ap (λ k. k.desk) tried ∙ (c.in_default.ensures.desk ∙ before.2)) in
    let kept = keeps_round _ _ _ _ _ before.3 c.in_default.ensures.missed (ap (λ k. k.knows) tried) made.same in
    (tt, tt, desk, kept)

pub returns-in-NoMemory-clause-stays : goal.returns-in-NoMemory-clause-stays
returns-in-NoMemory-clause-stays g c =
    keeps_round _ _ _ _ _ c.loop.invariant.3 c.in_default.ensures.missed
    (ap (λ k. k.knows) c.enlist.ensures.tried) c.combine-after.ensures.same
