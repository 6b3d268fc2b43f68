use Rattle.combiner.proofs.Served.{same_on}
use Rattle.combiner.proofs.passes.walk.Goals as goal

pub loop-at-init : goal.loop-at-init
loop-at-init g c = (c.walk.new.self.state.list, c.args.pass.now.state.ages, c.walk.ensures.same)

pub loop-at-preserved : goal.loop-at-preserved
loop-at-preserved g c =
    same_on c.args.pass.now c.loop-at.pass c.make_current.new.pass c.loop-at.invariant c.make_current.ensures
