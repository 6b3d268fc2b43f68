use Rattle.std.proofs.Common.{ap, ◌∙◌}
use Rattle.model.specs.Objects.{empty}
use Rattle.simulation.proofs.Machines.{kinds_more, empty_more}
use Rattle.simulation.proofs.playing.objects_of.Goals as goal

pub loop-object-preserved : goal.loop-object-preserved
loop-object-preserved c =
    let l = c.loop-object in
    let is = c.empty.ensures ∙ ap empty c.kind.ensures in
    record {
      kinds = kinds_more c.args.header.now.kinds l.object l.objects.items c.push.new.self.items c.empty.result
          l.invariant.kinds is c.in_ok-push.ensures.items;
      empty = empty_more l.objects.items c.push.new.self.items c.empty.result _ l.invariant.empty is
          c.in_ok-push.ensures.items;
    }
