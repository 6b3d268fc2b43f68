use Rattle.std.proofs.Common.{◌<◌, arith, length}
use Rattle.clients.proofs.Ends.{objects_more}
use Rattle.clients.proofs.run.empty_objects.Goals as goal

pub loop-kind-preserved : goal.loop-kind-preserved
loop-kind-preserved c =
    let i = c.loop-kind.invariant in
    let inside : c.loop-kind.kind-index < length c.args.kinds.now = omega arith in
    objects_more c.loop-kind.objects.items c.push.new.self.items c.empty.result c.args.kinds.now c.loop-kind.kind-index
    i.0 i.1 c.empty.ensures c.in_ok-push.ensures.items inside
