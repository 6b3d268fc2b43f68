use Rattle.std.proofs.Common.{◌∙◌}
use Rattle.combiner.proofs.Served.{keeps_on}
use Rattle.clients.proofs.log_room.make_all_room.Goals as goal

pub loop-object-preserved : goal.loop-object-preserved
loop-object-preserved c = (
  c.in_ok-client.ensures.desk
      ∙ c.loop-object.invariant.0,
  keeps_on _ _ _ c.loop-object.invariant.1 c.in_ok-client.ensures.calls,
)
