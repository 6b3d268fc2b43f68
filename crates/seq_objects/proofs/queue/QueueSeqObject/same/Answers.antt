use Rattle.std.proofs.Common.{rules, ap}
use Rattle.model.specs.Objects.{queue}
use Rattle.seq_objects.proofs.Sameness.{same_views, decides_items}
use Rattle.seq_objects.proofs.queue.QueueSeqObject.same.Goals as goal

pub returns : goal.returns
returns c =
    same_views queue (λ a b e. search rules) _ _ _ _ _ (ap queue c.self.view_is) (ap queue c.other.view_is)
    (decides_items _ _ _ c.eq.ensures)
