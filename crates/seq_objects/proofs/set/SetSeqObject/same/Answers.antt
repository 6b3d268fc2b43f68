use Rattle.seq_objects.proofs.Sameness.{decides_items}
use Rattle.seq_objects.proofs.Members.{same_elements}
use Rattle.seq_objects.proofs.set.SetSeqObject.same.Goals as goal

pub returns : goal.returns
returns c =
    same_elements _ _ _ _ _ c.self.view_is c.other.view_is c.self.invariant c.other.invariant
    (decides_items _ _ _ c.eq.ensures)
