use Rattle.seq_objects.proofs.Sameness.{decides_pairs}
use Rattle.seq_objects.proofs.Tables.{same_tables}
use Rattle.seq_objects.proofs.map_object.MapObjectSeqObject.same.Goals as goal

pub returns : goal.returns
returns c =
    same_tables _ _ _ _ _ c.self.view_is c.other.view_is c.self.invariant c.other.invariant
    (decides_pairs _ _ _ c.eq.ensures)
