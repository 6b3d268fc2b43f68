use Rattle.std.proofs.Common.{rules, ap, reverse}
use Rattle.model.specs.Objects.{stack}
use Rattle.seq_objects.proofs.Sameness.{same_views, decides_items, reverse-injective}
use Rattle.seq_objects.proofs.stack.StackSeqObject.same.Goals as goal

pub returns : goal.returns
returns c =
    same_views (λ xs. stack (reverse xs))
    (λ a b e. reverse-injective a b (search rules)) c.self.inside.values.items c.other.inside.values.items _ _ _
    (ap stack c.self.view_is) (ap stack c.other.view_is) (decides_items _ _ _ c.eq.ensures)
