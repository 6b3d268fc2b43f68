use Rattle.std.proofs.Common.{◌≡◌}
use Rattle.publication.specs.Closing.{values_of, IsTakenTo}
use Rattle.publication.proofs.closing.drop_slots.Given as goal

abbrev pub invariant-loop-i : goal.invariant-loop-i
invariant-loop-i g l = IsTakenTo l.i l.left × (values_of l.left ≡ values_of l.initial.left)
