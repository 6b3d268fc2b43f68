use Rattle.std.proofs.Common.{ℕ, drop}
use Rattle.number_map.specs.Lookup.{value_of}
use Rattle.events.specs.Operations.{IsListed}
use Rattle.history.proofs.SeamLaws.{IsTakenOver}
use Rattle.history.proofs.seams.keep_kinds.Given as goal

abbrev pub invariant-loop-object : goal.invariant-loop-object
invariant-loop-object l = (x : ℕ) → IsListed (value_of l.own x) l.objects x
    → IsTakenOver (value_of l.fn.kinds) (value_of l.own) (value_of l.kinds) (drop l.object-index l.objects) x
