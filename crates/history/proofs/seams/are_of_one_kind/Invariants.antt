use Rattle.std.proofs.Common.{All, take}
use Rattle.number_map.specs.Lookup.{value_of}
use Rattle.history.specs.Noting.{IsOneKind}
use Rattle.history.proofs.seams.are_of_one_kind.Given as goal

abbrev pub invariant-loop-object : goal.invariant-loop-object
invariant-loop-object l = All (λ x. IsOneKind (value_of l.kinds x) (value_of l.own x)) (take l.object-index l.objects)
