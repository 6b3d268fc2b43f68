use Rattle.std.proofs.Common.{◌≡◌, take, None}
use Rattle.std.specs.List.{find}
use Rattle.std.specs.Ordering.{int_eq}
use Rattle.cuts.specs.CutOperations.{is_put}
use Rattle.cuts.proofs.blocking.first_put_of.Given as goal

abbrev pub invariant-loop-operation : goal.invariant-loop-operation
invariant-loop-operation l = find (λ o. is_put (int_eq l.value) o.op o.«end»)
    (take l.operation-index l.operations) ≡ None
