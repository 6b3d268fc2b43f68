use Rattle.std.proofs.Common.{◌≡◌, drop}
use Rattle.cuts.specs.Cuts.{keeps_number}
use Rattle.cuts.specs.CutOperations.{keeps_first}
use Rattle.cuts.proofs.keeping.has_first.Given as goal

abbrev pub invariant-loop-operation : goal.invariant-loop-operation
invariant-loop-operation l =
    keeps_first (keeps_number l.numbers) l.fn.most l.operations
    ≡ keeps_first (keeps_number l.numbers) l.left (drop l.operation-index l.operations)
