use Rattle.std.proofs.Common.{◌≡◌, pos, get_or, arith}
use Rattle.std.proofs.lemmas.Int.{ints}
use Rattle.checker.proofs.Finding.{placeholder_operation, found_by_number}
use Rattle.checker.proofs.place.nearby_place.Goals as goal

pub returns-in_default : goal.returns-in_default
returns-in_default c =
    let k = c.loop.k in
    let true_here = c.if-number-entry.true in
    let same : pos (get_or c.args.ops.now k placeholder_operation).number ≡ c.args.entry =
    omega (arith, ints, true_here) in
    let found = found_by_number c.args.ops.now c.args.entry k placeholder_operation c.requires c.if-k-ops.false same
    c.in_default.not-Failed in
    (c.if-k-ops.false, (found.0, found.1.found, found.1.is))
