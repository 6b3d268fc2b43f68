use Rattle.std.proofs.Common.{◌≡◌, to_z, of_z, w64, arith}
use Rattle.std.proofs.lemmas.Int.{ints}
use Rattle.history.proofs.UsualForms.{pair_here}
use Rattle.history.proofs.usual.pair_after.Goals as goal

pub returns : goal.returns
returns c =
    let e : to_z w64 (of_z w64 c.in_ok-x.x) ≡ c.in_ok-x.x = omega (arith, ints) in
    let f : to_z w64 (of_z w64 c.in_ok-y.y) ≡ c.in_ok-y.y = omega (arith, ints) in
    rw (e, f) (pair_here c.in_ok-x.x c.in_ok-y.y c.args.inside.now c.in_ok-x.rest.now c.in_ok-after.field-0.now
    c.in_ok-y.rest.now c.in_ok-after-2.field-0.now
    c.in_ok-x.ensures c.in_ok-after.ensures c.in_ok-y.ensures c.in_ok-after-2.ensures)
