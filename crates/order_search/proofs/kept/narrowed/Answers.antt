use Rattle.std.proofs.Common.{rules, arith, ◌≡◌, ℤ, FitsSigned, w32, w64, to_z, of_z}
use Rattle.std.proofs.lemmas.List.{take_more}
use Rattle.std.proofs.lemmas.Int.{to_z-of_z}
use Rattle.order_search.proofs.kept.narrowed.Goals as goal

-- A value that fits 32 bits is written and read back as itself.
one_narrowed : (x v : ℤ) → FitsSigned w64 x → FitsSigned w32 (to_z w64 (of_z w64 x)) → v ≡ to_z w64 (of_z w64 x) →
    to_z w32 (of_z w32 v) ≡ x
one_narrowed x v wide narrow same =
    let e = to_z-of_z w64 x wide in
    rw (same, e) (to_z-of_z w32 x (rw e at narrow))

pub loop-k-preserved : goal.loop-k-preserved
loop-k-preserved c =
    let x = c.index.result.now in
    let e = one_narrowed x c.in-Ok.v (search rules) c.in-Ok.ensures.0 c.in-Ok.ensures.1 in
    let i = c.index.ensures in
    let m = take_more c.args.values.now.items c.loop-k.k x (omega arith) in
    let p = c.in_ok-push.ensures.items in
    cc
