-- The measure of a search falls.
use Rattle.std.proofs.Common.{◌≡◌, ℕ, ◌<◌, ◌≤◌, ◌+◌, ◌-◌, ◌*◌, arith}
use Rattle.std.proofs.Math.Nat.{mul-le-mul_left}

-- the measure falls where one step fewer is left, whatever the levels, of which there is one more at most
one_step : (steps n levels levels2 at at2 : ℕ) → levels2 ≤ levels + 1 → at2 ≤ n + 1
    → steps * (2 * (n + 2)) + levels2 * (n + 2) + at2 < (steps + 1) * (2 * (n + 2)) + levels * (n + 2) + at
one_step steps n levels levels2 at at2 l m = let p = mul-le-mul_left (n + 2) l in omega (arith, p)

-- with one step more, and one level more at most
pub step_smaller : (limit steps n levels levels2 at at2 : ℕ) → steps < limit → levels2 ≤ levels + 1
    → (limit - (steps + 1)) * (2 * (n + 2)) + levels2 * (n + 2) + (n + 1 - at2)
    < (limit - steps) * (2 * (n + 2)) + levels * (n + 2) + (n + 1 - at)
step_smaller limit steps n levels levels2 at at2 c l =
    let e : limit - steps ≡ limit - (steps + 1) + 1 = omega arith in
    rw e (one_step (limit - (steps + 1)) n levels levels2 (n + 1 - at) (n + 1 - at2) l (omega arith))
