-- Small laws of numbers and returns, by which orders of calls are compared.
use Rattle.std.proofs.Common.{◌≡◌, ◌⊎◌, ℕ, Option, Some, None, IsSome, max, refl, arith}
use Rattle.std.specs.Prelude.{pos}
use Rattle.std.proofs.lemmas.Int.{ints}
use Rattle.model.specs.Orders.{Return}

-- natural numbers that are equal as integers are equal
pub same_pos : (a b : ℕ) → pos a ≡ pos b → a ≡ b
same_pos a b e = omega (arith, ints)

-- the greater of two numbers is one of them
pub max_either : (a b : ℕ) → (max a b ≡ a) ⊎ (max a b ≡ b)
max_either a b = grind arith

-- a call that returned has a return
pub returned_some : (o : Option Return) → IsSome o → (r : Return) × (o ≡ Some r)
returned_some None s = absurd (cc s)
returned_some (Some r) s = (r, refl)
