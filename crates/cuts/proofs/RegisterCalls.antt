-- The calls of a register that a part has are possible, by computing each.
use Rattle.std.proofs.Common.{rules, ◌≡◌, ℤ, true, Option, Some, arith}
use Rattle.std.proofs.lemmas.Int.{ints}
use Rattle.std.specs.Ordering.{int_eq}
use Rattle.model.specs.Objects.{register, next}
use Rattle.cuts.specs.Kinds.Register.{setting, replacing}

pub own_int : (a : ℤ) → int_eq a a ≡ true
own_int a = grind (arith, ints)

pub sets : (y c : Option ℤ) → next (register y) (setting c).0 ≡ Some (register c, (setting c).1)
sets y c = search rules

pub replaces : (a c : Option ℤ) → next (register a) (replacing a c).0 ≡ Some (register c, (replacing a c).1)
replaces a c = grind (arith, ints)
