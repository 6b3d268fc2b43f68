use Rattle.std.proofs.Common.{◌≡◌, map, take}
use Rattle.std.specs.Prelude.{pos}
use Rattle.order_search.specs.Arranged.{call_at}
use Rattle.order_search.proofs.order_search.order_of.Given as goal

abbrev pub invariant-loop-level : goal.invariant-loop-level
invariant-loop-level l = l.order.items ≡ map (λ v. pos (call_at l.items v.place).number) (take l.level-index l.levels)
