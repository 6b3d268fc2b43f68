use Rattle.std.proofs.Common.{ℕ, ◌++◌, List, take}
use Rattle.order_search.specs.Links.{LeadsThrough}
use Rattle.order_search.proofs.not_done.NotDone.is_below.Given as goal

abbrev pub invariant-loop-place : goal.invariant-loop-place
invariant-loop-place l =
    (rest : List ℕ) → LeadsThrough l.self.next.items l.slot rest l.high
    → LeadsThrough l.self.next.items 0 (take l.place-index l.places ++ rest) l.high
