use Rattle.std.proofs.Common.{ℕ, ◌-◌, ◌≤◌, ◌++◌, List, length}
use Rattle.order_search.specs.Links.{Linked, IsSlot, LeadsThrough}
use Rattle.order_search.proofs.not_done.NotDone.below.Given as goal

-- the places so far are in front of any that the list has from the slot on
abbrev pub invariant-loop-places : goal.invariant-loop-places
invariant-loop-places l = record {
  n : ℕ;
  done : List ℕ;
  linked : Linked n done l.self.next.items l.self.before.items;
  within : l.slot ≤ n;
  slot : IsSlot n done l.slot;
  front : (rest : List ℕ) → LeadsThrough l.self.next.items l.slot rest l.high
      → LeadsThrough l.self.next.items 0 (l.places.items ++ rest) l.high;
}

abbrev pub decreases-loop-places : goal.decreases-loop-places
decreases-loop-places l = length l.self.next.items - l.slot
