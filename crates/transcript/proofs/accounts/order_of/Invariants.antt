use Rattle.std.proofs.Common.{◌≡◌, pos, map, take}
use Rattle.transcript.proofs.accounts.order_of.Given as goal

-- the tickets so far
abbrev pub invariant-loop-entry : goal.invariant-loop-entry
invariant-loop-entry g l = l.order.items ≡ map (λ e. pos e.ticket) (take l.entry-index l.log)
