use Rattle.std.proofs.Common.{◌≢◌, ℕ, ◌<◌, Some, None, slice_index_or}
use Rattle.machine.proofs.machine.Machine.held_by.Given as goal

-- none of the objects so far is held by the client
abbrev pub invariant-loop-object : goal.invariant-loop-object
invariant-loop-object g l = (x : ℕ) → x < l.object → slice_index_or l.self.holders x None ≢ Some l.client
