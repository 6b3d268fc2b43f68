use Rattle.std.proofs.Common.{◌≢◌, ℕ, ◌<◌, get_or}
use Rattle.events.specs.Operations.{ObjectCalls}
use Rattle.refutation.proofs.all.refute_among.Given as goal

abbrev pub invariant-loop-object : goal.invariant-loop-object
invariant-loop-object l =
    (k : ℕ) → k < l.object-index → (d : ObjectCalls) → (get_or l.objects k d).object ≢ l.reason.object
