use Rattle.std.proofs.Common.{◌≢◌, ℕ, ◌<◌, get_or}
use Rattle.seq_objects.specs.declared.function.Function.TheVariants.{Enqueue}
use Rattle.seq_objects.specs.Functions.{name_of, all_functions}
use Rattle.seq_objects.proofs.function.Function.named.Given as goal

abbrev pub invariant-loop-f : goal.invariant-loop-f
invariant-loop-f l = (k : ℕ) → k < l.f-index → name_of (get_or all_functions k Enqueue) ≢ l.name
