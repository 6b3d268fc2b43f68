use Rattle.std.proofs.Common.{ℕ, map, drop}
use Rattle.number_map.specs.Lookup.{value_of}
use Rattle.events.specs.Operations.{IsListed}
use Rattle.history.proofs.SeamLaws.{IsTakenOver}
use Rattle.history.proofs.seams.keep_processes.Given as goal

abbrev pub invariant-loop-first : goal.invariant-loop-first
invariant-loop-first l = (p : ℕ) → IsListed (value_of l.own p) (map (λ m. m.process) l.firsts) p
    → IsTakenOver (value_of l.fn.processes) (value_of l.own) (value_of l.processes)
    (map (λ m. m.process) (drop l.first-index l.firsts)) p
