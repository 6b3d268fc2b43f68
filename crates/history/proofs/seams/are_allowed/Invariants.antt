use Rattle.std.proofs.Common.{All, take}
use Rattle.number_map.specs.Lookup.{value_of}
use Rattle.history.specs.ReadPieces.{IsAllowed}
use Rattle.history.proofs.seams.are_allowed.Given as goal

abbrev pub invariant-loop-first : goal.invariant-loop-first
invariant-loop-first l = All (IsAllowed (value_of l.processes)) (take l.first-index l.firsts)
