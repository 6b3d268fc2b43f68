use Rattle.std.proofs.Common.{take}
use Rattle.edn_reader.specs.View.{views}
use Rattle.refutation.specs.Denotes.{Denotes}
use Rattle.refutation.proofs.reader.read_reasons.Given as goal

abbrev pub invariant-loop-place : goal.invariant-loop-place
invariant-loop-place l = Denotes (views (take l.place l.fn.forms)) l.reasons.items
