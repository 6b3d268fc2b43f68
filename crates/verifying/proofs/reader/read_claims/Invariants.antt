use Rattle.std.proofs.Common.{take}
use Rattle.edn_reader.specs.View.{views}
use Rattle.verifying.specs.Denotes.{Denotes}
use Rattle.verifying.proofs.reader.read_claims.Given as goal

abbrev pub invariant-loop-place : goal.invariant-loop-place
invariant-loop-place l = Denotes (views (take l.place l.fn.forms)) l.claims.items
