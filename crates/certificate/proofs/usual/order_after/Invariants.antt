use Rattle.std.proofs.Common.{length}
use Rattle.edn_reader.specs.Sound.{BeginWith}
use Rattle.certificate.specs.UsualForms.{numbers_tokens}
use Rattle.certificate.proofs.usual.order_after.Given as goal

abbrev pub invariant-numbers : goal.invariant-numbers
invariant-numbers l = BeginWith (numbers_tokens l.order.items) l.text l.rest

abbrev pub decreases-numbers : goal.decreases-numbers
decreases-numbers l = length l.rest
