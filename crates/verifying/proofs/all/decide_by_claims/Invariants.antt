use Rattle.std.proofs.Common.{◌≡◌, ◌++◌, List}
use Rattle.verifying.specs.declared.claim.Claim.{Claim}
use Rattle.verifying.specs.Taking.{AreDecided}
use Rattle.verifying.proofs.all.decide_by_claims.Given as goal

abbrev pub invariant-loop-claim : goal.invariant-loop-claim
invariant-loop-claim l = record {
  taken : List Claim;
  parts : taken ++ l.claim-iterator.rest.items ≡ l.initial.claim-iterator.rest.items;
  decided : AreDecided l.objects.items taken l.limit l.answers.items;
}
