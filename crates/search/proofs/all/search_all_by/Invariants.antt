use Rattle.checker.proofs.Collected.{AreAnswers}
use Rattle.search.proofs.Certificates.{IsWithin}
use Rattle.search.proofs.all.search_all_by.Given as goal

abbrev pub invariant-loop-object : goal.invariant-loop-object
invariant-loop-object l = AreAnswers l.history (IsWithin l.limit) l.object-items l.object-index l.answers.items
