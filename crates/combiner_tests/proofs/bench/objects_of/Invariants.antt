use Rattle.seq_objects.specs.AnyContent.{content_of}
use Rattle.publication.specs.Making.{AreEmpty}
use Rattle.combiner_tests.proofs.bench.objects_of.Given as goal

abbrev pub invariant-loop-kind : goal.invariant-loop-kind
invariant-loop-kind l = AreEmpty (λ r. content_of r.inside) l.objects.items
