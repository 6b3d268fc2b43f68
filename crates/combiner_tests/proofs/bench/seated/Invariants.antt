use Rattle.std.proofs.Common.{length}
use Rattle.publication.specs.Handles.{AreAllNew}
use Rattle.combiner_tests.specs.Seats.{AreSeated}
use Rattle.combiner_tests.proofs.bench.seated.Given as goal

abbrev pub invariant-seating : goal.invariant-seating
invariant-seating l = AreAllNew l.desk.id l.clients.items × AreSeated l.desk.id l.seats

abbrev pub decreases-seating : goal.decreases-seating
decreases-seating l = length l.clients.items
