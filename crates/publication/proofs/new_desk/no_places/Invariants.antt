use Rattle.std.proofs.Common.{◌≡◌, [], vec_len, vec_capacity}
use Rattle.publication.specs.Making.{AreDealt}
use Rattle.publication.proofs.new_desk.no_places.Given as goal

abbrev pub invariant-loop : goal.invariant-loop
invariant-loop l = (vec_len l.owners ≡ l.counter) × (vec_capacity l.owners ≡ l.clients)
    × AreDealt 0 l.counter [] l.owners.items
