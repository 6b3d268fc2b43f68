use Rattle.std.proofs.Common.{◌≡◌, All, vec_len, vec_capacity}
use Rattle.publication.specs.Making.{HasRoom}
use Rattle.publication.proofs.new_desk.journals.Given as goal

abbrev pub invariant-loop : goal.invariant-loop
invariant-loop g l = (vec_len l.journals ≡ l.counter) × (vec_capacity l.journals ≡ l.clients)
    × All (HasRoom l.quota) l.journals.items
