use Rattle.std.proofs.Common.{◌≡◌, vec_len, vec_capacity}
use Rattle.recorder.specs.Records.{items_of_each}
use Rattle.publication.specs.Closing.{values_of, IsTakenTo, AreJournals, IsSameBelow}
use Rattle.desk_invariant.specs.Views.{journal_slot}
use Rattle.publication.proofs.closing.take_journals.Given as goal

abbrev pub invariant-loop-client : goal.invariant-loop-client
invariant-loop-client g l =
    IsTakenTo (journal_slot l.client) l.left × (values_of l.left ≡ values_of l.initial.left)
    × (vec_len l.journals ≡ l.client) × (vec_capacity l.journals ≡ vec_capacity l.initial.journals)
    × AreJournals l.from l.client (values_of l.initial.left) (items_of_each l.journals.items)
    × IsSameBelow l.from (items_of_each l.initial.journals.items) (items_of_each l.journals.items)
