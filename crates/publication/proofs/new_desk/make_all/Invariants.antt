use Rattle.std.proofs.Common.{◌≡◌, ◌+◌, ◌≤◌, [], length, All, vec_len, vec_capacity}
use Rattle.desk_invariant.specs.Views.{maker_of}
use Rattle.publication.specs.Handles.{AreAllNew}
use Rattle.publication.specs.Making.{HasRoom, AreDealt}
use Rattle.publication.proofs.new_desk.make_all.Given as goal

abbrev pub invariant-loop-journal : goal.invariant-loop-journal
invariant-loop-journal g l =
    (l.maker.table_id ≡ l.table.shared.table_id)
    × (l.maker.me ≡ (maker_of l.table.shared.key.kinds.items l.table.shared.key.lists.items l.number, []))
    × (l.number + vec_len l.journals ≡ l.table.shared.key.clients) × All (HasRoom l.quota) l.journals.items
    × AreDealt l.number (vec_len l.journals) l.table.shared.key.lists.items l.owners.items
    × (vec_len l.made ≡ l.number) × (l.table.shared.key.clients ≤ vec_capacity l.made)
    × (length l.made.items ≡ l.number)
    × AreAllNew (record {
      table = l.table.shared.table_id;
      quota = l.quota;
      kinds = l.table.shared.key.kinds.items;
      lists = l.table.shared.key.lists.items;
    }) l.made.items

abbrev pub decreases-loop-journal : goal.decreases-loop-journal
decreases-loop-journal g l = vec_len l.journals
