use Rattle.std.proofs.Common.{◌≡◌, ◌≤◌, [], None, vec_len, vec_capacity}
use Rattle.publication_list.specs.declared.list_table.ListView.TheVariants as view
use Rattle.publication_list.specs.Calls.{AreRowPlaces}
use Rattle.publication_list.proofs.roster.make_all.Given as goal

abbrev pub invariant-loop-row : goal.invariant-loop-row
invariant-loop-row l = record {
  table : l.seat.table_id ≡ l.fn.seat.table_id;
  seat : l.seat.me ≡ (view.Walker l.row [] None [], []);
  long : vec_len l.made ≡ l.row;
  room : l.rows ≤ vec_capacity l.made;
  made : AreRowPlaces l.fn.seat.table_id l.row l.made.items;
}
