use Rattle.std.proofs.Common.{◌≡◌, ◌-◌, length, vec_len, vec_capacity}
use Rattle.publication_list.specs.Inside.{Meeting, list_left, made_of, walks_of}
use Rattle.publication_list.proofs.walker.meet.Given as goal

abbrev pub invariant-loop-at : goal.invariant-loop-at
invariant-loop-at l = record {
  table : l.seat.table_id ≡ l.fn.seat.table_id;
  room : vec_capacity l.rows ≡ vec_capacity l.fn.rows;
  long : vec_len l.rows ≡ length l.rows.items;
  meeting : Meeting (list_left l.fn.seat.me.0) (walks_of l.fn.seat.me.0)
      (made_of l.fn.seat.me.0) l.rows.items l.at l.seat.me;
}

abbrev pub decreases-loop-at : goal.decreases-loop-at
decreases-loop-at l = length (list_left l.seat.me.0) - length l.rows.items
