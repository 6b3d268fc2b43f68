-- `Trials::new`: the trials are the operations that did not fail, arranged. They are a permutation of these, so
-- they are few (`length-items`), and the floors and `pending` are right of them (`arranged`).
use Rattle.std.proofs.Common.{filter, length, ap, ◌∙◌, arith}
use Rattle.order_search.proofs.Calls.{happens, length-items, arranged}
use Rattle.order_search.proofs.trials.Trials.new.Goals as goal

pub first_pending-pending-requires : goal.first_pending-pending-requires
first_pending-pending-requires c =
    let h = c.args.history.now in
    let items = c.arrange.new.items.items in
    let e = c.in_ok-items.ensures ∙ ap (filter happens) c.ops.ensures.ops in
    let same = length-items h.ops items (rw e at c.arrange.ensures) in
    let long = ap length c.deref-3.ensures.value in
    let few = c.requires.few in
    omega arith

pub returns-clause-arranged : goal.returns-clause-arranged
returns-clause-arranged c =
    let h = c.args.history.now in
    let items = c.arrange.new.items.items in
    let floors = c.in_ok-floors.floors.items in
    let return_floors = c.in_ok-return_floors.return_floors.items in
    let pending = c.first_pending-pending.result in
    let e = c.in_ok-items.ensures ∙ ap (filter happens) c.ops.ensures.ops in
    rw c.kind-kind.ensures (arranged h items floors return_floors pending c.ops.ensures.kept c.requires.few
    (rw e at c.arrange.ensures) (rw c.deref.ensures.value at c.in_ok-floors.ensures)
    (rw c.deref-2.ensures.value at c.in_ok-return_floors.ensures)
    (let w = c.first_pending-pending.ensures.within in let d = ap length c.deref-3.ensures.value in omega arith)
    (rw c.deref-3.ensures.value at c.first_pending-pending.ensures.returned))
