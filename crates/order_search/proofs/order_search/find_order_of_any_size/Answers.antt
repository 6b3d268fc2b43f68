-- `find_order_of_any_size`: the outcome is true of the history's calls. Where none returned the empty order is
-- valid (`nothing_valid`). Else the search says it, which never answers that they are too many.
use Rattle.std.proofs.Common.{List, length, count_by, ap, sym, ◌∙◌, arith}
use Rattle.events.specs.declared.operations.Operation.{Operation}
use Rattle.events.specs.Operations.{calls_of}
use Rattle.order_search.proofs.Calls.{returns, some_returned, none_returned}
use Rattle.order_search.proofs.Orders.{nothing_valid}
use Rattle.order_search.proofs.order_search.find_order_of_any_size.Goals.{in-Ok, in-Err}
use Rattle.order_search.proofs.order_search.find_order_of_any_size.Goals as goal

pub returns-then-left-eq0-clause-found : goal.returns-then-left-eq0-clause-found
returns-then-left-eq0-clause-found c =
    let h = c.args.history.now in
    let none = sym (c.return_count-left.ensures ∙ ap (count_by returns) c.ops-operations.ensures.ops)
    ∙ c.if-left-eq0.true in
    rw c.new.ensures.items
    (nothing_valid h.kind (calls_of h.ops) (none_returned h.ops none))

pub search_operations-requires-clause-few : goal.search_operations-requires-clause-few
search_operations-requires-clause-few c =
    let n = c.call_count.ensures ∙ ap (λ (ops : List Operation). length (calls_of ops)) c.ops-operations.ensures.ops in
    let m = c.if-call_count-gt-MOST_PLACES.false in
    omega arith

pub returns-clause-impossible : goal.returns-clause-impossible
returns-clause-impossible c u = elim c.match-search_operations.branch [
  | in-Ok w ↦ w.in-Ok.ensures.impossible (sym w.outcome-is ∙ u)
  | in-Err w ↦ (let e = w.outcome-is in absurd (cc (e, u)))
]

pub returns-clause-any_size : goal.returns-clause-any_size
returns-clause-any_size c u = elim c.match-search_operations.branch [
  | in-Ok w ↦ absurd (w.in-Ok.ensures.decided.0 (sym w.outcome-is ∙ u))
  | in-Err w ↦ (let e = w.outcome-is in absurd (cc (e, u)))
]

pub returns-clause-memory : goal.returns-clause-memory
returns-clause-memory c u =
    let some = c.return_count-left.ensures ∙ ap (count_by returns) c.ops-operations.ensures.ops in
    some_returned c.args.history.now.ops (λ e. c.if-left-eq0.false (some ∙ e))
