-- `search_operations`: an order that is found is valid, and an impossible search means that none is. The trials
-- list the calls of the history, so an order of the trials is one of the calls (`found_valid`, `none_valid`).
use Rattle.std.proofs.Common.{◌≡◌, ℤ, List, [], length}
use Rattle.std.proofs.lemmas.Result.{IfOk-weaker}
use Rattle.model.specs.Objects.{empty}
use Rattle.model.specs.Orders.{IsValidOrder, HasNoValidOrder}
use Rattle.events.specs.Operations.{calls_of}
use Rattle.order_search.specs.declared.order_search.OrderOutcome.TheVariants.{Impossible}
use Rattle.order_search.specs.Arranged.{call_at}
use Rattle.order_search.specs.Outcomes.{IfFound}
use Rattle.order_search.specs.Continuations.{IsDead}
use Rattle.order_search.specs.Searching.{IsOrderOfTrials}
use Rattle.order_search.proofs.Calls.{count-owed}
use Rattle.order_search.proofs.Orders.{listed_calls, found_valid, none_valid, IfFound-weaker}
use Rattle.order_search.proofs.order_search.search_operations.Goals as goal

pub search_from_start-requires-clause-counts : goal.search_from_start-requires-clause-counts
search_from_start-requires-clause-counts c =
    count-owed c.args.history.now.ops c.in_ok-trials.trials.items.items c.args.left c.in_ok-trials.ensures.items
    c.requires.counts

pub returns-clause-found : goal.returns-clause-found
returns-clause-found c =
    let h = c.args.history.now in
    let t = c.in_ok-trials.trials in
    let listed = listed_calls h.ops t.items.items c.ops.ensures.kept.rising c.in_ok-trials.ensures.items in
    let valid = λ (order : List ℤ) (p : IsOrderOfTrials t order).
    rw c.in_ok-trials.ensures.kind at (found_valid t (calls_of h.ops) order listed p) in
    IfOk-weaker c.search_from_start.result (λ o. IfFound o (IsOrderOfTrials t))
    (λ o. IfFound o (IsValidOrder h.kind (calls_of h.ops)))
    (λ o p. IfFound-weaker o (IsOrderOfTrials t) (IsValidOrder h.kind (calls_of h.ops)) valid p)
    c.search_from_start.ensures.found

pub returns-clause-impossible : goal.returns-clause-impossible
returns-clause-impossible c =
    let h = c.args.history.now in
    let t = c.in_ok-trials.trials in
    let listed = listed_calls h.ops t.items.items c.ops.ensures.kept.rising c.in_ok-trials.ensures.items in
    IfOk-weaker c.search_from_start.result
    (λ o. o ≡ Impossible → IsDead (length t.items.items) (call_at t.items.items) [] (empty t.kind))
    (λ o. o ≡ Impossible → HasNoValidOrder h.kind (calls_of h.ops))
    (λ o dead e. rw c.in_ok-trials.ensures.kind at (
    none_valid t.kind (calls_of h.ops) (length t.items.items) (call_at t.items.items) listed (dead e)
    ))
    c.search_from_start.ensures.impossible
