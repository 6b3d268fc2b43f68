use Rattle.std.proofs.Common.{List, length, refl, ap, ◌∙◌, arith}
use Rattle.events.specs.declared.operations.Operation.{Operation}
use Rattle.events.specs.Operations.{calls_of}
use Rattle.order_search.proofs.order_search.find_order.Goals as goal

pub returns-then-call_count-gt-MAX_OPERATIONS-clause-too_large
    : goal.returns-then-call_count-gt-MAX_OPERATIONS-clause-too_large
returns-then-call_count-gt-MAX_OPERATIONS-clause-too_large c =
    let n = c.call_count.ensures ∙ ap (λ (ops : List Operation). length (calls_of ops)) c.ops.ensures.ops in
    let m = c.if-call_count-gt-MAX_OPERATIONS.true in
    (λ u. omega arith, λ l. refl)

pub returns-clause-too_large : goal.returns-clause-too_large
returns-clause-too_large c =
    let n = c.call_count.ensures ∙ ap (λ (ops : List Operation). length (calls_of ops)) c.ops.ensures.ops in
    let m = c.if-call_count-gt-MAX_OPERATIONS.false in
    (λ u. absurd (c.find_order_of_any_size.ensures.any_size u), λ l. absurd (omega arith))
