-- `keep`: what is given are the calls with these numbers, a part of the history; None means that the part is not
-- closed. The operations are filtered by number, and `kept_shows` says that closed ones are a part.
use Rattle.std.proofs.Common.{◌<◌, List, AllPairs, ap, sym, ◌∙◌, subst, filter}
use Rattle.events.specs.declared.operations.Operation.{Operation}
use Rattle.events.specs.Operations.{ObjectCalls, IsObjectHistory, calls_of}
use Rattle.cuts.specs.Cuts.{keeps_number, IsClosedPart, IsPart}
use Rattle.cuts.specs.CutOperations.{is_kept_call}
use Rattle.cuts.proofs.CutOperations.{same_history}
use Rattle.cuts.proofs.Kept.{kept_history, kept_calls_of, kept_shows}
use Rattle.cuts.proofs.keeping.closed_part.Goals as goal

pub is_closed-requires : goal.is_closed-requires
is_closed-requires c = subst (λ (os : List Operation). AllPairs (λ a b. a.number < b.number) os)
    (sym c.ops-operations.ensures.ops) c.ops-operations.ensures.kept.rising

pub new-requires : goal.new-requires
new-requires c =
    let h = c.args.history.now in
    subst IsObjectHistory (sym
    (same_history c.object.ensures c.kind.ensures
    (c.in_ok-ops.ensures ∙ ap
    (filter (is_kept_call (keeps_number c.args.numbers.now))) c.ops-operations.ensures.ops)))
    (kept_history (keeps_number c.args.numbers.now) h c.ops-operations.ensures.kept)

pub returns-clause-part : goal.returns-clause-part
returns-clause-part c =
    let h = c.args.history.now in
    let kept = keeps_number c.args.numbers.now in
    let closed = subst (λ (os : List Operation). IsClosedPart c.args.values.now c.args.numbers.now (calls_of os))
    c.ops-operations.ensures.ops (c.is_closed.ensures.yes c.if-not-is_closed.false) in
    subst (IsPart h) (sym (c.new.ensures
    ∙ same_history c.object.ensures c.kind.ensures
    (c.in_ok-ops.ensures ∙ ap (filter (is_kept_call kept)) c.ops-operations.ensures.ops)))
    (kept_shows c.args.values.now kept h c.ops-operations.ensures.kept closed)

pub returns-clause-closed : goal.returns-clause-closed
returns-clause-closed c =
    subst (λ (os : List Operation). IsClosedPart c.args.values.now c.args.numbers.now (calls_of os))
    c.ops-operations.ensures.ops (c.is_closed.ensures.yes c.if-not-is_closed.false)

pub returns-clause-calls : goal.returns-clause-calls
returns-clause-calls c =
    let h = c.args.history.now in
    ap (λ (z : ObjectCalls). calls_of z.ops) c.new.ensures
    ∙ ap calls_of (c.in_ok-ops.ensures
    ∙ ap (filter (is_kept_call (keeps_number c.args.numbers.now))) c.ops-operations.ensures.ops)
    ∙ kept_calls_of (keeps_number c.args.numbers.now) h.ops

pub returns-then-not-is_closed-clause-refused : goal.returns-then-not-is_closed-clause-refused
returns-then-not-is_closed-clause-refused c e part =
    let yes = c.is_closed.ensures.no
    (subst (λ (os : List Operation). IsClosedPart c.args.values.now c.args.numbers.now (calls_of os))
    (sym c.ops-operations.ensures.ops) part) in
    let not_closed = c.if-not-is_closed.true in
    absurd (cc (yes, not_closed))
