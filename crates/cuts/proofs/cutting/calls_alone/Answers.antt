-- `calls_alone`: what is made is a part of the history, with the same calls. It is the history without the
-- operations that failed, of which `alone_history`, `alone_shows` and `alone_calls` say this.
use Rattle.std.proofs.Common.{ap, sym, ◌∙◌, subst, filter, not}
use Rattle.events.specs.Operations.{ObjectCalls, IsObjectHistory, calls_of}
use Rattle.cuts.specs.Cuts.{IsPart}
use Rattle.cuts.specs.CutOperations.{has_failed}
use Rattle.cuts.proofs.CutOperations.{same_history}
use Rattle.cuts.proofs.Alone.{alone_history, alone_calls, alone_shows}
use Rattle.cuts.proofs.cutting.calls_alone.Goals as goal

pub new-requires : goal.new-requires
new-requires c =
    let h = c.args.history.now in
    subst IsObjectHistory (sym
    (same_history c.object.ensures c.kind.ensures
    (c.in_ok-ops.ensures ∙ ap (filter (λ o. not (has_failed o.«end»))) c.ops.ensures.ops)))
    (alone_history h c.ops.ensures.kept)

pub returns-clause-part : goal.returns-clause-part
returns-clause-part c =
    let h = c.args.history.now in
    subst (IsPart h) (sym (c.new.ensures
    ∙ same_history c.object.ensures c.kind.ensures
    (c.in_ok-ops.ensures ∙ ap (filter (λ o. not (has_failed o.«end»))) c.ops.ensures.ops)))
    (alone_shows h)

pub returns-clause-calls : goal.returns-clause-calls
returns-clause-calls c =
    let h = c.args.history.now in
    ap (λ (z : ObjectCalls). calls_of z.ops) c.new.ensures
    ∙ ap calls_of (c.in_ok-ops.ensures ∙ ap (filter (λ o. not (has_failed o.«end»))) c.ops.ensures.ops)
    ∙ alone_calls h.ops
