-- `until`: what is made is a part of the history, and its calls are those before the number. It is the history that
-- `operation_before` makes of the whole, of which `before_history`, `before_shows` and `before_calls` say this.
use Rattle.std.proofs.Common.{ap, sym, ◌∙◌, subst}
use Rattle.std.specs.List.{filter_map}
use Rattle.events.specs.Operations.{ObjectCalls, IsObjectHistory, calls_of}
use Rattle.cuts.specs.Cuts.{IsPart}
use Rattle.cuts.specs.CutOperations.{operation_before}
use Rattle.cuts.proofs.CutOperations.{same_history}
use Rattle.cuts.proofs.Before.{before_history, before_calls, before_shows}
use Rattle.cuts.proofs.prefix.prefix_until.Goals as goal

pub new-requires : goal.new-requires
new-requires c =
    let h = c.args.history.now in
    subst IsObjectHistory (sym
    (same_history c.object.ensures c.kind.ensures
    (c.in_ok-ops.ensures ∙ ap (filter_map (operation_before c.args.until)) c.ops.ensures.ops)))
    (before_history c.args.until h c.ops.ensures.kept)

pub returns-clause-part : goal.returns-clause-part
returns-clause-part c =
    let h = c.args.history.now in
    subst (IsPart h) (sym (c.new.ensures
    ∙ same_history c.object.ensures c.kind.ensures
    (c.in_ok-ops.ensures ∙ ap (filter_map (operation_before c.args.until)) c.ops.ensures.ops)))
    (before_shows c.args.until h c.ops.ensures.kept)

pub returns-clause-calls : goal.returns-clause-calls
returns-clause-calls c =
    let h = c.args.history.now in
    ap (λ (z : ObjectCalls). calls_of z.ops) c.new.ensures
    ∙ ap calls_of (c.in_ok-ops.ensures ∙ ap (filter_map (operation_before c.args.until)) c.ops.ensures.ops)
    ∙ before_calls c.args.until h.ops
