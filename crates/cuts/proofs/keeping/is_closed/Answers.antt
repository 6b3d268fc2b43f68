use Rattle.std.proofs.Common.{ap, sym, ◌∙◌}
use Rattle.cuts.specs.Cuts.{keeps_number}
use Rattle.cuts.specs.CutOperations.{keeps_first}
use Rattle.cuts.proofs.Kept.{closed_calls, closed_fits, closed_first}
use Rattle.cuts.proofs.keeping.is_closed.Goals as goal

pub returns-clause-yes : goal.returns-clause-yes
returns-clause-yes c e =
    let ops = c.args.operations.now in
    let kept = keeps_number c.args.numbers.now in
    closed_calls c.args.values.now kept ops c.requires
    (ap (λ n. keeps_first kept n ops) (sym c.left_over.ensures) ∙ sym c.has_first.ensures ∙ e)
    (sym c.all_fit.ensures ∙ c.if-not-all_fit.false)

pub returns-clause-no : goal.returns-clause-no
returns-clause-no c closed =
    let ops = c.args.operations.now in
    let kept = keeps_number c.args.numbers.now in
    c.has_first.ensures ∙ ap (λ n. keeps_first kept n ops) c.left_over.ensures
    ∙ closed_first c.args.values.now kept ops c.requires closed

pub returns-then-not-all_fit-clause-no : goal.returns-then-not-all_fit-clause-no
returns-then-not-all_fit-clause-no c closed =
    let yes = c.all_fit.ensures
    ∙ closed_fits c.args.values.now (keeps_number c.args.numbers.now) c.args.operations.now closed in
    let no = c.if-not-all_fit.true in
    absurd (cc (yes, no))
