use Rattle.std.proofs.Common.{ℕ, ap, ◌∙◌}
use Rattle.events.specs.Operations.{calls_of}
use Rattle.search.specs.Answers.{search_for}
use Rattle.search.proofs.Answering.{answer_from}
use Rattle.search.proofs.object.search_by.Goals as goal

pub returns : goal.returns
returns c =
    let h = c.args.history.now in
    let calls = calls_of h.ops in
    let r = c.find_order.result in
    let e = c.find_order.ensures in
    rw (c.answer_of.ensures ∙ ap (λ (x : ℕ). search_for x r) c.object.ensures)
    (answer_from h.object h.kind calls c.args.limit r e.found e.impossible e.steps e.out_of_steps e.too_large e.memory)
