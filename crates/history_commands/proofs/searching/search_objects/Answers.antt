use Rattle.std.proofs.Common.{◌∙◌, ℕ, All, ap, subst}
use Rattle.std.proofs.lemmas.Result.{IfOk-weaker}
use Rattle.search.specs.Answers.{IsSearchAnswerOn}
use Rattle.history_commands.specs.Outputs.{lines_on}
use Rattle.history_commands.specs.Searches.{answer_line, search_status}
use Rattle.history_commands.proofs.Answering.{searched}
use Rattle.history_commands.proofs.searching.search_objects.Goals as goal

pub returns : goal.returns
returns c =
    let es = c.args.history.now in
    let answers = c.in_ok-answers.answers.items in
    let e = c.in_ok-answers.ensures in
    let value = c.deref.ensures.value in
    let each = subst (λ (limit : ℕ). All (λ a. IsSearchAnswerOn es limit a.0 a.1) answers) c.from.ensures e.answers in
    IfOk-weaker c.output_of.result _ _
    (λ o k. searched es c.args.steps o.status o.text.items answers e.rising e.named each
    e.impossible e.valid e.distinct (k.0 ∙ ap search_status value) (k.1 ∙ ap (lines_on answer_line) value))
    c.output_of.ensures
