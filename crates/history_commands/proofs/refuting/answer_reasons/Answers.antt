use Rattle.std.proofs.Common.{◌∙◌, Bool, false, ap, sym, subst}
use Rattle.history_commands.specs.Outputs.{status_by}
use Rattle.history_commands.specs.Refuted.{refutations_text, refute_status, AreAnswered}
use Rattle.history_commands.proofs.Refuted.{answered}
use Rattle.history_commands.proofs.refuting.answer_reasons.Goals as goal

pub returns : goal.returns
returns c =
    let es = c.args.history.now in
    let rs = c.args.reasons.now in
    let answers = c.in_ok-answers.answers.items in
    let e = c.in_ok-answers.ensures in
    let made = answered es rs c.args.steps answers e.each e.impossible in
    let status = c.status_by.ensures.is ∙ ap (λ (b : Bool). status_by b false) c.is_any_impossible.ensures
    ∙ ap refute_status c.deref.ensures.value in
    let text = c.in_ok-text_of.ensures ∙ ap (refutations_text es c.args.steps rs) c.deref-2.ensures.value in
    subst (λ n. AreAnswered es rs c.args.steps n c.in_ok-text_of.field-0.items) (sym status)
    (subst (AreAnswered es rs c.args.steps (refute_status answers)) (sym text) made)
