use Rattle.std.proofs.Common.{ℕ, subst}
use Rattle.std.specs.Prelude.{IfOk}
use Rattle.history_commands.specs.Refuted.{IsRefute}
use Rattle.reading.specs.Texts.{IsNotLinearizableText}
use Rattle.history_commands.specs.declared.status.Status.TheVariants.{No}
use Rattle.history_commands.proofs.Numbers.{no_by_number}
use Rattle.embedding.specs.Handed.{IsAnswered}
use Rattle.embedding.specs.Steps.{search_steps}
use Rattle.embedding.proofs.Handing.{answered, shows, no_is_other}
use Rattle.embedding.proofs.refute.fcbench_refute.Goals as goal

pub returns : goal.returns
returns c =
    let h = c.args.history.now in
    let Is = IsRefute h c.args.reasons.now (search_steps c.args.steps) in
    let out = c.args.out.now in
    let told : IsAnswered Is c.answer.result out c.answer.new.out c.answer.new.needed =
    answered Is c.refute.result c.answer.result out c.answer.new.out c.answer.new.needed
    (subst (λ (steps : ℕ). IfOk c.refute.result (λ o. IsRefute h c.args.reasons.now steps o.status o.text.items))
    c.search_steps.ensures c.refute.ensures) c.answer.ensures.made c.answer.ensures.memory in
    record {
      refuted = shows Is (IsNotLinearizableText h) No c.answer.result out c.answer.new.out c.answer.new.needed
          no_by_number no_is_other (λ status text is. is.refuted) told;
      answered = told;
    }
