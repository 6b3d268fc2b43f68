-- `fcbench_verify`: the output and its status are those of a verification, so 0 means linearizable and 1 not.
-- `answered` says that of what `verify` made, and the number tells which status it is (`shows`).
use Rattle.std.proofs.Common.{ℕ, subst}
use Rattle.std.specs.Prelude.{IfOk}
use Rattle.reading.specs.Texts.{IsLinearizableText, IsNotLinearizableText}
use Rattle.history_commands.specs.Verified.{IsVerification}
use Rattle.history_commands.specs.declared.status.Status.TheVariants.{Yes, No}
use Rattle.history_commands.proofs.Numbers.{no_by_number, yes_by_number}
use Rattle.embedding.specs.Handed.{IsAnswered}
use Rattle.embedding.specs.Steps.{search_steps}
use Rattle.embedding.proofs.Handing.{answered, shows, no_is_other, yes_is_other}
use Rattle.embedding.proofs.verify.fcbench_verify.Goals as goal

pub returns : goal.returns
returns c =
    let h = c.args.history.now in
    let e = c.args.evidence.now in
    let Is = IsVerification h e (search_steps c.args.steps) in
    let out = c.args.out.now in
    let verified : IsAnswered Is c.answer.result out c.answer.new.out c.answer.new.needed =
    answered Is c.verify.result c.answer.result out c.answer.new.out c.answer.new.needed
    (subst (λ (steps : ℕ). IfOk c.verify.result (λ o. IsVerification h e steps o.status o.text.items))
    c.search_steps.ensures c.verify.ensures) c.answer.ensures.made c.answer.ensures.memory in
    record {
      linearizable = shows Is
          (IsLinearizableText h) Yes c.answer.result out c.answer.new.out c.answer.new.needed yes_by_number yes_is_other
          (λ status text is. is.linearizable) verified;
      refuted = shows Is (IsNotLinearizableText h) No c.answer.result out c.answer.new.out c.answer.new.needed
          no_by_number no_is_other (λ status text is. is.refuted) verified;
      verified = verified;
    }
