-- `refute_all`: each answer is that to its reason, and an impossible one refutes the history. The loop keeps both
-- of the answers so far. A linearizable history has a valid order for each object, which such an answer rules out.
use Rattle.std.proofs.Common.{List}
use Rattle.model.specs.Linearizable.{IsLinearizable}
use Rattle.model.specs.Orders.{events}
use Rattle.events.specs.Events.{kind_of_object, denoted}
use Rattle.events.specs.Operations.{ObjectCalls}
use Rattle.refutation.specs.declared.refuting.ReasonAnswer.{ReasonAnswer}
use Rattle.refutation.specs.Refutations.{IsReasonAnswer}
use Rattle.refutation.proofs.Objects.{none_among, answer_added, refutes, answer_is, refuted_among, zip_more}
use Rattle.refutation.proofs.all.refute_all.Goals as goal

pub loop-reason-init : goal.loop-reason-init
loop-reason-init c =
    let es = c.args.history.now in
    record {
      each = rw c.new-answers.ensures.items tt;
      refutations = rw c.new-answers.ensures.items (λ r i p. absurd i);
    }

pub loop-reason-preserved : goal.loop-reason-preserved
loop-reason-preserved c =
    let es = c.args.history.now in
    let objects : List ObjectCalls = c.in_ok-objects.objects.items in
    let reason = c.reason-item.result in
    let r : ReasonAnswer = c.in_ok-answer.answer in
    let on = rw c.deref.ensures.value at c.in_ok-answer.ensures.on in
    let other = rw c.deref.ensures.value at c.in_ok-answer.ensures.other_object in
    let answer = answer_is es objects reason r c.in_ok-objects.ensures.kinds c.in_ok-objects.ensures.calls
    c.in_ok-objects.ensures.named on other in
    record {
      each = rw c.in_ok-push.ensures.items
          (zip_more (IsReasonAnswer es) c.args.reasons.now c.loop-reason.answers.items c.loop-reason.reason-index
          reason r
          c.loop-reason-test.true c.reason-item.is c.loop-reason.invariant.each answer);
      refutations = answer_added (IsLinearizable (kind_of_object es) (events (denoted es)) → ⊥) _ _ _
          c.in_ok-push.ensures.items
          (λ p. none_among es objects c.in_ok-objects.ensures.kinds c.in_ok-objects.ensures.calls
          c.linearizable_has_orders.ensures
          c.events.ensures.history (refuted_among objects reason r on p)) c.loop-reason.invariant.refutations;
    }

pub returns-clause-impossible : goal.returns-clause-impossible
returns-clause-impossible c = refutes _ c.loop-reason.answers.items c.loop-reason.invariant.refutations
