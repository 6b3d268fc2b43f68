-- `search_all_by`: the answers are on the objects of the history in rising order, and if all were found their
-- certificates are valid. Each turn adds the answer on the next object of the split.
use Rattle.checker.proofs.Certificates.{are_objects}
use Rattle.checker.proofs.Collected.{no_answers, answer_to_next, on_all, distinct, valid}
use Rattle.search.specs.Answers.{certificate_found}
use Rattle.search.proofs.Certificates.{IsWithin, certifies, not_linearizable}
use Rattle.search.proofs.all.search_all_by.Goals as goal

pub loop-object-init : goal.loop-object-init
loop-object-init c = no_answers _ _ _ _
    (are_objects _ _ _ c.deref-object-items.ensures.value c.in_ok-objects.ensures.rising c.in_ok-objects.ensures.named
    c.in_ok-objects.ensures.kinds
    c.in_ok-objects.ensures.calls) c.new-answers.ensures.items

pub loop-object-preserved : goal.loop-object-preserved
loop-object-preserved c =
    answer_to_next _ (IsWithin c.args.limit) _ _ _ _ _ _ c.search_by-answer.result c.loop-object-test.true
    c.object-item.is c.object.ensures
    c.in_ok-push.ensures.items c.search_by-answer.ensures c.loop-object.invariant

pub returns : goal.returns
returns c =
    let all = on_all _ (IsWithin c.args.limit) _ _ _ c.loop-object-test.false c.loop-object.invariant in
    let own = certifies (IsWithin c.args.limit) (λ x kind calls s h. h.sound.found) in
    record {
      rising = all.rising;
      named = all.named;
      answers = all.each;
      impossible = not_linearizable _ (IsWithin c.args.limit) _
          (λ x kind calls s h. h.sound.impossible) c.linearizable_has_orders.ensures c.events.ensures.history all;
      distinct = distinct (λ s. certificate_found s.found) _ (IsWithin c.args.limit) _ own all;
      valid = valid (λ s. certificate_found s.found) _ (IsWithin c.args.limit) _ own all;
    }
