-- `refute_among`: the answer is that on the object with the reason's number, or that no object has it. The objects
-- before the one at hand have other numbers.
use Rattle.std.proofs.Common.{◌≢◌, get_or, refl, ap, sym, ◌∙◌, below_more, arith}
use Rattle.std.proofs.lemmas.List.{get_or_default}
use Rattle.events.specs.Operations.{ObjectCalls}
use Rattle.refutation.proofs.Objects.{answered, own_number}
use Rattle.refutation.proofs.all.refute_among.Goals as goal

pub loop-object-preserved : goal.loop-object-preserved
loop-object-preserved c =
    let objects = c.args.objects.now in
    let o : ObjectCalls = c.object-item.result in
    below_more (λ k. (d : ObjectCalls) → (get_or objects k d).object ≢ c.args.reason.now.object)
    c.loop-object.object-index c.loop-object.invariant (λ d e.
    let own = get_or_default objects c.loop-object.object-index d o c.loop-object-test.true ∙ sym c.object-item.is in
    c.if-object-reason.false (c.object.ensures ∙ ap (λ (z : ObjectCalls). z.object) (sym own) ∙ e))

pub returns-then-object-reason : goal.returns-then-object-reason
returns-then-object-reason c = record {
  on = answered c.args.objects.now c.loop-object.object-index c.object-item.result c.args.reason.now c.refute.result
      c.loop-object-test.true
      c.object-item.is (sym c.object.ensures ∙ c.if-object-reason.true) c.refute.ensures.impossible
      c.refute.ensures.part c.refute.ensures.shown c.refute.ensures.not_shown c.refute.ensures.no_part;
  other_object = own_number c.args.objects.now c.object-item.result c.args.reason.now.object c.refute.result
      (sym c.object.ensures ∙ c.if-object-reason.true) c.refute.ensures.other_object;
}

pub returns : goal.returns
returns c = record {
  on = λ own. absurd (own refl);
  other_object = λ q k d lt. c.loop-object.invariant k (omega (arith, lt, c.loop-object-test.false)) d;
}
