use Rattle.std.proofs.Common.{◌∙◌, ◌<◌, arith, length, get_or, sym, subst, take, pos}
use Rattle.std.proofs.lemmas.List.{take_more}
use Rattle.model.specs.declared.AnyOp.TheVariants.{Enqueue}
use Rattle.clients.specs.Workloads.{WorkCall}
use Rattle.clients.proofs.Works.{HasMade, one_made, stopped}
use Rattle.clients.proofs.worker.make_all.Goals as goal

pub loop-place-preserved : goal.loop-place-preserved
loop-place-preserved g c =
    let h = c.make-after.ensures.called c.if-not-over.false in
    let i = c.loop-place.place in
    let inside : i < length c.args.calls.now = omega arith in
    let none : WorkCall = (0, Enqueue (pos 0)) in (
      c.make-after.ensures.desk ∙ c.loop-place.invariant.0,
      subst (λ z. HasMade z c.args.client.knows c.make-after.result.0.knows)
          (sym (take_more c.args.calls.now i none inside))
          (one_made (take i c.args.calls.now) (get_or c.args.calls.now i none) _ _ _ h.0 c.loop-place.invariant.1 h.1),
    )

pub returns-then-not-over-clause-worked : goal.returns-then-not-over-clause-worked
returns-then-not-over-clause-worked g c =
    let i = c.loop-place.place in
    let inside : i < length c.args.calls.now = omega arith in
    stopped c.args.calls.now i (0, Enqueue (pos 0)) _ _ _ inside c.loop-place.invariant.1
    (c.make-after.ensures.outstanding c.if-not-over.true)
