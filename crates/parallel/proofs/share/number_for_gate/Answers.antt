use Rattle.std.proofs.Common.{◌∙◌, ap, sym}
use Rattle.std.proofs.Math.Nat.{min-eq_left}
use Rattle.events.specs.Operations.{ObjectCalls}
use Rattle.parallel.proofs.Sharing.{at_least_its_place, no_greater}
use Rattle.parallel.proofs.share.number_for_gate.Goals as goal

pub returns : goal.returns
returns c =
    let low = at_least_its_place c.args.objects.now c.args.place c.index-objects-place.result c.requires.rising
    c.requires.inside in
    let same = c.object.ensures ∙ ap (λ (o : ObjectCalls). o.object) c.index-objects-place.is in
    c.min.ensures ∙ min-eq_left (no_greater c.args.place _ c.object.result low (sym same))
