use Rattle.std.proofs.Common.{◌∙◌}
use Rattle.number_map.specs.Lookup.{value_of}
use Rattle.history.specs.Noting.{IsOneKind}
use Rattle.std.proofs.lemmas.List.{take_all}
use Rattle.std.proofs.lemmas.List.Elements.{All-more}
use Rattle.history.proofs.seams.are_of_one_kind.Goals as goal

pub loop-object-preserved : goal.loop-object-preserved
loop-object-preserved c =
    All-more (λ x. IsOneKind (value_of c.args.kinds.now x)
    (value_of c.args.own.now x)) c.args.objects.now c.loop-object.object-index 0 c.loop-object-test.true
    c.loop-object.invariant
    (λ kind q k r. c.is_one_kind.ensures c.if-not-is_one_kind.false kind (c.get-in-loop-object.ensures ∙ q) k
    (c.get.ensures ∙ r))

pub returns : goal.returns
returns c = λ _.
    rw (take_all c.loop-object.object-index c.args.objects.now c.loop-object-test.false) at c.loop-object.invariant
