use Rattle.std.proofs.Common.{◌+◌, drop, subst}
use Rattle.number_map.specs.Lookup.{value_of}
use Rattle.history.proofs.SeamLaws.{IsTakenOver, taken_first, taken_more}
use Rattle.std.proofs.lemmas.List.{drop_more}
use Rattle.history.proofs.seams.keep_kinds.Goals as goal

pub loop-object-init : goal.loop-object-init
loop-object-init c = λ x h. taken_first (value_of c.args.kinds.now) (value_of c.args.own.now) c.args.objects.now x h

pub loop-object-preserved : goal.loop-object-preserved
loop-object-preserved c = λ x h.
    let i = c.loop-object.object-index in
    taken_more (value_of c.args.kinds.now) (value_of c.args.own.now) (value_of c.loop-object.kinds)
    (value_of c.take_over.new.values) _
    (drop (i + 1) c.args.objects.now) x c.in_ok-take_over.ensures
    (subst (λ ks. IsTakenOver (value_of c.args.kinds.now) (value_of c.args.own.now) (value_of c.loop-object.kinds) ks x)
    (drop_more c.args.objects.now i 0 c.loop-object-test.true) (c.loop-object.invariant x h))
