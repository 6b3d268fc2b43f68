use Rattle.std.proofs.Common.{sym, ◌∷◌, [], ◌++◌, ◌∙◌, arith}
use Rattle.std.proofs.lemmas.List.FromFn.{map-range_with_len_more}
use Rattle.seq_objects.specs.Kinds.{kind_in}
use Rattle.clients.proofs.seeded_workload.kinds_for.Goals as goal

pub loop-object-preserved : goal.loop-object-preserved
loop-object-preserved c =
    c.in_ok-push.ensures.items ∙ (λ i. c.loop-object.invariant i ++ c.kind.ensures i ∷ [])
    ∙ sym (map-range_with_len_more (kind_in c.args.kinds) 0 c.loop-object.object c.loop-object.object (omega arith))
