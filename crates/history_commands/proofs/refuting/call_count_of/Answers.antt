use Rattle.history_commands.proofs.Refuted.{none_lacks}
use Rattle.history_commands.proofs.refuting.call_count_of.Goals as goal

pub returns : goal.returns
returns c = λ has. absurd
    (none_lacks c.args.objects.now c.args.number c.loop-object.object-index c.loop-object-test.false
    c.loop-object.invariant has)
