use Rattle.std.proofs.Common.{List, map, Contains, sym, subst}
use Rattle.events.specs.Operations.{ObjectCalls}
use Rattle.history_commands.proofs.refuting.text_of.Goals as goal

pub push_answer-requires-clause-named : goal.push_answer-requires-clause-named
push_answer-requires-clause-named c = λ x h.
    subst (λ (os : List ObjectCalls). Contains (map (λ (o : ObjectCalls). o.object) os) x) (sym c.deref.ensures.value)
    ((c.in_ok-objects.ensures.named x).1 h)
