use Rattle.std.proofs.Common.{sym, ◌∙◌}
use Rattle.model.proofs.Lists.{pairs_from_all}
use Rattle.events.specs.declared.event.Event.{Event}
use Rattle.recorder.proofs.Same.{same_by_parts}
use Rattle.recorder.proofs.laws.one_history.Goals as goal

pub returns : goal.returns
returns c journals es fs a b =
    same_by_parts (λ (e : Event). e.number) (λ (e : Event). e.process) es fs (pairs_from_all _ es a.rising)
    (pairs_from_all _ fs b.rising) (λ p. a.each p ∙ sym (b.each p))
