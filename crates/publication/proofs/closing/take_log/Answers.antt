use Rattle.std.proofs.Common.{sym, ap, ◌∙◌}
use mathlib.Core.Option.{some}
use Rattle.publication.proofs.closing.take_log.Goals as goal

pub returns-clause-log : goal.returns-clause-log
returns-clause-log g c = (
  c.in-Core.core,
  c.take.ensures.value ∙ ap some c.in-Core.is,
  ap (λ k. k.log.items) (sym c.core.view_is ∙ sym c.into_inner.ensures),
)
