use Rattle.std.proofs.Common.{◌∙◌}
use Rattle.report.proofs.counting.summary_of.Goals as goal

pub returns : goal.returns
returns c = c.summary_of_invoked.ensures c.args.events.now (c.deref.ensures.value ∙ c.in_ok-all.ensures)
