use Rattle.std.proofs.Common.{sym, subst}
use Rattle.events.specs.Events.{IsProper}
use Rattle.history.proofs.Proper.{proper_events}
use Rattle.history.proofs.seams.Seams.into_history.Goals as goal

pub new-requires : goal.new-requires
new-requires c = let h = c.requires.1 in subst IsProper (sym h.events) (proper_events c.requires.0 h.faultless)
