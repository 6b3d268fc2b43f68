use Rattle.std.proofs.Common.{subst}
use Rattle.model.specs.Orders.{IsHistory}
use Rattle.events.specs.Events.{denoted}
use Rattle.events.proofs.WellFormed.{denoted_is_history}
use Rattle.events.proofs.history.History.events.Goals as goal

pub returns-clause-history : goal.returns-clause-history
returns-clause-history c =
    subst (λ es. IsHistory (denoted es)) c.self.view_is (denoted_is_history c.self.inside.events.items c.self.invariant)
