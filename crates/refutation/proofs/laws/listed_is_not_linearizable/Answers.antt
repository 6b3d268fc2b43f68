use Rattle.model.specs.Orders.{calls_on}
use Rattle.events.specs.Operations.{calls_of}
use Rattle.cuts.specs.Listed.{listed}
use Rattle.refutation.proofs.Alone.{of_history, listed_apart, alone_refuted}
use Rattle.refutation.proofs.laws.listed_is_not_linearizable.Goals as goal

pub returns-clause-no_order : goal.returns-clause-no_order
returns-clause-no_order c cuts x kind h part hist kinds is none order v =
    let are = of_history x h hist in
    let o = c.listed_is_valid.ensures cuts kind (calls_on x h)
    (calls_of part.ops) order kinds are.rising are.ends is.named v in
    none o.0 (rw is.kind o.1)

pub returns-clause-not_linearizable : goal.returns-clause-not_linearizable
returns-clause-not_linearizable c cuts x kind h part hist kinds is none =
    alone_refuted kind x (listed (calls_of part.ops) (calls_on x h))
    (listed_apart x h (calls_of part.ops) hist) c.linearizable_has_orders.ensures
    (returns-clause-no_order c cuts x kind h part hist kinds is none)
