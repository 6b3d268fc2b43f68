use Rattle.events.specs.Operations.{calls_of}
use Rattle.refutation.proofs.Alone.{part_apart, alone_history, alone_calls, alone_refuted, alone_possible}
use Rattle.refutation.proofs.laws.part_alone_is_not_linearizable.Goals as goal

pub returns-clause-history : goal.returns-clause-history
returns-clause-history c cuts x h part hist named =
    let apart = part_apart cuts x h part hist named in
    (alone_history x part apart, alone_calls x part apart)

pub returns-clause-not_linearizable : goal.returns-clause-not_linearizable
returns-clause-not_linearizable c cuts x whole h part hist is =
    let apart = part_apart cuts x h (calls_of part.ops) hist is.named in (
      alone_refuted part.kind x (calls_of part.ops) apart c.linearizable_has_orders.ensures,
      alone_possible part.kind x
          (calls_of part.ops) apart c.named_objects.ensures,
    )
