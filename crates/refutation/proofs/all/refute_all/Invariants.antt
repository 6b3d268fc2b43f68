use Rattle.std.proofs.Common.{take}
use Rattle.std.specs.List.{AllZip}
use Rattle.model.specs.Linearizable.{IsLinearizable}
use Rattle.model.specs.Orders.{events}
use Rattle.events.specs.Events.{kind_of_object, denoted}
use Rattle.refutation.specs.Refutations.{IsReasonAnswer}
use Rattle.refutation.proofs.Objects.{AreRefutations}
use Rattle.refutation.proofs.all.refute_all.Given as goal

abbrev pub invariant-loop-reason : goal.invariant-loop-reason
invariant-loop-reason l = record {
  each : AllZip (IsReasonAnswer l.fn.history) (take l.reason-index l.reasons) l.answers.items;
  refutations : AreRefutations
      (IsLinearizable (kind_of_object l.fn.history) (events (denoted l.fn.history)) → ⊥) l.answers.items;
}
