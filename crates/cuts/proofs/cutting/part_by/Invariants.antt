use Rattle.events.specs.Operations.{calls_of}
use Rattle.cuts.specs.Cuts.{IsPart}
use Rattle.cuts.proofs.Naming.{IsCutSoFar, IsKindSoFar}
use Rattle.cuts.proofs.cutting.part_by.Given as goal

abbrev pub invariant-loop-cut : goal.invariant-loop-cut
invariant-loop-cut l = record {
  part : IsPart l.fn.history l.part;
  kind : IsKindSoFar l.cuts l.cut-index l.fn.history.kind l.part.kind;
  names : IsCutSoFar l.cuts l.cut-index (calls_of l.fn.history.ops) (calls_of l.part.ops);
}
