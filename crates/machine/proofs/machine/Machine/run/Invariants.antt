use Rattle.std.proofs.Common.{◌≤◌, take}
use Rattle.machine.specs.Machines.{HasRun, world_of}
use Rattle.machine.specs.Runs.{TakesPossible}
use Rattle.machine.specs.Steps.{IsLike, steps_in}
use Rattle.machine.proofs.machine.Machine.run.Given as goal

-- the steps so far were taken or passed over
abbrev pub invariant-loop-at : goal.invariant-loop-at
invariant-loop-at g l = record {
  ran : TakesPossible l.initial.self.kinds l.initial.self.quota (world_of l.initial.self)
      (steps_in g.S.SeqObject.op_in (take l.at l.steps)) l.refused (world_of l.self);
  like : IsLike l.initial.self l.self;
  few : l.refused ≤ l.at;
  run : HasRun l.self;
}
