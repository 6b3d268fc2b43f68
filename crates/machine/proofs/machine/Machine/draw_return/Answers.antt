-- `draw_return`: a client that has taken its answer notes its return; at any other stage the step is not possible.
-- What is written is what the transition makes (`return_done`). If an allocation fails nothing changes (`unticked`).
use Rattle.std.proofs.Common.{refl, ap}
use Rattle.machine.specs.Machines.{State}
use Rattle.machine.proofs.Trying.{no_memory}
use Rattle.machine.proofs.Rows.{return_done, return_not, return_possible, unticked}
use Rattle.machine.proofs.machine.Machine.draw_return.Goals as goal

pub returns-in_default : goal.returns-in_default
returns-in_default g c = (
  refl,
  return_not _ _ _ c.self.inside c.self.invariant c.self.view_is c.args.client c.requires c.index.ensures
      c.in_default.not-Taken,
)

pub invariant_of-self-2 : goal.invariant_of-self-2
invariant_of-self-2 g c =
    (return_done _ _ _ c.self.inside c.self.invariant c.self.view_is c.args.client c.in_ok-note.ensures.ok
    c.next_ticket-next.ensures c.requires c.index.ensures c.in-Taken.is).0

pub returns : goal.returns
returns g c = (
  (return_done _ _ _ c.self.inside c.self.invariant c.self.view_is c.args.client c.in_ok-note.ensures.ok
      c.next_ticket-next.ensures c.requires c.index.ensures c.in-Taken.is).1,
  ap (λ (s : State). s.clock) c.self.view_is,
)

pub returns-in_err-note : goal.returns-in_err-note
returns-in_err-note g c =
    no_memory g.S.SeqObject.reply_in _ _ c.args.client _ c.from_residual.result c.in_err-note.field-0.0
    c.from_residual.ensures.1 c.in_err-note.ensures.err.0
    (unticked _ _ _ c.self.inside c.self.invariant c.self.view_is c.in_err-note.ensures.err.1) tt
    (return_possible _ _ _ c.self.inside c.self.invariant c.self.view_is c.args.client c.requires c.index.ensures
    c.in-Taken.is)
