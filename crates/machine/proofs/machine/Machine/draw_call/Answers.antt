-- `draw_call`: the step is taken, or it is impossible, or an allocation failed and nothing has changed. The client
-- may call and the object is of the kind, so `call_done` gives the world after the step.
use Rattle.std.proofs.Common.{refl, ap}
use Rattle.machine.specs.Machines.{State}
use Rattle.machine.proofs.Trying.{no_memory}
use Rattle.machine.proofs.Rows.{call_done, call_possible, unticked}
use Rattle.machine.proofs.machine.Machine.draw_call.Goals as goal

pub invariant_of-self-2 : goal.invariant_of-self-2
invariant_of-self-2 g c =
    (call_done _ _ _ c.self.inside c.self.invariant c.self.view_is c.args.client c.args.object c.args.op
    c.in_ok-note.ensures.ok c.next_ticket-next.ensures c.requires (c.if-not-may_call.ensures.0 refl)
    c.kind_of.ensures (c.if-not-has_kind.ensures.0 refl)).0

pub returns : goal.returns
returns g c = (
  (call_done _ _ _ c.self.inside c.self.invariant c.self.view_is c.args.client c.args.object c.args.op
      c.in_ok-note.ensures.ok c.next_ticket-next.ensures c.requires (c.if-not-may_call.ensures.0 refl)
      c.kind_of.ensures (c.if-not-has_kind.ensures.0 refl)).1,
  ap (λ (s : State). s.clock) c.self.view_is,
)

pub returns-in_err-note : goal.returns-in_err-note
returns-in_err-note g c =
    no_memory g.S.SeqObject.reply_in _ _ c.args.client _ c.from_residual.result c.in_err-note.field-0.0
    c.from_residual.ensures.1 c.in_err-note.ensures.err.0
    (unticked _ _ _ c.self.inside c.self.invariant c.self.view_is c.in_err-note.ensures.err.1) tt
    (call_possible _ _ _ c.self.inside c.self.invariant c.self.view_is c.args.client c.args.object c.args.op c.requires
    (c.if-not-may_call.ensures.0 refl) c.kind_of.ensures (c.if-not-has_kind.ensures.0 refl))
