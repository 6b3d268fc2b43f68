-- `answer`: the step answers the request in hand, or is not possible now. The object can do the operation, which is
-- what `serve` needs (`can_do_there`), and what it writes is what the transition makes (`answer_done`).
use Rattle.std.proofs.Common.{refl}
use Rattle.machine.specs.declared.step.Stage.TheVariants.{Answered}
use Rattle.machine.proofs.Rows.{answer_done, can_do_there, stage_written}
use Rattle.machine.proofs.machine.Machine.answer.Goals as goal

pub returns-in_default : goal.returns-in_default
returns-in_default g c = (refl, λ after h. c.in_default.ensures.none h.3.object h.3.row h.3.in_hand.0 h.3.in_hand.1)

pub serve-answer-requires-after_bounds : goal.serve-answer-requires-after_bounds
serve-answer-requires-after_bounds g c = λ κs u.
    (can_do_there _ _ _ c.self.inside c.self.invariant c.self.view_is c.in-Some.object
    (g.S.SeqObject.op_in c.in-Some.request.op) c.in-Some.ensures.found.object c.index_mut.ensures.value).1
    (c.if-not-is_possible.ensures.possible.0 refl)

pub invariant_of-self : goal.invariant_of-self
invariant_of-self g c =
    (answer_done _ _ _ c.self.inside c.self.invariant c.self.view_is c.args.client c.in-Some.request
    c.serve-answer.new.object c.serve-answer.new.log c.serve-answer.result c.index_mut.ensures.value
    c.index_mut-2.ensures.value c.serve-answer.ensures.log c.serve-answer.ensures.content c.serve-answer.ensures.kind
    (c.if-not-is_possible.ensures.possible.0 refl) c.requires c.in-Some.ensures.found).0

pub returns : goal.returns
returns g c =
    let found = c.in-Some.ensures.found in (
      (answer_done _ _ _ c.self.inside c.self.invariant c.self.view_is c.args.client c.in-Some.request
          c.serve-answer.new.object c.serve-answer.new.log c.serve-answer.result c.index_mut.ensures.value
          c.index_mut-2.ensures.value c.serve-answer.ensures.log c.serve-answer.ensures.content
          c.serve-answer.ensures.kind (c.if-not-is_possible.ensures.possible.0 refl) c.requires found).1,
      (
        c.in-Some.object,
        c.in-Some.row,
        _,
        found.held,
        found.hand,
        stage_written _ _ _ c.self.inside c.self.invariant c.self.view_is c.in-Some.row
            (Answered c.in-Some.request c.serve-answer.result) found.row,
      ),
    )
