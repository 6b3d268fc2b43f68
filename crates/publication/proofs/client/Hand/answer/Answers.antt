-- `answer`: the row has the answer, and the log is longer by the operation if that was done. `hand_with_answer` gives
-- what the store needs to keep the rule of the row, and `core_grows` that the core still fits what the pass knows.
use Rattle.std.proofs.Common.{refl, ◌≡◌, ◌+◌, ◌-◌, ◌<◌, length, vec_len, vec_capacity, rules, arith, sym, ap, subst}
use Rattle.std.proofs.Common.{◌∙◌}
use Rattle.desk_model.specs.World.{logged}
use Rattle.desk_model.specs.Images.{answer_in}
use Rattle.publication.proofs.Dealing.{own_still, same_desk}
use Rattle.publication.specs.Handles.{Handling}
use Rattle.desk_invariant.proofs.Rows.{answer_keeps_rule}
use Rattle.publication.proofs.Holds.{hand_with_answer, room_taken, core_grows, pass_after_answer}
use Rattle.publication.proofs.CallClauses.{may_serve, answer_gives}
use Rattle.publication.proofs.client.Hand.answer.Goals as goal

pub serve-answer-requires-after_bounds : goal.serve-answer-requires-after_bounds
serve-answer-requires-after_bounds g c =
    λ κs bounds. may_serve c.args.self _ _ (sym c.self.view_is) c.self.invariant.0.fits.1 c.requires.possible

pub store-requires : goal.store-requires
store-requires g c =
    let hand = c.self.invariant.0 in
    let low = hand.row_low in
    let wide = c.desk.invariant.0.0 in
    let served = c.serve-answer.ensures in
    let ready =
    hand_with_answer _ _ _ _ _ _ _ _ c.serve-answer.new.core hand c.exchange.ensures.3 served.log served.content in (
      search rules,
      omega arith,
      answer_keeps_rule _ _ _ _ _ _ _ _ _ _ _ _ _ _ _ ready.0 ready.1 ready.2 hand.on ready.3,
    )

pub invariant_of-result : goal.invariant_of-result
invariant_of-result g c =
    let hand = c.self.invariant.0 in
    let served = c.serve-answer.ensures in
    let ready =
    hand_with_answer _ _ _ _ _ _ _ _ c.serve-answer.new.core hand c.exchange.ensures.3 served.log served.content in
    let stored = c.store.ensures.2 _ _ _ _ _ _ _ ready.1 ready.2 in (
      pass_after_answer _ _ _ _ _ _ _ _ c.serve-answer.new.core hand served.state.1 served.content served.log
          c.exchange.ensures.3 stored,
      own_still _ _ _ _ (ap (λ m. m.0.lists) stored ∙ ap (λ m. m.0.lists) c.exchange.ensures.3) c.self.invariant.1,
    )

pub returns-clause-answered : goal.returns-clause-answered
returns-clause-answered g c =
    let hand = c.self.invariant.0 in
    let served = c.serve-answer.ensures in
    let ready =
    hand_with_answer _ _ _ _ _ _ _ _ c.serve-answer.new.core hand c.exchange.ensures.3 served.log served.content in
    let fits = core_grows g.S.SeqObject.content g.S.SeqObject.op_in g.S.SeqObject.reply_in _ _ _ c.self.inside.core
    c.serve-answer.new.core
    c.self.inside.request c.serve-answer.result served.state.1 hand.fits served.log served.content in
    answer_gives _ _ _ (sym c.self.view_is) c.exchange.ensures.3
    (c.store.ensures.2 _ _ _ _ _ _ _ ready.1 ready.2) served.log (_, fits.1)

pub returns-clause-desk : goal.returns-clause-desk
returns-clause-desk g c =
    let hand = c.self.invariant.0 in
    let served = c.serve-answer.ensures in
    let ready =
    hand_with_answer _ _ _ _ _ _ _ _ c.serve-answer.new.core hand c.exchange.ensures.3 served.log served.content in
    same_desk (c.store.ensures.0 ∙ c.exchange.ensures.0) refl
    (ap (λ m. m.0.kinds) (c.store.ensures.2 _ _ _ _ _ _ _ ready.1 ready.2) ∙ ap (λ m. m.0.kinds) c.exchange.ensures.3)
    refl (ap (λ k. k.desk) c.self.view_is)

pub returns-clause-room : goal.returns-clause-room
returns-clause-room g c = let served = c.serve-answer.ensures in
    subst (λ (h : Handling). 0 < h.state.room
    → (vec_capacity c.serve-answer.new.core.log - vec_len c.serve-answer.new.core.log)
    + length (logged h.row h.request (answer_in g.S.SeqObject.reply_in c.serve-answer.result)) ≡ h.state.room)
    c.self.view_is
    (room_taken g.S.SeqObject.op_in g.S.SeqObject.reply_in c.self.inside.core c.serve-answer.new.core _ served.log
    served.room)
