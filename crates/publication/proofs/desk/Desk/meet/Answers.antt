-- `meet`: both clients have then seen one legal log, which goes on from what each had seen. The first learns the
-- log of the table, and its message back is that log (`told_back`), which the second adopts.
use Rattle.std.proofs.Common.{rules, arith, ◌<◌, ℕ, length, sym, ap, ◌∙◌, subst}
use Rattle.desk_model.specs.World.{kind_at, IsLegalLog, StartsWith}
use Rattle.desk_invariant.specs.declared.board.DeskView.{DeskView}
use Rattle.desk_invariant.specs.Views.{seen_of, received_of, after_meet, after_message, IsAtRest, IsAccount}
use Rattle.desk_invariant.proofs.Meets.{seen_message_keeps_rule, message_keeps_rule, learn_keeps_rule}
use Rattle.desk_invariant.proofs.Meets.{adopt_keeps_rule, told_back, begins_there}
use Rattle.publication.proofs.Dealing.{own_still}
use Rattle.publication.proofs.Encounters.{met_ok, met}
use Rattle.publication.proofs.desk.Desk.meet.Goals as goal
use Rattle.desk_model.specs.Limits.{max_objects}

pub split_seat-message-requires : goal.split_seat-message-requires
split_seat-message-requires g c =
    let wide = c.self.invariant.0.0 in (search rules, omega arith, seen_message_keeps_rule _ _ _ _ _ _ _ _)

pub join_seat-requires : goal.join_seat-requires
join_seat-requires g c =
    let wide = c.self.invariant.0.0 in (
      search rules,
      search rules,
      ap (λ z. z.1) c.split_seat-message.ensures.4,
      omega arith,
      message_keeps_rule _ _ _ _ _ _ _ _ _ _,
    )

pub load-requires : goal.load-requires
load-requires g c =
    let desk = c.self.invariant.0 in
    let wide = desk.0 in
    let few = desk.5 in
    let low : c.args.object < length c.self.inside.kinds.items = search rules in
    let joined = c.join_seat.ensures.2 in
    let agrees = c.one.invariant.0.agrees in (
      search rules,
      omega arith,
      learn_keeps_rule _ _ _ _ _ _ _ _ _ _ (ap (λ z. z.0.role) joined ∙ agrees.client_is) (omega arith)
          (subst (λ (v : DeskView). IsAtRest v.own) (sym (ap (λ z. z.0) joined)) agrees.at_rest),
    )

pub split_seat-message-requires-2 : goal.split_seat-message-requires-2
split_seat-message-requires-2 g c =
    let wide = c.self.invariant.0.0 in (search rules, omega arith, seen_message_keeps_rule _ _ _ _ _ _ _ _)

pub join_seat-requires-2 : goal.join_seat-requires-2
join_seat-requires-2 g c =
    let wide = c.self.invariant.0.0 in (
      search rules,
      search rules,
      ap (λ z. z.1) c.split_seat-message-2.ensures.4,
      omega arith,
      message_keeps_rule _ _ _ _ _ _ _ _ _ _,
    )

pub load-requires-2 : goal.load-requires-2
load-requires-2 g c =
    let desk = c.self.invariant.0 in
    let wide = desk.0 in
    let few = desk.5 in
    let low : c.args.object < length c.self.inside.kinds.items = search rules in
    let low' : c.args.object < max_objects = omega arith in
    let learnt = c.load.ensures.2 in
    let agrees = c.other.invariant.0.agrees in
    let received = ap (λ z. z.0) c.join_seat.ensures.2
    ∙ ap (λ z. after_message c.one.inside.seat.me.0 z.0) c.split_seat-message.ensures.4 in
    let back = ap (λ z. z.0) c.join_seat-2.ensures.2
    ∙ ((λ i. after_message (c.split_seat-message.ensures.2 i).0 (c.split_seat-message-2.ensures.4 i).0)) in
    let is = told_back c.args.object c.one.inside.seat.me.0 c.other.inside.seat.me.0 _ _ _ learnt.0 low' received
    (ap (λ z. z.0) learnt.1) learnt.5 back in (
      search rules,
      omega arith,
      adopt_keeps_rule _ _ _ _ _ _ _ _ _ _ (ap (λ z. z.role) back ∙ agrees.client_is) low'
          (subst (λ l. StartsWith l (seen_of c.join_seat-2.new.seat.me.0 c.args.object)) (sym is)
          (begins_there c.args.object c.one.inside.seat.me.0 c.other.inside.seat.me.0 _
          c.join_seat-2.new.seat.me.0 learnt.0 received (ap (λ z. z.seen) back) learnt.4))
          (subst (λ (v : DeskView). IsAtRest v.own) (sym back) agrees.at_rest),
    )

pub invariant_of-result : goal.invariant_of-result
invariant_of-result g c =
    let desk = c.self.invariant.0 in
    let few = desk.5 in
    let low : c.args.object < length c.self.inside.kinds.items = search rules in
    let low' : c.args.object < max_objects = omega arith in
    let object : ℕ = c.args.object in
    let learnt = c.load.ensures.2 in
    let first = c.split_seat-message-2.ensures.2
    ∙ (learnt.1 ∙ ap (λ z. (after_meet object learnt.0 z.0, z.1)) c.join_seat.ensures.2) in (
      met_ok g.S.SeqObject.op_in g.S.SeqObject.reply_in _ _ _ _ _ object learnt.0 c.split_seat-message.result.me.0.seen
          c.one.inside.seat.me _ c.one.invariant.0 low'
          (subst (λ (v : DeskView). IsLegalLog (kind_at v.kinds object) learnt.0) (ap (λ z. z.0) c.join_seat.ensures.2)
          learnt.2)
          (subst (λ (v : DeskView). IsAccount object v learnt.0) (ap (λ z. z.0) c.join_seat.ensures.2) learnt.6) first,
      own_still _ _ _ _ (ap (λ m. m.0.lists) first) c.one.invariant.1,
    )

pub invariant_of-result-2 : goal.invariant_of-result-2
invariant_of-result-2 g c =
    let desk = c.self.invariant.0 in
    let few = desk.5 in
    let low : c.args.object < length c.self.inside.kinds.items = search rules in
    let low' : c.args.object < max_objects = omega arith in
    let object : ℕ = c.args.object in
    let learnt = c.load.ensures.2 in
    let received = ap (λ z. z.0) c.join_seat.ensures.2
    ∙ ap (λ z. after_message c.one.inside.seat.me.0 z.0) c.split_seat-message.ensures.4 in
    let back = ap (λ z. z.0) c.join_seat-2.ensures.2
    ∙ ((λ i. after_message (c.split_seat-message.ensures.2 i).0 (c.split_seat-message-2.ensures.4 i).0)) in
    let is = told_back object c.one.inside.seat.me.0 c.other.inside.seat.me.0 _ _ _ learnt.0 low' received
    (ap (λ z. z.0) learnt.1) learnt.5 back in
    let whole = c.join_seat-2.ensures.2
    ∙ ap (λ z. (after_message z.0 c.split_seat-message-2.result.me.0, z.1)) c.split_seat-message.ensures.2 in
    let adopted = c.load-2.ensures.2 in
    let second = adopted.0 ∙ (λ i. (after_meet object (is i) (whole i).0, (whole i).1)) in (
      met_ok g.S.SeqObject.op_in g.S.SeqObject.reply_in _ _ _ _ _ object learnt.0
          c.split_seat-message-2.result.me.0.seen
          c.other.inside.seat.me _ c.other.invariant.0 low'
          (subst (λ l. IsLegalLog (kind_at c.other.inside.seat.me.0.kinds object) l)
          is (subst (λ (v : DeskView). IsLegalLog (kind_at v.kinds object)
          (received_of c.join_seat-2.new.seat.me.0 object))
          (ap (λ z. z.0) whole) adopted.1))
          (subst (λ l. IsAccount object (after_message c.other.inside.seat.me.0 c.split_seat-message-2.result.me.0) l)
          is (subst (λ (v : DeskView). IsAccount object v (received_of c.join_seat-2.new.seat.me.0 object))
          (ap (λ z. z.0) whole) adopted.2)) second,
      own_still _ _ _ _ (ap (λ m. m.0.lists) second) c.other.invariant.1,
    )

pub returns-clause-met : goal.returns-clause-met
returns-clause-met g c =
    let wide = c.one.invariant.0.agrees.wide in
    let wide' = c.other.invariant.0.agrees.wide in
    let desk = c.self.invariant.0 in
    let few = desk.5 in
    let low : c.args.object < length c.self.inside.kinds.items = search rules in
    let low' : c.args.object < max_objects = omega arith in
    let object : ℕ = c.args.object in
    let learnt = c.load.ensures.2 in
    let first = c.split_seat-message-2.ensures.2
    ∙ (learnt.1 ∙ ap (λ z. (after_meet object learnt.0 z.0, z.1)) c.join_seat.ensures.2) in
    let received = ap (λ z. z.0) c.join_seat.ensures.2
    ∙ ap (λ z. after_message c.one.inside.seat.me.0 z.0) c.split_seat-message.ensures.4 in
    let back = ap (λ z. z.0) c.join_seat-2.ensures.2
    ∙ ((λ i. after_message (c.split_seat-message.ensures.2 i).0 (c.split_seat-message-2.ensures.4 i).0)) in
    let is = told_back object c.one.inside.seat.me.0 c.other.inside.seat.me.0 _ _ _ learnt.0 low' received
    (ap (λ z. z.0) learnt.1) learnt.5 back in
    let whole = c.join_seat-2.ensures.2
    ∙ ap (λ z. (after_message z.0 c.split_seat-message-2.result.me.0, z.1)) c.split_seat-message.ensures.2 in
    let adopted = c.load-2.ensures.2 in
    let second = adopted.0 ∙ (λ i. (after_meet object (is i) (whole i).0, (whole i).1)) in
    let there = begins_there object c.one.inside.seat.me.0 c.other.inside.seat.me.0 _ c.join_seat-2.new.seat.me.0
    learnt.0 received (ap (λ z. z.seen) back) learnt.4 in
    met object c.args.one c.args.other _ _ _ _ c.one.inside.seat.me.0 c.other.inside.seat.me.0 _ _ learnt.0
    c.split_seat-message.result.me.0.seen c.split_seat-message-2.result.me.0.seen
    (sym (ap (λ k. k.desk.kinds) c.one.view_is)) (sym (ap (λ k. k.knows) c.one.view_is))
    (sym (ap (λ k. k.knows) c.other.view_is))
    (ap (λ z. z.0) first) (ap (λ z. z.0) second) (omega arith) (omega arith)
    (subst (λ (v : DeskView). IsLegalLog (kind_at v.kinds object) learnt.0) (ap (λ z. z.0) c.join_seat.ensures.2)
    learnt.2)
    (subst (λ (v : DeskView). StartsWith learnt.0 (seen_of v object)) (ap (λ z. z.0) c.join_seat.ensures.2) learnt.3)
    (subst (λ (v : DeskView). StartsWith learnt.0 (seen_of v object)) (ap (λ z. z.0) whole) there)
