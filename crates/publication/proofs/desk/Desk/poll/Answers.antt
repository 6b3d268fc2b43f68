-- `poll`: the client takes an answer and draws the ticket of its return, or has missed, as `IsPollMiss` says. Its
-- call is outstanding, so its own row waits; each step on the table keeps the rules of its play.
use Rattle.std.proofs.Common.{rules, arith, refl, ℕ, ◌∷◌, ◌++◌, [], inr, sym, ap, ◌∙◌, subst}
use Rattle.desk_invariant.specs.declared.board.DeskView.{DeskView}
use Rattle.desk_invariant.specs.Views.{row_place, after_miss}
use Rattle.desk_invariant.proofs.Calls.{look_for_answer_keeps_rule, take_keeps_rule, return_keeps_rule}
use Rattle.desk_model.specs.declared.JournalEvent.TheVariants.{Returned}
use Rattle.desk_model.specs.Images.{answer_in}
use Rattle.publication.proofs.Dealing.{own_still, same_desk}
use Rattle.publication.specs.Handles.{IsClient, ArePlacesOf}
use Rattle.publication.specs.Calls.{IsPollAnswer, IsPollMiss}
use Rattle.publication.proofs.Slots.{can_exchange, came_out, same_answer}
use Rattle.publication.proofs.Holds.{client_after_miss}
use Rattle.publication.proofs.PostAndPoll.{outstanding, poll_turn, client_after_poll, polled, room_to_return}
use Rattle.publication.proofs.desk.Desk.poll.Goals as goal

pub look_and_exchange-found-requires-clause-look : goal.look_and_exchange-found-requires-clause-look
look_and_exchange-found-requires-clause-look g c =
    let client = c.client.invariant.0 in
    look_for_answer_keeps_rule _ _ _ _ _ _ _ _ _ _ client.agrees.client_is client.agrees.number_is
    client.agrees.number_low

pub look_and_exchange-found-requires-clause-exchange : goal.look_and_exchange-found-requires-clause-exchange
look_and_exchange-found-requires-clause-exchange g c =
    let client = c.client.invariant.0 in
    let low = client.agrees.number_low in
    let call = (outstanding (sym c.is_outstanding.ensures ∙ c.if-not-is_outstanding.false) client).1 in
    take_keeps_rule _ _ _ _ _ _ _ _ _ _ call.0 client.agrees.client_is client.agrees.number_is call.1 client.free call.2
    low

pub look_and_exchange-found-requires-clause-found : goal.look_and_exchange-found-requires-clause-found
look_and_exchange-found-requires-clause-found g c =
    let client = c.client.invariant.0 in
    let call = (outstanding (sym c.is_outstanding.ensures ∙ c.if-not-is_outstanding.false) client).1 in
    λ m told. (told c.client.inside.number call.0 client.agrees.number_is refl call.1).0 refl

pub look_and_exchange-found-requires-clause-missed : goal.look_and_exchange-found-requires-clause-missed
look_and_exchange-found-requires-clause-missed g c =
    λ n m miss told row q mine here waits. ((λ hit. absurd (miss hit)), (told row q mine here waits).1)

pub invariant_of-client : goal.invariant_of-client
invariant_of-client g c =
    let client = c.client.invariant.0 in
    let call = (outstanding (sym c.is_outstanding.ensures ∙ c.if-not-is_outstanding.false) client).1 in
    let looked =
    ((c.look_and_exchange-found.ensures.tried c.client.inside.number call.0 client.agrees.number_is refl call.1).1
    (search rules)).0 in (
      client_after_miss _ client looked,
      own_still _ _ _ _ (ap (λ m. m.0.lists) looked) c.client.invariant.1,
    )

pub returns-then-found-ne-ANSWERED-clause-missed : goal.returns-then-found-ne-ANSWERED-clause-missed
returns-then-found-ne-ANSWERED-clause-missed g c =
    let client = c.client.invariant.0 in
    let call = (outstanding (sym c.is_outstanding.ensures ∙ c.if-not-is_outstanding.false) client).1 in
    let looked =
    (c.look_and_exchange-found.ensures.tried c.client.inside.number call.0 client.agrees.number_is refl call.1).1
    (search rules) in
    subst (λ (v : DeskView). IsPollMiss v c.look_and_exchange-found.new.seat.me.0) (ap (λ v. v.knows) c.client.view_is)
    (inr (
      ap (λ z. z.0) looked.0
          ∙ ap (λ (n : ℕ). after_miss (row_place n) c.client.inside.seat.me.0) (sym client.agrees.number_is),
      looked.1,
    ))

pub exchange-requires : goal.exchange-requires
exchange-requires g c =
    let client = c.client.invariant.0 in
    let call = (outstanding (sym c.is_outstanding.ensures ∙ c.if-not-is_outstanding.false) client).1 in
    let looked =
    (c.look_and_exchange-found.ensures.tried c.client.inside.number call.0 client.agrees.number_is refl call.1).0
    (search rules) in (search rules, can_exchange _ _ _ _ (ap (λ z. z.1) looked.2))

pub fetch_add-ticket-requires : goal.fetch_add-ticket-requires
fetch_add-ticket-requires g c =
    let own = outstanding (sym c.is_outstanding.ensures ∙ c.if-not-is_outstanding.false) c.client.invariant.0 in
    let client = own.0 in
    let call = own.1 in
    let looked =
    (c.look_and_exchange-found.ensures.tried c.client.inside.number call.0 client.agrees.number_is refl call.1).0
    c.if-found-ne-ANSWERED.false in
    let wide = c.self.invariant.0.0 in
    let took = ap (λ z. z.0) c.exchange.ensures.3 ∙ ap (λ z. z.0) looked.2 in (
      search rules,
      omega arith,
      return_keeps_rule _ _ _ _ _ _ _ _ _ _ _ (ap (λ z. z.role) took ∙ client.agrees.client_is) (ap (λ z. z.own) took)
          (ap (λ z. z.held) took ∙ client.free) (ap (λ z. z.ended) took ∙ client.agrees.going),
    )

pub note_returned-requires : goal.note_returned-requires
note_returned-requires g c =
    let own = outstanding (sym c.is_outstanding.ensures ∙ c.if-not-is_outstanding.false) c.client.invariant.0 in
    let client = own.0 in
    let call = own.1 in
    let looked =
    (c.look_and_exchange-found.ensures.tried c.client.inside.number call.0 client.agrees.number_is refl call.1).0
    c.if-found-ne-ANSWERED.false in
    record { room = room_to_return client.agrees call.1 }

pub invariant_of-client-in-Answer : goal.invariant_of-client-in-Answer
invariant_of-client-in-Answer g c =
    let own = outstanding (sym c.is_outstanding.ensures ∙ c.if-not-is_outstanding.false) c.client.invariant.0 in
    let client = own.0 in
    let call = own.1 in
    let looked =
    (c.look_and_exchange-found.ensures.tried c.client.inside.number call.0 client.agrees.number_is refl call.1).0
    c.if-found-ne-ANSWERED.false in
    let drawn = (c.fetch_add-ticket.ensures.2 _ _
    (ap (λ z. z.0.own) c.exchange.ensures.3 ∙ ap (λ z. z.0.own) looked.2)).0 in
    let noted = c.note_returned.ensures in
    let same = same_answer _ _
    (sym (came_out _ _ _ _ _ (ap (λ m. m.1) looked.2) c.exchange.ensures.2) ∙ c.in-Answer.is) in
    let turn = poll_turn _ looked.1 client call.1 looked.2 c.exchange.ensures.3 drawn in
    let ok = client_after_poll _ looked.0 looked.1 client call.1 call.2 looked.3 looked.5 turn
    (noted.events ∙ ap (λ a. c.client.inside.member.journal.events.items ++ Returned c.fetch_add-ticket.result a ∷ [])
    (sym same)) noted.capacity in
    subst (λ z. IsClient g.S.SeqObject.op_in g.S.SeqObject.reply_in c.client.inside.number z.calls z.quota
    z.outstanding z.journal c.fetch_add-ticket.new.seat.me
    × ArePlacesOf c.client.inside.number c.fetch_add-ticket.new.seat.me.0.lists z.places) (sym noted.same)
    (ok, own_still _ _ _ _ (ap (λ m. m.0.lists) turn) c.client.invariant.1)

pub returns-clause-polled : goal.returns-clause-polled
returns-clause-polled g c =
    let own = outstanding (sym c.is_outstanding.ensures ∙ c.if-not-is_outstanding.false) c.client.invariant.0 in
    let client = own.0 in
    let call = own.1 in
    let looked =
    (c.look_and_exchange-found.ensures.tried c.client.inside.number call.0 client.agrees.number_is refl call.1).0
    c.if-found-ne-ANSWERED.false in
    let drawn = c.fetch_add-ticket.ensures.2 _ _
    (ap (λ z. z.0.own) c.exchange.ensures.3 ∙ ap (λ z. z.0.own) looked.2) in
    let same = same_answer _ _
    (sym (came_out _ _ _ _ _ (ap (λ m. m.1) looked.2) c.exchange.ensures.2) ∙ c.in-Answer.is) in
    let turn = poll_turn _ looked.1 client call.1 looked.2 c.exchange.ensures.3 drawn.0 in
    subst (λ a. IsPollAnswer c.args.client.now.knows
    (answer_in g.S.SeqObject.reply_in a) c.fetch_add-ticket.new.seat.me.0) same
    (polled looked.0 looked.1 client (sym (ap (λ v. v.knows) c.client.view_is)) call.1 call.2 looked.3 looked.4 looked.5
    (ap (λ z. z.0) c.exchange.ensures.3 ∙ ap (λ z. z.0) looked.2) drawn.1 turn)

pub returns-clause-desk : goal.returns-clause-desk
returns-clause-desk g c =
    let own = outstanding (sym c.is_outstanding.ensures ∙ c.if-not-is_outstanding.false) c.client.invariant.0 in
    let client = own.0 in
    let call = own.1 in
    let looked =
    (c.look_and_exchange-found.ensures.tried c.client.inside.number call.0 client.agrees.number_is refl call.1).0
    c.if-found-ne-ANSWERED.false in
    let drawn = c.fetch_add-ticket.ensures.2 _ _
    (ap (λ z. z.0.own) c.exchange.ensures.3 ∙ ap (λ z. z.0.own) looked.2) in
    same_desk (c.fetch_add-ticket.ensures.0 ∙ (c.exchange.ensures.0 ∙ c.look_and_exchange-found.ensures.table.0))
    (ap (λ z. z.quota) c.note_returned.ensures.same)
    (ap (λ m. m.0.kinds) drawn.0 ∙ (ap (λ m. m.0.kinds) c.exchange.ensures.3 ∙ ap (λ m. m.0.kinds) looked.2))
    (ap (λ z. z.places) c.note_returned.ensures.same) (ap (λ k. k.desk) c.client.view_is)

pub returns-then-found-ne-ANSWERED-clause-desk : goal.returns-then-found-ne-ANSWERED-clause-desk
returns-then-found-ne-ANSWERED-clause-desk g c =
    let client = c.client.invariant.0 in
    let call = (outstanding (sym c.is_outstanding.ensures ∙ c.if-not-is_outstanding.false) client).1 in
    let looked =
    (c.look_and_exchange-found.ensures.tried c.client.inside.number call.0 client.agrees.number_is refl call.1).1
    (search rules) in
    same_desk c.look_and_exchange-found.ensures.table.0 refl (ap (λ m. m.0.kinds) looked.0) refl
    (ap (λ k. k.desk) c.client.view_is)

pub unreachable-requires : goal.unreachable-requires
unreachable-requires g c =
    let client = c.client.invariant.0 in
    let call = (outstanding (sym c.is_outstanding.ensures ∙ c.if-not-is_outstanding.false) client).1 in
    let looked =
    (c.look_and_exchange-found.ensures.tried c.client.inside.number call.0 client.agrees.number_is refl call.1).0
    (search rules) in
    c.in_default.not-Answer looked.0 (came_out _ _ _ _ _ (ap (λ z. z.1) looked.2) c.exchange.ensures.2)
