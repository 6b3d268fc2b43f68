-- `post`: the call is posted with the ticket that was drawn, and its invocation is the last event of the journal.
-- The client is idle, so each step keeps the rules of its play, and `post_turn` says what it then knows.
use Rattle.std.proofs.Common.{rules, arith, ◌≡◌, ◌<◌, ◌+◌, ◌++◌, ◌∷◌, [], true, List, length, refl, sym, ap, ◌∙◌}
use Rattle.std.proofs.Common.{subst, false}
use Rattle.atomic_table.specs.Table.{rest}
use Rattle.model.specs.declared.Kind.{Kind}
use Rattle.desk_model.specs.declared.JournalEvent.TheVariants.{Invoked}
use Rattle.desk_model.specs.World.{kind_at, calls_made}
use Rattle.desk_invariant.specs.Views.{own_request, is_waiting}
use Rattle.publication.specs.Handles.{Known, IsClient, ArePlacesOf}
use Rattle.desk_invariant.proofs.Calls.{draw_keeps_rule, post_keeps_rule}
use Rattle.publication.proofs.Dealing.{own_still, same_desk}
use Rattle.publication.proofs.Slots.{came_out, can_exchange, in_slot}
use Rattle.publication.proofs.PostAndPoll.{own_idle, outstanding_is, post_turn, client_after_post, posted, room_to_call}
use Rattle.publication.proofs.desk.Desk.post.Goals as goal
use Rattle.publication.proofs.desk.Desk.post.Given.{Over}
use Rattle.publication.proofs.desk.Desk.post.Goals.{After-exchange}
use Rattle.desk_invariant.specs.Views.{call_slot}

-- the client before the call, which has none outstanding, and has calls left
before : (g : Over) (c : After-exchange g) → IsClient g.S.SeqObject.op_in g.S.SeqObject.reply_in c.client.inside.number
    c.client.inside.member.calls c.client.inside.member.quota false c.client.inside.member.journal
    c.client.inside.seat.me
before g c = outstanding_is (c.client.invariant.0.agrees.outstanding_is
    ∙ (ap (λ z. is_waiting z.knows.own) c.client.view_is ∙ c.in_default.ensures.may.0)) c.client.invariant.0

calls_left : (g : Over) (c : After-exchange g)
    → calls_made c.client.inside.seat.me.0.done (own_request c.client.inside.seat.me.0.own) <
    c.client.inside.member.quota
calls_left g c = subst (λ (z : Known). calls_made z.knows.done (own_request z.knows.own) < z.desk.quota)
    (sym c.client.view_is) c.in_default.ensures.may.1

pub fetch_add-ticket-requires : goal.fetch_add-ticket-requires
fetch_add-ticket-requires g c =
    let client = before g (goal.at.fetch_add-ticket-requires g c).After-exchange in
    let is = own_idle _ client.agrees.at_rest (sym client.agrees.outstanding_is) in
    let desk = c.self.invariant.0 in
    let wide = desk.0 in
    let filled = c.exchange.ensures.3 in
    let ok = c.in_default.ensures.there in
    let kinds = sym (ap (λ v. v.id.kinds) c.self.view_is) ∙ sym desk.2 in
    let on : c.args.object < length c.self.inside.table.shared.key.kinds.items =
    subst (λ (ks : List Kind). c.args.object < length ks) kinds ok.0 in
    let fits = (ok.1 ∙ ap (λ (ks : List Kind). kind_at ks c.args.object) kinds) in
    let quota : c.client.inside.member.quota ≡ c.self.inside.table.shared.key.quota =
    ap (λ v. v.desk.quota) c.client.view_is
    ∙ (ap (λ z. z.quota) c.requires ∙ (sym (ap (λ v. v.id.quota) c.self.view_is) ∙ sym desk.4)) in
    let count = client.agrees.calls_is in
    let left = calls_left g (goal.at.fetch_add-ticket-requires g c).After-exchange in
    let few : c.client.inside.member.calls < c.client.inside.member.quota = omega arith in
    let done : length c.exchange.new.seat.me.0.done ≡ length c.client.inside.seat.me.0.done =
    ap (λ z. length z.0.done) filled in
    let calls : c.client.inside.member.calls ≡ length c.client.inside.seat.me.0.done + 0 =
    client.agrees.calls_is ∙ ap (λ o. calls_made c.client.inside.seat.me.0.done (own_request o)) is in
    let count : length c.exchange.new.seat.me.0.done < c.self.inside.table.shared.key.quota = omega arith in (
      search rules,
      omega arith,
      draw_keeps_rule _ _ _ _ _ _ _ _ _ _ _ _ (ap (λ z. z.0.role) filled ∙ client.agrees.client_is)
          (ap (λ z. z.0.own) filled ∙ is)
          (ap (λ z. z.0.ended) filled ∙ client.agrees.going) (ap (λ z. z.1) filled) on fits count,
    )

pub slot_mut-requires : goal.slot_mut-requires
slot_mut-requires g c =
    let filled = c.exchange.ensures.3 in (
      search rules,
      can_exchange _ _ _ _
          (ap (λ z. z.1) (c.fetch_add-ticket.ensures.2 _ _ _ (ap (λ z. z.1) filled)) ∙ ap (λ z. z.1) filled),
    )

pub set_ticket-requires : goal.set_ticket-requires
set_ticket-requires g c =
    let filled = c.exchange.ensures.3 in
    let drawn = c.fetch_add-ticket.ensures.2 _ _ _ (ap (λ z. z.1) filled) in
    (_, came_out _ _ _ _ _ (ap (λ z. z.1) drawn ∙ ap (λ z. z.1) filled) c.slot_mut.ensures.value)

pub store-requires : goal.store-requires
store-requires g c =
    let client = before g (goal.at.store-requires g c).After-exchange in
    let wide = c.self.invariant.0.0 in
    let low = client.agrees.number_low in
    let filled = c.exchange.ensures.3 in
    let drawn = c.fetch_add-ticket.ensures.2 _ _ _ (ap (λ z. z.1) filled) in
    let stamped =
    in_slot c.fetch_add-ticket.new.seat.me.0 (call_slot c.client.inside.number) _ _
    (rest c.fetch_add-ticket.new.seat.me.1)
    (c.set_ticket.ensures _ (came_out _ _ _ _ _ (ap (λ z. z.1) drawn ∙ ap (λ z. z.1) filled)
    c.slot_mut.ensures.value)) in (
      search rules,
      omega arith,
      post_keeps_rule _ _ _ _ _ _ _ _ _ _ _ _ _ _
          (ap (λ z. z.0.role) stamped ∙ (ap (λ z. z.0.role) drawn
          ∙ (ap (λ z. z.0.role) filled ∙ client.agrees.client_is)))
          (ap (λ z. z.0.number) stamped ∙ (ap (λ z. z.0.number) drawn
          ∙ (ap (λ z. z.0.number) filled ∙ client.agrees.number_is)))
          (ap (λ z. z.0.own) stamped ∙ ap (λ z. z.0.own) drawn)
          (ap (λ z. z.0.held) stamped ∙ (ap (λ z. z.0.held) drawn ∙ (ap (λ z. z.0.held) filled ∙ client.free))) refl
          refl
          (ap (λ z. z.1) stamped),
    )

pub note_invoked-requires-clause-room : goal.note_invoked-requires-clause-room
note_invoked-requires-clause-room g c =
    let client = before g (goal.at.note_invoked-requires-clause-room g c).After-exchange in
    let count = client.agrees.calls_is in
    let left = calls_left g (goal.at.note_invoked-requires-clause-room g c).After-exchange in
    room_to_call client.agrees (omega arith)

pub note_invoked-requires-clause-calls : goal.note_invoked-requires-clause-calls
note_invoked-requires-clause-calls g c =
    let left = calls_left g (goal.at.note_invoked-requires-clause-calls g c).After-exchange in
    omega (arith, c.client.invariant.0.agrees.calls_is, left)

pub invariant_of-client : goal.invariant_of-client
invariant_of-client g c =
    let client = before g (goal.at.invariant_of-client g c).After-exchange in
    let filled = c.exchange.ensures.3 in
    let drawn = c.fetch_add-ticket.ensures.2 _ _ _ (ap (λ z. z.1) filled) in
    let stamped =
    in_slot c.fetch_add-ticket.new.seat.me.0 (call_slot c.client.inside.number) _ _
    (rest c.fetch_add-ticket.new.seat.me.1)
    (c.set_ticket.ensures _ (came_out _ _ _ _ _ (ap (λ z. z.1) drawn ∙ ap (λ z. z.1) filled)
    c.slot_mut.ensures.value)) in
    let noted = c.note_invoked.ensures in
    let written : c.note_invoked.new.self.journal.events.items
    ≡ c.client.inside.member.journal.events.items ++ Invoked c.fetch_add-ticket.result c.args.object
    c.args.op ∷ [] = noted.events in
    let few = c.self.invariant.0.5 in
    let ok = c.in_default.ensures.there in
    let turn = post_turn client filled drawn stamped
    (c.store.ensures.2 _ (ap (λ z. z.0.own) stamped ∙ ap (λ z. z.0.own) drawn)) in
    let low : c.args.object < length c.self.inside.kinds.items = search rules in
    let ok = client_after_post
    (record { object = c.args.object; ticket = c.fetch_add-ticket.result; op = c.args.op }) client turn (omega arith)
    (let count = client.agrees.calls_is in
    let left = calls_left g (goal.at.invariant_of-client g c).After-exchange in omega arith) written noted.capacity in
    subst (λ z. IsClient g.S.SeqObject.op_in g.S.SeqObject.reply_in c.client.inside.number z.calls z.quota
    z.outstanding z.journal c.store.new.seat.me
    × ArePlacesOf c.client.inside.number c.store.new.seat.me.0.lists z.places) (sym noted.same) (
      subst (λ z. IsClient g.S.SeqObject.op_in g.S.SeqObject.reply_in c.client.inside.number z
          c.client.inside.member.quota true c.note_invoked.new.self.journal c.store.new.seat.me) (sym noted.calls) ok,
      own_still _ _ _ _ (ap (λ m. m.0.lists) turn) c.client.invariant.1,
    )

pub returns-clause-posted : goal.returns-clause-posted
returns-clause-posted g c =
    let client = before g (goal.at.returns-clause-posted g c).After-exchange in
    let filled = c.exchange.ensures.3 in
    let drawn = c.fetch_add-ticket.ensures.2 _ _ _ (ap (λ z. z.1) filled) in
    let stamped =
    in_slot c.fetch_add-ticket.new.seat.me.0 (call_slot c.client.inside.number) _ _
    (rest c.fetch_add-ticket.new.seat.me.1)
    (c.set_ticket.ensures _ (came_out _ _ _ _ _ (ap (λ z. z.1) drawn ∙ ap (λ z. z.1) filled)
    c.slot_mut.ensures.value)) in
    let turn = post_turn client filled drawn stamped
    (c.store.ensures.2 _ (ap (λ z. z.0.own) stamped ∙ ap (λ z. z.0.own) drawn)) in
    posted c.args.op client (sym (ap (λ v. v.knows) c.client.view_is)) turn

pub returns-clause-desk : goal.returns-clause-desk
returns-clause-desk g c =
    let filled = c.exchange.ensures.3 in
    let drawn = c.fetch_add-ticket.ensures.2 _ _ _ (ap (λ z. z.1) filled) in
    let stamped =
    in_slot c.fetch_add-ticket.new.seat.me.0 (call_slot c.client.inside.number) _ _
    (rest c.fetch_add-ticket.new.seat.me.1)
    (c.set_ticket.ensures _ (came_out _ _ _ _ _ (ap (λ z. z.1) drawn ∙ ap (λ z. z.1) filled)
    c.slot_mut.ensures.value)) in
    let stored = c.store.ensures.2 _ (ap (λ z. z.0.own) stamped ∙ ap (λ z. z.0.own) drawn) in
    same_desk (c.store.ensures.0 ∙ (c.fetch_add-ticket.ensures.0 ∙ c.exchange.ensures.0))
    (ap (λ z. z.quota) c.note_invoked.ensures.same)
    (ap (λ m. m.0.kinds) stored ∙ (ap (λ m. m.0.kinds) stamped
    ∙ (ap (λ m. m.0.kinds) drawn ∙ ap (λ m. m.0.kinds) filled)))
    (ap (λ z. z.places) c.note_invoked.ensures.same) (ap (λ k. k.desk) c.client.view_is)
