-- `win`: a pass that is won has the object's core, and a miss changes only what the client knows. The look and the
-- exchange keep the rule of the lock (`look_at_lock_keeps_rule`, `win_keeps_rule`), so the slot has a core.
use Rattle.std.proofs.Common.{rules, arith, ◌≡◌, ◌<◌, ℕ, ◌+◌, length, refl, sym, ap, ◌∙◌, subst}
use Rattle.desk_invariant.proofs.Locks.{look_at_lock_keeps_rule, win_keeps_rule}
use Rattle.publication.proofs.Dealing.{own_still}
use Rattle.publication.proofs.Slots.{came_out, same_core, can_exchange}
use Rattle.publication.proofs.Holds.{client_after_miss, pass_after_win}
use Rattle.publication.proofs.CallClauses.{win_gives}
use Rattle.publication.proofs.desk.Desk.win.Given.{Over}
use Rattle.publication.proofs.desk.Desk.win.Goals as goal
use Rattle.publication.proofs.desk.Desk.win.Goals.{After-client}

-- the client knows of the object
there : (g : Over) (c : After-client g) → c.args.object < length c.client.inside.seat.me.0.kinds
there g c = subst (λ z. c.args.object < length z)
    (sym (ap (λ k. k.desk.kinds) c.client.view_is ∙ ap (λ d. d.kinds) c.requires.desk)) c.requires.object

pub look_and_exchange-found-requires-clause-look : goal.look_and_exchange-found-requires-clause-look
look_and_exchange-found-requires-clause-look g c =
    look_at_lock_keeps_rule _ _ _ _ _ _ _ _ _ _ c.client.invariant.0.agrees.client_is

pub look_and_exchange-found-requires-clause-found : goal.look_and_exchange-found-requires-clause-found
look_and_exchange-found-requires-clause-found g c =
    let low = there g (goal.at.look_and_exchange-found-requires-clause-found g c).After-client in
    λ m told. (told low).0 refl

pub look_and_exchange-found-requires-clause-missed : goal.look_and_exchange-found-requires-clause-missed
look_and_exchange-found-requires-clause-missed g c =
    λ n m miss told below. ((λ hit. absurd (miss hit)), (told below).1)

pub look_and_exchange-found-requires-clause-exchange : goal.look_and_exchange-found-requires-clause-exchange
look_and_exchange-found-requires-clause-exchange g c =
    let desk = c.self.invariant in
    let client = c.client.invariant.0 in
    let inside : c.args.object < length c.self.inside.kinds.items = search rules in
    let inside' : c.args.object < length c.self.inside.table.shared.key.kinds.items =
    subst (λ (z : ℕ). c.args.object < z) (ap length (sym desk.0.2)) inside in
    let is : 1 + c.client.inside.number ≡ 1 + c.client.inside.seat.me.0.number =
    ap (λ (z : ℕ). 1 + z) (sym client.agrees.number_is) in
    win_keeps_rule _ _ _ _ _ _ _ _ _ _ _ client.agrees.client_is inside' is client.free client.agrees.going

pub invariant_of-result : goal.invariant_of-result
invariant_of-result g c =
    let low = there g (goal.at.invariant_of-result g c).After-client in
    let missed = (c.look_and_exchange-found.ensures.tried low).1 c.if-found-ne0.true in (
      client_after_miss _ c.client.invariant.0 missed,
      own_still _ _ _ _ (ap (λ m. m.0.lists) missed) c.client.invariant.1,
    )

pub exchange-requires : goal.exchange-requires
exchange-requires g c =
    let low = there g (goal.at.exchange-requires g c).After-client in
    let won = (c.look_and_exchange-found.ensures.tried low).0 (search rules) in
    (search rules, can_exchange _ _ _ _ (ap (λ m. m.1) won.2))

pub invariant_of-result-in-Core : goal.invariant_of-result-in-Core
invariant_of-result-in-Core g c =
    let low = there g (goal.at.invariant_of-result-in-Core g c).After-client in
    let won = (c.look_and_exchange-found.ensures.tried low).0 c.if-found-ne0.false in
    let emptied = c.exchange.ensures in
    let few = c.self.invariant.0.5 in
    let low : c.args.object < length c.self.inside.kinds.items = search rules in (
      pass_after_win _ _ _ _ _ _ _ _ _ c.client.invariant.0 won.2 emptied.3
          (same_core _ _ (sym c.in-Core.is ∙ came_out _ _ _ _ _ (ap (λ m. m.1) won.2) emptied.2)) won.3
          (omega arith),
      own_still _ _ _ _ (ap (λ m. m.0.lists) emptied.3 ∙ ap (λ m. m.0.lists) won.2)
          c.client.invariant.1,
    )

pub unreachable-requires : goal.unreachable-requires
unreachable-requires g c =
    let low = there g (goal.at.unreachable-requires g c).After-client in
    let won = (c.look_and_exchange-found.ensures.tried low).0 c.if-found-ne0.false in
    c.in_default.not-Core won.0 (came_out _ _ _ _ _ (ap (λ m. m.1) won.2) c.exchange.ensures.2)

pub returns-clause-won : goal.returns-clause-won
returns-clause-won g c =
    let low = there g (goal.at.returns-clause-won g c).After-client in
    let won = (c.look_and_exchange-found.ensures.tried low).0 c.if-found-ne0.false in
    let emptied = c.exchange.ensures in
    let same = same_core _ _ (sym c.in-Core.is ∙ came_out _ _ _ _ _ (ap (λ m. m.1) won.2) emptied.2) in
    win_gives g.S.SeqObject.content g.S.SeqObject.op_in g.S.SeqObject.reply_in c.args.client c.args.object won.0
    c.in-Core.core won.1
    c.client.inside.seat.me c.look_and_exchange-found.new.seat.me c.exchange.new.seat.me _ _
    (sym (ap (λ k. k.desk.kinds) c.client.view_is)) (sym (ap (λ k. k.knows) c.client.view_is)) won.2 emptied.3 same
    won.3 won.4
