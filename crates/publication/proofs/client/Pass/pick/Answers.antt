-- `pick`: what is got is the request that the row had posted for this object, and else there was none. The look and
-- the exchange keep the rule of the row (`look_at_row_keeps_rule`, `pick_keeps_rule`), so the slot has a request.
use Rattle.std.proofs.Common.{◌+◌, rules, refl, sym, ap, ◌∙◌}
use Rattle.desk_invariant.proofs.Locks.{held_object}
use Rattle.desk_invariant.proofs.Rows.{look_at_row_keeps_rule, pick_keeps_rule}
use Rattle.publication.proofs.Dealing.{own_still, same_desk}
use Rattle.publication.proofs.Slots.{came_out, same_request, can_exchange}
use Rattle.publication.proofs.Holds.{pass_after_row_miss, hand_after_pick}
use Rattle.publication.proofs.CallClauses.{pick_gives, pick_misses}
use Rattle.publication.proofs.client.Pass.pick.Goals as goal

pub look_and_exchange-found-requires-clause-look : goal.look_and_exchange-found-requires-clause-look
look_and_exchange-found-requires-clause-look g c =
    let p = c.self.invariant.0 in
    look_at_row_keeps_rule _ _ _ _ _ _ _ _ _ _ _ _ p.agrees.client_is c.requires.row p.holds

pub look_and_exchange-found-requires-clause-exchange : goal.look_and_exchange-found-requires-clause-exchange
look_and_exchange-found-requires-clause-exchange g c =
    let p = c.self.invariant.0 in pick_keeps_rule _ _ _ _ _ _ _ _ _ _ _ _ p.agrees.client_is c.requires.row p.holds

pub look_and_exchange-found-requires-clause-found : goal.look_and_exchange-found-requires-clause-found
look_and_exchange-found-requires-clause-found g c = λ m told. (told _ c.args.row _ c.self.invariant.0.holds refl).0 refl

pub look_and_exchange-found-requires-clause-missed : goal.look_and_exchange-found-requires-clause-missed
look_and_exchange-found-requires-clause-missed g c = let held = c.self.invariant.0.holds in
    λ n m miss told x r l pass at.
    ((λ hit. absurd (miss (hit ∙ ap (λ z. 1 + z) (ap held_object (sym pass ∙ held))))), (told x r l pass at).1)

pub invariant_of-result : goal.invariant_of-result
invariant_of-result g c =
    let t = ((c.look_and_exchange-found.ensures.tried _ c.args.row _ c.self.invariant.0.holds refl).1
    (search rules)).0 in (
      pass_after_row_miss _ _ _ _ _ _ _ _ _ c.self.invariant.0 t,
      own_still _ _ _ _ (ap (λ m. m.0.lists) t) c.self.invariant.1,
    )

pub returns-then-found-posted-clause-missed : goal.returns-then-found-posted-clause-missed
returns-then-found-posted-clause-missed g c =
    let t = (c.look_and_exchange-found.ensures.tried _ c.args.row _ c.self.invariant.0.holds refl).1 (search rules) in
    pick_misses _ _ c.args.row (sym c.self.view_is) (ap (λ m. m.0) t.0) t.1

pub exchange-requires : goal.exchange-requires
exchange-requires g c =
    let t = (c.look_and_exchange-found.ensures.tried _ c.args.row _ c.self.invariant.0.holds refl).0 (search rules) in
    (search rules, can_exchange _ _ _ _ (ap (λ m. m.1) t.3))

pub invariant_of-result-in-Request : goal.invariant_of-result-in-Request
invariant_of-result-in-Request g c =
    let t = (c.look_and_exchange-found.ensures.tried _ c.args.row _ c.self.invariant.0.holds refl).0 (search rules) in (
      hand_after_pick _ _ _ _ _ _ _ _ _ c.self.invariant.0 t.3 c.exchange.ensures.3
          (same_request _ _ (sym (came_out _ _ _ _ _ (ap (λ m. m.1) t.3) c.exchange.ensures.2)
          ∙ c.in-Request.is)) t.1 t.2
          c.requires.row,
      own_still _ _ _ _ (ap (λ m. m.0.lists) c.exchange.ensures.3 ∙ ap (λ m. m.0.lists) t.3) c.self.invariant.1,
    )

pub unreachable-requires : goal.unreachable-requires
unreachable-requires g c =
    let t = (c.look_and_exchange-found.ensures.tried _ c.args.row _ c.self.invariant.0.holds refl).0 (search rules) in
    c.in_default.not-Request t.0 (came_out _ _ _ _ _ (ap (λ m. m.1) t.3) c.exchange.ensures.2)

pub returns-clause-got : goal.returns-clause-got
returns-clause-got g c =
    let t = (c.look_and_exchange-found.ensures.tried _ c.args.row _ c.self.invariant.0.holds refl).0 (search rules) in
    pick_gives g.S.SeqObject.op_in _ _ c.args.row (sym c.self.view_is) t.3 c.exchange.ensures.3
    (same_request _ _ (sym (came_out _ _ _ _ _ (ap (λ m. m.1) t.3) c.exchange.ensures.2) ∙ c.in-Request.is)) t.1
    t.2 t.4 t.5

pub returns-then-found-posted-clause-desk : goal.returns-then-found-posted-clause-desk
returns-then-found-posted-clause-desk g c =
    let t = (c.look_and_exchange-found.ensures.tried _ c.args.row _ c.self.invariant.0.holds refl).1 (search rules) in
    same_desk c.look_and_exchange-found.ensures.table.0 refl (ap (λ m. m.0.kinds) t.0) refl
    (ap (λ k. k.desk) c.self.view_is)

pub returns-clause-desk : goal.returns-clause-desk
returns-clause-desk g c =
    let t = (c.look_and_exchange-found.ensures.tried _ c.args.row _ c.self.invariant.0.holds refl).0 (search rules) in
    same_desk (c.exchange.ensures.0 ∙ c.look_and_exchange-found.ensures.table.0) refl
    (ap (λ m. m.0.kinds) c.exchange.ensures.3 ∙ ap (λ m. m.0.kinds) t.3) refl (ap (λ k. k.desk) c.self.view_is)
