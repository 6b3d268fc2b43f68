-- `put_back`: the row has its request again, and the pass knows that. `hand_with_request` gives what the store needs to
-- keep the rule of the row (`put_back_keeps_rule`), and `pass_after_put_back` that the pass stays sound.
use Rattle.std.proofs.Common.{rules, arith, refl, sym, ap, ◌∙◌}
use Rattle.desk_invariant.proofs.Rows.{put_back_keeps_rule}
use Rattle.publication.proofs.Dealing.{own_still, same_desk}
use Rattle.publication.proofs.Holds.{hand_with_request, pass_after_put_back}
use Rattle.publication.proofs.CallClauses.{is_put_back}
use Rattle.publication.proofs.client.Hand.put_back.Goals as goal

pub store-requires : goal.store-requires
store-requires g c =
    let hand = c.self.invariant.0 in
    let low = hand.row_low in
    let wide = c.desk.invariant.0.0 in
    let ready = hand_with_request _ _ _ _ _ _ _ _ hand c.exchange.ensures.3 in (
      search rules,
      omega arith,
      put_back_keeps_rule _ _ _ _ _ _ _ _ _ _ _ _ _ _ c.self.inside.request _ ready.0 ready.1 ready.2 refl hand.on refl,
    )

pub invariant_of-result : goal.invariant_of-result
invariant_of-result g c =
    let hand = c.self.invariant.0 in
    let ready = hand_with_request _ _ _ _ _ _ _ _ hand c.exchange.ensures.3 in
    let stored = c.store.ensures.2 _ _ _ _ ready.1 in (
      pass_after_put_back _ _ _ _ _ _ _ _ hand c.exchange.ensures.3 stored,
      own_still _ _ _ _ (ap (λ m. m.0.lists) stored ∙ ap (λ m. m.0.lists) c.exchange.ensures.3) c.self.invariant.1,
    )

pub returns-clause-put_back : goal.returns-clause-put_back
returns-clause-put_back g c = let h = c.self.invariant.0 in
    let r = hand_with_request _ _ _ _ _ _ _ _ h c.exchange.ensures.3 in
    is_put_back _ _ (sym c.self.view_is) c.exchange.ensures.3 (c.store.ensures.2 _ _ _ _ r.1)

pub returns-clause-desk : goal.returns-clause-desk
returns-clause-desk g c = let h = c.self.invariant.0 in
    let r = hand_with_request _ _ _ _ _ _ _ _ h c.exchange.ensures.3 in
    same_desk (c.store.ensures.0 ∙ c.exchange.ensures.0) refl
    (ap (λ m. m.0.kinds) (c.store.ensures.2 _ _ _ _ r.1) ∙ ap (λ m. m.0.kinds) c.exchange.ensures.3) refl
    (ap (λ k. k.desk) c.self.view_is)
