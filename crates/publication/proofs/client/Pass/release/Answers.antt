-- `release`: the object is back in its slot, and the client has seen the log. The core was put back by the
-- exchange, so the release keeps the rules of the desk (`pass_with_core`).
use Rattle.std.proofs.Common.{refl, rules, arith, sym, ap, ◌∙◌}
use Rattle.desk_invariant.proofs.Locks.{release_keeps_rule}
use Rattle.publication.proofs.Dealing.{own_still, same_desk}
use Rattle.publication.proofs.Holds.{pass_with_core, client_after_release}
use Rattle.publication.proofs.CallClauses.{is_released, log_is_seen}
use Rattle.publication.proofs.client.Pass.release.Goals as goal

pub store-requires : goal.store-requires
store-requires g c =
    let pass = c.self.invariant.0 in
    let low = pass.low in
    let wide = c.desk.invariant.0.0 in
    let ready = pass_with_core _ _ _ _ _ _ _ _ pass c.exchange.ensures.3 in (
      search rules,
      omega arith,
      release_keeps_rule _ _ _ _ _ _ _ _ _ _ _ _ _ ready.0 ready.1 ready.2 ready.3 ready.4,
    )

pub invariant_of-result : goal.invariant_of-result
invariant_of-result g c =
    let pass = c.self.invariant.0 in
    let ready = pass_with_core _ _ _ _ _ _ _ _ pass c.exchange.ensures.3 in
    let stored = c.store.ensures.2 _ ready.1 in (
      client_after_release _ _ _ _ _ _ _ _ pass c.exchange.ensures.3 stored.0 stored.1,
      own_still _ _ _ _ (ap (λ m. m.0.lists) stored.0 ∙ ap (λ m. m.0.lists) c.exchange.ensures.3) c.self.invariant.1,
    )

pub returns-clause-released : goal.returns-clause-released
returns-clause-released g c =
    let pass = c.self.invariant.0 in
    let ready = pass_with_core _ _ _ _ _ _ _ _ pass c.exchange.ensures.3 in
    let stored = c.store.ensures.2 _ ready.1 in
    is_released (sym c.self.view_is) c.exchange.ensures.3 stored.0

pub returns-clause-seen : goal.returns-clause-seen
returns-clause-seen g c =
    let pass = c.self.invariant.0 in
    let ready = pass_with_core _ _ _ _ _ _ _ _ pass c.exchange.ensures.3 in
    let stored = c.store.ensures.2 _ ready.1 in
    log_is_seen (sym c.self.view_is) c.exchange.ensures.3 stored.0 pass.low pass.agrees.wide

pub returns-clause-desk : goal.returns-clause-desk
returns-clause-desk g c =
    let pass = c.self.invariant.0 in
    let ready = pass_with_core _ _ _ _ _ _ _ _ pass c.exchange.ensures.3 in
    let stored = c.store.ensures.2 _ ready.1 in
    same_desk (c.store.ensures.0 ∙ c.exchange.ensures.0) refl
    (ap (λ m. m.0.kinds) stored.0 ∙ ap (λ m. m.0.kinds) c.exchange.ensures.3) refl (ap (λ k. k.desk) c.self.view_is)
