-- `pick`: the step is taken, or is impossible and nothing has changed. The client holds one object alone, so a hand
-- that is not free, or a row that has nothing for it, shows that the step is impossible.
use Rattle.std.proofs.Common.{◌≡◌, true, false, refl, ◌∙◌}
use Rattle.machine.proofs.Rows.{pick_done}
use Rattle.machine.proofs.machine.Machine.pick.Goals as goal

pub returns-then-not-is_hand_free : goal.returns-then-not-is_hand_free
returns-then-not-is_hand_free g c = (
  refl,
  λ after h.
      let e : false ≡ true = c.if-not-is_hand_free.ensures.1
      (rw (← c.in-Some.ensures.only h.3.object h.3.held) h.3.free) in
      absurd (cc),
)

pub returns-in_default-posted_at : goal.returns-in_default-posted_at
returns-in_default-posted_at g c = (
  refl,
  λ after h. c.in_default-posted_at.ensures.none h.3.request h.3.was
      (h.3.for_object ∙ c.in-Some.ensures.only h.3.object h.3.held),
)

pub invariant_of-self : goal.invariant_of-self
invariant_of-self g c =
    (pick_done _ _ _ c.self.inside c.self.invariant c.self.view_is c.args.client c.in-Some.object c.args.row
    c.in-Some-posted_at.request c.requires c.in-Some.ensures.held (c.if-not-is_hand_free.ensures.0 refl)
    c.in-Some-posted_at.ensures.found).0

pub returns : goal.returns
returns g c = (
  (pick_done _ _ _ c.self.inside c.self.invariant c.self.view_is c.args.client c.in-Some.object c.args.row
      c.in-Some-posted_at.request c.requires c.in-Some.ensures.held (c.if-not-is_hand_free.ensures.0 refl)
      c.in-Some-posted_at.ensures.found).1,
  tt,
)
