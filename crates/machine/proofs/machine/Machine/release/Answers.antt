-- `release`: the step is taken, or it is impossible and nothing has changed. The client holds one object alone, so
-- if its hand is not free the step is impossible; else `release_done` gives the next state.
use Rattle.std.proofs.Common.{◌≡◌, true, false, refl}
use Rattle.machine.proofs.Rows.{release_done}
use Rattle.machine.proofs.machine.Machine.release.Goals as goal

pub returns-then-not-is_hand_free : goal.returns-then-not-is_hand_free
returns-then-not-is_hand_free g c = (
  refl,
  λ after h.
      let e : false ≡ true = c.if-not-is_hand_free.ensures.1
      (rw (← c.in-Some.ensures.only h.3.object h.3.held) h.3.free) in
      absurd (cc),
)

pub invariant_of-self : goal.invariant_of-self
invariant_of-self g c =
    (release_done _ _ _ c.self.inside c.self.invariant c.self.view_is c.args.client c.in-Some.object c.requires
    c.in-Some.ensures.held (c.if-not-is_hand_free.ensures.0 refl)).0

pub returns : goal.returns
returns g c = (
  (release_done _ _ _ c.self.inside c.self.invariant c.self.view_is c.args.client c.in-Some.object c.requires
      c.in-Some.ensures.held (c.if-not-is_hand_free.ensures.0 refl)).1,
  tt,
)
