-- `put_back`: the request in hand is in its row again, or the step is not possible, as the object can do the
-- operation (`put_back_not`). What is written is what the transition makes (`put_back_done`).
use Rattle.std.proofs.Common.{◌≡◌, true, false, refl}
use Rattle.machine.proofs.Hands.{put_back_not}
use Rattle.machine.proofs.Rows.{put_back_done}
use Rattle.machine.proofs.machine.Machine.put_back.Goals as goal

pub returns-in_default : goal.returns-in_default
returns-in_default g c = (refl, λ after h. c.in_default.ensures.none h.3.object h.3.row h.3.in_hand.0 h.3.in_hand.1)

pub returns-then-is_possible : goal.returns-then-is_possible
returns-then-is_possible g c = (
  refl,
  put_back_not c.args.self.now c.args.client c.in-Some.object c.in-Some.row _ c.in-Some.ensures.found
      (c.if-is_possible.ensures.possible.0 refl),
)

pub invariant_of-self : goal.invariant_of-self
invariant_of-self g c =
    (put_back_done _ _ _ c.self.inside c.self.invariant c.self.view_is c.args.client c.in-Some.request c.requires
    c.in-Some.ensures.found c.if-is_possible.ensures.content
    (λ can. let e : false ≡ true = c.if-is_possible.ensures.possible.1 can in absurd (cc))).0

pub returns : goal.returns
returns g c = (
  (put_back_done _ _ _ c.self.inside c.self.invariant c.self.view_is c.args.client c.in-Some.request c.requires
      c.in-Some.ensures.found c.if-is_possible.ensures.content
      (λ can. let e : false ≡ true = c.if-is_possible.ensures.possible.1 can in absurd (cc))).1,
  tt,
)
