use Rattle.std.proofs.Common.{◌<◌, length, None, IfSome, ◌∙◌, sym, subst, arith}
use Rattle.std.proofs.lemmas.List.{get_or_default}
use Rattle.machine.specs.Machines.{State, clients_of}
use Rattle.machine.specs.Steps.{HasPicked}
use Rattle.machine.proofs.Looks.{if_picked}
use Rattle.machine.proofs.machine.Machine.hand_of.Goals as goal

pub returns-clause-picked : goal.returns-clause-picked
returns-clause-picked g c =
    let hands = c.self.inside.hands.items in
    let there = subst (λ (s : State). c.args.object < length s.kinds) (sym c.self.view_is) c.requires in
    let long = c.self.invariant.hands in
    let low : c.args.object < length hands = omega arith in
    subst (λ (s : State). IfSome c.index.result.now (λ r. (r < clients_of s) × HasPicked s c.args.object r))
    c.self.view_is
    (if_picked c.self.invariant c.args.object c.index.result.now
    (get_or_default hands c.args.object None c.index.result.now low ∙ sym c.index.ensures))
