use Rattle.std.proofs.Common.{sym, arith}
use Rattle.std.proofs.lemmas.Bool.{eqb-true}
use Rattle.history.proofs.PartEvents.{nothing_before}
use Rattle.history.proofs.seams.join_events.Goals as goal

pub returns-then-is_empty : goal.returns-then-is_empty
returns-then-is_empty c =
    let empty = eqb-true c.args.events.len 0 (sym c.if-is_empty.ensures) in
    nothing_before c.args.earlier c.args.events.items c.args.more.items c.if-earlier-eq0.true
    (let ok = c.args.events.ok in omega (arith, ok, empty))
