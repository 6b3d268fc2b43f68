use Rattle.std.proofs.Common.{rules, arith, sym, subst, All}
use Rattle.std.proofs.lemmas.List.Elements.{All-push}
use Rattle.publication.specs.Making.{HasRoom}
use Rattle.publication.proofs.new_desk.journals.Goals as goal

pub loop-preserved : goal.loop-preserved
loop-preserved g c =
    let so_far = c.loop.invariant in
    let pushed = c.push_reserved.ensures in
    let n = pushed.len in
    let m = so_far.0 in
    let events = c.in_ok-events.ensures in
    let room = events.exact in (
      omega arith,
      search rules,
      subst (All (HasRoom c.args.quota)) (sym pushed.items)
          (All-push (HasRoom c.args.quota) c.loop.journals.items (record { events = c.in_ok-events.events }) so_far.2
          (events.items, omega arith)),
    )
