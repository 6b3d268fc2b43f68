use Rattle.std.proofs.Common.{◌+◌, map, drop, ap, subst}
use Rattle.number_map.specs.Lookup.{value_of}
use Rattle.history.proofs.SeamLaws.{IsTakenOver, taken_first, taken_more}
use Rattle.std.proofs.lemmas.List.{drop_more}
use Rattle.history.proofs.seams.keep_processes.Goals as goal

pub loop-first-init : goal.loop-first-init
loop-first-init c = λ p h. taken_first (value_of c.args.processes.now) (value_of c.args.own.now)
    (map (λ m. m.process) c.args.firsts.now) p h

pub loop-first-preserved : goal.loop-first-preserved
loop-first-preserved c = λ p h.
    let i = c.loop-first.first-index in
    taken_more (value_of c.args.processes.now) (value_of c.args.own.now) (value_of c.loop-first.processes)
    (value_of c.take_over.new.values) _
    (map (λ m. m.process) (drop (i + 1) c.args.firsts.now)) p c.in_ok-take_over.ensures
    (subst (λ ks. IsTakenOver (value_of c.args.processes.now) (value_of c.args.own.now)
    (value_of c.loop-first.processes) ks p)
    (ap (map (λ m. m.process)) (drop_more c.args.firsts.now i _ c.loop-first-test.true)) (c.loop-first.invariant p h))
