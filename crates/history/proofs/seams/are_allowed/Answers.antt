use Rattle.std.proofs.Common.{get_or}
use Rattle.number_map.specs.Lookup.{value_of}
use Rattle.seq_objects.specs.declared.function.Function.TheVariants.{Enqueue}
use Rattle.history.specs.declared.client_map.MapType.TheVariants.{Invoke}
use Rattle.history.specs.declared.piece.FirstMap.{FirstMap}
use Rattle.history.specs.ReadPieces.{IsAllowed}
use Rattle.std.proofs.lemmas.List.{take_all}
use Rattle.std.proofs.lemmas.List.Elements.{All-more}
use Rattle.history.proofs.SeamLaws.{allowed_at}
use Rattle.history.proofs.seams.are_allowed.Goals as goal

pub loop-first-preserved : goal.loop-first-preserved
loop-first-preserved c =
    let none : FirstMap = record { map_type = Invoke; function = Enqueue; process = 0; object = 0 } in
    All-more (IsAllowed (value_of c.args.processes.now)) c.args.firsts.now c.loop-first.first-index none
    c.loop-first-test.true c.loop-first.invariant
    (allowed_at (value_of c.args.processes.now)
    (get_or c.args.firsts.now c.loop-first.first-index none) c.get-kept.result c.process_fault.result
    c.get-kept.ensures c.if-is_some.ensures c.process_fault.ensures)

pub returns : goal.returns
returns c = λ _.
    rw (take_all c.loop-first.first-index c.args.firsts.now c.loop-first-test.false) at c.loop-first.invariant
