-- `take`: the maps of the piece are taken in turn, or the fault is that of the piece. The loop keeps that the maps
-- so far are taken (`AreTakenUpTo`), so a fault of the next one is the first of the piece (`piece_fault`).
use Rattle.std.proofs.Common.{List, sym, subst}
use Rattle.history.specs.MapTexts.{AreMapTexts}
use Rattle.history.specs.declared.map_texts.MapText.{MapText}
use Rattle.shards.proofs.TakingMaps.{all_taken, map_taken, none_taken, piece_fault}
use Rattle.shards.proofs.divider.Divider.take.Goals as goal

pub loop-map-init : goal.loop-map-init
loop-map-init c = λ count maps written ds h taken. none_taken ds count c.args.self.now maps written taken

pub loop-map-preserved : goal.loop-map-preserved
loop-map-preserved c = λ count maps written ds h taken.
    let l = c.loop-map in
    let items = c.deref-map-items.result.now in
    map_taken items ds l.map-index _ h c.loop-map-test.true count l.self c.take_map.new.self maps written
    c.skip.result.now c.skip.ensures (λ more d. c.in-Ok-take_map.ensures.taken count more written d)
    (l.invariant count maps written ds h taken)

pub returns-in-Err-take_map-clause-fault : goal.returns-in-Err-take_map-clause-fault
returns-in-Err-take_map-clause-fault c = λ count maps written taken.
    let l = c.loop-map in
    let items = c.deref-map-items.result.now in
    let of = c.in-Ok.ensures.maps in
    let h = subst (λ (ms : List MapText). AreMapTexts ms of.0) (sym c.deref-map-items.ensures.value) of.2 in
    piece_fault items of.0 l.map-index _ h c.loop-map-test.true count l.self maps written c.args.piece.now
    c.in-Err-take_map.fault of.1 (l.invariant count maps written of.0 h taken)
    (λ more e. c.in-Err-take_map.ensures.fault count more written e)

pub returns-clause-taken : goal.returns-clause-taken
returns-clause-taken c = λ count maps written taken.
    let l = c.loop-map in
    let items = c.deref-map-items.result.now in
    let of = c.in-Ok.ensures.maps in
    let h = subst (λ (ms : List MapText). AreMapTexts ms of.0) (sym c.deref-map-items.ensures.value) of.2 in
    all_taken count l.self maps written c.args.piece.now items of.0 l.map-index h of.1 c.loop-map-test.false
    (l.invariant count maps written of.0 h taken)
