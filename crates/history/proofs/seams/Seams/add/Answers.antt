-- `add`: what is given joins this piece to those before it. Its first events are allowed after theirs, its objects
-- have one kind with theirs, and the maps are not too many: `joined_more` needs no more than that.
use Rattle.std.proofs.Common.{◌+◌, ◌≤◌, refl, arith}
use Rattle.history.proofs.SeamLaws.{joined_more}
use Rattle.history.proofs.seams.Seams.add.Goals as goal

pub returns : goal.returns
returns c = λ ds es h p.
    let old = c.args.self in
    let read = c.args.read in
    let maps : read.maps ≤ 1000000 = c.if-maps-gt-MAX_MAPS.false in
    let few : read.maps + old.maps ≤ 1000000 = omega (arith, maps, c.if-before-maps.false) in
    joined_more old (record {
      seen = record
          { processes = c.keep_processes.new.processes; kinds = c.keep_kinds.new.kinds };
      events = c.in_ok-events.events;
      maps = old.maps + read.maps;
    }) read
    ds es h p
    (rw c.deref.ensures.value at (c.are_allowed.ensures c.if-not-are_allowed.false))
    (rw c.deref-2.ensures.value at (c.are_of_one_kind.ensures c.if-not-are_of_one_kind.false)) few
    (λ k i. c.in_ok-keep_processes.ensures k (rw c.deref-3.ensures.value i))
    (λ x i. c.in_ok-keep_kinds.ensures x (rw c.deref-4.ensures.value i))
    c.in_ok-events.ensures refl
