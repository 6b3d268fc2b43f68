-- `merge_all`: the shards are read in their order and merged. Each shard before the one at hand was read as the
-- folder holds it; each turn adds one.
use Rattle.std.proofs.Common.{◌+◌, ◌++◌, ◌∷◌, ◌∙◌, [], ap, arith, length, refl, sym}
use Rattle.std.specs.Prelude.{slice_index}
use Rattle.std.proofs.lemmas.List.{length-append}
use Rattle.history_commands.specs.Merged.{Shard}
use Rattle.file_commands.specs.Sharded.{IsReadAs}
use Rattle.file_commands.proofs.Merges.{none_read, read_more}
use Rattle.file_commands.proofs.folders.merge_all.Goals as goal

pub loop-shard-init : goal.loop-shard-init
loop-shard-init g c = (
  [],
  refl,
  none_read (IsReadAs (g.F.ShardFiles.holds c.args.files.now) c.args.counts.now c.args.steps),
  c.new-merging.ensures,
)

pub loop-shard-preserved : goal.loop-shard-preserved
loop-shard-preserved g c =
    let holds = g.F.ShardFiles.holds c.args.files.now in
    let i = c.loop-shard.invariant in
    let maps = c.deref in
    let places = c.deref-in-loop-shard in
    let evidence = c.deref-in-loop-shard-2 in
    let s : Shard = record {
      number = c.loop-shard.shard;
      count = c.args.shards;
      maps = slice_index c.args.counts.now c.from.result;
      text = maps.result.now;
      table = places.result.now;
      evidence = evidence.result.now;
      limit = c.args.steps;
    } in
    let held : holds (length i.0) s.text s.table s.evidence =
    rw (i.1, maps.ensures.value, places.ensures.value, evidence.ensures.value) c.in-Ok.ensures in (
      i.0 ++ s ∷ [],
      length-append i.0 (s ∷ []) ∙ ap (λ n. n + 1) i.1,
      read_more (IsReadAs holds c.args.counts.now c.args.steps) i.0 s i.2
          (sym i.1, sym c.requires.one_each, ap (slice_index c.args.counts.now) (c.from.ensures ∙ sym i.1), refl, held),
      c.in-Ok-take.ensures i.0 i.3,
    )

pub returns : goal.returns
returns g c =
    let i = c.loop-shard.invariant in
    (i.0, omega (arith, i.1, c.loop-shard-test.false, c.loop-shard.auto.shard-end), i.2, i.3)
