-- `flush`: what waits of each shard is given to the folder, and the maps taken stay taken. The shards before the
-- one at hand were flushed; if the least number of bytes is 0, they have nothing that waits.
use Rattle.std.proofs.Common.{◌<◌, [], length, refl, arith}
use Rattle.shards.proofs.Flushing.{flushed_more, none_flushed}
use Rattle.shards.proofs.WaitingLines.{none_more}
use Rattle.shards.proofs.divider.Divider.flush.Goals as goal

pub loop-shard-init : goal.loop-shard-init
loop-shard-init g c = record {
  taken = λ count maps written h.
      none_flushed count c.args.self.now maps written (g.D.Folder.files c.args.folder.now) h;
  usable = c.requires;
  shards = refl;
  maps = λ q s l. absurd (omega arith);
  places = λ q s l. absurd (omega arith);
}

pub loop-shard-preserved : goal.loop-shard-preserved
loop-shard-preserved g c =
    let l = c.loop-shard in
    let ws = l.self.waiting.items in
    let v = c.flush.new.self in
    let within : l.shard < length ws =
    omega (arith, l.self.each, l.self.waiting.ok.0, l.invariant.shards, c.loop-shard-test.true) in
    let done = c.in_ok-flush.ensures in
    record {
      taken = λ count maps written h. flushed_more count l.self _ maps within c.index_mut.ensures.value refl refl refl
          refl done.flushes written (g.D.Folder.files c.args.folder.now) (l.invariant.taken count maps written h);
      usable = done.usable;
      shards = l.invariant.shards;
      maps = λ q. none_more (λ w. w.maps.items) [] ws l.shard v within (done.none_wait q).0 (l.invariant.maps q);
      places = λ q. none_more (λ w. w.places.items) [] ws l.shard v within (done.none_wait q).1 (l.invariant.places q);
    }
