use Rattle.std.proofs.Common.{◌≡◌, ◌<◌, ◌-◌, false, length}
use Rattle.shards.proofs.ReadingOn.{IsMore}
use Rattle.shards.proofs.pieces.Pieces.read.Given as goal

abbrev pub invariant-loop-self : goal.invariant-loop-self
invariant-loop-self g l = record {
  more : IsMore (g.F.Source.remaining l.fn.source) (g.F.Source.remaining l.source) l.fn.self.text.items
      l.self.text.items;
  start : l.self.start ≡ l.fn.self.start;
  wanted : l.self.wanted ≡ l.fn.self.wanted;
  going : l.self.is_ended ≡ false;
  usable : g.F.Source.broken l.source ≡ false;
  room : 0 < l.buffer.len;
}

abbrev pub decreases-loop-self : goal.decreases-loop-self
decreases-loop-self g l = l.fn.self.wanted - length l.self.text.items
