use Rattle.std.proofs.Common.{◌≡◌, false}
use Rattle.shards.proofs.PiecesDivided.{IsDividedSoFar}
use Rattle.shards.proofs.split.split_by_pieces.Given as goal

abbrev pub invariant-loop : goal.invariant-loop
invariant-loop g l = record {
  so_far : IsDividedSoFar l.fn.shards l.divider l.pieces (g.F.Source.remaining l.fn.history)
      (g.F.Source.remaining l.history) (g.D.Folder.files l.fn.folder) (g.D.Folder.files l.folder);
  going : l.pieces.is_ended ≡ false;
  history : g.F.Source.broken l.history ≡ false;
  folder : g.D.Folder.broken l.folder ≡ false;
}
