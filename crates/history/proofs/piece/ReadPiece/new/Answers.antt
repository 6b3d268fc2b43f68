use Rattle.std.proofs.Common.{refl}
use Rattle.history.proofs.PieceMore.{no_maps}
use Rattle.history.proofs.piece.ReadPiece.new.Goals as goal

pub returns : goal.returns
returns c = no_maps (record
    { seen = c.new.result; firsts = c.new-2.result; objects = c.new-3.result; maps = 0; events = c.new-4.result })
    c.new.ensures refl c.new-4.ensures.items
