use Rattle.std.proofs.Common.{◌+◌, refl, subst}
use Rattle.history.specs.Views.{Says}
use Rattle.history.proofs.PieceMore.{part_skip}
use Rattle.history.proofs.piece.ReadPiece.take.Goals as goal

pub returns-in-Ignored : goal.returns-in-Ignored
returns-in-Ignored c = λ ds d says h.
    let old = c.args.self.now in
    let s = subst (λ o. Says o d) c.in-Ignored.is says in
    part_skip old (record
    { seen = old.seen; firsts = old.firsts; objects = old.objects; maps = old.maps + 1; events = old.events }) ds
    d h s.0 s.1 refl
