use Rattle.std.proofs.Common.{◌≡◌, [], ◌∷◌, ◌++◌, map, ap, ◌∙◌}
use Rattle.std.proofs.lemmas.List.{map-append}
use Rattle.history.specs.Pieces.{joined_by_feeds}
use Rattle.history.proofs.PieceMore.{pushed}
use Rattle.history.proofs.PiecesJoined.{piece_more}
use Rattle.history.proofs.pieces.pieces_of.Goals as goal

pub loop-more-preserved : goal.loop-more-preserved
loop-more-preserved c =
    let piece = c.in_ok-piece.piece in
    let later = c.in_ok-piece.later.now in
    let old = c.loop-more.pieces.items in
    let more : c.push.new.self.items ≡ old ++ piece ∷ [] =
    pushed c.push.result c.in_ok-ok.field-0 c.push.new.self.items
    (old ++ piece ∷ []) old c.in_ok-ok.ensures.value c.push.ensures.items in
    ap (λ ps. joined_by_feeds (map (λ p. p.now) ps ++ later ∷ [])) more
    ∙ (ap (λ ps. joined_by_feeds (ps ++ later ∷ [])) (map-append (λ p. p.now) old (piece ∷ []))
    ∙ piece_more (map (λ p. p.now) old) c.loop-more.rest.now piece.now later c.args.text.now c.in_ok-piece.ensures
    c.loop-more.invariant)
