use Rattle.std.proofs.Common.{◌≡◌, [], ◌∷◌, ◌++◌, map}
use Rattle.history.specs.Pieces.{joined_by_feeds}
use Rattle.history.proofs.pieces.pieces_of.Given as goal

abbrev pub invariant-loop-more : goal.invariant-loop-more
invariant-loop-more l = joined_by_feeds (map (λ p. p.now) l.pieces.items ++ l.rest ∷ []) ≡ l.fn.text
