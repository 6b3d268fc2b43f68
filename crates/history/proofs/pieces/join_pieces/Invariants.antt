use Rattle.std.proofs.Common.{ℕ, List}
use Rattle.history.specs.Pieces.{joined_by_feeds, AreReadFrom}
use Rattle.history.proofs.PiecesJoined.{IsJoinedTo}
use Rattle.history.proofs.pieces.join_pieces.Given as goal

abbrev pub invariant-loop-read : goal.invariant-loop-read
invariant-loop-read l = (pieces : List (List ℕ)) → AreReadFrom pieces l.initial.read-iterator.rest.items
    → IsJoinedTo (joined_by_feeds pieces) l.seams l.read-iterator.rest.items
