use Rattle.std.proofs.Common.{[]}
use Rattle.history.proofs.pieces.read_piece.Goals as goal

pub returns : goal.returns
returns c = c.in_ok-read_lines.ensures [] c.new-read.ensures
