use Rattle.std.proofs.Common.{◌≡◌, ◌≤◌, length}
use Rattle.edn_reader.specs.Reading.{skip_comment}
use Rattle.edn_reader.proofs.lexer.after_comment.Given as goal

abbrev pub invariant-bytes : goal.invariant-bytes
invariant-bytes l = (skip_comment l.rest ≡ skip_comment l.text) × (length l.rest ≤ length l.text)

abbrev pub decreases-bytes : goal.decreases-bytes
decreases-bytes l = length l.rest
