use Rattle.std.proofs.Common.{◌≡◌, ℕ, List, ◌++◌, drop, false}
use Rattle.std.specs.Io.KnownBytes.{Appends}
use Rattle.history_commands.specs.Comments.{comment_lines}
use Rattle.history_commands.proofs.comments.write_comments.Given as goal

abbrev pub invariant-loop-certificate : goal.invariant-loop-certificate
invariant-loop-certificate g l = record {
  usable : g.S.Sink.broken l.sink ≡ false;
  done : List ℕ;
  parts : comment_lines l.certificates ≡ done ++ comment_lines (drop l.certificate-index l.certificates);
  sent : Appends (g.S.Sink.sent l.initial.sink) (g.S.Sink.sent l.sink) done;
}
