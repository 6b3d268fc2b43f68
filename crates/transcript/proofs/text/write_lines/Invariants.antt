use Rattle.std.proofs.Common.{◌≡◌, ℕ, List, ◌++◌, drop, take, All, false}
use Rattle.std.specs.Io.KnownBytes.{Appends}
use Rattle.edn_reader.specs.Text.{InProfile}
use Rattle.transcript.specs.Lines.{form_of}
use Rattle.transcript.specs.Segments.{lines_text}
use Rattle.transcript.proofs.text.write_lines.Given as goal

abbrev pub invariant-loop-line : goal.invariant-loop-line
invariant-loop-line g l = record {
  in_profile : All (λ m. InProfile (form_of m)) (take l.line-index l.lines);
  usable : g.S.Sink.broken l.sink ≡ false;
  done : List ℕ;
  parts : lines_text l.lines ≡ done ++ lines_text (drop l.line-index l.lines);
  sent : Appends (g.S.Sink.sent l.initial.sink) (g.S.Sink.sent l.sink) done;
}
