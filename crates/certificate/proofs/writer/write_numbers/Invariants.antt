use Rattle.std.proofs.Common.{◌≡◌, ℕ, List, ◌++◌, take, drop, false, true}
use Rattle.std.specs.Io.KnownBytes.{Appends}
use Rattle.std.specs.List.{AllByRecursion}
use Rattle.edn_reader.specs.Text.{IsInt64}
use Rattle.certificate.specs.Lines.{numbers_text}
use Rattle.certificate.proofs.writer.write_numbers.Given as goal

abbrev pub invariant-loop-n : goal.invariant-loop-n
invariant-loop-n g l = record {
  usable : g.S.Sink.broken l.sink ≡ false;
  done : List ℕ;
  parts : numbers_text true l.numbers ≡ done ++ numbers_text l.first (drop l.n-index l.numbers);
  sent : Appends (g.S.Sink.sent l.initial.sink) (g.S.Sink.sent l.sink) done;
  in_range : AllByRecursion IsInt64 (take l.n-index l.numbers);
}
