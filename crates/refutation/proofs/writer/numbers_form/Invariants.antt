use Rattle.std.proofs.Common.{◌≡◌, ◌≤◌, ◌++◌, ℕ, map}
use Rattle.std.specs.List.{AllByRecursion}
use Rattle.edn_reader.specs.View.{views}
use Rattle.refutation.specs.Denotes.{max_number}
use Rattle.refutation.specs.Lines.{number_datum}
use Rattle.refutation.proofs.writer.numbers_form.Given as goal

abbrev pub invariant-loop-n : goal.invariant-loop-n
invariant-loop-n l = record {
  parts : map number_datum l.numbers.keys ≡ views l.forms.items ++ map number_datum l.n-iterator;
  in_range : AllByRecursion (λ (n : ℕ). n ≤ max_number) l.n-iterator
      → AllByRecursion (λ (n : ℕ). n ≤ max_number) l.numbers.keys;
}
