use Rattle.std.proofs.Common.{◌≡◌, ◌++◌, drop}
use Rattle.shards.specs.Dividing.{table_text}
use Rattle.shards.proofs.numbering.table_of.Given as goal

-- the lines so far, and those that are left
abbrev pub invariant-loop-number : goal.invariant-loop-number
invariant-loop-number l = l.table.items ++ table_text (drop l.number-index l.numbers) ≡ table_text l.numbers
