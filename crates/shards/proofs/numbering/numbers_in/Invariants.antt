use Rattle.std.proofs.Common.{◌≡◌, ℕ, List, drop}
use Rattle.shards.specs.Dividing.{table_text}
use Rattle.shards.specs.Tables.{AreShort}
use Rattle.shards.proofs.ReadTables.{IsReadTo}
use Rattle.shards.proofs.numbering.numbers_in.Given as goal

abbrev pub invariant-loop-byte : goal.invariant-loop-byte
invariant-loop-byte l = (ns : List ℕ) → AreShort ns → table_text ns ≡ l.table
    → IsReadTo ns l.numbers.items l.number (drop l.byte-index l.table)
