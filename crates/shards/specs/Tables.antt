-- Tables of numbers, and the events that they fit.
use Rattle.std.specs.Prelude.{◌≡◌, ℕ, ◌^◌, ◌<◌, List, length, All}
use Rattle.events.specs.declared.event.Event.{Event}
use Rattle.shards.specs.Dividing.{table_text, with_numbers}
use Rattle.shards.specs.Shards.{AreRenumbered}

-- numbers of 32 bits
abbrev pub AreShort : List ℕ → Type 0
AreShort ns = All (λ n. n < 2 ^ 32) ns

-- A table has these numbers, one for each event, in whose places the events find numbers that rise.
pub record FitsTable (ns table : List ℕ) (es : List Event) : Type 0 where
  pub written : table_text ns ≡ table
  pub short : AreShort ns
  pub one_each : length ns ≡ length es
  pub placed : All (λ e. e.number < length ns) es
  pub renumbered : AreRenumbered es (with_numbers ns es)
