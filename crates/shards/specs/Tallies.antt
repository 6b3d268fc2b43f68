-- What is kept of how many maps each object has. No public clause names these.
use Rattle.std.specs.Prelude.{◌≡◌, ◌≢◌, ◌↔◌, ℕ, ◌+◌, ◌<◌, nat_eq, Contains, unwrap_or}
use Rattle.std.specs.List.{IsDistinct}
use Rattle.number_map.specs.Lookup.{value_of}
use Rattle.history.specs.Faults.{max_maps}
use Rattle.shards.specs.declared.tally.Tally.{Tally}

-- Each object has this many maps. The list has each object once that has more than a text may have.
pub record IsTally (t : Tally) (counts : ℕ → ℕ) : Type 0 where
  pub counted : (x : ℕ) → unwrap_or (value_of t.counts x) 0 ≡ counts x
  pub once : IsDistinct nat_eq t.large.items
  pub large : (x : ℕ) → (Contains t.large.items x ↔ (max_maps < counts x))

-- one more map on this object was counted
abbrev pub CountsOne : ℕ → Tally → Tally → Type 0
CountsOne x old new = (counts more : ℕ → ℕ) → IsTally old counts → more x ≡ counts x + 1
    → ((y : ℕ) → y ≢ x → more y ≡ counts y) → IsTally new more
