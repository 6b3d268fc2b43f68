-- Where objects are divided by their numbers among some shards, no shard past the last has a map. The remainder of a
-- number is less than the divisor, so each map is filtered out.
use Rattle.std.proofs.Common.{◌≡◌, ℕ, ◌+◌, ◌/◌, ◌%◌, ◌<◌, ◌≤◌, ◌==◌, Bool, false, List, [], ◌∷◌, filter, refl, arith}
use Rattle.std.proofs.lemmas.Bool.{ne_eqb}
use Rattle.std.proofs.lemmas.Nat.{mod_below}
use Rattle.shards.specs.Forms.{is_on}
use Rattle.shards.specs.ShardTexts.{SpelledMap}
use Rattle.shards.specs.Dividing.{Files, IsDivided, most_names, name_in_shard, shard_among}

module _ (count : ℕ) (some : 0 < count) (s : ℕ) (past : count ≤ s) where
  other_shard : (x : ℕ) → (shard_among count x == s) ≡ false
  other_shard x = ne_eqb (shard_among count x) s
      (λ e.
      let below : shard_among count x < count = mod_below (x / most_names + x % most_names) count some in
      omega (arith, below, past, e))

  abbrev own : ℕ → Bool
  own x = shard_among count x == s

  none_of : (ms : List SpelledMap) → filter (λ m. is_on own m.form) ms ≡ []
  none_of [] = refl
  none_of (m ∷ ms) = grind (arith, none_of ms, other_shard)

  -- a shard past the last has no text
  pub empty_past : (whole : List ℕ) (files : Files)
      → IsDivided (shard_among count) name_in_shard whole files → files.texts s ≡ []
  empty_past whole files h = rw (h.split.texts s, none_of h.split.maps)
