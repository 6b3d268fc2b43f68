-- The text of a shard spells its maps: each map with a line feed after it, by the law that texts with a
-- line feed between them spell what both spell.
use Rattle.std.proofs.Common.{ℕ, Bool, inl, inr, List, [], ◌∷◌, filter, map, All, refl}
use Rattle.model.specs.Lists.{In}
use Rattle.model.proofs.Lists.{in_filter, in_filter_passes, all_at}
use Rattle.edn_reader.specs.Spells.{Spells}
use Rattle.edn_reader.proofs.Joined.{joined_spell, nothing_spelled}
use Rattle.shards.specs.Forms.{is_on}
use Rattle.shards.specs.ShardTexts.{IsSpelled, SpelledMap, map_lines}
use Rattle.shards.proofs.FewerForms.{client_on}
use Rattle.shards.proofs.RenamedForms.{own_forms_on}

-- lines spell the own forms of their maps
lines_spell : (ms : List SpelledMap) → ((m : SpelledMap) → In m ms → Spells (m.own ∷ []) m.text)
    → Spells (map (λ m. m.own) ms) (map_lines ms)
lines_spell [] h = nothing_spelled
lines_spell (m ∷ ms) h =
    joined_spell (m.own ∷ []) (map (λ x. x.own) ms) m.text (map_lines ms) (h m (inl refl))
    (lines_spell ms (λ x i. h x (inr i)))

pub shard_spells : (name : ℕ → ℕ) (has : ℕ → Bool) (ms : List SpelledMap) → All (IsSpelled name) ms
    → Spells (own_forms_on has ms) (map_lines (filter (λ m. is_on has m.form) ms))
shard_spells name has ms each =
    let test = λ (m : SpelledMap). is_on has m.form in
    lines_spell (filter test ms)
    (λ m i.
    let client = client_on has m.form (in_filter_passes test m ms i) in
    (all_at (IsSpelled name) ms each m (in_filter test m ms i) client.0 client.1).1)
