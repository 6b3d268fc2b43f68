-- A text that says how many maps each shard has is the table of its numbers, with the number of the shards first.
use Rattle.std.proofs.Common.{◌≡◌, ℕ, ◌^◌, ◌<◌, List, ◌∷◌, length}
use Rattle.std.proofs.lemmas.List.Elements.{All-cons}
use Rattle.shards.specs.Dividing.{counts_text, table_text}
use Rattle.shards.specs.Tables.{AreShort}

-- what holds of the numbers of a table holds of the number of the shards and these
pub of_counts : (X : List ℕ → Type 0) (text : List ℕ)
    → ((ns : List ℕ) → AreShort ns → table_text ns ≡ text → X ns) → (counts : List ℕ) → AreShort counts
    → length counts < 2 ^ 32 → counts_text counts ≡ text → X (length counts ∷ counts)
of_counts X text each counts small few is =
    each (length counts ∷ counts) (All-cons (λ n. n < 2 ^ 32) (length counts) counts few small) is
