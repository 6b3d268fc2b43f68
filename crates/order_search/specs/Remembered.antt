-- The pairs that a search remembers as dead.
use Rattle.std.specs.Prelude.{◌≡◌, ℕ, ◌<◌, ◌⊎◌, List, [], ◌∷◌, ◌++◌, Option, Some, None, length}
use Rattle.std.specs.List.{HoldsAt}
use Rattle.model.specs.Objects.{Content}
use Rattle.order_search.specs.Undoing.{content_kept}
use Rattle.order_search.specs.declared.pairs.Pair.{Pair}
use Rattle.order_search.specs.declared.dead.Dead.{Dead}
use Rattle.order_search.specs.Links.{LeadsThrough}

-- among the pairs is that of this content and of the places below `high` that are not in the list
abbrev pub HasPair : List Pair → List ℕ → ℕ → Content → Type 0
HasPair pairs next high c =
    (k : ℕ) × (k < length pairs)
    × HoldsAt (λ p. (p.high ≡ high) × LeadsThrough next 0 p.not_done.items high
    × (content_kept p.content ≡ c)) pairs k

-- the younger pairs have become the older ones
pub record IsOneOlder (before after : Dead) : Type 0 where
  pub older : after.older.pairs.items ≡ before.younger.pairs.items
  pub younger : after.younger.pairs.items ≡ []

-- all pairs are still remembered, or all but the older ones
abbrev pub AreDeadKept : Dead → Dead → Type 0
AreDeadKept before after = (after ≡ before) ⊎ IsOneOlder before after

-- a pair is remembered besides those of `kept`, if none or the older ones were forgotten
pub record IsRemembered (before : Dead) (pair : Pair) (after : Dead) : Type 0 where
  pub kept : Dead
  pub is_kept : AreDeadKept before kept
  pub older : after.older.pairs.items ≡ kept.older.pairs.items
  pub younger : after.younger.pairs.items ≡ kept.younger.pairs.items ++ pair ∷ []

-- a pair is remembered, if there is one
abbrev pub IsRememberedIfSome : Dead → Option Pair → Dead → Type 0
IsRememberedIfSome before (Some pair) after = IsRemembered before pair after
IsRememberedIfSome before None after = after ≡ before
