-- Numbers that are shared out: each has one list that holds it.
use Rattle.std.proofs.Common.{◌≡◌, ℕ, ◌<◌, List, Contains}
use mathlib.Core.Logic.{dite}
use native.Mathlib.Decide.{dec_lt}
use Rattle.model.specs.Lists.{In}
use Rattle.model.proofs.Lists.{all_at, contains_from_in}
use Rattle.desk_model.specs.Sound.{ShareOut}

module _ {count : ℕ} {lists : ℕ → List ℕ} (share : ShareOut count lists) where
  -- the list that holds a number, or the first where none does
  pub has_owner : (t : ℕ) → (c : ℕ) × (t < count → Contains (lists c) t)
  has_owner t = dite (dec_lt t count)
      (λ l. let (c, has) = share.each t l in (c, λ _. has))
      (λ n. (0, λ l. absurd (n l)))

  -- the client that drew this ticket
  abbrev pub owner : ℕ → ℕ
  owner t = (has_owner t).0

  -- a ticket in the list of a client was drawn, and by this client
  pub drawn_by : (c t : ℕ) → In t (lists c) → (t < count) × (owner t ≡ c)
  drawn_by c t i =
      let below : t < count = all_at (λ t. t < count) (lists c) (share.below c) t i in
      (below, share.apart (owner t) c t ((has_owner t).1 below) (contains_from_in (lists c) t i))
