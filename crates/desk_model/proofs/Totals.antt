-- Sums over the clients' numbers: equal for equal terms, one more if one term is one more, at most n times a bound.
use Rattle.std.proofs.Common.{◌≡◌, ◌≢◌, ℕ, zero, suc, ◌+◌, ◌*◌, ◌<◌, ◌≤◌, refl, sym, ap, ◌∙◌, arith, suc-mul}
use mathlib.Core.Logic.{dite}
use native.Mathlib.Decide.{ℕ_discrete}
use Rattle.desk_model.specs.Sound.{total}

pub total_same : (f g : ℕ → ℕ) (n : ℕ) → ((c : ℕ) → c < n → f c ≡ g c) → total f n ≡ total g n
total_same f g zero h = refl
total_same f g (suc n) h = (λ i. h n (omega arith) i + total_same f g n (λ c l. h c (omega arith)) i)

-- one number is larger by one
pub total_one : (old new : ℕ → ℕ) (count client : ℕ) → client < count → new client ≡ old client + 1
    → ((d : ℕ) → d ≢ client → new d ≡ old d) → total new count ≡ total old count + 1
total_one old new zero client l e h = absurd (omega arith)
total_one old new (suc count) client l e h = dite (ℕ_discrete count client)
    (λ same.
    let rest = total_same new old count (λ d m. h d (λ z. omega arith)) in
    let here : new count ≡ old count + 1 = ap new same ∙ (e ∙ ap (λ z. old z + 1) (sym same)) in
    omega arith)
    (λ other.
    let rest = total_one old new count client (omega arith) e h in
    let there = h count other in
    omega arith)

-- a total of n numbers, each at most q, is at most n times q
pub total_le : (f : ℕ → ℕ) (count bound : ℕ) → ((c : ℕ) → c < count → f c ≤ bound) → total f count ≤ count * bound
total_le f zero bound h = omega arith
total_le f (suc count) bound h =
    let a = h count (omega arith) in
    let b = total_le f count bound (λ c l. h c (omega arith)) in
    let m : suc count * bound ≡ count * bound + bound = suc-mul count bound in
    omega arith
