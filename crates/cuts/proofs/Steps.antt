-- The steps that are possible only after a test: an addition to a counter, and the release of a lock.
use Rattle.std.proofs.Common.{◌≡◌, ℤ, ◌+ℤ◌, Bool, true, false, cond, Some, None, IfSome, refl, ap}
use Rattle.std.specs.Ordering.{int_eq}
use Rattle.model.specs.declared.AnyOp.TheVariants.{FetchAdd, UnlockBy}
use Rattle.model.specs.declared.AnyReply.{AnyReply}
use Rattle.model.specs.declared.AnyReply.TheVariants.{Value}
use Rattle.model.specs.Objects.{Content, count, owner, stepped, is_i64, next}

-- what an addition to a counter does, for a fact about its result
pub adds : (P : Content × AnyReply → Type 0) (c n : ℤ)
    → (next (count c) (FetchAdd n) ≡ Some (count (c +ℤ n), Value (Some c)) → P (count (c +ℤ n), Value (Some c)))
    → IfSome (next (count c) (FetchAdd n)) P
adds P c n f = go (is_i64 (c +ℤ n)) refl
  where
    go : (t : Bool) → is_i64 (c +ℤ n) ≡ t → IfSome (stepped count (cond t (Some (c +ℤ n, Value (Some c))) None)) P
    go true e = f (ap (λ (t : Bool). stepped count (cond t (Some (c +ℤ n, Value (Some c))) None)) e)
    go false e = tt

-- what an unlock of a lock does, for a fact about its result
pub frees : (P : Content × AnyReply → Type 0) (p o : ℤ)
    → (next (owner (Some p)) (UnlockBy o) ≡ Some (owner None, Value None) → P (owner None, Value None))
    → IfSome (next (owner (Some p)) (UnlockBy o)) P
frees P p o f = go (int_eq p o) refl
  where
    go : (t : Bool) → int_eq p o ≡ t → IfSome (stepped owner (cond t (Some (None, Value None)) None)) P
    go true e = f (ap (λ (t : Bool). stepped owner (cond t (Some (None, Value None)) None)) e)
    go false e = tt
