-- The items of each vector of a list, at one place.
use Rattle.std.proofs.Common.{◌≡◌, ℕ, zero, suc, ◌<◌, List, [], ◌∷◌, length, map, get_or, sym, ap, arith}
use Rattle.std.specs.declared.vec.Vec.{Vec}

pub at_items : {A Z : Type 0} (vs : List (Vec A Z)) (i : ℕ) (v : Vec A Z) → i < length (map (λ v. v.items) vs)
    → v ≡ get_or vs i v → get_or (map (λ v. v.items) vs) i [] ≡ v.items
at_items [] i v low is = absurd (omega arith)
at_items (w ∷ vs) zero v low is = ap (λ z. z.items) (sym is)
at_items (w ∷ vs) (suc i) v low is = at_items vs i v (omega arith) is
