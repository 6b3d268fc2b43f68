-- The levels of a vector, from the innermost out, are as many as the vector has, and a push adds one.
use Rattle.std.proofs.Common.{◌≡◌, ◌+◌, ℕ, zero, suc, List, [], ◌∷◌, ◌++◌, length, refl, ap, arith}
use Rattle.edn_reader.specs.declared.levels.Level.{Level}
use Rattle.edn_reader.specs.Shapes.{Shape, a_vector}
use Rattle.edn_reader.specs.Levels.{level_shape, levels_onto, vectors_in}

pub levels_push : (acc : List Shape) (ls : List Level) (l : Level)
    → levels_onto acc (ls ++ l ∷ []) ≡ level_shape l ∷ levels_onto acc ls
levels_push acc [] l = refl
levels_push acc (k ∷ ls) l = levels_push (level_shape k ∷ acc) ls l

pub length_levels_onto : (acc : List Shape) (ls : List Level) → length (levels_onto acc ls) ≡ length acc + length ls
length_levels_onto acc [] = omega arith
length_levels_onto acc (l ∷ ls) = omega (arith, length_levels_onto (level_shape l ∷ acc) ls)

pub length_levels : (ls : List Level) → length (levels_onto [] ls) ≡ length ls
length_levels ls = omega (arith, length_levels_onto [] ls)

-- vectors inside one more are one more vector
pub vectors_before : (n : ℕ) (fs : List Shape) → vectors_in n (a_vector ∷ fs) ≡ a_vector ∷ vectors_in n fs
vectors_before zero fs = refl
vectors_before (suc n) fs = ap (λ gs. a_vector ∷ gs) (vectors_before n fs)

pub length_vectors : (n : ℕ) (fs : List Shape) → length (vectors_in n fs) ≡ n + length fs
length_vectors zero fs = omega arith
length_vectors (suc n) fs = omega (arith, length_vectors n fs)
