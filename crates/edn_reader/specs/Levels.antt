-- What is open, as the code keeps it. No public clause speaks of it.
use Rattle.std.specs.Prelude.{ℕ, zero, suc, List, [], ◌∷◌}
use Rattle.edn_reader.specs.Shapes.{Shape, whole_text, a_vector, a_map, Shapes, name_views}
use Rattle.edn_reader.specs.declared.levels.Level.{Level}
use Rattle.edn_reader.specs.declared.levels.Level.TheVariants.{Text, Vector, Map}
use Rattle.edn_reader.specs.declared.levels.Keys.{Keys}
use Rattle.edn_reader.specs.declared.levels.Levels.{Levels}

abbrev pub keys_shape : Keys → Shape
keys_shape k = a_map k.waits (name_views k.names.items)

abbrev pub level_shape : Level → Shape
level_shape Text = whole_text
level_shape Vector = a_vector
level_shape (Map k) = keys_shape k

-- the shapes from the last to the first, on top of others
abbrev pub levels_onto : List Shape → List Level → List Shape
levels_onto acc [] = acc
levels_onto acc (l ∷ ls) = levels_onto (level_shape l ∷ acc) ls

-- this many vectors, inside others
abbrev pub vectors_in : ℕ → List Shape → List Shape
vectors_in zero fs = fs
vectors_in (suc n) fs = a_vector ∷ vectors_in n fs

abbrev pub levels_shapes : Levels → Shapes
levels_shapes l =
    record {
      inner = level_shape l.inner;
      outer = vectors_in l.vectors (levels_onto [] l.outer.items);
    }

-- a level inside what is open
abbrev pub within : Shape → Shapes → Shapes
within f s = record { inner = f; outer = s.inner ∷ s.outer }
