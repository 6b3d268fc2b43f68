-- The datum of a map is the dictionary of its pairs' data, and that of a vector has its elements' data.
use Rattle.std.proofs.Common.{◌≡◌, List, [], ◌∷◌, refl, ap, ◌∙◌, rules}
use Rattle.std.specs.Prelude.{map}
use Rattle.std.specs.Global.{Vec}
use Rattle.edn_reader.specs.declared.form.Name.{Name}
use Rattle.edn_reader.specs.declared.form.Form.{Form, Map, Vector, the_lemmas}
use Rattle.edn_reader.specs.Datum.{Datum, vector, dictionary, entry, items_of, entries_of}
use Rattle.edn_reader.specs.Names.{name_bytes}
use Rattle.edn_reader.specs.View.{view, views, pair_views}

names_map : (es : List (Name × Form))
    → entries_of (map (λ (e : Name × Datum). (name_bytes e.0, e.1)) (map (λ (e : Name × Form). (e.0, view e.1)) es))
    ≡ entries_of (pair_views es)
names_map [] = refl
names_map (e ∷ es) = ap (λ r. entry (name_bytes e.0) (view e.1) r) (names_map es)

by_level : (v : Vec (Name × Form))
    → view (Map v) ≡ dictionary
    (entries_of (map (λ (e : Name × Datum). (name_bytes e.0, e.1))
    (map (λ (e : Name × Form). (e.0, view e.1)) v.items)))
by_level v = search (rules, the_lemmas)

pub map_view : (v : Vec (Name × Form)) → view (Map v) ≡ dictionary (entries_of (pair_views v.items))
map_view v = by_level v ∙ ap dictionary (names_map v.items)

pub vector_view : (v : Vec Form) → view (Vector v) ≡ vector (items_of (views v.items))
vector_view v = search (rules, the_lemmas)
