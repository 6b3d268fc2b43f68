-- What the forms of the code stand for.
use Rattle.std.specs.Prelude.{ℕ, List, map, string_bytes}
use Rattle.std.specs.Global.{Vec}
use Rattle.edn_reader.specs.Datum.{Items, Entries, nil, boolean, integer, string, keyword, Datum}
use Rattle.edn_reader.specs.Datum.{atom, vector, dictionary, items_of, entries_of}
use Rattle.edn_reader.specs.declared.form.Name.{Name}
use Rattle.edn_reader.specs.declared.form.Form.{Form, fold-Form}
use Rattle.edn_reader.specs.declared.form.Form.TheOpen.{Form-F}
use Rattle.edn_reader.specs.Names.{name_bytes}

-- one level, with each form inside already seen as its datum
abbrev pub view_step : Form-F Datum → Datum
view_step Form-F.Nil = atom nil
view_step (Form-F.Bool b) = atom (boolean b)
view_step (Form-F.Int z) = atom (integer z)
view_step (Form-F.Str s) = atom (string (string_bytes s))
view_step (Form-F.Keyword k) = atom (keyword (name_bytes k))
view_step (Form-F.Vector v) = vector (items_of v.items)
view_step (Form-F.Map v) = dictionary (entries_of (map (λ e. (name_bytes e.0, e.1)) v.items))

-- what a form stands for
abbrev pub view : Form → Datum
view = fold-Form Datum view_step

abbrev pub views : List Form → List Datum
views fs = map view fs

abbrev pub pair_views : List (Name × Form) → List (List ℕ × Datum)
pair_views es = map (λ e. (name_bytes e.0, view e.1)) es

-- the elements of a vector
abbrev pub items_in : Vec Form → Items
items_in v = items_of (views v.items)

-- the pairs of a map
abbrev pub entries_in : Vec (Name × Form) → Entries
entries_in v = entries_of (pair_views v.items)
