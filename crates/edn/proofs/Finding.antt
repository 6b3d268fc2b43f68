-- The value of a key is that of the first entry with this key: the search finds it at its place (`found_here`), and
-- passes over each other entry (`passed_over`). By the entries from a place on.
use Rattle.std.proofs.Common.{◌≡◌, ℕ, ◌+◌, ◌<◌, ◌==◌, ◌&&◌, nat_eq, Bool, true, false, cond, List, [], ◌∷◌, length}
use Rattle.std.proofs.Common.{drop, Some, get_or, refl, ap, sym, ◌∙◌}
use lib.Pointwise.{pointwise}
use Rattle.std.proofs.lemmas.List.{drop_more}
use Rattle.edn_reader.specs.Datum.{entries_of}
use Rattle.edn_reader.specs.Names.{name_bytes}
use Rattle.edn_reader.specs.View.{view, pair_views}
use Rattle.edn_reader.specs.declared.form.Form.{Form}
use Rattle.edn_reader.specs.declared.form.Name.{Name}
use Rattle.edn.specs.Fields.{same_bytes, value_at}

-- the test of the code for equal bytes is that of the definitions
pub same_bytes_is : (xs ys : List ℕ) → pointwise nat_eq xs ys ≡ same_bytes xs ys
same_bytes_is [] [] = refl
same_bytes_is [] (y ∷ ys) = refl
same_bytes_is (x ∷ xs) [] = refl
same_bytes_is (x ∷ xs) (y ∷ ys) = ap (λ b. (x == y) && b) (same_bytes_is xs ys)

-- the entries from a place on, by the entry there
at_place : (key : List ℕ) (es : List (Name × Form)) (i : ℕ) (e : Name × Form) (bytes : List ℕ) → i < length es
    → e ≡ get_or es i e → bytes ≡ name_bytes e.0 → (b : Bool) → b ≡ same_bytes key bytes
    → value_at key (entries_of (pair_views (drop i es)))
    ≡ cond b (Some (view e.1)) (value_at key (entries_of (pair_views (drop (i + 1) es))))
at_place key es i e bytes l is text b test =
    let whole = drop_more es i e l ∙ ap (λ x. x ∷ drop (i + 1) es) (sym is) in
    let own : same_bytes key (name_bytes e.0) ≡ b = ap (same_bytes key) (sym text) ∙ sym test in
    ap (λ ds. value_at key (entries_of (pair_views ds))) whole
    ∙ ap (λ t. cond t (Some (view e.1)) (value_at key (entries_of (pair_views (drop (i + 1) es))))) own

-- the entry at hand has the key, and nothing before it had: its value is the value of the key in all entries
pub found_here : (key : List ℕ) (es : List (Name × Form)) (i : ℕ) (e : Name × Form) → i < length es → e ≡ get_or es i e
    → value_at key (entries_of (pair_views (drop i es))) ≡ value_at key (entries_of (pair_views es))
    → (bytes : List ℕ) → bytes ≡ name_bytes e.0
    → true ≡ same_bytes key bytes → Some (view e.1) ≡ value_at key (entries_of (pair_views es))
found_here key es i e l is left bytes text test = sym (at_place key es i e bytes l is text true test) ∙ left

-- the entry at hand has another key: the value of the key in the entries after it is that in all entries
pub passed_over : (key : List ℕ) (es : List (Name × Form)) (i : ℕ) (e : Name × Form) → i < length es → e ≡ get_or es i e
    → value_at key (entries_of (pair_views (drop i es))) ≡ value_at key (entries_of (pair_views es))
    → (bytes : List ℕ) → bytes ≡ name_bytes e.0
    → false ≡ same_bytes key bytes
    → value_at key (entries_of (pair_views (drop (i + 1) es))) ≡ value_at key (entries_of (pair_views es))
passed_over key es i e l is left bytes text test = sym (at_place key es i e bytes l is text false test) ∙ left
