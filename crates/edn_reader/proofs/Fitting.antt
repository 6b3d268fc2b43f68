-- Whether the pairs of a map fit, from a place on: not if its key comes again further on (`key_again`), and else if
-- its value fits and the later pairs do (`fits_on`). By one pair at a time.
use Rattle.std.proofs.Common.{◌≡◌, ℕ, ◌+◌, ◌<◌, Bool, true, false, List, [], ◌∷◌, length, get_or, drop, refl, sym}
use Rattle.std.proofs.Common.{ap, ◌∙◌, subst}
use Rattle.std.specs.Prelude.{◌||◌, ◌↔◌}
use Rattle.std.specs.Str.{bytes_eq}
use Rattle.std.proofs.lemmas.Bool.{both_ways, or_parts}
use Rattle.std.proofs.lemmas.List.{drop_more}
use Rattle.edn_reader.specs.declared.form.Name.{Name}
use Rattle.edn_reader.specs.declared.form.Form.{Form}
use Rattle.edn_reader.specs.Datum.{Datum, entries_of, Lacks, DatumFits, EntriesFit}
use Rattle.edn_reader.specs.Names.{name_bytes}
use Rattle.edn_reader.specs.Reading.{has_key}
use Rattle.edn_reader.specs.View.{view, pair_views}
use Rattle.edn_reader.proofs.Keys.{same_is, same_self}

by_either : (x y : Bool) (P : Type 0) → (x || y) ≡ true → (x ≡ true → P) → (y ≡ true → P) → P
by_either true y P h f g = f refl
by_either false y P h f g = g h

pub not_lacking : (k : List ℕ) (es : List (List ℕ × Datum)) → has_key k es ≡ true → Lacks k (entries_of es) → ⊥
not_lacking k [] h l = absurd cc
not_lacking k (e ∷ es) h l =
    by_either (bytes_eq k e.0) (has_key k es) ⊥ h (λ p. l.0 (same_is k e.0 p)) (λ p. not_lacking k es p l.1)

pub lacking : (k : List ℕ) (es : List (List ℕ × Datum)) → has_key k es ≡ false → Lacks k (entries_of es)
lacking k [] h = tt
lacking k (e ∷ es) h =
    let p = or_parts (bytes_eq k e.0) (has_key k es) h in (
      λ q. both_ways (bytes_eq k e.0) p.0 (subst (λ (x : List ℕ). bytes_eq k x ≡ true) q (same_self k)),
      lacking k es p.1,
    )

-- the pairs from i on
abbrev pub From : ℕ → List (Name × Form) → ℕ → Type 0
From n xs i = EntriesFit n (entries_of (pair_views (drop i xs)))

-- the pair at i, and those after it
abbrev pub AtAndAfter : ℕ → List (Name × Form) → ℕ → Name × Form → Type 0
AtAndAfter n xs i x = Lacks (name_bytes x.0) (entries_of (pair_views (drop (i + 1) xs))) × DatumFits n (view x.1)
    × From n xs (i + 1)

at_place : (xs : List (Name × Form)) (i : ℕ) (x : Name × Form) → i < length xs → x ≡ get_or xs i x
    → drop i xs ≡ x ∷ drop (i + 1) xs
at_place xs i x lt e = drop_more xs i x lt ∙ ap (λ (y : Name × Form). y ∷ drop (i + 1) xs) (sym e)

pub from_split : (n : ℕ) (xs : List (Name × Form)) (i : ℕ) (x : Name × Form) → i < length xs → x ≡ get_or xs i x
    → From n xs i → AtAndAfter n xs i x
from_split n xs i x lt e h =
    subst (λ (ys : List (Name × Form)). EntriesFit n (entries_of (pair_views ys))) (at_place xs i x lt e) h

pub from_joined : (n : ℕ) (xs : List (Name × Form)) (i : ℕ) (x : Name × Form) → i < length xs → x ≡ get_or xs i x
    → AtAndAfter n xs i x → From n xs i
from_joined n xs i x lt e h =
    subst (λ (ys : List (Name × Form)). EntriesFit n (entries_of (pair_views ys))) (sym (at_place xs i x lt e)) h

-- a pair whose key stands again further on
pub key_again : (n : ℕ) (xs later : List (Name × Form)) (i : ℕ) (x : Name × Form) → i < length xs → x ≡ get_or xs i x
    → later ≡ drop (i + 1) xs
    → true ≡ has_key (name_bytes x.0) (pair_views later) → From n xs i → ⊥
key_again n xs later i x lt e q h f =
    let k : has_key (name_bytes x.0) (pair_views (drop (i + 1) xs)) ≡ true =
    ap (λ (ys : List (Name × Form)). has_key (name_bytes x.0) (pair_views ys)) (sym q) ∙ sym h in
    not_lacking (name_bytes x.0) (pair_views (drop (i + 1) xs)) k (from_split n xs i x lt e f).0

-- a pair that fits
pub fits_on : (n : ℕ) (xs later : List (Name × Form)) (i : ℕ) (x : Name × Form) → i < length xs → x ≡ get_or xs i x
    → later ≡ drop (i + 1) xs
    → false ≡ has_key (name_bytes x.0) (pair_views later) → DatumFits n (view x.1) → (P : Type 0) → (From n xs i ↔ P)
    → From n xs (i + 1) ↔ P
fits_on n xs later i x lt e q h f P both =
    let k : has_key (name_bytes x.0) (pair_views (drop (i + 1) xs)) ≡ false =
    ap (λ (ys : List (Name × Form)). has_key (name_bytes x.0) (pair_views ys)) (sym q) ∙ sym h in (
      λ more. both.0 (from_joined n xs i x lt e (lacking (name_bytes x.0) (pair_views (drop (i + 1) xs)) k, f, more)),
      λ p. (from_split n xs i x lt e (both.1 p)).2,
    )
