-- Which names a set of them has: the set that the code keeps has exactly the names that came so far (`names_with`).
-- By what an insertion changes.
use Rattle.std.proofs.Common.{◌≡◌, ℕ, ◌+◌, ◌<◌, Bool, true, false, cond, List, [], ◌∷◌, ◌++◌, length, take, get_or}
use Rattle.std.proofs.Common.{refl, sym, ap, ◌∙◌}
use Rattle.std.specs.Prelude.{◌||◌}
use Rattle.std.specs.Borrow.{Bor}
use Rattle.std.specs.HashSet.{HashSet, UpdatesBy}
use Rattle.std.specs.Str.{bytes_eq}
use Rattle.std.proofs.lemmas.List.{take_more}
use Rattle.std.proofs.Math.Bool.{or_assoc}
use Rattle.edn_reader.proofs.Keys.{or_last, same_comm, if_or}
use Rattle.edn_reader.specs.NameSets.{contains_name, HasNames}
use Rattle.edn_reader.specs.Shapes.{has_name, name_views}

pub has_name-append : (k : List ℕ) (ls : List (List ℕ)) (l : List ℕ)
    → has_name k (ls ++ l ∷ []) ≡ (has_name k ls || bytes_eq k l)
has_name-append k [] l = or_last false (bytes_eq k l)
has_name-append k (m ∷ ls) l =
    ap (λ (b : Bool). bytes_eq k m || b) (has_name-append k ls l)
    ∙ sym (or_assoc (bytes_eq k m) (has_name k ls) (bytes_eq k l))

pub name_views-append : (xs : List (Bor (List ℕ))) (x : Bor (List ℕ))
    → name_views (xs ++ x ∷ []) ≡ name_views xs ++ x.now ∷ []
name_views-append [] x = refl
name_views-append (y ∷ ys) x = ap (λ (r : List (List ℕ)). y.now ∷ r) (name_views-append ys x)

abbrev pub same_text : Bor (List ℕ) → Bor (List ℕ) → Bool
same_text x y = bytes_eq x.now y.now

-- A set with one more name has the names of a list with this one more at its end.
pub names_with : {S : Type 0} (s n : HashSet (Bor (List ℕ)) S) (x : List ℕ) (ls ms : List (List ℕ))
    → UpdatesBy same_text (λ l. bytes_eq x l.now) s n true → HasNames s ls → ms ≡ ls ++ x ∷ [] → HasNames n ms
names_with s n x ls ms u h e k =
    let a : contains_name n k ≡ cond (bytes_eq x k) true (contains_name s k) =
    u.0 (record { ref_ptr = (0, 0); now = k }) in
    a ∙ ap (λ (b : Bool). cond b true (contains_name s k)) (same_comm x k) ∙ if_or (bytes_eq k x) (contains_name s k)
    ∙ ap (λ (b : Bool). b || bytes_eq k x) (h k) ∙ sym (ap (has_name k) e ∙ has_name-append k ls x)

pub views_more : (xs : List (Bor (List ℕ))) (i : ℕ) (x : Bor (List ℕ)) → i < length xs
    → name_views (take (i + 1) xs) ≡ name_views (take i xs) ++ (get_or xs i x).now ∷ []
views_more xs i x lt = ap name_views (take_more xs i x lt) ∙ name_views-append (take i xs) (get_or xs i x)

pub views_with : (xs ys : List (Bor (List ℕ))) (x : Bor (List ℕ)) → ys ≡ xs ++ x ∷ []
    → name_views ys ≡ name_views xs ++ x.now ∷ []
views_with xs ys x e = ap name_views e ∙ name_views-append xs x
