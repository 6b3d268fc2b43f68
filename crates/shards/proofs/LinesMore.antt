-- One map more at the end of a list: the text and the table of a shard get one line more, where the map is that of a
-- client on an object of the shard, and are the same otherwise. Each lemma goes along the list.
use Rattle.std.proofs.Common.{◌≡◌, ℕ, ◌+◌, Bool, true, false, cond, List, [], ◌∷◌, ◌++◌, filter, length, decimal}
use Rattle.std.proofs.Common.{refl, sym, append_assoc, arith}
use Rattle.std.proofs.lemmas.List.{append-nil}
use Rattle.std.proofs.lemmas.List.Elements.{filter-append}
use Rattle.edn_reader.specs.Datum.{Datum}
use Rattle.shards.specs.Forms.{is_on}
use Rattle.shards.specs.ShardTexts.{SpelledMap, map_lines}
use Rattle.shards.specs.Dividing.{places_from, table_text}

pub lines_push : (ms : List SpelledMap) (m : SpelledMap)
    → map_lines (ms ++ m ∷ []) ≡ map_lines ms ++ (m.text ++ 10 ∷ [])
lines_push [] m = refl
lines_push (x ∷ ms) m = rw (lines_push ms m) (simp append_assoc)

pub table_push : (ns : List ℕ) (n : ℕ) → table_text (ns ++ n ∷ []) ≡ table_text ns ++ (decimal n ++ 10 ∷ [])
table_push [] n = refl
table_push (x ∷ ns) n = rw (table_push ns n) (simp append_assoc)

-- ---- a map that is kept, and one that is left out

pub filter_kept : {X : Type 0} (p : X → Bool) (xs : List X) (x : X) → p x ≡ true
    → filter p (xs ++ x ∷ []) ≡ filter p xs ++ x ∷ []
filter_kept p xs x q = rw (filter-append, q)

pub filter_left_out : {X : Type 0} (p : X → Bool) (xs : List X) (x : X) → p x ≡ false
    → filter p (xs ++ x ∷ []) ≡ filter p xs
filter_left_out p xs x q = rw (filter-append, q) (append-nil (filter p xs))

pub places_kept : (n : ℕ) (has : ℕ → Bool) (ds : List Datum) (d : Datum) → is_on has d ≡ true
    → places_from n has (ds ++ d ∷ []) ≡ places_from n has ds ++ (n + length ds) ∷ []
places_kept n has [] d q = let e : n ≡ n + 0 = omega arith in rw (q, ← e)
places_kept n has (x ∷ ds) d q =
    let e : n + 1 + length ds ≡ n + length (x ∷ ds) = omega arith in
    rw (places_kept (n + 1) has ds d q, e) (sym (append_assoc (cond (is_on has x) (n ∷ []) []) _ _))

pub places_left_out : (n : ℕ) (has : ℕ → Bool) (ds : List Datum) (d : Datum) → is_on has d ≡ false
    → places_from n has (ds ++ d ∷ []) ≡ places_from n has ds
places_left_out n has [] d q = rw q
places_left_out n has (x ∷ ds) d q = rw (places_left_out (n + 1) has ds d q)
