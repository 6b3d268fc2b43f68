-- A list of what waits of each shard, in which one element is written: what is at its place, and at the others.
use Rattle.std.proofs.Common.{◌≡◌, ◌≢◌, ℕ, ◌+◌, ◌<◌, inl, inr, List, [], ◌∷◌, ◌++◌, length, map}
use Rattle.std.proofs.Common.{get_or, set, decimal, ap, sym, ◌∙◌, arith}
use Rattle.std.proofs.lemmas.Bool.{cases_eq}
use Rattle.std.proofs.lemmas.List.{map-set, length-map, length-set, get_or-map, get_or-set_same, get_or-set_other}
use Rattle.shards.specs.declared.waiting.Waiting.{Waiting}
use Rattle.shards.specs.Taking.{AddsLine}

module _ {V : Type 0} (f : Waiting → V) (none : V) where
  abbrev pub at : List Waiting → ℕ → V
  at ws s = get_or (map f ws) s none

  pub at_written : (ws : List Waiting) (i : ℕ) (w : Waiting) → i < length ws → at (set ws i w) i ≡ f w
  at_written ws i w l =
      let long : i < length (map f ws) = omega (arith, length-map ws f) in
      rw (map-set f ws i w) (get_or-set_same (map f ws) i (f w) none long)

  pub at_others : (ws : List Waiting) (i : ℕ) (w : Waiting) (s : ℕ) → s ≢ i → at (set ws i w) s ≡ at ws s
  at_others ws i w s ne = rw (map-set f ws i w) (get_or-set_other (map f ws) i s (f w) none ne)

  pub at_read : (ws : List Waiting) (i : ℕ) (w : Waiting) → i < length ws → w ≡ get_or ws i w → at ws i ≡ f w
  at_read ws i w l is = get_or-map f ws i w none l ∙ ap f (sym is)

  -- one more of which nothing waits
  pub none_more : (ws : List Waiting) (i : ℕ) (w : Waiting) → i < length ws → f w ≡ none
      → ((s : ℕ) → s < i → at ws s ≡ none) → (s : ℕ) → s < i + 1 → at (set ws i w) s ≡ none
  none_more ws i w l q h s below = elim (cases_eq s i) [
    | inl e ↦ rw (e, at_written ws i w l) q
    | inr ne ↦ let less : s < i = omega arith in at_others ws i w s ne ∙ h s less
  ]

-- one line more
pub adds_line : (ws : List Waiting) (i : ℕ) (w v : Waiting) (text : List ℕ) (place : ℕ) → i < length ws
    → w ≡ get_or ws i w → v.maps.items ≡ w.maps.items ++ (text ++ 10 ∷ [])
    → v.places.items ≡ w.places.items ++ (decimal place ++ 10 ∷ []) → v.count ≡ w.count + 1
    → AddsLine i text place ws (set ws i v)
adds_line ws i w v text place l is maps places count = record {
  long = length-set ws i v;
  maps = rw (at_written (λ x. x.maps.items) [] ws i v l, at_read (λ x. x.maps.items) [] ws i w l is) maps;
  places = rw (at_written (λ x. x.places.items) [] ws i v l, at_read (λ x. x.places.items) [] ws i w l is) places;
  count = rw (at_written (λ x. x.count) 0 ws i v l, at_read (λ x. x.count) 0 ws i w l is) count;
  other_maps = λ s ne. at_others (λ x. x.maps.items) [] ws i v s ne;
  other_places = λ s ne. at_others (λ x. x.places.items) [] ws i v s ne;
  other_counts = λ s ne. at_others (λ x. x.count) 0 ws i v s ne;
}
