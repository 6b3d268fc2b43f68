-- The worst finding: what it says of each finding, by cases of two and by induction on the list.
use Rattle.std.proofs.Common.{arith, ◌≡◌, ◌⊎◌, inl, inr, List, [], ◌∷◌, ◌++◌, map, fold, refl, ap, sym, ◌∙◌}
use Rattle.std.proofs.lemmas.List.{map_push}
use Rattle.model.specs.Lists.{In}
use Rattle.history_commands.specs.Merged.{Answer, status_with, worse, worst}
use Rattle.history_commands.specs.declared.finding.Finding.{Finding}
use Rattle.history_commands.specs.declared.finding.Finding.TheVariants.{Certified, Malformed, Refuted}
use Rattle.history_commands.specs.declared.status.Status.TheVariants as ends

both_certified : (f g : Finding) → worse f g ≡ Certified → (f ≡ Certified) × (g ≡ Certified)
both_certified f g e = grind arith

-- the worse of two is one of them
one_of_two : (f g : Finding) → (worse f g ≡ f) ⊎ (worse f g ≡ g)
one_of_two f g = grind arith

left_malformed : (f g : Finding) → f ≡ Malformed → worse f g ≡ Malformed
left_malformed f g e = grind arith

right_malformed : (f g : Finding) → g ≡ Malformed → worse f g ≡ Malformed
right_malformed f g e = grind arith

-- ---- the findings of a list

fold_push : (f g : Finding) (fs : List Finding) → fold worse f (fs ++ g ∷ []) ≡ worse (fold worse f fs) g
fold_push f g [] = refl
fold_push f g (x ∷ fs) = fold_push (worse f x) g fs

-- the findings on the elements, and the worst of them
module _ {X : Type 0} (of : X → Finding) where
  each_certified : (f : Finding) (xs : List X) → fold worse f (map of xs) ≡ Certified
      → (f ≡ Certified) × ((x : X) → In x xs → of x ≡ Certified)
  each_certified f [] e = (e, λ x i. absurd i)
  each_certified f (y ∷ xs) e =
      let later = each_certified (worse f (of y)) xs e in
      let two = both_certified f (of y) later.0 in
      (two.0, λ x i. elim i [ inl q ↦ ap of q ∙ two.1 | inr j ↦ later.1 x j ])

  -- if the worst finding is certified, each one is
  pub all_certified : (xs : List X) → worst (map of xs) ≡ Certified → (x : X) → In x xs → of x ≡ Certified
  all_certified xs e = (each_certified Certified xs e).1

  -- if one finding is malformed, the worst one is
  stays_malformed : (f : Finding) (xs : List X) → f ≡ Malformed → fold worse f (map of xs) ≡ Malformed
  stays_malformed f [] e = e
  stays_malformed f (y ∷ xs) e = stays_malformed (worse f (of y)) xs (left_malformed f (of y) e)

  some_malformed : (f : Finding) (xs : List X) (x : X) → In x xs → of x ≡ Malformed
      → fold worse f (map of xs) ≡ Malformed
  some_malformed f [] x i e = absurd i
  some_malformed f (y ∷ xs) x i e = elim i [
    | inl q ↦ stays_malformed (worse f (of y)) xs (right_malformed f (of y) (ap of (sym q) ∙ e))
    | inr j ↦ some_malformed (worse f (of y)) xs x j e
  ]

  -- unless the worst finding is malformed, none is
  pub none_malformed : (xs : List X) → (worst (map of xs) ≡ Malformed → ⊥) → (x : X) → In x xs
      → of x ≡ Malformed → ⊥
  none_malformed xs sound x i e = sound (some_malformed Certified xs x i e)

  -- the worst finding is the first one, or that on some element
  found_of_one : (f g : Finding) (xs : List X) → fold worse f (map of xs) ≡ g
      → (f ≡ g) ⊎ ((x : X) × In x xs × (of x ≡ g))
  found_of_one f g [] e = inl e
  found_of_one f g (y ∷ xs) e = elim (found_of_one (worse f (of y)) g xs e) [
    | inl q ↦ elim (one_of_two f (of y)) [
      | inl s ↦ inl (sym s ∙ q)
      | inr s ↦ inr (y, inl refl, sym s ∙ q)
    ]
    | inr r ↦ inr (r.0, inr r.1, r.2)
  ]

  -- if the worst finding is refuted, one is
  pub some_refuted : (xs : List X) → worst (map of xs) ≡ Refuted → (x : X) × In x xs × (of x ≡ Refuted)
  some_refuted xs e = elim (found_of_one Certified Refuted xs e) [ inl q ↦ absurd cc | inr r ↦ r ]

  -- the worst finding with one more at the end
  pub worst_push : (xs : List X) (x : X) → worst (map of (xs ++ x ∷ [])) ≡ worse (worst (map of xs)) (of x)
  worst_push xs x = ap worst (map_push of xs x) ∙ fold_push Certified (of x) (map of xs)

-- what an answer finds
abbrev pub own_finding : Answer → Finding
own_finding a = a.finding

-- ---- how a merge ends

-- the status is a yes only if the worst finding is certified
pub yes_certified : (f : Finding) → status_with f ≡ ends.Yes → f ≡ Certified
yes_certified f e = grind arith

-- the status is a no only if the worst finding is refuted
pub no_refuted : (f : Finding) → status_with f ≡ ends.No → f ≡ Refuted
no_refuted f e = grind arith
