-- Dealing places out to the owners of rows: each gets the place of its own row, and those that are left are the
-- places of the rows after it (`popped`). By one place at a time, from the last.
use Rattle.std.proofs.Common.{rules, ◌≡◌, ℕ, zero, suc, ◌+◌, ◌<◌, List, [], ◌∷◌, ◌++◌, length, get_or, set, vec_len}
use Rattle.std.proofs.Common.{vec_capacity, length-append}
use Rattle.std.proofs.Common.{length-set, get_or-set_same, get_or-set_other, refl, sym, ap, ◌∙◌, subst, arith}
use Rattle.std.specs.declared.vec.Vec.{Vec}
use Rattle.std.proofs.lemmas.List.{get_or_default}
use mathlib.Core.Logic.{dite}
use native.Mathlib.Decide.{ℕ_discrete}
use mathlib.Core.Option.{some, some-injective}
use lib.ListN.{get_elem?}
use Rattle.atomic_table.specs.Seated.{TableId}
use Rattle.atomic_table.proofs.Lists.{at_last}
use Rattle.publication_list.specs.Calls.{PlaceSeen, AreRowPlaces}
use Rattle.publication_list.specs.Dealing.{AreGrown, AreGrownFrom, HaveRoom}

pub long : {X Z : Type 0} (v : Vec X Z) → vec_len v ≡ length v.items
long v = search rules

-- below the length of a list, one element more at the end changes no element
at_first : {A : Type 0} (front : List A) (last found : A) (j : ℕ) → j < length front
    → get_elem? (front ++ last ∷ []) j ≡ some found → get_elem? front j ≡ some found
at_first [] last found j h e = absurd (omega arith)
at_first (x ∷ xs) last found zero h e = e
at_first (x ∷ xs) last found (suc j) h e = at_first xs last found j (omega arith) e

-- the last of the places that are left is that of the last row, and those before it are the places of the rows before
pub popped : (id : TableId) (n : ℕ) (old new : List PlaceSeen) (place : PlaceSeen) → AreRowPlaces id n old
    → old ≡ new ++ place ∷ []
    → AreRowPlaces id (length new) new × (place ≡ record { roster = id; row = length new; tries = [] })
    × (n ≡ length new + 1)
popped id n old new place places more =
    let long : length old ≡ length new + 1 = ap length more ∙ length-append new (place ∷ []) in
    let n_is : n ≡ length new + 1 = omega (arith, places.0) in (
      (
        refl,
        λ j h. at_first new place (record { roster = id; row = j; tries = [] }) j h
            (ap (λ z. get_elem? z j) (sym more) ∙ places.1 j (omega arith)),
      ),
      some-injective place (record { roster = id; row = length new; tries = [] })
          (sym (at_last new place (length new) refl)
          ∙ (ap (λ z. get_elem? z (length new)) (sym more) ∙ places.1 (length new) (omega arith))),
      n_is,
    )

module _ {Z : Type 0} where
  pub none_grown : (id : TableId) (k : ℕ) (now : List (Vec PlaceSeen Z)) → k ≡ length now → AreGrownFrom k id now now
  none_grown id k now e = (refl, (λ c d h. refl), λ c d h l. absurd (omega arith))

  pub all_grown : (id : TableId) (k : ℕ) (old now : List (Vec PlaceSeen Z)) → k ≡ 0 → AreGrownFrom k id old now
      → AreGrown id old now
  all_grown id k old now e g = (g.0, λ c d l. g.2 c d (omega arith) l)

  -- the owner k has room still
  pub still_room : (id : TableId) (k n : ℕ) (old now : List (Vec PlaceSeen Z)) (owner : Vec PlaceSeen Z) → HaveRoom old
      → AreGrownFrom n id old now → k < n
      → k < length old → owner ≡ get_or now k owner → vec_len owner < vec_capacity owner
  still_room id k n old now owner room grown low inside is =
      subst (λ z. vec_len z < vec_capacity z) (sym (is ∙ grown.1 k owner low)) (room k owner inside)

  -- the owner of row k gets the place of its row: the owners from k on have one place more
  pub one_grown : (id : TableId) (k n : ℕ) (old now after : List (Vec PlaceSeen Z)) (owner grown : Vec PlaceSeen Z)
      (new : PlaceSeen) → AreGrownFrom n id old now
      → n ≡ k + 1 → k < length old → owner ≡ get_or now k owner → after ≡ set now k grown
      → new ≡ record { roster = id; row = k; tries = [] }
      → grown.items ≡ owner.items ++ new ∷ [] → vec_capacity grown ≡ vec_capacity owner
      → vec_len grown ≡ vec_len owner + 1 → AreGrownFrom k id old after
  one_grown id k n old now after owner grown new so_far n_is inside is changed place items capacity len =
      let wide = so_far.0 in
      let was : owner ≡ get_or old k owner = is ∙ so_far.1 k owner (omega arith) in
      subst (AreGrownFrom k id old) (sym changed) (
        length-set now k grown ∙ wide,
        (λ c d h. get_or-set_other now k c grown d (λ e. omega arith) ∙ so_far.1 c d (omega arith)),
        λ c d h l. dite (ℕ_discrete c k) (λ (e : c ≡ k). rw (
          e,
          get_or-set_same now k grown d (omega arith),
          get_or_default old k d owner inside ∙ sym was,
        ) (items ∙ (λ i. owner.items ++ place i ∷ []), capacity, len))
            (λ ne. rw (get_or-set_other now k c grown d ne) (so_far.2 c d (omega arith) l)),
      )
