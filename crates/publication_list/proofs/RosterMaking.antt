-- A new roster keeps the rule: all words are 0, and no row is listed (`opening_keeps_rule`). To make one more place
-- keeps it too, since what is known of other rows stays true (`split_keeps_rule`).
use Rattle.std.proofs.Common.{◌≡◌, ◌≢◌, ◌⊎◌, ℕ, zero, suc, ◌+◌, ◌<◌, ◌≤◌, List, [], ◌∷◌, ◌++◌, length, get_or, set}
use Rattle.std.proofs.Common.{replicate, Option, None, length-append, length-set, refl, sym, ap, ◌∙◌, subst, inl}
use Rattle.std.proofs.Common.{inr, arith}
use mathlib.Core.Option.{some, some-injective, some-ne-none}
use lib.ListN.{get_elem?}
use Rattle.atomic_table.specs.Table.{Me, opening, Splits}
use Rattle.atomic_table.specs.Seated.{TableId}
use Rattle.publication_list.specs.Calls.{PlaceSeen, AreRowPlaces}
use Rattle.publication_list.specs.Plays as play
use mathlib.Core.Logic.{dite}
use native.Mathlib.Decide.{ℕ_discrete}
use Rattle.atomic_table.proofs.Lists.{at_set, at_last, at_longer}
use Rattle.publication_list.specs.declared.list_table.RowKnowledge.TheVariants as own
use Rattle.publication_list.specs.declared.list_table.ListView.{ListView}
use Rattle.publication_list.specs.declared.list_table.ListView.TheVariants as view
use Rattle.publication_list.specs.PublicationList.{PublicationList, empty_list}
use Rattle.publication_list.specs.Rule.{TakenOutAgrees, ListViewAgrees, Kept}
use Rattle.publication_list.proofs.RuleKept.{St}

abbrev Holds : St → Type 0
Holds = Kept

abbrev Hands : Type 0
Hands = Me ℕ ListView

-- an element of a list with one more is one of the list, or the last
pub at_end : {A : Type 0} (front : List A) (last found : A) (j : ℕ) → get_elem? (front ++ last ∷ []) j ≡ some found
    → (get_elem? front j ≡ some found) ⊎ ((j ≡ length front) × (last ≡ found))
at_end [] last found zero e = inr (refl, some-injective last found e)
at_end [] last found (suc j) e = absurd (some-ne-none found (sym e))
at_end (x ∷ xs) last found zero e = inl e
at_end (x ∷ xs) last found (suc j) e =
    elim (at_end xs last found j e) [ inl t ↦ inl t | inr t ↦ inr (ap suc t.0, t.1) ]

abbrev first_walker : ListView
first_walker = view.Walker 0 [] None []

-- the rule holds of a new table, whose words are all 0
pub opening_keeps_rule : (words : List ℕ) → length words ≡ 65 → ((i : ℕ) → get_or words i 0 ≡ 0)
    → Holds (opening words [] first_walker)
opening_keeps_rule words wide zeros = record {
  list = empty_list;
  sound = grind arith;
  tied = grind arith;
  count = refl;
  unmade = λ r l. refl;
  seats = λ j v e. elim (at_end [] first_walker v j e) [
    | inl t ↦ absurd (some-ne-none v (sym t))
    | inr t ↦ subst (ListViewAgrees empty_list j) t.1 (t.0, refl, ([], refl), λ q e. absurd cc)
  ];
}

out_later : (w : PublicationList) (o : Option ℕ) → TakenOutAgrees w o
    → TakenOutAgrees (record w { made = w.made + 1 }) o
out_later w o ok = grind arith

-- what is known stays true where a place more was made
later : (list : PublicationList) (j : ℕ) (seen : ListView) → j ≢ 0 → ListViewAgrees list j seen
    → ListViewAgrees (record list { made = list.made + 1 }) j seen
later list j seen other ok = grind arith

pub split_keeps_rule : (id made : ℕ) (left : List ℕ) (out : Option ℕ) (walks : List (List ℕ)) → made < 32
    → Splits Holds id (view.Walker made left out walks) (view.Walker (made + 1) left out walks)
    (view.Place made own.Unknown [])
split_keeps_rule id made left out walks low s k at =
    let w : PublicationList = k.list in
    let ok : ListViewAgrees w id (view.Walker made left out walks) = k.seats id (view.Walker made left out walks) at in
    let is : made ≡ w.made = ok.1 in
    let w' : PublicationList = record w { made = w.made + 1 } in
    let l : ListView = view.Walker (made + 1) left out walks in
    let new : ListView = view.Place made own.Unknown [] in
    let count = k.count in
    let long = length-set s.views id l in record {
      list = w';
      sound = let few : w'.made ≤ 32 = omega arith in
          let low' : (i : ℕ) → i < length w.rows → get_or w.rows i 0 < w'.made =
          λ i h. let z = k.sound.low i h in omega arith in assumption k.sound;
      tied = assumption;
      count = let both = length-append (set s.views id l) (new ∷ []) in omega arith;
      unmade = λ r h. k.unmade r (omega arith);
      seats = λ j u e. elim (at_end (set s.views id l) new u j e) [
        | inl t ↦ elim (at_set s.views id j l u t) [
          | inl h ↦ subst (λ z. ListViewAgrees w' j z) h.1
              (h.0 ∙ ok.0, omega arith, ok.2, out_later w out ok.3)
          | inr h ↦ later w j u (λ z. h.0 (z ∙ sym ok.0)) (k.seats j u h.1)
        ]
        | inr t ↦ let here = t.0 in
            subst (λ z. ListViewAgrees w' j z) t.1 (omega arith, omega arith, inl (k.unmade made (omega arith)))
      ];
    }

-- each place of a list of zeros has 0, also past the end
pub zeros : (n i : ℕ) → get_or {A = ℕ} (replicate n 0) i 0 ≡ 0
zeros zero i = refl
zeros (suc n) zero = refl
zeros (suc n) (suc i) = zeros n i

-- the walker may make one more place
pub split_allowed : (id row : ℕ) (m : Hands) → row < 32 → m ≡ (view.Walker row [] None [], [])
    → Splits Holds id m.0 (play.after_making m.0) (play.new_place m.0)
split_allowed id row m low is = rw is (split_keeps_rule id row [] None [] low)

-- one more place, of the next row, at which nothing was tried
pub ArePlaces-more : (id : TableId) (n : ℕ) (xs ys : List PlaceSeen) (p : PlaceSeen) → AreRowPlaces id n xs
    → ys ≡ xs ++ p ∷ [] → p ≡ record { roster = id; row = n; tries = [] } → AreRowPlaces id (n + 1) ys
ArePlaces-more id n xs ys p k more is = (
  ap length more ∙ (length-append xs (p ∷ []) ∙ ap (λ z. z + 1) k.0),
  λ j low. subst (λ z. get_elem? z j ≡ some (record { roster = id; row = j; tries = [] })) (sym more)
      (dite (ℕ_discrete j n)
      (λ (e : j ≡ n). subst (λ z. get_elem? (xs ++ p ∷ []) z ≡ some (record { roster = id; row = z; tries = [] }))
      (sym e) (at_last xs p n k.0 ∙ ap some is))
      (λ ne. at_longer xs (p ∷ []) j (record { roster = id; row = j; tries = [] }) (k.1 j (omega arith)))),
)
