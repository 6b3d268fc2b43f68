-- What each step on the table tells the seat that takes it: what it knows then.
use Rattle.std.specs.Prelude.{◌≡◌, ◌≢◌, ℕ, suc, ◌+◌, ◌<◌, ◌≤◌, List, [], ◌∷◌, ◌++◌, length}
use Rattle.std.specs.Prelude.{slice_index, remove, Option, Some, None}
use Rattle.atomic_table.specs.Table.{Me, Step}
use Rattle.publication_list.specs.declared.list_table.Enlist.{Enlist}
use Rattle.publication_list.specs.declared.list_table.Enlist.TheVariants.{Already, Listed, Missed}
use Rattle.publication_list.specs.declared.list_table.RowKnowledge.{RowKnowledge}
use Rattle.publication_list.specs.declared.list_table.RowKnowledge.TheVariants as own
use Rattle.publication_list.specs.declared.list_table.ListView.{ListView}
use Rattle.publication_list.specs.declared.list_table.ListView.TheVariants as view
use Rattle.publication_list.specs.PublicationList.{WalkMeets, word_at}
use Rattle.publication_list.specs.Limits.{mark_place}

-- the walker's view after it made one more place
abbrev pub after_making : ListView → ListView
after_making (view.Walker made left out walks) = view.Walker (made + 1) left out walks
after_making v = v

-- the view of the place that the walker makes next
abbrev pub new_place : ListView → ListView
new_place (view.Walker made left out walks) = view.Place made own.Unknown []
new_place v = v

-- what a seat has in its hands: its view, and no slots
abbrev pub Hands : Type 0
Hands = Me ℕ ListView

-- what a seat knows
abbrev pub known : Hands → ListView
known hands = hands.0

-- the slots that a seat has taken out of the table
abbrev pub taken_slots : Hands → List (ℕ × ℕ)
taken_slots hands = hands.1

-- the head was found: nothing
abbrev pub sees : Step ℕ → Hands → ℕ → Hands → Type 0
sees step before found after = after ≡ before

-- The own mark was found: the row is asleep if it is 0, and else the try is over
abbrev pub looks : Step ℕ → Hands → ℕ → Hands → Type 0
looks step before found after =
    (c : ℕ) (o : RowKnowledge) (tries : List Enlist)
    → known before ≡ view.Place c o tries → step.word ≡ mark_place c →
    (found ≡ 0 → after ≡ (view.Place c own.Asleep tries, taken_slots before))
    × (found ≢ 0 → after ≡ (view.Place c o (tries ++ Already ∷ []), taken_slots before))

-- the own mark was set: the row is awake, with some next word
abbrev pub wakes : Step ℕ → Hands → ℕ → Hands → Type 0
wakes step before found after =
    (c : ℕ) (o : RowKnowledge) (tries : List Enlist)
    → known before ≡ view.Place c o tries → step.word ≡ mark_place c →
    (n : ℕ) × (after ≡ (view.Place c (own.Awake n) tries, taken_slots before))

-- the own next word was set: the row is awake, with this next word
abbrev pub links : Step ℕ → Hands → ℕ → Hands → Type 0
links step before found after =
    (c : ℕ) (o : RowKnowledge) (tries : List Enlist)
    → known before ≡ view.Place c o tries → step.word ≡ 1 + c →
    after ≡ (view.Place c (own.Awake step.first) tries, taken_slots before)

-- the row is listed if the head was as expected, and else the try has missed
abbrev pub enlists : Step ℕ → Hands → ℕ → Hands → Type 0
enlists step before found after =
    (c : ℕ) (o : RowKnowledge) (tries : List Enlist)
    → known before ≡ view.Place c o tries → step.word ≡ 0 →
    (found ≡ step.first → after ≡ (
      view.Place c own.Unknown (tries ++ Listed ∷ []),
      taken_slots before,
    ))
    × (found ≢ step.first → after ≡ (view.Place c o (tries ++ Missed ∷ []), taken_slots before))

-- A walk begins, and this is the whole list as it is now: its head word was found
abbrev pub meets : Step ℕ → Hands → ℕ → Hands → Type 0
meets step before found after =
    (made : ℕ) (left : List ℕ) (out : Option ℕ) (walks : List (List ℕ))
    → known before ≡ view.Walker made left out walks → step.word ≡ 0 →
    (met : List ℕ) × (after ≡ (view.Walker made met out (walks ++ met ∷ []), taken_slots before))
    × (found ≡ word_at met 0)
    × WalkMeets left met × ((k : ℕ) → k < length met → slice_index met k < made)
    × (length met ≤ made)

-- the word that leads to the next place of the list that the walker has met
abbrev pub follows : Step ℕ → Hands → ℕ → Hands → Type 0
follows step before found after =
    (made : ℕ) (left : List ℕ) (out : Option ℕ) (walks : List (List ℕ)) (k : ℕ)
    → known before ≡ view.Walker made left out walks →
    k < length left → step.word ≡ 1 + slice_index left k → (after ≡ before)
    × (found ≡ word_at left (suc k))

-- the place after the row of this word is taken out
abbrev pub unlinks : Step ℕ → Hands → ℕ → Hands → Type 0
unlinks step before found after =
    (made : ℕ) (left : List ℕ) (out : Option ℕ) (walks : List (List ℕ)) (k : ℕ)
    → known before ≡ view.Walker made left out walks →
    suc k < length left → step.word ≡ 1 + slice_index left k →
    after ≡ (
      view.Walker made (remove left (suc k)) (Some (slice_index left (suc k))) walks,
      taken_slots before,
    )

-- what was taken out is marked inactive
abbrev pub sleeps : Step ℕ → Hands → ℕ → Hands → Type 0
sleeps step before found after =
    (made : ℕ) (left : List ℕ) (r : ℕ) (walks : List (List ℕ))
    → known before ≡ view.Walker made left (Some r) walks → step.word ≡ mark_place r →
    after ≡ (view.Walker made left None walks, taken_slots before)
