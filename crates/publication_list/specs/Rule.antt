-- The rule of a roster's table: its words, and what each seat knows, are those of a sound
-- publication list.
-- Word 0 is the head; word 1 + r is the next word of row r.
use Rattle.std.specs.Prelude.{◌≡◌, ◌≢◌, ◌⊎◌, ℕ, suc, ◌+◌, ◌<◌, ◌≤◌, List, ◌++◌, length, slice_index}
use Rattle.std.specs.Prelude.{Option, Some, None}
use mathlib.Core.Option.{some}
use lib.ListN.{get_elem?}
use Rattle.atomic_table.specs.Table.{State}
use Rattle.publication_list.specs.declared.list_table.RowKnowledge.{RowKnowledge}
use Rattle.publication_list.specs.declared.list_table.RowKnowledge.TheVariants as own
use Rattle.publication_list.specs.declared.list_table.ListView.{ListView}
use Rattle.publication_list.specs.declared.list_table.ListView.TheVariants as view
use Rattle.publication_list.specs.Limits.{max_rows, list_words, mark_place}
use Rattle.publication_list.specs.PublicationList.{Stage, asleep, awake, listed, unlinked}
use Rattle.publication_list.specs.PublicationList.{PublicationList, IsDistinct, word_at, mark_of}

-- what the owner of a row knows of it agrees with the state of the row
abbrev pub OwnRowAgrees : RowKnowledge → Stage → Type 0
OwnRowAgrees own.Unknown t = (t ≡ asleep) ⊎ ((t ≡ listed) ⊎ (t ≡ unlinked))
OwnRowAgrees own.Asleep t = t ≡ asleep
OwnRowAgrees (own.Awake n) t = t ≡ awake n

-- the one row that the walker has taken out and has not marked inactive yet, or there is none
abbrev pub TakenOutAgrees : PublicationList → Option ℕ → Type 0
TakenOutAgrees l None = (q : ℕ) → l.stage q ≢ unlinked
TakenOutAgrees l (Some r) =
    (r < l.made) × (l.stage r ≡ unlinked) × ((q : ℕ) → l.stage q ≡ unlinked → q ≡ r)

-- What the seat with this number knows: the walker's is the first, and that of row c the one after
-- c others. The list ends with what the walker has left. It says nothing of tries and walks.
abbrev pub ListViewAgrees : PublicationList → ℕ → ListView → Type 0
ListViewAgrees l seat (view.Walker made left out walks) =
    (seat ≡ 0) × (made ≡ l.made) × ((newcomers : List ℕ) × (l.rows ≡ newcomers ++ left))
    × TakenOutAgrees l out
ListViewAgrees l seat (view.Place c o tries) = (seat ≡ 1 + c) × (c < l.made)
    × OwnRowAgrees o (l.stage c)

-- what holds of the list itself
pub record Sound (l : PublicationList) : Type 0 where
  pub few : l.made ≤ max_rows
  pub low : (k : ℕ) → k < length l.rows → slice_index l.rows k < l.made
  pub distinct : IsDistinct l.rows
  -- a row is in the list if its stage says so, and no other does
  pub stands : (r : ℕ) → l.stage r ≡ listed
      → (k : ℕ) × (k < length l.rows) × (slice_index l.rows k ≡ r)
  pub listed : (k : ℕ) → k < length l.rows → l.stage (slice_index l.rows k) ≡ listed

-- what the words have to do with the list
pub record Tied (l : PublicationList) (words : List ℕ) : Type 0 where
  pub wide : length words ≡ list_words
  pub head : slice_index words 0 ≡ word_at l.rows 0
  pub nexts : (k : ℕ) → k < length l.rows
      → slice_index words (1 + slice_index l.rows k) ≡ word_at l.rows (suc k)
  pub links : (r n : ℕ) → r < max_rows → l.stage r ≡ awake n → slice_index words (1 + r) ≡ n
  pub marks : (r : ℕ) → r < max_rows → slice_index words (mark_place r) ≡ mark_of (l.stage r)

-- The rule of a publication list's table: there is a sound list to which its words and views are
-- tied.
pub record Kept {S : Type 0} (s : State S ListView) : Type 0 where
  pub list : PublicationList
  pub sound : Sound list
  pub tied : Tied list s.words
  pub count : length s.views ≡ 1 + list.made
  pub unmade : (r : ℕ) → list.made ≤ r → list.stage r ≡ asleep
  pub seats : (j : ℕ) (v : ListView) → get_elem? s.views j ≡ some v → ListViewAgrees list j v
