-- The publication list of one object: which rows are listed, from the head on, and the state of
-- each other row.
-- After Hendler, Incze, Shavit, Tzafrir, "Flat Combining and the Synchronization-Parallelism
-- Tradeoff", SPAA 2010, section 2.
use Rattle.std.specs.Prelude.{◌≡◌, ℕ, zero, suc, ◌+◌, ◌<◌, List, [], ◌∷◌, ◌++◌, length, slice_index}

-- the state of a row
pub data Stage : Type 0 where
  -- it is not listed, and its mark says inactive
  asleep : Stage
  -- its owner has marked it active, and it is not listed yet; its next word has this number
  awake : ℕ → Stage
  listed : Stage
  -- it was taken out of the list, and is not marked inactive yet
  unlinked : Stage

-- The publication list of one object as plain data.
pub record PublicationList : Type 0 where
  -- the rows below this number have a place
  pub made : ℕ
  -- the listed rows, from the head on
  pub rows : List ℕ
  -- the state of each row
  pub stage : ℕ → Stage

-- the list while no row has a place
abbrev pub empty_list : PublicationList
empty_list = record { made = 0; rows = []; stage = λ r. asleep }

-- no row is in it twice
abbrev pub IsDistinct : List ℕ → Type 0
IsDistinct rows =
    (i j : ℕ) → i < length rows → j < length rows → slice_index rows i ≡ slice_index rows j → i ≡ j

-- the word that leads to the place k of the list: 1 and its row, and 0 past the end
abbrev pub word_at : List ℕ → ℕ → ℕ
word_at [] k = 0
word_at (r ∷ rs) zero = 1 + r
word_at (r ∷ rs) (suc k) = word_at rs k

-- the mark of a row: 1 if it is active
abbrev pub mark_of : Stage → ℕ
mark_of asleep = 0
mark_of t = 1

-- What a walk meets, if the last combiner left these rows: newcomers, distinct and not among
-- those left, followed by those left, in their order.
abbrev pub WalkMeets : List ℕ → List ℕ → Type 0
WalkMeets left met = (newcomers : List ℕ) × (met ≡ newcomers ++ left) × IsDistinct met
