-- The logs and journals that a record is made of, taken row by row: what is gathered so far is that of the rows so
-- far. By what one more row adds at the end (`items_of_each-push`).
use Rattle.std.proofs.Common.{◌≡◌, ℕ, ◌+◌, ◌<◌, ◌≤◌, List, [], ◌∷◌, ◌++◌, length, get_or, length-append, ap, ◌∙◌, arith}
use mathlib.Core.Logic.{dite}
use native.Mathlib.Decide.{ℕ_discrete}
use Rattle.std.specs.declared.vec.Vec.{Vec}
use Rattle.std.proofs.Math.ListN.{get_or-append}
use Rattle.std.proofs.Math.Seq.{get_or-append_seam}
use Rattle.std.proofs.lemmas.List.{map-append}
use Rattle.recorder.specs.Records.{items_of_each}
use Rattle.publication.specs.Closing.{IsSameBelow}

-- the elements of each vector, with one more vector at the end
pub items_of_each-push : {A Z : Type 0} (old new : List (Vec A Z)) (v : Vec A Z) → new ≡ old ++ v ∷ []
    → items_of_each new ≡ items_of_each old ++ v.items ∷ []
items_of_each-push old new v e = ap items_of_each e ∙ map-append (λ v. v.items) old (v ∷ [])

module _ {X : Type 0} where
  pub length-push : (rows rows' : List (List X)) (row : List X) (n : ℕ) → rows' ≡ rows ++ row ∷ [] → length rows ≡ n
      → length rows' ≡ n + 1
  length-push rows rows' row n e long =
      let a : length rows' ≡ length rows + 1 = ap length e ∙ length-append rows (row ∷ []) in omega arith

  pub row_here : (rows rows' : List (List X)) (row : List X) (n : ℕ) → rows' ≡ rows ++ row ∷ [] → length rows ≡ n
      → get_or rows' n [] ≡ row
  row_here rows rows' row n e long = rw (e, ← long) (get_or-append_seam rows row [] [])

  pub row_there : (rows rows' : List (List X)) (row : List X) (k : ℕ) → rows' ≡ rows ++ row ∷ [] → k < length rows
      → get_or rows' k [] ≡ get_or rows k []
  row_there rows rows' row k e low = ap (λ z. get_or z k []) e ∙ get_or-append rows (row ∷ []) [] k low

  -- what holds of the rows up to n, and of one more, holds of the rows up to n + 1
  pub rows_more : (P : ℕ → List X → Type 0) (from n : ℕ) (rows rows' : List (List X)) (row : List X)
      → rows' ≡ rows ++ row ∷ [] → length rows ≡ n
      → ((k : ℕ) → from ≤ k → k < n → P k (get_or rows k [])) → P n row
      → (k : ℕ) → from ≤ k → k < n + 1 → P k (get_or rows' k [])
  rows_more P from n rows rows' row e long before here k g h = dite (ℕ_discrete k n)
      (λ same. rw (same, row_here rows rows' row n e long) here)
      (λ other. rw (row_there rows rows' row k e (omega arith)) (before k g (omega arith)))

  -- rows that are as they were below a number still are so with one row more
  pub IsSameBelow-push : (from : ℕ) (first rows rows' : List (List X)) (row : List X) → rows' ≡ rows ++ row ∷ []
      → from ≤ length rows → IsSameBelow from first rows → IsSameBelow from first rows'
  IsSameBelow-push from first rows rows' row e long before k low = row_there rows rows' row k e (omega arith)
      ∙ before k low
