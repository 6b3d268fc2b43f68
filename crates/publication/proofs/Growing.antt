-- Lists read by `get_elem?` that grow at the end: each earlier place reads as before, and the new one reads what was
-- added. By cases on whether the place is the last.
use Rattle.std.proofs.Common.{◌≡◌, ℕ, zero, suc, ◌+◌, ◌<◌, ◌≤◌, List, [], ◌∷◌, ◌++◌, length, length-append}
use Rattle.std.proofs.Common.{append-nil, refl, sym, ap, ◌∙◌, ⊎_elim, arith}
use mathlib.Core.Logic.{dite}
use mathlib.Core.Option.{some, some-injective}
use native.Mathlib.Decide.{ℕ_discrete}
use lib.ListN.{get_elem?}
use Rattle.atomic_table.specs.Seated.{TableId}
use Rattle.atomic_table.proofs.Lists.{at_longer, at_last}
use Rattle.publication_list.proofs.RosterMaking.{at_end}
use Rattle.desk_invariant.specs.declared.board.Core.{Core}
use Rattle.desk_invariant.specs.declared.board.Slot.{Slot}
use Rattle.desk_invariant.specs.declared.board.Slot.TheVariants as slot
use Rattle.publication.specs.Making.{AreCores}

module _ {A : Type 0} where
  -- where nothing is left, the first part is all
  pub all_of : (l a b : List A) → l ≡ a ++ b → length l ≡ length a → l ≡ a
  all_of l a [] e n = e ∙ append-nil a
  all_of l a (x ∷ xs) e n =
      let f = length-append a (x ∷ xs) in
      let g : length l ≡ length (a ++ x ∷ xs) = ap length e in
      absurd (omega arith)

  -- a place below the length has an element
  pub there : (l : List A) (i : ℕ) → i < length l → (a : A) × (get_elem? l i ≡ some a)
  there [] i h = absurd (omega arith)
  there (x ∷ xs) zero h = (x, refl)
  there (x ∷ xs) (suc i) h = there xs i (omega arith)

  -- a list that has at each place what `nth` says, and one element more, which `nth` says of the place after it
  pub numbered_more : (nth : ℕ → A) (old new : List A) (last : A) → new ≡ old ++ last ∷ [] → nth (length old) ≡ last
      → ((i : ℕ) → i < length old → get_elem? old i ≡ some (nth i)) → (i : ℕ) → i < length new
      → get_elem? new i ≡ some (nth i)
  numbered_more nth old new last e is_last before i h =
      let n : length new ≡ length old + 1 = ap length e ∙ length-append old (last ∷ []) in
      ap (λ z. get_elem? z i) e ∙ dite (ℕ_discrete i (length old))
      (λ same. at_last old last i (sym same) ∙ ap some (sym is_last ∙ ap nth (sym same)))
      (λ other. at_longer old (last ∷ []) i (nth i) (before i (omega arith)))

  -- the same backwards: the last element is what `nth` says of its place, and the others are one fewer
  pub numbered_fewer : (nth : ℕ → A) (old new : List A) (last : A) → new ≡ old ++ last ∷ []
      → ((i : ℕ) → i < length new → get_elem? new i ≡ some (nth i)) → (last ≡ nth (length old))
      × (length old + 1 ≡ length new) × ((i : ℕ) → i < length old → get_elem? old i ≡ some (nth i))
  numbered_fewer nth old new last e all =
      let n : length new ≡ length old + 1 = ap length e ∙ length-append old (last ∷ []) in
      let here = ap (λ z. get_elem? z (length old)) (sym e) ∙ all (length old) (omega arith) in (
        some-injective last (nth (length old)) (sym (at_last old last (length old) refl) ∙ here),
        sym n,
        λ i h.
            let b = there old i h in
            let longer = at_longer old (last ∷ []) i b.0 b.1 in
            let same = ap (λ z. get_elem? z i) (sym e) ∙ all i (omega arith) in
            b.1 ∙ ap some (some-injective b.0 (nth i) (sym longer ∙ same)),
      )

module _ {S O R : Type 0} where
  -- one more object has its core in its slot
  pub cores_more : (lists : List TableId) (objects objects' : List S) (slots slots' : List (Slot S O R)) (object : S)
      (core : Core S O R) → objects' ≡ objects ++ object ∷ []
      → slots' ≡ slots ++ slot.Core core ∷ [] → length slots ≡ length objects → core.object ≡ object
      → core.log.items ≡ []
      → get_elem? lists (length objects) ≡ some core.list.roster → AreCores objects lists slots
      → AreCores objects' lists slots'
  cores_more lists objects objects' slots slots' object core e f n on empty list before x p at = ⊎_elim
      (λ (t : get_elem? objects x ≡ some p). let b = before x p t in
      (b.0, ap (λ z. get_elem? z x) f ∙ at_longer slots (slot.Core core ∷ []) x (slot.Core b.0) b.1, b.2, b.3, b.4))
      (λ (t : (x ≡ length objects) × (object ≡ p)). (
        core,
        ap (λ z. get_elem? z x) f ∙ at_last slots (slot.Core core) x (n ∙ sym t.0),
        on ∙ t.1,
        empty,
        ap (get_elem? lists) t.0 ∙ list,
      ))
      (at_end objects object p x (ap (λ z. get_elem? z x) (sym e) ∙ at))

  -- the cores stay in their slots with more slots after them
  pub cores_longer : (lists : List TableId) (os : List S) (ss ss' more : List (Slot S O R)) → ss' ≡ ss ++ more
      → AreCores os lists ss → AreCores os lists ss'
  cores_longer lists os ss ss' more e before x p at =
      let b = before x p at in (b.0, ap (λ z. get_elem? z x) e ∙ at_longer ss more x (slot.Core b.0) b.1, b.2, b.3, b.4)

  -- with one more empty slot there is nothing from here on
  pub nothing_more : (ss ss' : List (Slot S O R)) (from : ℕ) → ss' ≡ ss ++ slot.Nothing ∷ []
      → ((i : ℕ) → from ≤ i → i < length ss → get_elem? ss i ≡ some slot.Nothing)
      → (i : ℕ) → from ≤ i → i < length ss + 1 → get_elem? ss' i ≡ some slot.Nothing
  nothing_more ss ss' from e before i g h = ap (λ z. get_elem? z i) e ∙ dite (ℕ_discrete i (length ss))
      (λ same. at_last ss slot.Nothing i (sym same))
      (λ other. at_longer ss (slot.Nothing ∷ []) i slot.Nothing (before i g (omega arith)))
