-- What an exchange of a slot in hand gives.
use Rattle.std.proofs.Common.{◌≡◌, ℕ, List, [], ◌∷◌, sym, ap, ◌∙◌}
use Rattle.atomic_table.specs.Table.{rest, Me}
use Rattle.desk_model.specs.declared.Request.{Request}
use Rattle.desk_model.specs.declared.Answer.{Answer}
use Rattle.desk_invariant.specs.declared.board.Core.{Core}
use Rattle.desk_invariant.specs.declared.board.DeskView.{DeskView}
use Rattle.desk_invariant.specs.declared.board.Slot.{Slot}
use Rattle.desk_invariant.specs.declared.board.Slot.TheVariants as slot

module _ {S O R : Type 0} where
  abbrev head_or : Slot S O R → List (ℕ × Slot S O R) → Slot S O R
  head_or d [] = d
  head_or d (x ∷ xs) = x.1

  -- the value that comes out of the slot taken last
  pub came_out : (i : ℕ) (inside out : Slot S O R) (hand others : List (ℕ × Slot S O R)) → hand ≡ (i, inside) ∷ others
      → hand ≡ (i, out) ∷ rest hand → out ≡ inside
  came_out i inside out hand others a b = ap (head_or inside) (sym b ∙ a)

  -- the first slot in a client's hands can be exchanged
  pub can_exchange : (i : ℕ) (inside : Slot S O R) (hand others : List (ℕ × Slot S O R)) → hand ≡ (i, inside) ∷ others
      → (old : Slot S O R) × (hand ≡ (i, old) ∷ rest hand)
  can_exchange i inside hand others e = (inside, e ∙ ap (λ z. (i, inside) ∷ rest z) (sym e))

  -- another value in the slot taken last
  pub in_slot : (view : DeskView) (i : ℕ) (one other : Slot S O R) (others : List (ℕ × Slot S O R)) → one ≡ other
      → ◌≡◌ {A = Me (Slot S O R) DeskView} (view, (i, one) ∷ others) (view, (i, other) ∷ others)
  in_slot view i one other others e = ap (λ z. (view, (i, z) ∷ others)) e

  pub same_core : (k k' : Core S O R) → slot.Core k ≡ slot.Core k' → k ≡ k'
  same_core k k' e = cc

  pub same_request : (q p : Request O) → ◌≡◌ {A = Slot S O R} (slot.Request q) (slot.Request p) → q ≡ p
  same_request q p e = cc

  pub same_answer : (a b : Answer R) → ◌≡◌ {A = Slot S O R} (slot.Answer a) (slot.Answer b) → a ≡ b
  same_answer a b e = cc
