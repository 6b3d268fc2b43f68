-- An element that was added or removed is put back by the undo of its operation (`add_step`, `remove_step`). The two
-- sets agree on each other element (`Alike`), and then on this one.
use Rattle.std.proofs.Common.{◌≡◌, ℤ, Bool, true, false, not, ◌||◌, ◌&&◌, Ordering, Equal, refl, ap, sym, ◌∙◌, arith}
use Rattle.std.specs.Ordering.{int_cmp, is_eq}
use Rattle.std.specs.Cmp.{int_cmp_total}
use Rattle.std.specs.FinSet.{contains, insert, remove, contains-insert, contains-remove, same_set}
use Rattle.std.specs.FinSet.{int_cmp-IsAntisymmetric}
use Rattle.model.specs.declared.AnyOp.{AnyOp}
use Rattle.model.specs.declared.AnyOp.TheVariants.{Add, Remove}
use Rattle.model.specs.declared.AnyReply.TheVariants.{Flag}
use Rattle.model.specs.Objects.{Elements, next, elements}
use Rattle.order_search.specs.declared.step.Undo.TheVariants.{SetElement}
use Rattle.order_search.specs.Undoing.{undone, IsStep}
use Rattle.order_search.proofs.Keys.{answer, same_answer}

-- the two sets agree on each element other than v
abbrev Alike : Elements → Elements → ℤ → Type 0
Alike s t v = (q : ℤ) → is_eq (int_cmp q v) ≡ false → contains t q ≡ contains s q

-- an element that is put back is there again, and each other element is as before
added : (before after : Elements) (element other : ℤ) (rank : Ordering) → rank ≡ int_cmp other element
    → Alike before after element → true ≡ contains before element
    → (is_eq rank || contains after other) ≡ contains before other
added before after element other Equal e alike at =
    at ∙ ap (contains before) (sym (int_cmp-IsAntisymmetric other element (sym e)))
added before after element other rank e alike at = alike other (ap is_eq (sym e))

-- an element that is taken out again is gone, and each other element is as before
removed : (before after : Elements) (element other : ℤ) (rank : Ordering) → rank ≡ int_cmp other element
    → Alike before after element → false ≡ contains before element
    → (not (is_eq rank) && contains after other) ≡ contains before other
removed before after element other Equal e alike at =
    at ∙ ap (contains before) (sym (int_cmp-IsAntisymmetric other element (sym e)))
removed before after element other rank e alike at = alike other (ap is_eq (sym e))

back : (before after : Elements) (element : ℤ) (was : Bool) → Alike before after element → was ≡ contains before element
    → undone (SetElement element was) (elements after) ≡ elements before
back before after element true alike at =
    ap elements (same_set int_cmp_total int_cmp-IsAntisymmetric _ _ (λ q.
    contains-insert int_cmp_total after element q ∙ added before after element q (int_cmp q element) refl alike at))
back before after element false alike at =
    ap elements (same_set int_cmp_total int_cmp-IsAntisymmetric _ _ (λ q.
    contains-remove int_cmp_total after element q ∙ removed before after element q (int_cmp q element) refl alike at))

alike_added : (s : Elements) (v : ℤ) → Alike s (insert s v) v
alike_added s v q ne = contains-insert int_cmp_total s v q ∙ ap (λ b. b || contains s q) ne

alike_removed : (s : Elements) (v : ℤ) → Alike s (remove s v) v
alike_removed s v q ne = contains-remove int_cmp_total s v q ∙ ap (λ b. not b && contains s q) ne

not_not : (a b : Bool) → a ≡ not b → not a ≡ b
not_not a b e = grind (arith, e)

-- the step of an addition to a set, and what undoes it
pub add_step : (s t : Elements) (v : ℤ) (so : Bool) (op : AnyOp) → op ≡ Add v
    → next (elements s) (Add v) ≡ answer (elements t) (Flag so)
    → IsStep (elements s) op (elements t) record { reply = Flag so; undo = SetElement v (not so) }
add_step s t v so op is e =
    let both = same_answer (elements t) (elements (insert s v)) (Flag so) (Flag (not (contains s v))) (sym e) in
    let told : so ≡ not (contains s v) = cc (both.1) in record {
      does = ap (next (elements s)) is ∙ e;
      back = ap (undone (SetElement v (not so))) both.0
          ∙ back s (insert s v) v (not so) (alike_added s v) (not_not so (contains s v) told);
    }

-- the step of a removal from a set, and what undoes it
pub remove_step : (s t : Elements) (v : ℤ) (so : Bool) (op : AnyOp) → op ≡ Remove v
    → next (elements s) (Remove v) ≡ answer (elements t) (Flag so)
    → IsStep (elements s) op (elements t) record { reply = Flag so; undo = SetElement v so }
remove_step s t v so op is e =
    let both = same_answer (elements t) (elements (remove s v)) (Flag so) (Flag (contains s v)) (sym e) in
    let told : so ≡ contains s v = cc (both.1) in record {
      does = ap (next (elements s)) is ∙ e;
      back = ap (undone (SetElement v so)) both.0 ∙ back s (remove s v) v so (alike_removed s v) told;
    }
