-- `check_entries`: the order is valid, or the refusal names its first fault. The loop keeps `Walk` of the entries
-- so far: each is of a call, is marked, came in time and gave its reply. At the end the order leaves out no call.
use Rattle.std.proofs.Common.{◌≡◌, ℕ, ℤ, pos, ◌<◌, length, true, false, List, Some, get_or, slice_get, to_z, of_z}
use Rattle.std.proofs.Common.{w64, ap, sym, ◌∙◌, subst, arith}
use Rattle.std.proofs.lemmas.Int.{ints}
use Rattle.std.proofs.lemmas.Option.{slice_get-get_or}
use Rattle.model.specs.declared.AnyReply.{AnyReply}
use Rattle.checker.specs.Ends.{AreMarked, IsFirstUnmarked}
use Rattle.checker.proofs.WalkAnswers.{unknown_first}
use Rattle.checker.proofs.Finding.{placeholder_operation}
use Rattle.checker.proofs.Steps.{Walk}
use Rattle.checker.proofs.Ending.{IsHere, refused_by, read_at, repeated_at, late_at, impossible_at, wrong_at}
use Rattle.checker.proofs.Ending.{next_at, at_end, all_marked, omitted_at}
use Rattle.checker.proofs.walk.check_entries.Given.{Over}
use Rattle.checker.proofs.walk.check_entries.Goals as goal
use Rattle.checker.proofs.walk.check_entries.Goals.{After-late_by, After-first_omitted}

-- an entry as the loop reads it
abbrev entry : List ℤ → ℕ → ℤ
entry o i = to_z w64 (of_z w64 (get_or o i (pos 0)))

entry_at : (o : List ℤ) (i : ℕ) → i < length o → entry o i ≡ get_or o i (pos 0) → slice_get o i ≡ Some (entry o i)
entry_at o i l e = slice_get-get_or o i (pos 0) l ∙ ap Some (sym e)

-- the entry at hand is that of an operation, where the walk has not been
here : (g : Over) (c : After-late_by g)
    → IsHere c.args.kind c.args.ops.now c.args.order.now c.loop-entry.entry-index c.loop-entry.seen.items
    (g.S.SeqObject.content c.loop-entry.object) c.loop-entry.greatest
    (entry c.args.order.now c.loop-entry.entry-index) c.in-Some.k c.in-Some.ensures.some.1.0
here g c =
    let s = c.in-Some.ensures.some in
    let w = c.loop-entry.invariant in
    let len : c.in-Some.k < length c.loop-entry.seen.items = omega (arith, w.long, s.0) in
    record {
      walk = w;
      at = entry_at c.args.order.now c.loop-entry.entry-index c.loop-entry-test.true (omega (arith, ints));
      hand = record { within = s.0; found = s.1.1; is = s.1.2 };
      fresh = read_at c.loop-entry.seen.items c.in-Some.k c.index.result.now false len c.index.ensures c.if-index.false;
    }

-- all entries have been passed
over : (g : Over) (c : After-first_omitted g)
    → Walk c.args.kind c.args.ops.now c.args.order.now c.loop-entry.seen.items
    (g.S.SeqObject.content c.loop-entry.object) c.loop-entry.greatest
over g c = at_end c.args.kind c.args.ops.now c.args.order.now c.loop-entry.entry-index c.loop-entry.seen.items _
    c.loop-entry.greatest c.loop-entry.invariant c.loop-entry-test.false

pub returns-in_default-place_of-clause-refused : goal.returns-in_default-place_of-clause-refused
returns-in_default-place_of-clause-refused g c =
    let at = entry_at c.args.order.now c.loop-entry.entry-index c.loop-entry-test.true (omega (arith, ints)) in
    refused_by _ _ _ _ _ _ c.refuse.ensures
    (unknown_first _ _ _ _ _ _ c.loop-entry.invariant.so_far at c.in_default-place_of.ensures.none)

pub returns-then-index-clause-refused : goal.returns-then-index-clause-refused
returns-then-index-clause-refused g c =
    let at = entry_at c.args.order.now c.loop-entry.entry-index c.loop-entry-test.true (omega (arith, ints)) in
    let s = c.in-Some.ensures.some in
    let w = c.loop-entry.invariant in
    let len : c.in-Some.k < length c.loop-entry.seen.items = omega (arith, w.long, s.0) in
    let marked = read_at c.loop-entry.seen.items c.in-Some.k c.index.result.now true len c.index.ensures
    c.if-index.true in
    refused_by _ _ _ _ _ _ c.refuse-then-index.ensures
    (repeated_at _ _ _ _ _ _ _ _ _ _ placeholder_operation w at
    (record { within = s.0; found = s.1.1; is = s.1.2 }) marked)

pub returns-in-Some-late_by-clause-refused : goal.returns-in-Some-late_by-clause-refused
returns-in-Some-late_by-clause-refused g c =
    let h = here g (goal.at.returns-in-Some-late_by-clause-refused g c).After-late_by in
    let late = c.in-Some-late_by.ensures in
    refused_by _ _ _ _ _ _ c.refuse-in-Some-late_by.ensures (late_at _ _ _ _ _ _ _ _ _ _ _ _ h late.0 late.1)

pub returns-then-not-possible-clause-refused : goal.returns-then-not-possible-clause-refused
returns-then-not-possible-clause-refused g c =
    let h = here g (goal.at.returns-then-not-possible-clause-refused g c).After-late_by in
    refused_by _ _ _ _ _ _ c.refuse-then-not-possible.ensures
    (impossible_at _ _ _ _ _ _ _ _ _ _ _ _ _ h c.in_default-late_by.ensures
    (c.requires.own_ops _) c.possible.ensures c.if-not-possible.true)

pub returns-then-differs-clause-refused : goal.returns-then-differs-clause-refused
returns-then-differs-clause-refused g c =
    let h = here g (goal.at.returns-then-differs-clause-refused g c).After-late_by in
    let done = c.in-Ok-apply.ensures.ok
    ∙ ap (λ (r : AnyReply). Some (g.S.SeqObject.content c.apply.new.self, r))
    (c.requires.own_replies c.in-Ok-apply.gives) in
    refused_by _ _ _ _ _ _ c.refuse-then-differs.ensures
    (wrong_at _ _ _ _ _ _ _ _ _ _ _ _ _ _ h c.in_default-late_by.ensures
    (c.requires.own_ops _) done c.if-differs.ensures)

pub loop-entry-preserved : goal.loop-entry-preserved
loop-entry-preserved g c =
    let h = here g (goal.at.loop-entry-preserved g c).After-late_by in
    let done = c.in-Ok-apply.ensures.ok
    ∙ ap (λ (r : AnyReply). Some (g.S.SeqObject.content c.apply.new.self, r))
    (c.requires.own_replies c.in-Ok-apply.gives) in
    next_at _ _ _ _ _ _ _ _ _ _ _ _ _ _ _ c.requires.rising h c.loop-entry-test.true
    (omega (arith, ints)) c.in_default-late_by.ensures
    (c.requires.own_ops _) done c.if-differs.ensures c.in-Ok-apply.ensures.kind c.greatest_with.ensures

pub returns-in-Some-first_omitted-clause-refused : goal.returns-in-Some-first_omitted-clause-refused
returns-in-Some-first_omitted-clause-refused g c =
    let w = over g (goal.at.returns-in-Some-first_omitted-clause-refused g c).After-first_omitted in
    refused_by _ _ _ _ _ _ c.refuse-in-Some-first_omitted.ensures
    (omitted_at _ _ _ _ _ _ _ placeholder_operation c.requires.rising w
    (subst (λ m. IsFirstUnmarked c.args.ops.now m c.in-Some-first_omitted.op) c.deref.ensures.value
    c.in-Some-first_omitted.ensures.some))

pub returns-clause-valid : goal.returns-clause-valid
returns-clause-valid g c =
    let w = over g (goal.at.returns-clause-valid g c).After-first_omitted in
    all_marked _ _ _ _ _ _ placeholder_operation c.requires.rising w
    (subst (λ m. AreMarked c.args.ops.now m (length c.args.ops.now)) c.deref.ensures.value c.in-None.ensures.none)
