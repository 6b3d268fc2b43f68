-- `part_by`: the cuts name the part, and where it has no valid order the whole has none. The loop keeps both for
-- the cuts so far (`IsCutSoFar`): a part of a part is a part (`part_of_part`), and each cut names one part only.
use Rattle.std.proofs.Common.{◌≡◌, List, Option, IfSome, get_or, ap, sym, ◌∙◌, subst}
use Rattle.model.specs.Orders.{Call}
use Rattle.events.specs.Operations.{ObjectCalls, calls_of}
use Rattle.cuts.specs.declared.cutting.Cut.{Cut}
use Rattle.cuts.specs.Cuts.{IsPart, Names, kind_after_cut, kind_after_cuts}
use Rattle.cuts.proofs.CutOperations.{part_of_part}
use Rattle.cuts.proofs.Naming.{IsCutSoFar, not_cut, cut_further, kind_further}
use Rattle.cuts.proofs.cutting.part_by.Goals as goal

pub loop-cut-init : goal.loop-cut-init
loop-cut-init c =
    let h = c.args.history.now in
    record {
      part = c.in_ok-part.ensures.part;
      kind = ap (kind_after_cuts c.args.cuts.now) (sym c.in_ok-part.ensures.kind);
      names = subst (IsCutSoFar c.args.cuts.now 0 (calls_of h.ops)) (sym c.in_ok-part.ensures.calls)
          (not_cut c.args.cuts.now (calls_of h.ops));
    }

pub loop-cut-preserved : goal.loop-cut-preserved
loop-cut-preserved c =
    let h = c.args.history.now in
    let now = calls_of c.loop-cut.part.ops in
    let cut = c.cut-item.result in
    let part = subst (λ (o : Option ObjectCalls). IfSome o (λ p. IsPart c.loop-cut.part p)) c.in-Some.is
    c.in_ok-next.ensures.part in
    let named = subst (λ (o : Option ObjectCalls). IfSome o (λ p. Names cut now (calls_of p.ops))) c.in-Some.is
    c.in_ok-next.ensures.named in
    let one = subst (λ (o : Option ObjectCalls). IfSome o
    (λ p. (part : List Call) → Names cut now part → part ≡ calls_of p.ops)) c.in-Some.is c.in_ok-next.ensures.one in
    let kind = subst (λ (o : Option ObjectCalls). IfSome o (λ p. p.kind ≡ kind_after_cut cut c.loop-cut.part.kind))
    c.in-Some.is c.in_ok-next.ensures.kind in
    let is : cut ≡ get_or c.args.cuts.now c.loop-cut.cut-index cut = c.cut-item.is in
    record {
      part = part_of_part h c.loop-cut.part c.in-Some.next c.loop-cut.invariant.part part;
      kind = kind_further c.args.cuts.now c.loop-cut.cut-index cut h.kind c.loop-cut.part.kind c.in-Some.next.kind
          c.loop-cut-test.true
          c.loop-cut.invariant.kind (kind ∙ ap (λ (z : Cut). kind_after_cut z c.loop-cut.part.kind) is);
      names = cut_further c.args.cuts.now c.loop-cut.cut-index cut (calls_of h.ops) now
          (calls_of c.in-Some.next.ops) c.loop-cut-test.true
          c.loop-cut.invariant.names (subst (λ (z : Cut). Names z now (calls_of c.in-Some.next.ops)) is named)
          (λ p k. one p (subst (λ (z : Cut). Names z now p) (sym is) k));
    }
