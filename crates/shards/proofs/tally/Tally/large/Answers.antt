use Rattle.std.proofs.Common.{map, sym, ◌∙◌, ap, subst}
use Rattle.std.specs.List.Sorted.{IsNonDecreasing, IsPermutation}
use Rattle.std.proofs.lemmas.List.{take_all}
use Rattle.std.proofs.lemmas.List.Sorted.{IsNonDecreasingBy-from_sort}
use Rattle.shards.proofs.LargeObjects.{are_large, large_with}
use Rattle.shards.proofs.tally.Tally.large.Goals as goal

pub returns : goal.returns
returns c =
    let xs = c.deref-object-items.result.now in
    let value = sym c.deref-object-items.ensures.value in
    let same = c.in_ok-objects.ensures.items ∙ c.deref.ensures.value in
    let moved = subst (λ ys. IsPermutation ys xs) same
    (subst (IsPermutation c.in_ok-objects.objects.items) value c.sort_unstable.ensures.permutation) in
    let sorted = subst IsNonDecreasing value (IsNonDecreasingBy-from_sort (λ x. x) _ c.sort_unstable.ensures.sorted) in
    are_large c.args.self.now xs c.loop-object.large.items moved sorted
    (c.loop-object.invariant ∙ ap (map (large_with c.args.self.now.counts))
    (take_all c.loop-object.object-index xs c.loop-object-test.false))
