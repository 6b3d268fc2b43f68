use Rattle.std.proofs.Common.{◌≡◌, true, sym, ◌∙◌, rules}
use Rattle.std.proofs.lemmas.Bool.{false≢true}
use Rattle.pairing_heap.proofs.Counting.{same_bags, alike_from_same}
use Rattle.pairing_heap.proofs.compare.same_values.Goals as goal

pub returns-then-are_used_alike : goal.returns-then-are_used_alike
returns-then-are_used_alike c =
    let left = c.args.left.now in
    let right = c.args.right.now in
    let there = sym c.are_used_alike.ensures ∙ c.if-are_used_alike.true in
    let back = c.are_used_alike-then-are_used_alike.ensures in (
      λ e. same_bags left right there (sym back ∙ (search rules)),
      λ e. let all = back ∙ alike_from_same right left right (sym e) in search rules,
    )

pub returns-else-are_used_alike : goal.returns-else-are_used_alike
returns-else-are_used_alike c =
    let there = sym c.are_used_alike.ensures ∙ c.if-are_used_alike.false in (
      λ e. let yes_too : c.are_used_alike.result ≡ true = search rules in
          absurd (false≢true (sym c.if-are_used_alike.false ∙ yes_too)),
      λ e. absurd (false≢true (sym there ∙ alike_from_same c.args.left.now c.args.right.now c.args.left.now e)),
    )
