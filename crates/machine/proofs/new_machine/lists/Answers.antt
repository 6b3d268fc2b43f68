use Rattle.std.proofs.Common.{◌∷◌, [], ◌++◌, ◌∙◌, ap, sym, replicate, arith}
use Rattle.recorder.specs.Records.{items_of_each}
use Rattle.machine.proofs.Starting.{copies_more, items_of-more}
use Rattle.machine.proofs.new_machine.lists.Goals as goal

pub listing-preserved : goal.listing-preserved
listing-preserved g c =
    let long = c.in_ok-push.ensures.len in
    let test = c.listing-test.true in (
      ap items_of_each c.in_ok-push.ensures.items ∙ items_of-more c.listing.lists.items c.new.result
          ∙ ap (λ es. items_of_each c.listing.lists.items ++ es ∷ []) c.new.ensures.items
          ∙ ap (λ vs. vs ++ [] ∷ []) c.listing.invariant.0 ∙ copies_more _ [] ∙ ap (λ n. replicate n []) (sym long),
      omega arith,
    )
