-- `take_claim`: the decision on the claim's object is the next one by the claim, and no other changes. The numbers
-- rise, so the binary search finds the object's place (`is_own`), or no object has the number (`not_there`).
use Rattle.std.proofs.Common.{rules, ◌≡◌, ◌∙◌, ◌<◌, ℕ, length, get_or, ap, arith}
use Rattle.std.proofs.Math.ListN.{set}
use Rattle.std.proofs.lemmas.List.{get_or_default, length-set}
use Rattle.std.proofs.lemmas.List.Sorted.{answers_always}
use Rattle.verifying.specs.declared.decision.Decision.{Decision}
use Rattle.verifying.specs.Taking.{no_answer}
use Rattle.verifying.proofs.Taken.{is_own, not_there, search_rises, taken}
use Rattle.verifying.proofs.all.take_claim.Goals as goal

pub returns-in_default : goal.returns-in_default
returns-in_default c =
    let objects = c.args.objects.now in
    let by_number = c.in_default.ensures.position (λ o. o.object)
    (answers_always _ _ _ (λ f a r g called. search rules)) in
    let point = by_number (search_rises objects c.object-number.result c.requires.rising) in
    not_there objects c.args.limit c.args.claim c.args.answers.now.items c.in_default.field-0
    (rw c.object-number.ensures at point)

pub decide_further-requires : goal.decide_further-requires
decide_further-requires c =
    let by_number = c.in-Ok.ensures.position (λ o. o.object) (answers_always _ _ _ (λ f a r g called. search rules)) in
    is_own c.args.objects.now c.args.limit c.args.claim c.args.answers.now.items c.in-Ok.at c.object-number.result
    c.index-objects-at.result c.object-number.ensures
    c.index-objects-at.is (by_number c.index-objects-at.result)

pub returns : goal.returns
returns c =
    let objects = c.args.objects.now in
    let old = c.args.answers.now.items in
    let at = c.in-Ok.at in
    let inside : at < length objects = c.in-Ok.ensures.bound in
    let in_old : at < length old = omega (arith, inside, c.requires.each) in
    let by_number = c.in-Ok.ensures.position (λ o. o.object) (answers_always _ _ _ (λ f a r g called. search rules)) in
    let own = is_own objects c.args.limit c.args.claim old at c.object-number.result c.index-objects-at.result
    c.object-number.ensures
    c.index-objects-at.is (by_number c.index-objects-at.result) in
    let first = c.index_mut.result.now in
    let was : first ≡ get_or old at no_answer = c.index_mut.ensures.value
    ∙ get_or_default old at first no_answer in_old in
    let middle = set old at (first.0, c.replace-earlier.new.dest) in
    let second = c.index_mut-2.result.now in
    let in_middle : at < length middle = rw (length-set old at (first.0, c.replace-earlier.new.dest)) in_old in
    let is : second ≡ get_or middle at no_answer = c.index_mut-2.ensures.value
    ∙ get_or_default middle at second no_answer in_middle in
    let earlier : c.replace-earlier.result ≡ (get_or old at no_answer).1 = c.replace-earlier.ensures.value
    ∙ ap (λ (a : ℕ × Decision). a.1) was in
    taken objects c.args.limit c.args.claim old at c.index-objects-at.result first.0 second.0 c.replace-earlier.new.dest
    c.in_ok-answers.field-0 c.requires.rising inside
    c.requires.each c.index-objects-at.is own (ap (λ (a : ℕ × Decision). a.0) was) (ap (λ (a : ℕ × Decision). a.0) is)
    (rw earlier at c.in_ok-answers.ensures)
