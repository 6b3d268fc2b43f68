use Rattle.std.proofs.Common.{take, sym, subst, get_or, Ok}
use Rattle.std.proofs.lemmas.List.{take_more, take_all}
use Rattle.parallel.proofs.Sharing.{IsLeastOf, next_found, none_found}
use Rattle.parallel.proofs.share.least.Goals as goal

pub loop-share-preserved : goal.loop-share-preserved
loop-share-preserved c =
    let found = c.args.found.now in
    let i = c.loop-share.share-index in
    let next = c.earlier-least.result in
    subst (λ rs. IsLeastOf rs next) (sym (take_more found i (Ok tt) c.loop-share-test.true))
    (next_found (take i found)
    (get_or found i (Ok tt)) c.loop-share.least next c.loop-share.invariant c.earlier-least.ensures)

pub returns-clause-none : goal.returns-clause-none
returns-clause-none c =
    let l = c.loop-share in
    none_found c.args.found.now l.least
    (subst (λ rs. IsLeastOf rs l.least) (take_all l.share-index c.args.found.now c.loop-share-test.false) l.invariant)
