-- `strange_object`: the least object with a certificate that is none of these, or None where there is none. The
-- places that are left are those of the certificates of other objects than the ones so far.
use Rattle.std.proofs.Common.{rules, ◌++◌, ◌∷◌, [], take, sym, ap, ◌∙◌, subst}
use Rattle.std.proofs.lemmas.List.{take_more, take_all}
use Rattle.checker.proofs.Certificates.{AreLeft, all_left, one_taken, strange}
use Rattle.checker.proofs.all.strange_object.Goals as goal

pub loop-object-init : goal.loop-object-init
loop-object-init c = all_left c.args.certificates.now c.args.places c.requires

pub loop-object-preserved : goal.loop-object-preserved
loop-object-preserved c =
    let certificates = c.args.certificates.now in
    let os = c.args.objects.now in
    let i = c.loop-object.object-index in
    let whole = take_more os i c.object-item.result c.loop-object-test.true
    ∙ ap (λ x. take i os ++ x ∷ []) (sym c.object-item.is) in
    subst (λ xs. AreLeft certificates xs c.remove.new.self) (sym whole)
    (one_taken certificates
    (take i os) c.object-item.result c.loop-object.places c.remove.new.self c.loop-object.invariant (search rules)
    (search rules))

pub returns-clause-none : goal.returns-clause-none
returns-clause-none c =
    let os = c.args.objects.now in
    let l = c.loop-object in
    let left = subst (λ xs. AreLeft c.args.certificates.now xs l.places)
    (take_all l.object-index os c.loop-object-test.false) l.invariant in
    (strange c.args.certificates.now os l.places c.least_placed.result left c.least_placed.ensures).0

pub returns-clause-least : goal.returns-clause-least
returns-clause-least c =
    let os = c.args.objects.now in
    let l = c.loop-object in
    let left = subst (λ xs. AreLeft c.args.certificates.now xs l.places)
    (take_all l.object-index os c.loop-object-test.false) l.invariant in
    (strange c.args.certificates.now os l.places c.least_placed.result left c.least_placed.ensures).1
