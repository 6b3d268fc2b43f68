-- `check_all`: `Ok` means that the certificates are valid, and an error is the first refusal. All objects before
-- the one at hand are fine, so its refusal is the first; after the loop only a strange object is left.
use Rattle.std.proofs.Common.{◌≡◌, ◌++◌, ◌∷◌, [], take, sym, ap, ◌∙◌, subst, map}
use Rattle.std.proofs.lemmas.Result.{err_from_is_err_and}
use Rattle.std.proofs.lemmas.List.{take_more, take_all}
use Rattle.events.specs.Operations.{ObjectCalls}
use Rattle.checker.specs.declared.refusal.Refusal.TheVariants.{NoMemory}
use Rattle.checker.specs.Checking.{AreForThese, IsLeastBesides}
use Rattle.checker.specs.Refusals.{AreValid, IsFirstRefusal}
use Rattle.checker.proofs.Certificates.{AreFine, are_objects, next_fine, next_is_first, fine_with_next, all_valid}
use Rattle.checker.proofs.Certificates.{least_strange, strange_is_not_valid}
use Rattle.checker.proofs.all.check_all.Goals as goal
use Rattle.checker.proofs.all.check_all.Goals.{In_err-check_object_at, After-strange_object}

pub loop-object-init : goal.loop-object-init
loop-object-init c = record {
  objects = are_objects c.args.history.now c.deref-object-items.result.now c.in-Ok.objects.items
      c.deref-object-items.ensures.value
      c.in-Ok.ensures.rising c.in-Ok.ensures.named c.in-Ok.ensures.kinds c.in-Ok.ensures.calls;
  fine = λ o i. absurd i;
}

-- the refusal of the object at hand is the first
first : (c : In_err-check_object_at)
    → IsFirstRefusal c.args.history.now c.args.certificates.now c.in_err-check_object_at.field-0.0
    × (AreValid c.args.history.now c.args.certificates.now → c.in_err-check_object_at.field-0.0 ≡ NoMemory)
first c =
    let l = c.loop-object in
    next_is_first c.args.history.now c.args.certificates.now c.deref-object-items.result.now l.object-index
    c.object-item.result
    c.in_err-check_object_at.field-0.0 c.requires l.invariant.objects l.invariant.fine c.loop-object-test.true
    c.object-item.is c.in_err-check_object_at.ensures.refused

pub returns-in_err-check_object_at-clause-refused : goal.returns-in_err-check_object_at-clause-refused
returns-in_err-check_object_at-clause-refused c =
    let p = err_from_is_err_and c.from_residual.result c.from_residual.ensures.1 in
    rw (p.1, p.2) (first (goal.at.returns-in_err-check_object_at-clause-refused c).In_err-check_object_at).0

pub returns-in_err-check_object_at-clause-exact : goal.returns-in_err-check_object_at-clause-exact
returns-in_err-check_object_at-clause-exact c = λ valid.
    let p = err_from_is_err_and c.from_residual.result c.from_residual.ensures.1 in
    rw (p.1, p.2) ((first (goal.at.returns-in_err-check_object_at-clause-exact c).In_err-check_object_at).1 valid)

pub loop-object-preserved : goal.loop-object-preserved
loop-object-preserved c =
    let es = c.args.history.now in
    let certificates = c.args.certificates.now in
    let fs = c.deref-object-items.result.now in
    let l = c.loop-object in
    let i = l.object-index in
    let o = c.object-item.result in
    let inside = c.loop-object-test.true in
    let whole = take_more fs i o inside ∙ ap (λ x. take i fs ++ x ∷ []) (sym c.object-item.is) in
    let fine = next_fine es certificates fs i o l.invariant.objects inside c.object-item.is
    c.in_ok-check_object_at.ensures.fine in
    record {
      objects = l.invariant.objects;
      fine = subst (AreFine es certificates) (sym whole)
          (fine_with_next es certificates (take i fs) o l.invariant.fine fine);
    }

-- at the end all objects are checked
checked : (c : After-strange_object)
    → AreFine c.args.history.now c.args.certificates.now c.deref-object-items.result.now
checked c =
    let l = c.loop-object in
    subst (AreFine c.args.history.now c.args.certificates.now)
    (take_all l.object-index c.deref-object-items.result.now c.loop-object-test.false) l.invariant.fine

same_objects : (c : After-strange_object) → c.deref.result.now ≡ c.deref-object-items.result.now
same_objects c = c.deref.ensures.value ∙ sym c.deref-object-items.ensures.value

pub returns-in-Some-clause-refused : goal.returns-in-Some-clause-refused
returns-in-Some-clause-refused c =
    let certificates = c.args.certificates.now in
    let x = c.in-Some.object in
    let d = (goal.at.returns-in-Some-clause-refused c).After-strange_object in
    least_strange c.args.history.now certificates c.deref-object-items.result.now x c.requires
    c.loop-object.invariant.objects (checked d)
    (subst (λ os. IsLeastBesides (map (λ (o : ObjectCalls). o.object) os) certificates x)
    (same_objects d) c.in-Some.ensures.least)

pub returns-in-Some-clause-exact : goal.returns-in-Some-clause-exact
returns-in-Some-clause-exact c =
    λ valid. absurd (strange_is_not_valid c.args.history.now c.args.certificates.now c.in-Some.object
    (returns-in-Some-clause-refused c) valid)

pub returns-clause-valid : goal.returns-clause-valid
returns-clause-valid c =
    let certificates = c.args.certificates.now in
    let d = (goal.at.returns-clause-valid c).After-strange_object in
    all_valid c.args.history.now certificates c.deref-object-items.result.now c.loop-object.invariant.objects
    (checked d)
    (subst (λ os. AreForThese (map (λ (o : ObjectCalls). o.object) os) certificates)
    (same_objects d) c.in-None.ensures.none)

pub returns-in_err-check_object_at-clause-answer : goal.returns-in_err-check_object_at-clause-answer
returns-in_err-check_object_at-clause-answer c =
    let p = err_from_is_err_and c.from_residual.result c.from_residual.ensures.1 in
    let f = first (goal.at.returns-in_err-check_object_at-clause-answer c).In_err-check_object_at in
    rw (p.1, p.2) (record { valid = tt; refused = f.0; exact = f.1 })

pub returns-in-Some-clause-answer : goal.returns-in-Some-clause-answer
returns-in-Some-clause-answer c =
    record { valid = tt; refused = returns-in-Some-clause-refused c; exact = returns-in-Some-clause-exact c }

pub returns-clause-answer : goal.returns-clause-answer
returns-clause-answer c = record { valid = returns-clause-valid c; refused = tt; exact = λ valid. tt }
