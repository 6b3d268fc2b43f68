-- `decide_by_claims`: the answers are the decisions on the objects by all claims. After each claim, the answers are
-- those by the claims so far; at the start all objects are open.
use Rattle.std.proofs.Common.{rules, arith, ◌≡◌, ◌∙◌, ◌∷◌, ◌++◌, [], List, append_assoc, length, refl, ap, sym, subst}
use Rattle.std.proofs.lemmas.List.{append-nil, nil_from_length}
use Rattle.events.specs.Operations.{ObjectCalls}
use Rattle.checker.proofs.Certificates.{are_objects}
use Rattle.checker.proofs.Collected.{distinct, valid}
use Rattle.verifying.specs.Decisions.{certificate_decided}
use Rattle.verifying.specs.Taking.{AreDecisionsTaken}
use Rattle.verifying.proofs.Decided.{IsDecided, certifies, lacks_order, not_linearizable}
use Rattle.verifying.proofs.Taken.{decided_on_all, none_claimed, claim_taken, same_length}
use Rattle.verifying.proofs.all.decide_by_claims.Goals as goal

pub loop-claim-init : goal.loop-claim-init
loop-claim-init c =
    let objects = c.in_ok-objects.objects.items in
    let all_open = rw c.deref.ensures.value at c.in_ok-answers.ensures in
    record {
      taken = [];
      parts = refl;
      decided = none_claimed objects c.args.limit c.in_ok-answers.answers.items all_open;
    }

pub take_claim-requires-clause-each : goal.take_claim-requires-clause-each
take_claim-requires-clause-each c =
    same_length c.in_ok-objects.objects.items c.loop-claim.invariant.taken c.args.limit c.loop-claim.answers.items
    c.loop-claim.invariant.decided
    ∙ ap length (sym c.deref-in-loop-claim.ensures.value)

pub loop-claim-preserved : goal.loop-claim-preserved
loop-claim-preserved c =
    let objects = c.in_ok-objects.objects.items in
    let h = c.loop-claim.invariant in
    let claim = c.in-Some.claim in
    let rest = c.next.new.self.rest.items in
    let taken = subst
    (λ (os : List ObjectCalls). AreDecisionsTaken os c.args.limit claim c.loop-claim.answers.items
    c.take_claim.new.answers.items)
    c.deref-in-loop-claim.ensures.value c.in_ok-take_claim.ensures in
    record {
      taken = h.taken ++ claim ∷ [];
      parts =
          append_assoc h.taken (claim ∷ []) rest ∙ ap (λ xs. h.taken ++ xs) (sym c.in-Some.ensures.steps.0) ∙ h.parts;
      decided = claim_taken objects h.taken c.args.limit claim c.loop-claim.answers.items c.take_claim.new.answers.items
          taken h.decided;
    }

pub returns : goal.returns
returns c =
    let es = c.args.history.now in
    let objects = c.in_ok-objects.objects.items in
    let s = c.in_ok-objects.ensures in
    let h = c.loop-claim.invariant in
    let claims = c.args.claims.items in
    let limit = c.args.limit in
    let answers = c.loop-claim.answers.items in
    let ok = c.loop-claim.claim-iterator.rest.ok in
    let ended = c.in-None.ensures.steps.0 in
    let left : c.loop-claim.claim-iterator.rest.items ≡ [] = nil_from_length _ (omega (arith, ok, ended)) in
    let given : c.into_iter-claim-iterator.result.rest.items ≡ claims = search rules in
    let all = sym (append-nil h.taken) ∙ ap (λ xs. h.taken ++ xs) (sym left) ∙ h.parts ∙ given in
    let decided = rw all at h.decided in
    let on_all = decided_on_all es objects claims limit answers
    (are_objects _ _ _ refl s.rising s.named s.kinds s.calls) decided in
    record {
      rising = on_all.rising;
      named = on_all.named;
      decisions = on_all.each;
      impossible =
          not_linearizable es claims limit answers c.linearizable_has_orders.ensures c.events.ensures.history on_all;
      distinct = distinct certificate_decided es (IsDecided claims limit) answers (certifies claims limit) on_all;
      valid = valid certificate_decided es (IsDecided claims limit) answers (certifies claims limit) on_all;
      lacking = lacks_order es claims limit answers on_all;
    }
