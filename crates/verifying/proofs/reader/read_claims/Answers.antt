-- `read_claims`: the forms denote the claims, or the fault is their first. The loop keeps that the forms so far
-- denote the claims so far, so a fault at the next form is the first (`first_fault`).
use Rattle.edn_reader.specs.View.{views}
use Rattle.edn.proofs.FormsRead.{next_read}
use Rattle.verifying.specs.Denotes.{claim_in, claim_seen}
use Rattle.verifying.proofs.Reading.{first_fault, not_denoted, sound_before}
use Rattle.verifying.proofs.reader.read_claims.Goals as goal

pub returns-in-Err-clause-fault : goal.returns-in-Err-clause-fault
returns-in-Err-clause-fault c = λ other.
    first_fault c.args.forms.now c.loop-place.place c.index-forms-place.result c.loop-place.claims.items c.in-Err.kind
    c.loop-place-test.true
    c.index-forms-place.is c.loop-place.invariant (c.in-Err.ensures.fault other)

pub returns-in-Err-clause-refused : goal.returns-in-Err-clause-refused
returns-in-Err-clause-refused c = λ other. not_denoted (views c.args.forms.now) _ (returns-in-Err-clause-fault c other)

pub returns-in-Err-clause-memory : goal.returns-in-Err-clause-memory
returns-in-Err-clause-memory c = λ _.
    sound_before c.args.forms.now c.loop-place.place c.index-forms-place.result c.loop-place.claims.items
    c.loop-place-test.true c.index-forms-place.is
    c.loop-place.invariant

pub returns-in-Err-push-clause-memory : goal.returns-in-Err-push-clause-memory
returns-in-Err-push-clause-memory c = λ _.
    sound_before c.args.forms.now c.loop-place.place c.index-forms-place.result c.loop-place.claims.items
    c.loop-place-test.true c.index-forms-place.is
    c.loop-place.invariant

pub loop-place-preserved : goal.loop-place-preserved
loop-place-preserved c =
    rw c.in-Ok-push.ensures.items
    (next_read claim_in claim_seen c.args.forms.now c.loop-place.place c.index-forms-place.result
    c.loop-place.claims.items c.in-Ok.claim
    c.loop-place-test.true c.index-forms-place.is c.loop-place.invariant c.in-Ok.ensures.own)
