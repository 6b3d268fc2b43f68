use Rattle.std.proofs.Common.{arith}
use Rattle.parallel.proofs.Sharing.{at_next, refused_at, fine_at}
use Rattle.parallel.proofs.share.check_share.Goals as goal

pub returns-in-Err-clause-found : goal.returns-in-Err-clause-found
returns-in-Err-clause-found g c =
    let os = c.args.objects.now in
    let l = c.loop-place in
    let inside = c.loop-place-test.true in
    record {
      inside = inside;
      own = l.invariant.own;
      refused = refused_at os c.args.certificates.now l.place c.index-objects-place.result c.in-Err.refusal inside
          c.index-objects-place.is c.in-Err.ensures.refused;
      before = λ k below own. l.invariant.fine k below (omega arith) own;
    }

pub loop-place-preserved : goal.loop-place-preserved
loop-place-preserved g c =
    let os = c.args.objects.now in
    let l = c.loop-place in
    let fine = fine_at os c.args.certificates.now l.place c.index-objects-place.result c.loop-place-test.true
    c.index-objects-place.is c.in_default.ensures.fine in
    at_next c.args.worker c.args.workers os c.args.certificates.now l.place
    (let w = c.requires.worker in omega arith) l.invariant fine
