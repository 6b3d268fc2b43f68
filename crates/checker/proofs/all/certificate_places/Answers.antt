use Rattle.std.proofs.Common.{get_or, ap}
use Rattle.checker.proofs.Certificates.{one_placed, all_placed}
use Rattle.checker.proofs.all.certificate_places.Goals as goal

pub loop-k-preserved : goal.loop-k-preserved
loop-k-preserved c =
    let certificates = c.args.certificates.now in
    let d = get_or certificates c.loop-k.k c.index-certificates-k.result in
    one_placed certificates c.loop-k.places c.insert.new.self c.loop-k.k d c.loop-k-test.true
    (ap (get_or certificates c.loop-k.k) c.index-certificates-k.is) c.loop-k.invariant.0 c.loop-k.invariant.1
    c.in_ok-insert.ensures.own c.in_ok-insert.ensures.others

pub returns : goal.returns
returns c = record {
  places = c.loop-k.invariant.0;
  all = all_placed c.args.certificates.now c.loop-k.places c.loop-k.k c.loop-k-test.false c.loop-k.invariant.1;
}
