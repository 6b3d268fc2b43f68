-- `write_certificates`: the lines go out, or a front of them if the sink fails, and read back as the certificates.
-- The loop keeps that what was sent and the lines left are all lines, and that each order so far is in range.
use Rattle.std.proofs.Common.{rules, arith, subst}
use Rattle.std.proofs.lemmas.List.{take_all}
use Rattle.edn_reader.specs.Text.{IsInt64}
use Rattle.std.specs.List.{AllByRecursion}
use Rattle.edn.proofs.Fronts.{within, further, fails}
use Rattle.certificate.specs.Lines.{certificate_lines}
use Rattle.certificate.specs.declared.Certificate.{Certificate}
use Rattle.certificate.proofs.Writing.{lines_left, lines_spell, all_taken_item, InProfiles}
use Rattle.certificate.proofs.writer.write_certificates.Goals as goal

pub returns-in_err-write_line-clause-sent : goal.returns-in_err-write_line-clause-sent
returns-in_err-write_line-clause-sent g c =
    let l = c.loop-certificate in
    let h = c.in_err-write_line.ensures.sent in
    let left = lines_left c.args.certificates.now l.certificate-index c.certificate-item.result
    c.loop-certificate-test.true c.certificate-item.is in
    fails _ _ _ _ _ (search rules)
    (within _ _ _ _ l.invariant.done _ _ _ l.invariant.parts left l.invariant.sent h.1.0) h.1.1

pub loop-certificate-preserved : goal.loop-certificate-preserved
loop-certificate-preserved g c =
    let l = c.loop-certificate in
    let h = c.in_ok-write_line.ensures.sent.0 in
    let cs = c.args.certificates.now in
    let left = lines_left cs l.certificate-index c.certificate-item.result c.loop-certificate-test.true
    c.certificate-item.is in
    let f = further _ _ _ (certificate_lines cs) l.invariant.done _ _ _ l.invariant.parts left l.invariant.sent h.0 in
    record {
      usable = h.1;
      done = f.0;
      parts = f.1;
      sent = f.2;
      in_profile = all_taken_item
          (λ (x : Certificate). AllByRecursion IsInt64 x.order.items) cs l.certificate-index c.certificate-item.result
          c.loop-certificate-test.true c.certificate-item.is l.invariant.in_profile c.in_ok-write_line.ensures.in_range;
    }

pub returns-clause-spelled : goal.returns-clause-spelled
returns-clause-spelled g c =
    let cs = c.args.certificates.now in
    let all = take_all c.loop-certificate.certificate-index cs (omega arith) in
    lines_spell cs (subst InProfiles all c.loop-certificate.invariant.in_profile)
