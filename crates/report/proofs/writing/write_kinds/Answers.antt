use Rattle.std.proofs.Common.{rules}
use Rattle.edn.proofs.Fronts.{within, further, fails}
use Rattle.report.specs.Lines.{kind_lines}
use Rattle.report.proofs.LinesLeft.{kinds_left}
use Rattle.report.proofs.writing.write_kinds.Goals as goal

pub returns-in_err-write_line : goal.returns-in_err-write_line
returns-in_err-write_line g c =
    let l = c.loop-kind in
    let h = c.in_err-write_line.ensures.sent in
    let left = kinds_left c.args.commented c.args.kinds.now l.kind-index _ c.loop-kind-test.true in
    record {
      sent = fails _ _ _ _ _ (search rules)
          (within _ _ _ _ l.invariant.done _ _ _ l.invariant.parts left l.invariant.sent
          (rw c.kind_line.ensures at h.1.0)) h.1.1;
    }

pub loop-kind-preserved : goal.loop-kind-preserved
loop-kind-preserved g c =
    let l = c.loop-kind in
    let h = c.in_ok-write_line.ensures.sent.0 in
    let ks = c.args.kinds.now in
    let f = further _ _ _ (kind_lines c.args.commented ks) l.invariant.done _ _ _ l.invariant.parts
    (kinds_left c.args.commented ks l.kind-index _ c.loop-kind-test.true) l.invariant.sent
    (rw c.kind_line.ensures at h.0) in
    record { usable = h.1; done = f.0; parts = f.1; sent = f.2 }
