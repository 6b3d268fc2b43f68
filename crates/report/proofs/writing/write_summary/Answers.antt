use Rattle.std.proofs.Common.{rules, ap, sym}
use Rattle.std.specs.Prelude.{◌++◌}
use Rattle.edn.proofs.Fronts.{front_of_first, fails, sends_after, sends_as}
use Rattle.report.specs.Lines.{comment_text, kind_lines, total_line}
use Rattle.report.proofs.writing.write_summary.Goals as goal

pub returns-in_err-write_line : goal.returns-in_err-write_line
returns-in_err-write_line g c =
    let h = c.in_err-write_line.ensures.sent in
    let line = comment_text c.args.commented ++ total_line c.args.summary.now in
    record {
      sent = fails _ _ _ _ _ (search rules)
          (front_of_first _ _ line _ (rw c.total_line.ensures at h.1.0)) h.1.1;
    }

pub returns : goal.returns
returns g c =
    let line = comment_text c.args.commented ++ total_line c.args.summary.now in
    let kinds = ap (λ ks. line ++ kind_lines c.args.commented ks) (sym c.deref.ensures.value) in
    record {
      sent = sends_as _ _ _ _ _ _ kinds (sends_after _ _ _ _ _ line _
          (rw c.total_line.ensures at c.in_ok-write_line.ensures.sent.0.0) c.write_kinds.ensures.sent);
    }
