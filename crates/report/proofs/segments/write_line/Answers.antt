use Rattle.std.proofs.Common.{rules}
use Rattle.edn.proofs.Fronts.{front_of_first, fails, sends_after}
use Rattle.report.specs.Lines.{comment_text}
use Rattle.report.specs.Segments.{segments_text}
use Rattle.report.proofs.segments.write_line.Goals as goal

pub returns-in_err-write_comment : goal.returns-in_err-write_comment
returns-in_err-write_comment g c =
    let h = c.in_err-write_comment.ensures.sent in
    record { sent = fails _ _ _ _ _ (search rules) (front_of_first _ _ (comment_text c.args.commented) _ h.1.0) h.1.1 }

pub returns : goal.returns
returns g c = record {
  sent = sends_after _ _ _ _ _ (comment_text c.args.commented)
      (segments_text c.args.segments.now) c.in_ok-write_comment.ensures.sent.0.0 c.write_segments.ensures.sent;
}
