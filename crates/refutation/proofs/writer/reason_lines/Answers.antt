use Rattle.std.proofs.Common.{List, ℕ, ◌++◌, ap, sym, ◌∙◌, arith}
use Rattle.std.proofs.lemmas.List.{take_all}
use Rattle.refutation.specs.Lines.{reason_line}
use Rattle.refutation.specs.Written.{IsWritten}
use Rattle.refutation.proofs.Writing.{line_after, all_taken, lines_spell}
use Rattle.refutation.proofs.writer.reason_lines.Goals as goal

pub loop-reason-preserved : goal.loop-reason-preserved
loop-reason-preserved c =
    let l = c.loop-reason in
    let r = c.reason-item.result in
    let more = line_after c.args.reasons.now l.reason-index r c.loop-reason-test.true c.reason-item.is in
    record {
      made = c.in_ok-text.ensures.text ∙ ap (λ (t : List ℕ). t ++ reason_line r) l.invariant.made ∙ sym more;
      written = all_taken IsWritten c.args.reasons.now l.reason-index r c.loop-reason-test.true c.reason-item.is
          l.invariant.written c.in_ok-text.ensures.written;
    }

pub returns-clause-spelled : goal.returns-clause-spelled
returns-clause-spelled c =
    let l = c.loop-reason in
    let all = take_all l.reason-index c.args.reasons.now (omega arith) in
    λ small. rw (l.invariant.made, all) (lines_spell c.args.reasons.now (rw all at l.invariant.written) small)
