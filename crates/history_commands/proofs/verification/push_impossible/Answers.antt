use Rattle.std.proofs.Common.{◌++◌, true, codes, decimal}
use Rattle.std.proofs.lemmas.Result.{on_ok_weaker}
use Rattle.refutation.specs.Lines.{reason_line}
use Rattle.reason_report.specs.Operations.{operations_text}
use Rattle.history_commands.specs.Verified.{note_line}
use Rattle.history_commands.proofs.Verified.{joined}
use Rattle.history_commands.proofs.verification.push_impossible.Goals as goal

pub returns : goal.returns
returns c =
    let f = c.args.refuted.now in
    on_ok_weaker c.push_reason.result
    (λ last. joined c.args.text.now.items ((codes "; object " ++ decimal c.args.object) ++ codes ": impossible\n")
    (note_line f.note)
    (operations_text true c.args.history.now f.part.ops)
    (codes "; " ++ reason_line f.reason) c.push_object_line.new.text.items
    c.push_note.new.text.items
    c.push_operations.new.text.items c.push_reason.new.text.items c.in_ok-push_object_line.ensures
    c.in_ok-push_note.ensures c.in_ok-push_operations.ensures last)
    c.push_reason.ensures
