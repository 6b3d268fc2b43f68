use Rattle.edn.proofs.Fronts.{further}
use Rattle.history_commands.specs.Comments.{comment_lines}
use Rattle.history_commands.proofs.CommentLines.{comments_left}
use Rattle.history_commands.proofs.comments.write_comments.Goals as goal

pub loop-certificate-preserved : goal.loop-certificate-preserved
loop-certificate-preserved g c =
    let l = c.loop-certificate in
    let xs = c.args.certificates.now in
    let left = comments_left xs l.certificate-index c.certificate-item.result c.loop-certificate-test.true
    c.certificate-item.is in
    let f = further _ _ _ (comment_lines xs) l.invariant.done _ _ _ l.invariant.parts left l.invariant.sent
    c.in_ok-write_comment.ensures.ok in
    record { usable = c.in_ok-write_comment.ensures.usable; done = f.0; parts = f.1; sent = f.2 }
