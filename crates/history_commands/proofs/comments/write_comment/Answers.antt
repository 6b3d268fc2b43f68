use Rattle.std.proofs.Common.{rules, ◌++◌, [], codes, subst}
use Rattle.std.specs.Io.KnownBytes.{Appends}
use Rattle.std.proofs.KnownBytes.{Appends-trans}
use Rattle.std.proofs.lemmas.List.{append-nil}
use Rattle.certificate.specs.Lines.{certificate_line}
use Rattle.history_commands.proofs.comments.write_comment.Goals as goal

pub returns-in-Ok-clause-ok : goal.returns-in-Ok-clause-ok
returns-in-Ok-clause-ok g c =
    let line = certificate_line c.args.certificate.now in
    let second : Appends (g.S.Sink.sent c.write_bytes.new.sink) (g.S.Sink.sent c.write_certificates.new.sink)
    (line ++ []) = search
    rules in
    let last = subst (Appends (g.S.Sink.sent c.write_bytes.new.sink) (g.S.Sink.sent c.write_certificates.new.sink))
    (append-nil line) second in
    Appends-trans _ _ _ (codes "; ") line c.in_ok-write_bytes.ensures.sent.0.0 last
