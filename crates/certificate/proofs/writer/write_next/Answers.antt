use Rattle.std.proofs.Common.{rules}
use Rattle.std.specs.Prelude.{codes}
use Rattle.std.specs.Fmt.{signed_decimal}
use Rattle.edn.specs.Sent.{Writes}
use Rattle.edn_reader.specs.Text.{between}
use Rattle.edn.proofs.Fronts.{front_of_first, fails, sends_after}
use Rattle.certificate.proofs.writer.write_next.Goals as goal

pub returns-in_err-write_between-clause-sent : goal.returns-in_err-write_between-clause-sent
returns-in_err-write_between-clause-sent g c =
    let h = c.in_err-write_between.ensures.sent in
    fails _ _ _ _ _ (search rules) (front_of_first _ _ (between c.args.first (codes " ")) _ h.1.0) h.1.1

pub returns-clause-sent : goal.returns-clause-sent
returns-clause-sent g c =
    let h : Writes c.write_integer.result (g.S.Sink.sent c.write_between.new.sink)
    (g.S.Sink.sent c.write_integer.new.sink)
    (g.S.Sink.broken c.write_integer.new.sink) (signed_decimal c.args.n) = search rules in
    sends_after _ _ _ _ _ (between c.args.first (codes " "))
    (signed_decimal c.args.n) c.in_ok-write_between.ensures.sent.0.0 h
