-- `write_line`: what is sent is the line of the certificate, or a prefix of it where the sink failed. The five
-- writes send the parts of the line in order, and at a failure the parts before and a prefix were sent.
use Rattle.std.proofs.Common.{true, rules}
use Rattle.std.specs.Prelude.{codes, pos}
use Rattle.std.specs.Fmt.{signed_decimal}
use Rattle.std.specs.Io.KnownBytes.{Appends}
use Rattle.edn.specs.Sent.{WritesPrefix}
use Rattle.edn.proofs.Fronts.{front_of_first, front_to_second, front_to_third, fails, sends_third}
use Rattle.certificate.specs.Lines.{numbers_text}
use Rattle.certificate.proofs.writer.write_line.Goals as goal

pub returns-in_err-write_bytes-clause-sent : goal.returns-in_err-write_bytes-clause-sent
returns-in_err-write_bytes-clause-sent g c =
    let h = c.in_err-write_bytes.ensures.sent in
    fails _ _ _ _ _ (search rules) (front_of_first _ _ (codes "{:object ") _ h.1.0) h.1.1

pub returns-in_err-write_integer-clause-sent : goal.returns-in_err-write_integer-clause-sent
returns-in_err-write_integer-clause-sent g c =
    let x = c.args.certificate.now.object in
    let h : WritesPrefix (g.S.Sink.sent c.write_bytes.new.sink) (g.S.Sink.sent c.write_integer.new.sink)
    (signed_decimal (pos x)) = search rules in
    fails _ _ _ _ _ (search rules)
    (front_to_second _ _ _ (codes "{:object ") (signed_decimal (pos x)) _ c.in_ok-write_bytes.ensures.sent.0.0 h)
    c.in_err-write_integer.ensures.sent.1.1

pub returns-in_err-write_bytes-2-clause-sent : goal.returns-in_err-write_bytes-2-clause-sent
returns-in_err-write_bytes-2-clause-sent g c =
    let x = c.args.certificate.now.object in
    let h = c.in_err-write_bytes-2.ensures.sent in
    let n : Appends (g.S.Sink.sent c.write_bytes.new.sink) (g.S.Sink.sent c.write_integer.new.sink)
    (signed_decimal (pos x)) = search rules in
    fails _ _ _ _ _ (search rules)
    (front_to_third _ _ _ _ (codes "{:object ") (signed_decimal (pos x)) _ c.in_ok-write_bytes.ensures.sent.0.0 n
    (front_of_first _ _ (codes ", :order [") _ h.1.0)) h.1.1

pub returns-in_err-write_numbers-clause-sent : goal.returns-in_err-write_numbers-clause-sent
returns-in_err-write_numbers-clause-sent g c =
    let x = c.args.certificate.now.object in
    let zs = c.args.certificate.now.order.items in
    let n : Appends (g.S.Sink.sent c.write_bytes.new.sink) (g.S.Sink.sent c.write_integer.new.sink)
    (signed_decimal (pos x)) = search rules in
    let h : WritesPrefix (g.S.Sink.sent c.write_bytes-2.new.sink) (g.S.Sink.sent c.write_numbers.new.sink)
    (numbers_text true zs) = search rules in
    let order = front_to_second _ _ _ (codes ", :order [") (numbers_text true zs) _
    c.in_ok-write_bytes-2.ensures.sent.0.0 h in
    fails _ _ _ _ _ (search rules)
    (front_to_third _ _ _ _ (codes "{:object ") (signed_decimal (pos x)) _ c.in_ok-write_bytes.ensures.sent.0.0 n order)
    c.in_err-write_numbers.ensures.sent.1.1

pub returns-clause-sent : goal.returns-clause-sent
returns-clause-sent g c =
    let x = c.args.certificate.now.object in
    let zs = c.args.certificate.now.order.items in
    let n : Appends (g.S.Sink.sent c.write_bytes.new.sink) (g.S.Sink.sent c.write_integer.new.sink)
    (signed_decimal (pos x)) = search rules in
    let h : Appends (g.S.Sink.sent c.write_bytes-2.new.sink) (g.S.Sink.sent c.write_numbers.new.sink)
    (numbers_text true zs) = search rules in
    sends_third _ _ _ _ _ _ (codes "{:object ") (signed_decimal (pos x)) _ c.in_ok-write_bytes.ensures.sent.0.0 n
    (sends_third _ _ _ _ _ _ (codes ", :order [") (numbers_text true zs)
    (codes "]}\n") c.in_ok-write_bytes-2.ensures.sent.0.0 h c.write_bytes-3.ensures.sent)
