-- `write_numbers`: what is sent is the text of the numbers, or a prefix of it where the sink failed. What was sent,
-- then the text of the numbers that are left, is always the whole text.
use Rattle.std.proofs.Common.{◌++◌, true, get_or, rules}
use Rattle.std.specs.Prelude.{codes, pos}
use Rattle.std.specs.Fmt.{signed_decimal}
use Rattle.std.specs.Io.KnownBytes.{Appends}
use Rattle.edn.specs.Sent.{WritesPrefix}
use Rattle.edn_reader.specs.Text.{between, IsInt64}
use Rattle.edn.proofs.Fronts.{within, further, fails}
use Rattle.certificate.specs.Lines.{numbers_text}
use Rattle.certificate.proofs.Writing.{numbers_left, all_taken}
use Rattle.certificate.proofs.writer.write_numbers.Goals as goal

pub returns-in_err-write_next-clause-sent : goal.returns-in_err-write_next-clause-sent
returns-in_err-write_next-clause-sent g c =
    let l = c.loop-n in
    let zs = c.args.numbers.now in
    let h : WritesPrefix (g.S.Sink.sent l.sink) (g.S.Sink.sent c.write_next.new.sink)
    (between l.first (codes " ") ++ signed_decimal (get_or zs l.n-index (pos 0))) = search rules in
    fails _ _ _ _ _ (search rules) (within _ _ _ _ l.invariant.done _ _ _ l.invariant.parts
    (numbers_left zs l.n-index (pos 0) l.first c.loop-n-test.true) l.invariant.sent h)
    c.in_err-write_next.ensures.sent.1.1

pub loop-n-preserved : goal.loop-n-preserved
loop-n-preserved g c =
    let l = c.loop-n in
    let zs = c.args.numbers.now in
    let h : Appends (g.S.Sink.sent l.sink) (g.S.Sink.sent c.write_next.new.sink)
    (between l.first (codes " ") ++ signed_decimal (get_or zs l.n-index (pos 0))) = search rules in
    let small : IsInt64 (get_or zs l.n-index (pos 0)) = search rules in
    let f = further _ _ _ (numbers_text true zs) l.invariant.done _ _ _ l.invariant.parts
    (numbers_left zs l.n-index (pos 0) l.first c.loop-n-test.true) l.invariant.sent h in
    record {
      usable = c.in_ok-write_next.ensures.sent.0.1;
      done = f.0;
      parts = f.1;
      sent = f.2;
      in_range = all_taken IsInt64 zs l.n-index (pos 0) c.loop-n-test.true l.invariant.in_range small;
    }
