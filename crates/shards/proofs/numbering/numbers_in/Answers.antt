-- `numbers_in`: of the text of a table, what is read are its numbers, and such a text is no misfit. The text that
-- is left, after the digits so far, is that of the numbers that are left; each byte keeps this.
use Rattle.std.proofs.Common.{◌+◌, [], drop, sym, subst}
use Rattle.std.proofs.lemmas.Option.{same_Some}
use Rattle.shards.proofs.ReadTables.{IsReadTo, digit_at, line_at, read_all, read_nothing}
use Rattle.shards.proofs.numbering.numbers_in.Goals as goal
use Rattle.shards.proofs.numbering.numbers_in.Goals.{then-byte-eq10+in_ok-push, else-byte-eq10+in-Some}

pub loop-byte-init : goal.loop-byte-init
loop-byte-init c ns short is =
    subst (λ xs. IsReadTo ns xs 0 c.args.table.now) (sym c.new-numbers.ensures.items)
    (subst (IsReadTo ns [] 0) is (read_nothing ns short))

pub loop-byte-preserved : goal.loop-byte-preserved
loop-byte-preserved c ns short is =
    let l = c.loop-byte in
    let table = c.args.table.now in
    let i = l.byte-index in
    let rest = drop (i + 1) table in
    let so_far = l.invariant ns short is in
    elim c.if-byte-eq10.branch [
      | then-byte-eq10+in_ok-push w ↦
          rw (w.numbers-is, w.number-is) (line_at table ns l.numbers.items w.push.new.self.items l.number i short
          c.loop-byte-test.true w.if-byte-eq10.true w.in_ok-push.ensures.items so_far)
      | else-byte-eq10+in-Some w ↦
          let r = digit_at table ns l.numbers.items l.number i short c.loop-byte-test.true w.if-byte-eq10.false
          so_far in
          rw (w.numbers-is, w.number-is)
          (subst (λ n. IsReadTo ns l.numbers.items n rest) (sym (same_Some _ _ (w.in-Some.ensures r.digit r.short)))
          r.read)
    ]

pub returns-in_default-clause-misfit : goal.returns-in_default-clause-misfit
returns-in_default-clause-misfit c e ns short is =
    let l = c.loop-byte in
    let r = digit_at c.args.table.now ns l.numbers.items l.number l.byte-index short c.loop-byte-test.true
    c.if-byte-eq10.false (l.invariant ns short is) in
    let some = c.in_default.ensures r.digit r.short in
    cc some

pub returns-clause-read : goal.returns-clause-read
returns-clause-read c ns short is =
    let l = c.loop-byte in
    read_all c.args.table.now ns l.numbers.items l.number l.byte-index c.loop-byte-test.false (l.invariant ns short is)
