-- `check_files`: the exit status and the output are those of a check of the texts read, or of a failed
-- allocation, before which nothing was written. If the sink fails a front of the verdict is out (`wrote_front_of`).
use Rattle.std.proofs.Common.{◌≡◌, ◌≢◌, ◌∙◌, ap, inl, inr, sym, rules}
use Rattle.text_check.specs.declared.check.ToolFault.TheVariants as fault
use Rattle.text_check.specs.Checks.{IsVerdictOnRead}
use Rattle.history_commands.specs.Outputs.{status_number, status_of}
use Rattle.history_commands.proofs.Checked.{is_check}
use Rattle.file_commands.proofs.Leaving.{leaves_as, wrote_front_of, wrote_verdict}
use Rattle.file_commands.proofs.on_files.check_files.Goals as goal

pub returns-in-Ok-clause-leaves : goal.returns-in-Ok-clause-leaves
returns-in-Ok-clause-leaves g c =
    let j = c.in-Ok.ensures.judged in
    let said = IsVerdictOnRead (g.H.Source.remaining c.args.history.now) (g.H.Source.remaining c.check_over.new.history)
    (g.C.Source.remaining c.args.certificates.now) (g.C.Source.remaining c.check_over.new.certificates) in
    let is : c.number.result ≡ status_number (status_of c.in-Ok.verdict) = c.number.ensures
    ∙ ap status_number c.status_of.ensures.is in
    rw is (leaves_as (wrote_verdict said c.in-Ok.verdict j.0 j.1 c.in-Ok.ensures.usable)
    (λ status out k. inl (
      k.1.first,
      k.1.second,
      k.1.first_read,
      k.1.second_read,
      is_check k.1.first k.1.second status out (k.0, k.1.holds, k.2, k.3),
    )))

pub returns-in-Err-Write-clause-leaves : goal.returns-in-Err-Write-clause-leaves
returns-in-Err-Write-clause-leaves g c =
    let write : c.in-Err-Write.field-0 ≡ fault.Write = search rules in
    let f = c.in-Err-Write.ensures.unwritten write in
    let said = IsVerdictOnRead (g.H.Source.remaining c.args.history.now) (g.H.Source.remaining c.check_over.new.history)
    (g.C.Source.remaining c.args.certificates.now) (g.C.Source.remaining c.check_over.new.certificates) in
    rw c.number-in-Err-Write.ensures (leaves_as (wrote_front_of said f.1.0 f.1.1 f.1.2 f.0)
    (λ status out k. inl (
      k.1.first,
      k.1.second,
      k.1.first_read,
      k.1.second_read,
      is_check k.1.first k.1.second status out (k.0, k.1.holds, k.2, k.3),
    )))

pub returns-in-Err-NoMemory-clause-leaves : goal.returns-in-Err-NoMemory-clause-leaves
returns-in-Err-NoMemory-clause-leaves g c =
    let other : c.in-Err-NoMemory.field-0 ≢ fault.Write = search rules in
    let same : c.check_over.new.sink ≡ c.args.sink.now = c.in-Err-NoMemory.ensures.nothing_written other in
    rw (sym same) (leaves_as c.write_output.ensures.leaves (λ status out k. inr k))
