-- `check_bytes`: the exit status and the output are those of a check of the two texts. What was read from memory is
-- these texts (`holds_in_memory`). Where one could not be copied nothing is written yet, and `judge` decides.
use Rattle.std.proofs.Common.{◌≡◌, ◌≢◌, ◌∙◌, ap, sym, subst, rules}
use Rattle.text_check.specs.declared.check.ToolFault.TheVariants as fault
use Rattle.text_check.specs.Verdicts.{IsJudgement}
use Rattle.report.specs.declared.verdict.Verdict.{Verdict}
use Rattle.history_commands.specs.Outputs.{status_number, status_of}
use Rattle.history_commands.proofs.Checked.{is_check}
use Rattle.bench_commands.proofs.InMemory.{holds_in_memory}
use Rattle.file_commands.proofs.Leaving.{leaves_as, wrote_front_of, wrote_verdict}
use Rattle.bench_commands.proofs.check_bytes.check_bytes.Goals as goal

pub returns-in-Ok : goal.returns-in-Ok
returns-in-Ok g c =
    let h = c.args.history.now in
    let cs = c.args.certificates.now in
    let j = c.in-Ok.ensures.judged in
    let holds = holds_in_memory h cs _ _ _ _ c.in-Ok.verdict (ap (λ s. s.now) c.new-first.ensures.over)
    (ap (λ s. s.now) c.new-second.ensures.over) j.0 in
    let is : c.number.result ≡ status_number (status_of c.in-Ok.verdict) = c.number.ensures
    ∙ ap status_number c.status_of.ensures.is in
    record {
      leaves = rw is
          (leaves_as (wrote_verdict (IsJudgement h cs) c.in-Ok.verdict holds j.1 c.in-Ok.ensures.usable)
          (is_check h cs));
    }

pub returns-in-Err-Write : goal.returns-in-Err-Write
returns-in-Err-Write g c =
    let h = c.args.history.now in
    let cs = c.args.certificates.now in
    let write : c.in-Err-Write.field-0 ≡ fault.Write = search rules in
    let f = c.in-Err-Write.ensures.unwritten write in
    let holds = holds_in_memory h cs _ _ _ _ f.1.0 (ap (λ s. s.now) c.new-first.ensures.over)
    (ap (λ s. s.now) c.new-second.ensures.over) f.1.1 in
    record {
      leaves = rw c.number-in-Err-Write.ensures
          (leaves_as (wrote_front_of (IsJudgement h cs) f.1.0 holds f.1.2 f.0) (is_check h cs));
    }

pub returns-in-Err-Read : goal.returns-in-Err-Read
returns-in-Err-Read g c =
    let h = c.args.history.now in
    let cs = c.args.certificates.now in
    let other : c.in-Err-Read.field-0 ≢ fault.Write = search rules in
    let same : c.check_over.new.sink ≡ c.args.sink.now = c.in-Err-Read.ensures.nothing_written other in
    record {
      leaves = rw (sym same) (leaves_as c.write_verdict_with_status.ensures.leaves (λ status out k.
          is_check h cs status out
          (k.0, subst (λ (v : Verdict). IsJudgement h cs v) (sym k.1) c.judge.ensures.holds, k.2, k.3)));
    }
