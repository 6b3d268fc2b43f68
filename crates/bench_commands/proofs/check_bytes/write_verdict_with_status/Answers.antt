use Rattle.std.proofs.Common.{◌≡◌, ◌∙◌, ap, refl}
use Rattle.history_commands.specs.Outputs.{status_number}
use Rattle.report.specs.declared.verdict.Verdict.{Verdict}
use Rattle.file_commands.proofs.Leaving.{wrote_front_of, wrote_verdict}
use Rattle.bench_commands.proofs.check_bytes.write_verdict_with_status.Goals as goal

pub returns-in-Ok : goal.returns-in-Ok
returns-in-Ok g c =
    let v = c.args.verdict.now in
    let sent = c.in-Ok.ensures.sent.0 in
    record {
      leaves = rw (c.number.ensures ∙ ap status_number c.status_of.ensures.is)
          (wrote_verdict (λ (w : Verdict). w ≡ v) v refl sent.0 sent.1);
    }

pub returns-in-Err : goal.returns-in-Err
returns-in-Err g c =
    let v = c.args.verdict.now in
    let sent = c.in-Err.ensures.sent.1 in
    record { leaves = rw c.number-in-Err.ensures (wrote_front_of (λ (w : Verdict). w ≡ v) v refl sent.0 sent.1) }
