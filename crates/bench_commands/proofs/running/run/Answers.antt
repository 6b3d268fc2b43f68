use Rattle.std.proofs.Common.{inl}
use Rattle.std.proofs.lemmas.Result.{IfOk-weaker}
use Rattle.bench_commands.proofs.Meanings.{is_run}
use Rattle.bench_commands.proofs.running.run.Goals as goal

pub returns-in-Ok : goal.returns-in-Ok
returns-in-Ok g c = IfOk-weaker c.record_output.result _ _
    (λ o k. is_run c.args.options o.status o.text.items (inl (c.in-Ok.record, c.in-Ok.ensures.ran, k)))
    c.record_output.ensures
