use Rattle.std.proofs.Common.{inl}
use Rattle.std.proofs.lemmas.Result.{IfOk-weaker}
use Rattle.bench_commands.proofs.Meanings.{is_simulation}
use Rattle.bench_commands.proofs.simulating.play.Goals as goal

pub returns-in-Ok : goal.returns-in-Ok
returns-in-Ok c = IfOk-weaker c.played_output.result _ _
    (λ o k. is_simulation c.args.text.now o.status o.text.items
    (inl (c.in-Ok.played.refused, c.in-Ok.played.record, c.in-Ok.ensures.simulated, k)))
    c.played_output.ensures
