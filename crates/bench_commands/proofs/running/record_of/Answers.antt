use Rattle.std.proofs.Common.{◌<◌, ◌∙◌, IfOk, length, ap, subst}
use Rattle.std.proofs.lemmas.Result.{IfErr-weaker}
use Rattle.std.proofs.lemmas.List.FromFn.{length-map-range_with_len}
use Rattle.clients.specs.Drawing.{client_calls}
use Rattle.clients.specs.Workloads.{Work}
use Rattle.clients.specs.Made.{IsRunRecord}
use Rattle.bench_commands.proofs.running.record_of.Goals as goal

pub returns-clause-ran : goal.returns-clause-ran
returns-clause-ran g c =
    let h = c.in_ok-workload.ensures in
    subst (λ (w : Work). IfOk c.run_workers.result (IsRunRecord w))
    (λ i. record { kinds = h.kinds i; calls = h.calls i })
    c.run_workers.ensures.ran

pub returns-clause-alone : goal.returns-clause-alone
returns-clause-alone g c =
    let o = c.args.options in
    let clients = ap length c.in_ok-workload.ensures.calls
    ∙ length-map-range_with_len (client_calls o.kinds o.objects o.calls o.seed) 0 o.clients in
    IfErr-weaker c.run_workers.result _ _ (λ e h is. subst (λ n. 1 < n) clients (h is)) c.run_workers.ensures.alone
