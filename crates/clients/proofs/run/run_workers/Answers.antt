-- `run_workers`: the record is that of a run of the workload. The desk is made for the workload (`IsDeskFor`), and
-- the last client has met all others, so it knows that they ended (`have_told`) and may close the desk.
use Rattle.std.proofs.Common.{◌<◌, ◌≤◌, ◌∙◌, length, sym, subst}
use Rattle.clients.specs.Workloads.{calls_at}
use Rattle.clients.specs.Made.{IsDeskFor}
use Rattle.clients.proofs.Ends.{have_told, ran}
use Rattle.clients.proofs.NewClients.{all_new}
use Rattle.clients.proofs.run.run_workers.Goals as goal

pub reserve_logs-requires : goal.reserve_logs-requires
reserve_logs-requires g c = all_new c.in_ok-desk.desk.id c.in_ok-desk.clients.items c.in_ok-desk.ensures.clients.1

pub run_all-requires-clause-desk : goal.run_all-requires-clause-desk
run_all-requires-clause-desk g c = λ κs within. record {
  kinds = c.in_ok-desk.ensures.desk.0 ∙ (c.in_ok-objects.ensures.kinds ∙ c.kinds.ensures.kinds);
  clients = c.in_ok-desk.ensures.desk.1 ∙ c.clients.ensures.clients;
  quota = λ k low. subst (λ z. length (calls_at c.args.workload.now k) ≤ z) (sym c.in_ok-desk.ensures.desk.2)
      (c.quota.ensures.enough k low);
  few_calls = subst (λ z. z < 10001) (sym c.in_ok-desk.ensures.desk.2) c.quota.ensures.few;
}

pub close-requires-clause-told : goal.close-requires-clause-told
close-requires-clause-told g c =
    have_told c.in_ok-desk.desk c.args.workload.now c.in_ok-last.last c.in_ok-last.ensures.done

pub returns-clause-ran : goal.returns-clause-ran
returns-clause-ran g c =
    let made : IsDeskFor c.in_ok-desk.desk c.args.workload.now = record {
      kinds = c.in_ok-desk.ensures.desk.0 ∙ (c.in_ok-objects.ensures.kinds ∙ c.kinds.ensures.kinds);
      clients = c.in_ok-desk.ensures.desk.1 ∙ c.clients.ensures.clients;
      quota = λ k low. subst (λ z. length (calls_at c.args.workload.now k) ≤ z) (sym c.in_ok-desk.ensures.desk.2)
          (c.quota.ensures.enough k low);
      few_calls = subst (λ z. z < 10001) (sym c.in_ok-desk.ensures.desk.2) c.quota.ensures.few;
    } in
    ran c.in_ok-desk.desk c.args.workload.now c.in_ok-last.last c.close.result made c.in_ok-last.ensures.done
    c.close.ensures
