use Rattle.std.proofs.Common.{◌<◌, ◌∙◌, length, All, [], subst, sym}
use Rattle.clients.specs.Workloads.{Work, IsCall}
use Rattle.clients.proofs.DrawnCalls.{at_items}
use Rattle.clients.proofs.workloads.Workload.calls.Goals as goal

pub returns-clause-fit : goal.returns-clause-fit
returns-clause-fit c =
    let inside = subst (λ (w : Work). c.args.client < length w.calls) (sym c.self.view_is) c.requires in
    let same = at_items c.self.inside.calls.items c.args.client c.index.result.now inside c.index.ensures
    ∙ sym c.deref.ensures.value in
    let all = subst (All (IsCall c.self.inside.kinds.items)) same (c.self.invariant.fits c.args.client [] inside) in
    subst (λ (w : Work). All (IsCall w.kinds) c.deref.result.now) c.self.view_is all

pub returns-clause-few : goal.returns-clause-few
returns-clause-few c =
    let inside = subst (λ (w : Work). c.args.client < length w.calls) (sym c.self.view_is) c.requires in
    let same = at_items c.self.inside.calls.items c.args.client c.index.result.now inside c.index.ensures
    ∙ sym c.deref.ensures.value in
    subst (λ z. length z < 10001) same (c.self.invariant.few_calls c.args.client [] inside)
