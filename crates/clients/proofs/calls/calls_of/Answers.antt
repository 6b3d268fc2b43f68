-- The calls in pairs are on objects of the one kind that has the pair.
use Rattle.std.proofs.Common.{◌≡◌, All, IfOk, rules, sym, subst}
use Rattle.model.specs.Objects.{kind_of}
use Rattle.seq_objects.specs.declared.kinds.Kinds.TheVariants.{One}
use Rattle.seq_objects.specs.declared.kinds.Kinds.{Kinds}
use Rattle.seq_objects.specs.Kinds.{kinds_of}
use Rattle.clients.specs.Workloads.{IsCall}
use Rattle.clients.proofs.calls.calls_of.Goals as goal

pub returns-in-Some-clause-fit : goal.returns-in-Some-clause-fit
returns-in-Some-clause-fit c =
    let is : c.args.kinds ≡ One (kind_of c.in-Some.take) = search rules in
    subst (λ (ks : Kinds). IfOk c.draw_pairs.result (λ v. All (IsCall (kinds_of ks c.args.objects)) v.items)) (sym is)
    c.draw_pairs.ensures.fit
