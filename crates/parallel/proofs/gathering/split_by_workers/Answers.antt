use Rattle.std.proofs.Common.{◌≡◌, ◌<◌, length, get_or, IfOk, sym, subst, arith}
use Rattle.parallel.specs.Gathered.{IsGatheredPart, AreGathered}
use Rattle.parallel.proofs.Joining.{all_split}
use Rattle.parallel.proofs.gathering.split_by_workers.Goals as goal

pub returns-then-workers-eq1 : goal.returns-then-workers-eq1
returns-then-workers-eq1 g c =
    all_split (λ v. v.items) c.args.history.now c.split.result c.split.ensures.rising c.split.ensures.named
    c.split.ensures.kinds c.split.ensures.operations c.split.ensures.calls

pub objects_of_shares-requires : goal.objects_of_shares-requires
objects_of_shares-requires g c =
    let ok = c.in_ok-found.found.ok in
    let long = c.in_ok-found.ensures.len in
    let some = c.requires in
    omega (arith, ok, long, some)

pub returns : goal.returns
returns g c =
    let es = c.args.history.now in
    let rs = c.in_ok-found.found.items in
    let ok = c.in_ok-found.found.ok in
    let len = c.in_ok-found.ensures.len in
    let long : length rs ≡ c.args.workers = omega (arith, ok, len) in
    let parts : AreGathered (λ v. v.items) es rs =
    λ i d l. subst (λ n. IfOk (get_or rs i d) (λ v. IsGatheredPart es i n v.items)) (sym long)
    (c.in_ok-found.ensures.each i d (subst (λ n. i < n) long l)).1.met in
    c.objects_of_shares.ensures es parts
