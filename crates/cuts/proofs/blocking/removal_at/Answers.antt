use Rattle.std.proofs.Common.{◌≡◌, ◌<◌, ℕ, ℤ, Option, Some, None, ap, sym, ◌∙◌}
use Rattle.model.specs.declared.AnyOp.{AnyOp}
use Rattle.model.proofs.Lists.{in_from_contains, pairs_from_all}
use Rattle.events.specs.declared.operations.Operation.{Operation}
use Rattle.cuts.specs.CutOperations.{op_found}
use Rattle.cuts.proofs.Sequences.{one_number}
use Rattle.cuts.proofs.blocking.removal_at.Goals as goal

pub returns-in_default-clause-none : goal.returns-in_default-clause-none
returns-in_default-clause-none c e op at found t =
    let ops = c.args.operations.now in
    let o = c.in_ok-operation.operation in
    let here = c.in_ok-operation.ensures.some in
    let own : o ≡ t.operation = one_number (λ (z : Operation). z.number) o t.operation ops
    (pairs_from_all (λ a b. a.number < b.number) ops c.requires) (in_from_contains ops o here.0)
    (in_from_contains ops t.operation t.known) (here.1 ∙ sym t.named) in
    let told : ◌≡◌ {A = Option (ℕ × Option ℤ)} (op_found o.op o.«end») (Some (at, found)) =
    ap (λ (z : Operation). op_found z.op z.«end») own ∙ ap (λ (z : AnyOp). op_found z t.operation.«end»)
    t.same ∙ t.told in
    let none : ◌≡◌ {A = Option (ℕ × Option ℤ)} None (Some (at, found)) = c.in_default.ensures ∙ told in
    absurd (cc none)
