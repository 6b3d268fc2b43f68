use Rattle.std.proofs.Common.{◌≡◌, ◌<◌, ◌≢◌, All, refl, ap, sym, ◌∙◌, subst}
use Rattle.model.proofs.Lists.{in_from_contains, all_at, pairs_from_all}
use Rattle.events.specs.declared.operations.Operation.{Operation}
use Rattle.cuts.specs.Kinds.Starts.{key_of, leaves}
use Rattle.cuts.specs.CutOperations.{IsOnKey}
use Rattle.cuts.proofs.Later.{start_operation}
use Rattle.cuts.proofs.Sequences.{one_number}
use Rattle.cuts.proofs.suffix.start_at.Goals as goal

pub returns-clause-none : goal.returns-clause-none
returns-clause-none c e at first s =
    let ops = c.args.operations.now in
    let o = c.in_ok-operation.operation in
    let here = c.in_ok-operation.ensures.some in
    let w = start_operation ops c.args.number at first s in
    let own : o ≡ w.operation = one_number (λ (z : Operation). z.number) o w.operation ops
    (pairs_from_all (λ a b. a.number < b.number) ops c.requires) (in_from_contains ops o here.0) w.known
    (here.1 ∙ sym w.number) in
    c.start_by.ensures.none e at s.reply first (ap (λ (z : Operation). z.«end») own ∙ w.ended)
    (ap (λ (z : Operation). leaves z.op s.reply) own ∙ w.told)
    (subst (λ (z : Operation). All (IsOnKey (key_of z.op)) ops) (sym own) w.one_key)

pub returns-in_err-operation-clause-none : goal.returns-in_err-operation-clause-none
returns-in_err-operation-clause-none c e at first s =
    let ops = c.args.operations.now in
    let w = start_operation ops c.args.number at first s in
    all_at (λ (o : Operation). o.number ≢ c.args.number) ops
    (c.in_err-operation.ensures.none refl) w.operation w.known w.number
