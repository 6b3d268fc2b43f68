-- `place_among`: the place is that of the call with this number, or there is no such call. The numbers rise, so the
-- binary search finds it (`found_here`) or none has it (`none_here`). One that failed is no call (`failed_here`).
use Rattle.std.proofs.Common.{rules, ◌≡◌, pos, to_z, of_z, w64, get_or, ap, sym, ◌∙◌, arith}
use Rattle.std.proofs.lemmas.Int.{ints}
use Rattle.std.proofs.lemmas.List.Sorted.{answers_always}
use Rattle.std.specs.Ordering.{int_cmp}
use Rattle.events.specs.Operations.{call_with}
use Rattle.checker.proofs.Finding.{placeholder_operation, found_here, failed_here, none_here, search_rises}
use Rattle.checker.proofs.place.place_among.Goals as goal

pub returns-in_default-clause-none : goal.returns-in_default-clause-none
returns-in_default-clause-none c =
    let by_number = c.in_default.ensures.position (λ o. pos o.number)
    (answers_always _ _ _ (λ f a r g called. search rules)) in
    let e : to_z w64 (of_z w64 c.args.entry) ≡ c.args.entry = omega (arith, ints) in
    let parts = by_number (search_rises c.args.ops.now (to_z w64 (of_z w64 c.args.entry)) c.requires) in
    none_here c.args.ops.now c.args.entry c.in_default.field-0 placeholder_operation (
      λ k d l m. ap (int_cmp (pos (get_or c.args.ops.now k d).number)) (sym e) ∙ parts.0 k d l m,
      λ k d l m. ap (int_cmp (pos (get_or c.args.ops.now k d).number)) (sym e) ∙ parts.1 k d l m,
    )

pub returns-in-Failed-clause-none : goal.returns-in-Failed-clause-none
returns-in-Failed-clause-none c =
    let by_number = c.in-Ok.ensures.position (λ o. pos o.number)
    (answers_always _ _ _ (λ f a r g called. search rules)) in
    let e : to_z w64 (of_z w64 c.args.entry) ≡ c.args.entry = omega (arith, ints) in
    let o = get_or c.args.ops.now c.in-Ok.k placeholder_operation in
    failed_here c.args.ops.now c.args.entry c.in-Ok.k placeholder_operation c.requires c.in-Ok.ensures.bound
    (ap (int_cmp (pos o.number)) (sym e) ∙ by_number placeholder_operation)
    (ap (call_with o.number o.op) c.in-Failed.is)

pub returns-in_default-end : goal.returns-in_default-end
returns-in_default-end c =
    let by_number = c.in-Ok.ensures.position (λ o. pos o.number)
    (answers_always _ _ _ (λ f a r g called. search rules)) in
    let e : to_z w64 (of_z w64 c.args.entry) ≡ c.args.entry = omega (arith, ints) in
    let o = get_or c.args.ops.now c.in-Ok.k placeholder_operation in
    let found = found_here c.args.ops.now c.args.entry c.in-Ok.k placeholder_operation c.requires
    c.in-Ok.ensures.bound (ap (int_cmp (pos o.number)) (sym e) ∙ by_number placeholder_operation)
    c.in_default-end.not-Failed in
    record { some = (c.in-Ok.ensures.bound, (found.0, found.1.found, found.1.is)); none = tt }
