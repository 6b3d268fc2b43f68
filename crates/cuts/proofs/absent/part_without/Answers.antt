-- `without`: where the value is absent, the other calls are a part: if it has no valid order, the whole has none
-- (`late_shows`). The function returns `None` only where the value may have been there.
use Rattle.std.proofs.Common.{ℤ, List, filter, ap, sym, ◌∙◌, subst, w64}
use Rattle.std.proofs.lemmas.Int.{to_z-of_z}
use Rattle.events.specs.declared.operations.Operation.{Operation}
use Rattle.events.specs.Operations.{ObjectCalls, IsObjectHistory, calls_of}
use Rattle.cuts.specs.Absent.{IsAbsent}
use Rattle.cuts.specs.Cuts.{IsPart}
use Rattle.cuts.specs.CutOperations.{stays}
use Rattle.cuts.proofs.CutOperations.{same_history}
use Rattle.cuts.proofs.AbsentValues.{late_history, late_calls_of, late_shows}
use Rattle.cuts.proofs.absent.part_without.Goals as goal

pub new-requires : goal.new-requires
new-requires c =
    let h = c.args.history.now in
    let own = ap (λ (z : ℤ). filter (stays z c.args.before) c.ops-operations.result.now)
    (to_z-of_z w64 c.args.value c.ranges.value) in
    let late = ap (filter (stays c.args.value c.args.before)) c.ops-operations.ensures.ops in
    subst IsObjectHistory (sym (same_history c.object.ensures c.kind.ensures (c.in_ok-ops.ensures ∙ own ∙ late)))
    (late_history c.args.value c.args.before h c.ops-operations.ensures.kept)

pub returns-clause-part : goal.returns-clause-part
returns-clause-part c =
    let h = c.args.history.now in
    let same = to_z-of_z w64 c.args.value c.ranges.value in
    let own = ap (λ (z : ℤ). filter (stays z c.args.before) c.ops-operations.result.now) same in
    let late = ap (filter (stays c.args.value c.args.before)) c.ops-operations.ensures.ops in
    let here = subst (λ (z : ℤ). IsAbsent z c.args.before (calls_of c.ops-operations.result.now)) same
    (c.is_absent.ensures.yes c.if-not-is_absent.false) in
    let absent = subst (λ (os : List Operation). IsAbsent c.args.value c.args.before (calls_of os))
    c.ops-operations.ensures.ops here in
    subst (IsPart h) (sym (c.new.ensures
    ∙ same_history c.object.ensures c.kind.ensures (c.in_ok-ops.ensures ∙ own ∙ late)))
    (late_shows c.args.value c.args.before h c.ops-operations.ensures.kept absent)

pub returns-clause-calls : goal.returns-clause-calls
returns-clause-calls c =
    let h = c.args.history.now in
    let same = to_z-of_z w64 c.args.value c.ranges.value in
    let own = ap (λ (z : ℤ). filter (stays z c.args.before) c.ops-operations.result.now) same in
    let late = ap (filter (stays c.args.value c.args.before)) c.ops-operations.ensures.ops in
    let here = subst (λ (z : ℤ). IsAbsent z c.args.before (calls_of c.ops-operations.result.now)) same
    (c.is_absent.ensures.yes c.if-not-is_absent.false) in (
      subst (λ (os : List Operation). IsAbsent c.args.value c.args.before (calls_of os))
          c.ops-operations.ensures.ops here,
      ap (λ (z : ObjectCalls). calls_of z.ops) c.new.ensures ∙ ap calls_of (c.in_ok-ops.ensures ∙ own ∙ late)
          ∙ late_calls_of c.args.value c.args.before h.ops,
    )

pub returns-then-not-is_absent-clause-refused : goal.returns-then-not-is_absent-clause-refused
returns-then-not-is_absent-clause-refused c e part =
    let same = to_z-of_z w64 c.args.value c.ranges.value in
    let there = subst (λ (os : List Operation). IsAbsent c.args.value c.args.before (calls_of os))
    (sym c.ops-operations.ensures.ops) part in
    let yes = c.is_absent.ensures.no
    (subst (λ (z : ℤ). IsAbsent z c.args.before (calls_of c.ops-operations.result.now)) (sym same) there) in
    let no = c.if-not-is_absent.true in
    absurd (cc (yes, no))
