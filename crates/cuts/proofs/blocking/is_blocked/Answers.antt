-- `is_blocked`: the answer is true exactly where the removal is blocked, and then no order is valid. `decided_of`
-- says so of the counts; without a removal of this number nothing is blocked.
use Rattle.std.proofs.Common.{nat_lt, ◌&&◌, Bool, MatchBool, List, refl, sym, ◌∙◌, subst}
use Rattle.events.specs.declared.operations.Operation.{Operation}
use Rattle.events.specs.Operations.{calls_of}
use Rattle.cuts.specs.Ahead.{IsBlocked}
use Rattle.cuts.specs.CutOperations.{IsRemoval}
use Rattle.cuts.proofs.Blocked.{blocked_shows, blocked_operation, decided_of}
use Rattle.cuts.proofs.blocking.is_blocked.Goals as goal

pub returns-in_default-clause-counts : goal.returns-in_default-clause-counts
returns-in_default-clause-counts c b =
    let t = blocked_operation c.args.history.now.ops c.args.number c.args.from b in
    c.in_default.ensures.none refl b.removal.op b.at b.found
    (subst (λ (os : List Operation). IsRemoval os c.args.number b.removal.op b.at b.found)
    (sym c.ops-operations.ensures.ops) t)

pub returns-then-settled-clause-counts : goal.returns-then-settled-clause-counts
returns-then-settled-clause-counts c =
    let h = c.args.history.now in
    let t = c.in-Some.removal in
    subst (λ (z : Bool). MatchBool (z && nat_lt c.times-ahead.result.1 c.times-ahead.result.0)
    (IsBlocked c.args.number c.args.from (calls_of h.ops))
    (IsBlocked c.args.number c.args.from (calls_of h.ops) → ⊥))
    (sym c.are_settled-settled.ensures ∙ c.if-settled.true)
    (decided_of h c.ops-operations.result.now c.args.number t.number c.args.from t.op t.at t.found
    c.times-ahead.result.0 c.times-ahead.result.1 c.ops-operations.ensures.kept
    c.ops-operations.ensures.ops c.in-Some.ensures.named c.in-Some.ensures.some c.times-ahead.ensures.ahead
    c.times-ahead.ensures.takes)

pub returns-then-settled-clause-shows : goal.returns-then-settled-clause-shows
returns-then-settled-clause-shows c e =
    let h = c.args.history.now in
    let t = c.in-Some.removal in
    let decided = decided_of h c.ops-operations.result.now c.args.number t.number c.args.from t.op t.at
    t.found c.times-ahead.result.0 c.times-ahead.result.1 c.ops-operations.ensures.kept
    c.ops-operations.ensures.ops c.in-Some.ensures.named c.in-Some.ensures.some c.times-ahead.ensures.ahead
    c.times-ahead.ensures.takes in
    let settled = subst
    (λ (z : Bool). MatchBool (z && nat_lt c.times-ahead.result.1 c.times-ahead.result.0)
    (IsBlocked c.args.number c.args.from (calls_of h.ops))
    (IsBlocked c.args.number c.args.from (calls_of h.ops) → ⊥))
    (sym c.are_settled-settled.ensures ∙ c.if-settled.true) decided in
    blocked_shows h c.args.number c.args.from c.ops-operations.ensures.kept
    (subst (λ (z : Bool). MatchBool z (IsBlocked c.args.number c.args.from (calls_of h.ops))
    (IsBlocked c.args.number c.args.from (calls_of h.ops) → ⊥)) e settled)

pub returns-else-settled-clause-counts : goal.returns-else-settled-clause-counts
returns-else-settled-clause-counts c =
    let h = c.args.history.now in
    let t = c.in-Some.removal in
    let none = subst
    (λ (z : Bool). MatchBool (z && nat_lt c.times-ahead.result.1 c.times-ahead.result.0)
    (IsBlocked c.args.number c.args.from (calls_of h.ops))
    (IsBlocked c.args.number c.args.from (calls_of h.ops) → ⊥))
    (sym c.are_settled-settled.ensures ∙ c.if-settled.false)
    (decided_of h c.ops-operations.result.now c.args.number t.number c.args.from t.op t.at t.found
    c.times-ahead.result.0 c.times-ahead.result.1 c.ops-operations.ensures.kept
    c.ops-operations.ensures.ops c.in-Some.ensures.named c.in-Some.ensures.some c.times-ahead.ensures.ahead
    c.times-ahead.ensures.takes) in
    subst (λ (z : Bool). MatchBool z (IsBlocked c.args.number c.args.from (calls_of h.ops))
    (IsBlocked c.args.number c.args.from (calls_of h.ops) → ⊥)) (sym c.if-settled.false) none
