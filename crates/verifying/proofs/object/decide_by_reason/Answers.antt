-- `decide_by_reason`: the decision is an answer to the claim on this object. A part that was shown to have no valid
-- order makes it impossible (`is_shown_by`), and what a why_not leads to is said by `decide_if_not_shown`.
use Rattle.std.proofs.Common.{ℕ, ap, sym, subst}
use Rattle.events.specs.Operations.{calls_of}
use Rattle.refutation.specs.declared.refuting.ReasonAnswer.{ReasonAnswer}
use Rattle.refutation.specs.Refutations.{PartHasNoValidOrder, IfShownImpossible, IfNotShown, IfPart, IsWhyNotShown}
use Rattle.refutation.specs.Refutations.{IsNamedPart, IsShownBy, shows_impossible}
use Rattle.verifying.specs.declared.claim.Claim.TheVariants as claim
use Rattle.verifying.specs.declared.decision.Decision.TheVariants as decision
use Rattle.verifying.specs.Decisions.{IsClaimAnswer}
use Rattle.verifying.proofs.Answered.{is_shown_by}
use Rattle.verifying.proofs.object.decide_by_reason.Goals as goal

pub returns-in-Impossible : goal.returns-in-Impossible
returns-in-Impossible c =
    let h = c.args.history.now in
    let r = c.args.reason in
    let calls = calls_of h.ops in
    let part = c.in-Impossible.part in
    let found = c.in-Impossible.is in
    let e = c.in_ok-part.ensures in
    let named = subst (λ (v : ReasonAnswer). IfPart v (IsNamedPart r.cuts.items h.object h.kind calls)) found e.part in
    let own = subst (λ (x : ℕ). IsNamedPart r.cuts.items x h.kind calls part) (sym c.requires) named in
    let why : ReasonAnswer → Type 0 = λ v. IfShownImpossible v
    (λ part. IsShownBy r.basis part × PartHasNoValidOrder part) in
    let shown = subst why found e.shown in
    let none = e.impossible (ap shows_impossible found) in
    let answer = is_shown_by h.kind calls c.args.limit r c.args.note part own shown.0 shown.1 none in
    let given = decision.Impossible (record { reason = r; part = part; note = c.args.note }) in
    subst (λ (x : ℕ). IsClaimAnswer x h.kind calls c.args.limit (claim.Reason r c.args.note) given) c.requires answer

pub returns-in-NotShown : goal.returns-in-NotShown
returns-in-NotShown c =
    let h = c.args.history.now in
    let r = c.args.reason in
    let calls = calls_of h.ops in
    let part = c.in-NotShown.part in
    let found = c.in-NotShown.is in
    let e = c.in_ok-part.ensures in
    let named = subst (λ (v : ReasonAnswer). IfPart v (IsNamedPart r.cuts.items h.object h.kind calls)) found e.part in
    let own = subst (λ (x : ℕ). IsNamedPart r.cuts.items x h.kind calls part) (sym c.requires) named in
    let why_not = subst (λ (v : ReasonAnswer). IfNotShown v (IsWhyNotShown r.basis)) found e.not_shown in
    let answer = c.decide_if_not_shown.ensures h.kind calls c.args.note part own why_not in
    let given = c.decide_if_not_shown.result in
    subst (λ (x : ℕ). IsClaimAnswer x h.kind calls c.args.limit (claim.Reason r c.args.note) given) c.requires answer
