use Rattle.std.proofs.Common.{rules, ◌≡◌, ℕ, List, subst, sym}
use Rattle.verifying.specs.declared.decision.Decision.{Decision}
use Rattle.verifying.specs.Decisions.{AreDecisionsOn}
use Rattle.history_commands.proofs.verification.verify_claims.Goals as goal

pub returns : goal.returns
returns c =
    let es = c.args.history.now in
    let claims = c.args.claims.items in
    let answers = c.in_ok-answers.answers.items in
    let is : c.from.result ≡ c.args.steps = search rules in
    let limited = subst (λ (n : ℕ). AreDecisionsOn es claims n answers) is c.in_ok-answers.ensures in
    c.judge_decisions.ensures claims c.args.steps
    (subst (λ (xs : List (ℕ × Decision)). AreDecisionsOn es claims c.args.steps xs) (sym c.deref.ensures.value)
    limited)
