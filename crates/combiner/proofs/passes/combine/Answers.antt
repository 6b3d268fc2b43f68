-- `combine`: the client keeps its calls, and after a pass its own call on the object is settled. Each step of the
-- pass goes on from the one before (`goes_on`), and what holds at its end holds of the client released.
use Rattle.std.proofs.Common.{sym, ap, subst, ◌∙◌}
use Rattle.desk_model.specs.World.{StartsWith}
use Rattle.desk_invariant.specs.Views.{seen_of, after_win}
use Rattle.combiner.proofs.Served.{goes_on, goes_same, goes_room, same_settled, settled_after, keeps_learnt}
use Rattle.combiner.proofs.Served.{keeps_missed}
use Rattle.combiner.proofs.passes.combine.Goals as goal

pub returns-then-is_err-clause-same : goal.returns-then-is_err-clause-same
returns-then-is_err-clause-same g c =
    let counted = c.count_pass-pass.ensures.counted in
    let won = c.in-Won.ensures.won in
    keeps_learnt c.args.client.knows c.args.object c.count_pass-pass.new.self c.reserve.new.self c.release.result.knows
    (ap (λ p. p.knows) counted
    ∙ (won.knows ∙ ap (λ p. after_win c.args.object p.log c.args.client.knows) (sym counted)))
    (ap (λ p. p.object) counted ∙ won.object)
    (subst (λ p. StartsWith p.log (seen_of c.args.client.knows c.args.object)) (sym counted) won.begins)
    (goes_room _ _ _ c.reserve.ensures.same) c.release.ensures.released

pub returns-else-is_err-clause-same : goal.returns-else-is_err-clause-same
returns-else-is_err-clause-same g c =
    let counted = c.count_pass-pass.ensures.counted in
    let won = c.in-Won.ensures.won in
    let goes = goes_on _ _ _ (goes_room c.count_pass-pass.new.self c.reserve.new.self _ c.reserve.ensures.same)
    (goes_on _ _ _ c.serve-held.ensures.goes (goes_same c.serve-held.result.0 c.clean.new.pass c.clean.ensures)) in
    keeps_learnt c.args.client.knows c.args.object c.count_pass-pass.new.self c.clean.new.pass
    c.release-in-Won.result.knows
    (ap (λ p. p.knows) counted
    ∙ (won.knows ∙ ap (λ p. after_win c.args.object p.log c.args.client.knows) (sym counted)))
    (ap (λ p. p.object) counted ∙ won.object)
    (subst (λ p. StartsWith p.log (seen_of c.args.client.knows c.args.object)) (sym counted) won.begins) goes
    c.release-in-Won.ensures.released

pub returns-else-is_err-clause-served : goal.returns-else-is_err-clause-served
returns-else-is_err-clause-served g c =
    let goes = goes_on _ _ _ (goes_room c.count_pass-pass.new.self c.reserve.new.self _ c.reserve.ensures.same)
    (goes_on _ _ _ c.serve-held.ensures.goes (goes_same c.serve-held.result.0 c.clean.new.pass c.clean.ensures)) in
    settled_after c.args.object c.clean.new.pass c.release-in-Won.result.knows
    (goes.object ∙ (ap (λ p. p.object) c.count_pass-pass.ensures.counted ∙ c.in-Won.ensures.won.object))
    c.release-in-Won.ensures.released c.release-in-Won.ensures.seen
    (same_settled c.serve-held.result.0 c.clean.new.pass c.clean.ensures c.serve-held.ensures.own)

pub returns-in-Held-clause-same : goal.returns-in-Held-clause-same
returns-in-Held-clause-same g c =
    keeps_missed c.args.object c.args.client.knows c.in-Held.client.knows c.in-Held.ensures.held
