use Rattle.std.proofs.Common.{rules, sym, ◌∙◌}
use Rattle.combiner.proofs.Served.{goes_on, goes_same, same_tried, settled_first, settled_last}
use Rattle.combiner.proofs.passes.serve.Goals as goal

pub returns-then-ne-clause-goes : goal.returns-then-ne-clause-goes
returns-then-ne-clause-goes g c =
    goes_on _ _ _ (goes_on _ _ _ c.try_row-pass.ensures.goes
    (goes_same c.try_row-pass.result.0 c.walk.new.pass c.walk.ensures)) c.serve_others-pass.ensures.goes

pub returns-then-ne-clause-own : goal.returns-then-ne-clause-own
returns-then-ne-clause-own g c = settled_first c.walk.new.pass c.serve_others-pass.result.0 c.try_row-pass.result.1
    (same_tried c.try_row-pass.result.0 c.walk.new.pass _ c.walk.ensures
    (c.try_row-pass.ensures.own c.number-own.ensures.number)) (search rules) c.serve_others-pass.ensures.goes

pub returns-clause-goes : goal.returns-clause-goes
returns-clause-goes g c = goes_on _ _ _
    (goes_on _ _ _ (goes_on _ _ _ c.try_row-pass.ensures.goes
    (goes_same c.try_row-pass.result.0 c.walk.new.pass c.walk.ensures)) c.serve_others-pass.ensures.goes)
    c.try_row-pass-2.ensures.goes

pub returns-clause-own : goal.returns-clause-own
returns-clause-own g c = settled_last c.try_row-pass-2.result.0 c.try_row-pass-2.result.1
    (c.try_row-pass-2.ensures.own (c.number-own.ensures.number
    ∙ sym (c.serve_others-pass.ensures.goes.calls.number
    ∙ ((goes_same c.try_row-pass.result.0 c.walk.new.pass c.walk.ensures).calls.number
    ∙ c.try_row-pass.ensures.goes.calls.number))))
