use Rattle.std.proofs.Common.{List, ℕ, ◌∷◌, get_or, refl, ap, ◌∙◌, arith, rules}
use Rattle.edn_reader.proofs.UsualFronts.{heads_are}
use Rattle.history.proofs.UsualForms.{function_here}
use Rattle.history.proofs.usual.function_at.Goals as goal

pub returns : goal.returns
returns c =
    let text = heads_are c.args.text.now 58 (get_or c.args.text.now 1 0) (omega arith) (search rules) refl in
    function_here c.in_ok-function.function c.args.text.now c.in_ok-function.rest.now
    (c.ends_word.ensures c.if-not-ends_word.false)
    (text ∙ ap (λ (x : List ℕ). 58 ∷ x) c.in_ok-function.ensures)
