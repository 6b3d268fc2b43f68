use Rattle.std.proofs.Common.{◌∷◌, [], ◌++◌, ◌∙◌, ap, sym, replicate, arith}
use Rattle.machine.proofs.Starting.{copies_more}
use Rattle.machine.proofs.new_machine.copies.Goals as goal

pub copying-preserved : goal.copying-preserved
copying-preserved g c =
    let long = c.in_ok-push.ensures.len in
    let test = c.copying-test.true in (
      c.in_ok-push.ensures.items ∙ ap (λ vs. vs ++ c.args.value ∷ []) c.copying.invariant.0
          ∙ copies_more _ c.args.value ∙ ap (λ n. replicate n c.args.value) (sym long),
      omega arith,
    )
