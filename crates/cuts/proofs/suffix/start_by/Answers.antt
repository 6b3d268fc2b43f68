use Rattle.std.proofs.Common.{All, sym, ◌∙◌, subst}
use Rattle.cuts.specs.CutOperations.{IsOnKey}
use Rattle.cuts.proofs.Later.{start_from}
use Rattle.cuts.proofs.suffix.start_by.Goals as goal

pub returns-then-are_on_key-clause-some : goal.returns-then-are_on_key-clause-some
returns-then-are_on_key-clause-some c =
    let ops = c.args.operations.now in
    let on = subst (λ key. All (IsOnKey key) ops) c.key_of.ensures (c.are_on_key.ensures.yes c.if-are_on_key.true) in
    start_from ops c.args.operation c.in-Returned.at c.in-Returned.reply c.in_ok-first.first c.requires
    c.in-Returned.is (sym c.first_of.ensures ∙ c.in_ok-first.was) on
