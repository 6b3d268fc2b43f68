use Rattle.std.proofs.Common.{ap, ◌∙◌, ◌≡◌, rules, to_z, of_z, w64}
use Rattle.model.specs.Objects.{next, elements}
use Rattle.seq_objects.specs.declared.set.SetOp.TheVariants as of_set
use Rattle.seq_objects.specs.Operations.{set_op}
use Rattle.seq_objects.proofs.Members.{next-add, next-remove, next-has}
use Rattle.seq_objects.proofs.set.SetSeqObject.apply.Goals as goal

pub returns-in_ok-insert-in-Add-clause-ok : goal.returns-in_ok-insert-in-Add-clause-ok
returns-in_ok-insert-in-Add-clause-ok c =
    let h = c.in_ok-insert-in-Add.ensures in
    let value : c.in-Add.v ≡ to_z w64 (of_z w64 c.in-Add.v) = search rules in
    ap (λ op. next (elements c.args.self.now) (set_op op)) (c.in-Add.is ∙ ap of_set.Add value)
    ∙ next-add _ _ _ _ _ c.self.view_is h.updates.0 h.added

pub returns-in-Remove-clause-ok : goal.returns-in-Remove-clause-ok
returns-in-Remove-clause-ok c =
    let h = c.remove.ensures in
    ap (λ op. next (elements c.args.self.now) (set_op op)) c.in-Remove.is
    ∙ next-remove _ _ _ _ _ c.self.view_is h.updates.0 h.test

pub returns-in-Has-clause-ok : goal.returns-in-Has-clause-ok
returns-in-Has-clause-ok c =
    ap (λ op. next (elements c.args.self.now) (set_op op)) c.in-Has.is
    ∙ next-has _ _ _ _ c.self.view_is c.contains.ensures
