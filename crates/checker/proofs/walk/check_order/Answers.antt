use Rattle.checker.proofs.Objects.{valid_is_ok, ok_is_faultless}
use Rattle.checker.proofs.walk.check_order.Goals as goal

pub returns-clause-faultless : goal.returns-clause-faultless
returns-clause-faultless g c =
    ok_is_faultless c.args.kind c.args.ops.now c.args.order.now c.check_entries.result c.requires.rising
    c.check_entries.ensures.valid

pub returns-clause-exact : goal.returns-clause-exact
returns-clause-exact g c =
    λ valid. valid_is_ok c.args.number c.args.kind c.args.ops.now c.args.order.now c.check_entries.result
    c.requires.rising valid c.check_entries.ensures.refused
