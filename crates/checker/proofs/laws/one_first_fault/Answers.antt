use Rattle.checker.proofs.OneRefusal.{one_fault}
use Rattle.checker.proofs.laws.one_first_fault.Goals as goal

pub returns : goal.returns
returns c = one_fault
