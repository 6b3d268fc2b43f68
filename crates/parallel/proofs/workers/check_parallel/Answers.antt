use Rattle.std.proofs.Common.{sym, subst}
use Rattle.parallel.specs.Gathered.{AreAll}
use Rattle.parallel.proofs.workers.check_parallel.Goals as goal

pub returns-clause-answer : goal.returns-clause-answer
returns-clause-answer g c =
    let es = c.args.history.now in
    c.check_objects.ensures.answer es (subst (AreAll es) (sym c.deref.ensures.value) c.in-Ok.ensures)

pub returns-clause-valid : goal.returns-clause-valid
returns-clause-valid g c = (returns-clause-answer g c).valid

pub returns-clause-refused : goal.returns-clause-refused
returns-clause-refused g c = (returns-clause-answer g c).refused

pub returns-clause-exact : goal.returns-clause-exact
returns-clause-exact g c = (returns-clause-answer g c).exact
