use Rattle.std.proofs.Common.{rules, ◌≡◌, ◌∷◌}
use Rattle.edn_reader.specs.View.{view, views}
use Rattle.simulation.proofs.Steps.{refuses}
use Rattle.simulation.proofs.reader.read_schedule.Goals as goal

pub returns-in-Err-clause-refused : goal.returns-in-Err-clause-refused
returns-in-Err-clause-refused c =
    let whole : views c.args.forms.now ≡ view c.in-Some.first.now ∷ views c.in-Some.rest.now = search rules in
    refuses (views c.args.forms.now) (view c.in-Some.first.now) (views c.in-Some.rest.now) whole c.in-Err.fault.kind
    c.in-Err.fault.form c.in-Err.ensures.fault
