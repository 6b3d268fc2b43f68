use Rattle.std.proofs.Common.{List, ◌∙◌, ap, sym, subst}
use Rattle.edn_reader.specs.Datum.{Datum}
use Rattle.edn_reader.specs.View.{views}
use Rattle.simulation.specs.Schedules.{Denotes}
use Rattle.simulation.proofs.Faults.{of_steps}
use Rattle.simulation.proofs.simulating.schedule_in.Goals as goal

pub returns-clause-accepts : goal.returns-clause-accepts
returns-clause-accepts c h steps d short =
    let same = c.in-Ok.ensures.only d.forms d.spelled ∙ ap views (sym c.deref.ensures.value) in
    of_steps c.in-Err-read_schedule.fault c.form_fault.result c.form_fault.ensures
    (λ other. c.in-Err-read_schedule.ensures.refused other h steps
    (subst (λ (ds : List Datum). Denotes ds h steps) same d.denoted))
