use Rattle.std.proofs.Common.{subst}
use Rattle.history.specs.Texts.{IsHistoryTextFault}
use Rattle.reading.proofs.ReadFaults.{stopped_maps, stops_for_memory}
use Rattle.reading.proofs.history_text.history_of_text.Goals as goal

pub returns-in-Ok-clause-only : goal.returns-in-Ok-clause-only
returns-in-Ok-clause-only c = λ fs h.
    let d = c.in-Ok.ensures.denotes in
    c.one_history.ensures c.args.text.now fs c.in-Ok.history h (record { forms = d.0; spelled = d.1; denoted = d.2 })

pub returns-in-Err-Maps-clause-stop : goal.returns-in-Err-Maps-clause-stop
returns-in-Err-Maps-clause-stop c =
    stopped_maps c.args.text.now c.in-Err-Maps.fault c.failure_of_fault-in-Err-Maps.result
    (subst (IsHistoryTextFault c.args.text.now) c.in-Err-Maps.field-0-is c.in-Err-Maps.ensures.fault)
    c.failure_of_fault-in-Err-Maps.ensures

pub returns-in-Err-Maps-clause-accepts : goal.returns-in-Err-Maps-clause-accepts
returns-in-Err-Maps-clause-accepts c = λ es d short. stops_for_memory c.args.text.now
    c.failure_of_fault-in-Err-Maps.result es (returns-in-Err-Maps-clause-stop c) d short
