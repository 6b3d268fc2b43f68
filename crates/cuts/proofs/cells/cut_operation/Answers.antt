use Rattle.std.proofs.Common.{Bool, ap, sym, ◌∙◌}
use Rattle.std.specs.Prelude.{option_map}
use Rattle.events.specs.declared.operations.End.{End}
use Rattle.cuts.specs.Cells.{done_at, opened_at}
use Rattle.cuts.specs.Cuts.{keeps_value, keeps_number}
use Rattle.cuts.specs.CutOperations.{as_returned, op_recast}
use Rattle.cuts.proofs.cells.cut_operation.Goals as goal

pub returns-in_ok-op-in-Returned : goal.returns-in_ok-op-in-Returned
returns-in_ok-op-in-Returned c =
    let o = c.args.operation.now in
    let cell = c.args.cell in
    let keeps = keeps_value c.args.values.now in
    let kept = keeps_number c.args.numbers.now in
    sym (ap (λ (z : End). op_recast (done_at cell.place keeps cell.other (kept o.number))
    (opened_at cell.place keeps cell.other) o.number o.op z) c.in-Returned.is
    ∙ ap (λ (b : Bool). option_map (as_returned o.number c.in-Returned.at)
    (done_at cell.place keeps cell.other b o.op c.in-Returned.reply)) (sym c.contains-kept.ensures)
    ∙ ap (option_map (as_returned o.number c.in-Returned.at)) (sym c.in_ok-op-in-Returned.ensures))
