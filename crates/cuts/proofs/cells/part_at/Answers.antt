-- `part_at`: what is made is a part of the history, and its calls are those at the cell. It is the history that
-- `operation_at` makes of the whole, of which `part_history`, `part_shows` and `part_calls_of` say this.
use Rattle.std.proofs.Common.{ap, sym, ◌∙◌, subst}
use Rattle.std.specs.List.{filter_map}
use Rattle.events.specs.Operations.{ObjectCalls, IsObjectHistory, calls_of}
use Rattle.cuts.specs.Cuts.{keeps_value, keeps_number, IsPart}
use Rattle.cuts.specs.CutOperations.{operation_at}
use Rattle.cuts.specs.Kinds.{kind_at_cell}
use Rattle.cuts.proofs.CutOperations.{same_history}
use Rattle.cuts.proofs.Places.{part_history, part_calls_of, part_shows}
use Rattle.cuts.proofs.cells.part_at.Goals as goal

pub new-requires : goal.new-requires
new-requires c =
    let cell = c.args.cell in
    let keeps = keeps_value c.args.values.now in
    let kept = keeps_number c.args.numbers.now in
    let ops = c.in_ok-ops.ensures ∙ ap (filter_map (operation_at cell.place keeps cell.other kept)) c.ops.ensures.ops in
    let own = c.kind_at_cell-kind.ensures ∙ ap (kind_at_cell cell.place) c.kind.ensures in
    subst IsObjectHistory (sym (same_history c.object.ensures own ops))
    (part_history cell.place keeps cell.other kept c.args.history.now c.ops.ensures.kept)

pub returns-clause-part : goal.returns-clause-part
returns-clause-part c =
    let cell = c.args.cell in
    let keeps = keeps_value c.args.values.now in
    let kept = keeps_number c.args.numbers.now in
    let ops = c.in_ok-ops.ensures ∙ ap (filter_map (operation_at cell.place keeps cell.other kept)) c.ops.ensures.ops in
    let own = c.kind_at_cell-kind.ensures ∙ ap (kind_at_cell cell.place) c.kind.ensures in
    subst (IsPart c.args.history.now) (sym (c.new.ensures ∙ same_history c.object.ensures own ops))
    (part_shows cell.place keeps cell.other kept c.args.history.now)

pub returns-clause-calls : goal.returns-clause-calls
returns-clause-calls c =
    let cell = c.args.cell in
    let keeps = keeps_value c.args.values.now in
    let kept = keeps_number c.args.numbers.now in
    let ops = c.in_ok-ops.ensures ∙ ap (filter_map (operation_at cell.place keeps cell.other kept)) c.ops.ensures.ops in
    ap (λ (z : ObjectCalls). calls_of z.ops) c.new.ensures ∙ ap calls_of ops
    ∙ part_calls_of cell.place keeps cell.other kept c.args.history.now.ops
