-- `divide_piece`: a piece is divided and what is under way stays so, or the fault is one in the text. A piece that
-- ends inside a form asks for more text; any other fault of the piece is told at its place in the text.
use Rattle.std.proofs.Common.{take, drop, sym}
use Rattle.std.proofs.lemmas.List.{take-append-drop}
use Rattle.std.proofs.lemmas.Result.{on_ok_weaker}
use Rattle.shards.proofs.OnOk.{of_errors}
use Rattle.shards.proofs.PiecesDivided.{ends_at_feed, fault_in, passes_piece, too_long_in}
use Rattle.shards.proofs.split.divide_piece.Goals as goal

pub returns-in_default-clause-fault : goal.returns-in_default-clause-fault
returns-in_default-clause-fault c =
    of_errors c.ask_for_more.result
    (λ e q long count text written left h.
    rw q (too_long_in count c.args.divider.now c.args.pieces.now text written left h long))
    c.ask_for_more.ensures.too_long c.ask_for_more.ensures.long

pub returns-then-ends_inside_form-clause-fault : goal.returns-then-ends_inside_form-clause-fault
returns-then-ends_inside_form-clause-fault c =
    of_errors c.ask_for_more-then-ends_inside_form.result
    (λ e q long count text written left h.
    rw q (too_long_in count c.args.divider.now c.args.pieces.now text written left h long))
    c.ask_for_more-then-ends_inside_form.ensures.too_long c.ask_for_more-then-ends_inside_form.ensures.long

pub returns-in-Ok-clause-divided : goal.returns-in-Ok-clause-divided
returns-in-Ok-clause-divided c =
    on_ok_weaker c.pass.result
    (λ pass count text written h.
    let of = rw c.text.ensures at (c.in-Ok.ensures.taken count h.maps written h.taken) in
    passes_piece h of pass)
    c.pass.ensures.passes

pub returns-else-ends_inside_form-clause-fault : goal.returns-else-ends_inside_form-clause-fault
returns-else-ends_inside_form-clause-fault c = λ count text written left h.
    let p = c.args.pieces.now in
    let n = c.in-Some.length in
    let is = rw c.text.ensures at (c.in-Err.ensures.fault count h.maps written h.taken) in
    let inside = c.ends_inside_form.ensures in
    let no = c.if-ends_inside_form.false in
    fault_in h (take n p.text.items) (drop n p.text.items) left (sym (take-append-drop n p.text.items)) c.in-Err.fault
    c.fault_from.result (ends_at_feed p.text.items n left c.in-Some.ensures.0 c.in-Some.ensures.1) is
    (λ e. let yes = inside.1 e in absurd (cc (yes, no))) (rw c.start.ensures at c.fault_from.ensures)
