-- `split_by_pieces`: the shards are those of the whole history, or the fault is one of it. The text so far is
-- divided or waits in the pieces (`more_so_far`); at the end of the source it is the whole text.
use Rattle.std.proofs.Common.{sym, ◌∙◌}
use Rattle.std.proofs.lemmas.Result.{IfErr-weaker, IfOk-weaker, err_from_is_err_and}
use Rattle.shards.proofs.PiecesDivided.{flushed_so_far, more_so_far, split_fault_of}
use Rattle.shards.proofs.split.split_by_pieces.Goals as goal

pub returns-then-is_ended-clause-divided : goal.returns-then-is_ended-clause-divided
returns-then-is_ended-clause-divided g c =
    let read = c.in_ok-read.ensures.read in
    let s = more_so_far read c.loop.invariant.so_far in
    IfOk-weaker c.divide_last.result _ _
    (λ told all. record {
      whole = s.text;
      consumed = s.consumed;
      ended = read.ended (sym c.is_ended.ensures ∙ c.if-is_ended.true);
      shards = all c.args.shards s.text s.written (g.D.Folder.files c.args.folder.now) s.under_way s.adds;
    }) c.divide_last.ensures.divided

pub returns-then-is_ended-clause-malformed : goal.returns-then-is_ended-clause-malformed
returns-then-is_ended-clause-malformed g c =
    let left = g.F.Source.remaining c.args.history.now in
    let left_after = g.F.Source.remaining c.read.new.source in
    let read = c.in_ok-read.ensures.read in
    let s = more_so_far read c.loop.invariant.so_far in
    IfErr-weaker c.divide_last.result _ _
    (λ e f. split_fault_of c.args.shards e left left_after s.text s.consumed
    (f c.args.shards s.text s.written left_after s.under_way
    (read.ended (sym c.is_ended.ensures ∙ c.if-is_ended.true))))
    c.divide_last.ensures.fault

pub returns-in_err-divide_piece-clause-malformed : goal.returns-in_err-divide_piece-clause-malformed
returns-in_err-divide_piece-clause-malformed g c =
    let left = g.F.Source.remaining c.args.history.now in
    let left_after = g.F.Source.remaining c.read.new.source in
    let s = more_so_far c.in_ok-read.ensures.read c.loop.invariant.so_far in
    let r = c.from_residual-in_err-divide_piece in
    let p = err_from_is_err_and r.result r.ensures.1 in
    rw (p.1, p.2) (split_fault_of c.args.shards c.in_err-divide_piece.field-0.0 left left_after s.text s.consumed
    (c.in_err-divide_piece.ensures.fault c.args.shards s.text s.written left_after s.under_way))

pub loop-preserved : goal.loop-preserved
loop-preserved g c =
    let n = c.args.shards in
    record {
      so_far = flushed_so_far (c.in_ok-divide_piece.ensures.divided n) (c.in-Ok.ensures.taken n)
          (more_so_far c.in_ok-read.ensures.read c.loop.invariant.so_far);
      going = c.in_ok-divide_piece.ensures.going ∙ (sym c.is_ended.ensures ∙ c.if-is_ended.false);
      history = c.in_ok-read.ensures.usable;
      folder = c.in-Ok.ensures.usable;
    }
