-- `draw_calls`: the calls are those that the generator's stream gives. The loop keeps that the calls so far, with
-- those that the stream still gives, are all (`drawn_more`), and that each fits its object (`is_call`).
use Rattle.std.proofs.Common.{◌≡◌, ◌-◌, ◌+◌, ◌∷◌, [], ◌++◌, All, length, ap, sym, ◌∙◌, subst, length-append, arith}
use Rattle.std.proofs.lemmas.List.Elements.{All-push}
use Rattle.seq_objects.specs.Kinds.{kind_in, kinds_of}
use Rattle.clients.specs.Drawing.{op_for, drawn_calls, stream_at}
use Rattle.clients.specs.Workloads.{IsCall}
use Rattle.clients.proofs.Streams.{drawn_more, is_call}
use Rattle.clients.proofs.calls.draw_calls.Goals as goal

pub loop-preserved : goal.loop-preserved
loop-preserved c =
    let items = c.in_ok-push.ensures.items in
    let d = c.draw-draws.result in
    let ks = c.args.kinds in
    let m = c.args.objects in
    let op : c.operation.result ≡ op_for (kind_in ks d.object) d = c.operation.ensures.op
    ∙ ap (λ k. op_for k d) c.kind.ensures in
    let long = ap length items ∙ length-append c.loop.calls.items ((d.object, c.operation.result) ∷ []) in
    record {
      drawn = ap (λ cs. cs
          ++ drawn_calls ks m (c.args.count - (c.loop.counter + 1)) (stream_at c.draw-draws.new.generator))
          items
          ∙ drawn_more ks m (c.args.count - c.loop.counter) (c.args.count - (c.loop.counter + 1))
          (stream_at c.loop.generator)
          (stream_at c.draw-draws.new.generator) d c.operation.result c.loop.calls.items _ (omega arith)
          c.draw-draws.ensures.drawn op c.loop.invariant.drawn;
      counts = omega (arith, long, c.loop.invariant.counts);
      fit = subst (All (IsCall (kinds_of ks m))) (sym items)
          (All-push (IsCall (kinds_of ks m)) c.loop.calls.items (d.object, c.operation.result) c.loop.invariant.fit
          (is_call ks m d.object c.operation.result c.draw-draws.ensures.within
          (c.operation.ensures.kind ∙ c.kind.ensures)));
    }
