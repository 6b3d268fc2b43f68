-- `draw_pairs`: the calls are the pairs drawn from the stream, two for each, on objects of one kind. The calls so
-- far, then the pairs from the stream that is left, are all pairs (`pair_more`).
use Rattle.std.proofs.Common.{◌-◌, ◌+◌, ◌∷◌, [], ◌++◌, All, length, ap, sym, ◌∙◌, refl, subst, length-append, arith}
use Rattle.std.proofs.lemmas.List.Elements.{All-push}
use Rattle.model.specs.Objects.{kind_of}
use Rattle.seq_objects.specs.declared.kinds.Kinds.TheVariants.{One}
use Rattle.seq_objects.specs.Kinds.{kinds_of}
use Rattle.clients.specs.Drawing.{pairs_from, stream_at}
use Rattle.clients.specs.Workloads.{WorkCall, IsCall}
use Rattle.clients.proofs.Streams.{pair_more, is_call}
use Rattle.clients.proofs.calls.draw_pairs.Goals as goal

pub loop-preserved : goal.loop-preserved
loop-preserved c =
    let d = c.draw-draws.result in
    let take = c.args.take in
    let free = c.args.free in
    let ks = One (kind_of take) in
    let m = c.args.objects in
    let first : WorkCall = (d.object, take) in
    let second : WorkCall = (d.object, free) in
    let items = c.in_ok-push-2.ensures.items ∙ ap (λ cs. cs ++ second ∷ []) c.in_ok-push.ensures.items in
    let long = ap length items ∙ length-append (c.loop.calls.items ++ first ∷ []) (second ∷ []) in
    let short = length-append c.loop.calls.items (first ∷ []) in
    let fit = All-push (IsCall (kinds_of ks m)) c.loop.calls.items first c.loop.invariant.fit
    (is_call ks m d.object take c.draw-draws.ensures.within refl) in
    record {
      drawn = ap (λ cs. cs
          ++ pairs_from take free m (c.args.count - (c.loop.counter + 1)) (stream_at c.draw.new.generator))
          items
          ∙ pair_more take free m (c.args.count - c.loop.counter) (c.args.count - (c.loop.counter + 1))
          (stream_at c.loop.generator)
          (stream_at c.draw-draws.new.generator) (stream_at c.draw.new.generator) d c.draw.result c.loop.calls.items _
          (omega arith)
          c.draw-draws.ensures.drawn c.draw.ensures.drawn c.loop.invariant.drawn;
      counts = omega (arith, long, short, c.loop.invariant.counts);
      fit = subst (All (IsCall (kinds_of ks m))) (sym items)
          (All-push (IsCall (kinds_of ks m)) (c.loop.calls.items ++ first ∷ []) second fit
          (is_call ks m d.object free c.draw-draws.ensures.within c.requires.kind));
    }
