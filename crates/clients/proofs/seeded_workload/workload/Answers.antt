-- `workload`: the calls are those drawn for each client, at most 10,000 each, and fit the kinds. Each turn adds the
-- calls of the next client, and the lengths of the lists are those of the ranges.
use Rattle.std.proofs.Common.{◌<◌, ◌∷◌, [], ◌++◌, All, length, map, ap, sym, ◌∙◌, subst, arith}
use Rattle.std.proofs.lemmas.List.{map_push}
use Rattle.std.proofs.lemmas.List.Elements.{All-push}
use Rattle.std.proofs.lemmas.List.FromFn.{map-range_with_len_more, length-map-range_with_len}
use Rattle.clients.specs.Workloads.{IsCall, IsWorkload}
use Rattle.seq_objects.specs.Kinds.{kind_in, kinds_of}
use Rattle.clients.specs.Drawing.{client_calls}
use Rattle.clients.proofs.seeded_workload.workload.Goals as goal

pub loop-client-preserved : goal.loop-client-preserved
loop-client-preserved c =
    let new = c.in_ok-calls_of.field-0 in
    let h = c.in_ok-calls_of.ensures in
    let ks = kinds_of c.args.kinds c.args.objects in
    let items = ap (map (λ v. v.items)) c.in_ok-push.ensures.items
    ∙ map_push (λ v. v.items) c.loop-client.calls_of_all.items new in
    let more = map-range_with_len_more (client_calls c.args.kinds c.args.objects c.args.calls c.args.seed) 0
    c.loop-client.client c.loop-client.client (omega arith) in
    let few : length new.items < 10001 = omega (arith, h.few, c.requires.calls) in
    record {
      drawn = items ∙ (λ i. c.loop-client.invariant.drawn i ++ h.calls i ∷ []) ∙ sym more;
      few = subst (All (λ cs. length cs < 10001)) (sym items)
          (All-push (λ cs. length cs < 10001) _ new.items c.loop-client.invariant.few few);
      fits = subst (All (λ cs. All (IsCall ks) cs)) (sym items)
          (All-push (λ cs. All (IsCall ks) cs) _ new.items c.loop-client.invariant.fits h.fit);
    }

pub invariant_of-result : goal.invariant_of-result
invariant_of-result c =
    let m = c.args.objects in
    let clients = ap length c.loop-client.invariant.drawn
    ∙ length-map-range_with_len (client_calls c.args.kinds m c.args.calls c.args.seed) 0 c.loop-client.client in
    let objects = length-map-range_with_len (kind_in c.args.kinds) 0 m in
    let end = c.loop-client-test.false in
    subst (λ ks. IsWorkload (record { kinds = ks; calls = map (λ v. v.items) c.loop-client.calls_of_all.items }))
    (sym c.in_ok-kinds_of_all.ensures) (record {
      objects = omega (arith, objects, c.requires.objects);
      few_objects = omega (arith, objects, c.requires.objects);
      clients = omega (arith, clients, c.requires.clients);
      few_clients = omega (arith, clients, c.requires.clients);
      few_calls = c.loop-client.invariant.few;
      fits = c.loop-client.invariant.fits;
    })
