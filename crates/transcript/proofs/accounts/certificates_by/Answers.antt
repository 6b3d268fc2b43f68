-- `certificates_by`: the certificates are those of the record's journals and logs. Each object of the split is
-- named in the history, so it has a log; in each turn its name and the order of that log are added.
use Rattle.std.proofs.Common.{◌≡◌, ◌++◌, [], ◌∷◌, List, ℕ, map, All, Contains, ap, sym, ◌∙◌, subst}
use Rattle.std.proofs.lemmas.List.{take_all}
use Rattle.std.proofs.lemmas.List.Elements.{All-push}
use Rattle.events.specs.Operations.{ObjectCalls}
use Rattle.events.specs.Events.{IsNamed}
use Rattle.certificate.specs.declared.Certificate.{Certificate}
use Rattle.desk_model.specs.Images.{entry_in}
use Rattle.desk_model.specs.Records.{order_of}
use Rattle.recorder.specs.Histories.{journals_in, logs_in}
use Rattle.transcript.proofs.Certifying.{has_log, log_low, objects_more, name_of_item, names_rise, are_certificates}
use Rattle.transcript.proofs.accounts.certificates_by.Goals as goal

pub log-requires-after_bounds : goal.log-requires-after_bounds
log-requires-after_bounds g c κs within =
    let op_in = g.S.SeqObject.op_in in
    let reply_in = g.S.SeqObject.reply_in in
    let r = c.args.recorded.now in
    let vs = c.deref-named-items.result.now in
    let v = c.named-item.result in
    let x = c.object-object.result in
    let among = name_of_item
    (λ (o : ObjectCalls). o.object) vs c.loop-named.named-index v c.loop-named-test.true c.named-item.is in
    let there = subst (λ (os : List ObjectCalls). Contains (map (λ (o : ObjectCalls). o.object) os) v.object)
    c.deref-named-items.ensures.value among in
    let named = (c.in_ok-objects.ensures.named v.object).0 there in
    has_log _ (journals_in op_in reply_in r) _ c.requires.kept _ c.requires.history x
    (subst (λ (y : ℕ). IsNamed c.args.history.now y) (sym c.object-object.ensures) named)

pub order_of-requires-after_bounds : goal.order_of-requires-after_bounds
order_of-requires-after_bounds g c κs within =
    log_low g.S.SeqObject.op_in g.S.SeqObject.reply_in c.args.recorded.now c.requires.kept c.object-object.result
    c.log.result.now c.log.ensures

pub loop-named-preserved : goal.loop-named-preserved
loop-named-preserved g c =
    let op_in = g.S.SeqObject.op_in in
    let reply_in = g.S.SeqObject.reply_in in
    let r = c.args.recorded.now in
    let one : Certificate = record { object = c.object-object.result; order = c.in_ok-order.order } in
    let more : c.push.new.self.items ≡ c.loop-named.certificates.items ++ one ∷ [] = c.in_ok-push.ensures.items in
    record {
      objects = objects_more (λ (o : ObjectCalls). o.object) c.deref-named-items.result.now c.loop-named.named-index
          c.named-item.result
          c.loop-named.certificates.items c.push.new.self.items one c.loop-named-test.true c.named-item.is
          c.loop-named.invariant.objects c.object-object.ensures more;
      orders = subst (All (λ (d : Certificate). d.order.items ≡ order_of (logs_in op_in reply_in r d.object)))
          (sym more)
          (All-push (λ (d : Certificate). d.order.items ≡ order_of (logs_in op_in reply_in r d.object))
          c.loop-named.certificates.items one
          c.loop-named.invariant.orders
          (c.in_ok-order.ensures ∙ ap (λ log. order_of (map (entry_in op_in reply_in) log)) c.log.ensures));
    }

pub returns : goal.returns
returns g c =
    let op_in = g.S.SeqObject.op_in in
    let reply_in = g.S.SeqObject.reply_in in
    let r = c.args.recorded.now in
    let os = c.in_ok-objects.objects.items in
    let all : map (λ (d : Certificate). d.object) c.loop-named.certificates.items
    ≡ map (λ (o : ObjectCalls). o.object) os =
    c.loop-named.invariant.objects ∙ ap (map (λ (o : ObjectCalls). o.object))
    (take_all c.loop-named.named-index c.deref-named-items.result.now c.loop-named-test.false
    ∙ c.deref-named-items.ensures.value) in
    are_certificates (journals_in op_in reply_in r) (logs_in op_in reply_in r) _ c.requires.history
    (map (λ (o : ObjectCalls). o.object) os)
    (names_rise os c.in_ok-objects.ensures.rising) c.in_ok-objects.ensures.named c.loop-named.certificates.items all
    c.loop-named.invariant.orders
