use Rattle.certificate.proofs.UsualForms.{usual_is}
use Rattle.certificate.proofs.usual.usual_certificate.Goals as goal

pub returns : goal.returns
returns c =
    usual_is c.in_ok-number.number
    (record { object = c.in_ok-object.object; order = c.in_ok-order.order }) c.args.text.now
    c.after_line_feed.result.now
    c.in_ok-after.field-0.now c.in_ok-number.rest.now c.in_ok-after-2.field-0.now c.in_ok-order.rest.now
    c.in_ok-rest.rest.now
    c.requires c.after_line_feed.ensures c.in_ok-after.ensures c.in_ok-number.ensures c.in_ok-object.ensures
    c.in_ok-after-2.ensures c.in_ok-order.ensures c.in_ok-rest.ensures
