use Rattle.history.proofs.UsualForms.{object_pair}
use Rattle.history.proofs.usual_map.object_at.Goals as goal

pub returns : goal.returns
returns c = object_pair c.in_ok-number.number c.in_ok-object.object c.args.text.now c.in-Some.rest.now
    c.in_ok-number.rest.now c.in_ok-after_time-2.field-0.now
    c.in_ok-object.ensures c.in-Some.ensures c.in_ok-number.ensures c.in_ok-after_time-2.ensures
