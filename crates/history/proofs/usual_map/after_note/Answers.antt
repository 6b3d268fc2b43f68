use Rattle.std.proofs.lemmas.Option.{IfSome_then}
use Rattle.history.proofs.UsualForms.{note_pair}
use Rattle.history.proofs.usual_map.after_note.Goals as goal

pub returns : goal.returns
returns c = IfSome_then c.after-3.result c.after-3.ensures
    (λ x h. note_pair c.in_ok-key.key.now c.in_ok-rest.ensures.0 c.args.text.now c.in_ok-after.field-0.now
    c.in_ok-key.rest.now c.in_ok-after-2.field-0.now c.in_ok-rest.rest.now x.now
    (c.has_meaning.ensures c.if-has_meaning.false) c.in_ok-after.ensures c.in_ok-key.ensures
    c.in_ok-after-2.ensures c.in_ok-rest.ensures.1 h)
