use Rattle.history.proofs.UsualForms.{type_here}
use Rattle.history.proofs.usual.type_at.Goals as goal

pub returns : goal.returns
returns c = type_here c.in_ok-map_type.map_type c.args.text.now c.in_ok-map_type.rest.now
    (c.ends_word.ensures c.if-not-ends_word.false) c.in_ok-map_type.ensures
