use Rattle.std.proofs.Common.{codes, ◌∙◌}
use Rattle.edn.specs.Fields.{value_at}
use Rattle.edn.proofs.Shapes.{natural_is, keyword_is}
use Rattle.history.proofs.Saying.{client_is, plain_is}
use Rattle.history.proofs.client_map.client_on.Goals as goal

pub returns : goal.returns
returns c = λ es h.
    let v = c.args.values.now in
    client_is c.client_with.result c.natural_first.result _ _ c.object_on.result c.plain_on.result es
    c.client_with.ensures.map c.client_with.ensures.value
    (c.natural_first.ensures ∙ natural_is v.process.now (value_at (codes "process") es) h.process)
    (c.keyword_first.ensures ∙ keyword_is v.map_type.now (value_at (codes "type") es) h.map_type)
    (c.keyword_first-2.ensures ∙ keyword_is v.function.now (value_at (codes "f") es) h.function)
    (c.object_on.ensures (value_at (codes "object") es) h.object)
    (c.plain_on.ensures ∙ plain_is v.value.now (value_at (codes "value") es) h.value)
