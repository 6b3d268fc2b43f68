use Rattle.std.proofs.Common.{sym, ◌∙◌}
use Rattle.edn_reader.specs.Pieces.{token_buffer_tokens}
use Rattle.edn.proofs.Operating.{is_map}
use Rattle.edn.proofs.fields.operation.values_of.Goals as goal

pub returns-in-Some-clause-map : goal.returns-in-Some-clause-map
returns-in-Some-clause-map c =
    λ d e. is_map (token_buffer_tokens c.in-Some.inside.now) c.values_in.result c.values_in.ensures d
    (sym c.in-Some.ensures ∙ e)
