use Rattle.std.proofs.Common.{List, ℕ, subst}
use Rattle.edn_reader.specs.Pieces.{token_buffer_tokens}
use Rattle.edn.proofs.Operating.{WithPair, walk_starts, walk_goes_on, walk_ends}
use Rattle.edn.proofs.fields.operation.values_in.Goals as goal

pub pairs-init : goal.pairs-init
pairs-init c = λ es q. walk_starts es
    (token_buffer_tokens c.args.inside.now) c.none-values.result q c.none-values.ensures

pub pairs-preserved : goal.pairs-preserved
pairs-preserved c =
    let put : WithPair c.pairs.values c.with-values.result c.in-Some.name.now c.in-Some.value.now =
    subst (λ (n : List ℕ). WithPair c.pairs.values c.with-values.result n c.in-Some.value.now)
    c.as_bytes.ensures.value c.with-values.ensures in
    λ es q. walk_goes_on es (token_buffer_tokens c.pairs.rest.now)
    (token_buffer_tokens c.after_value-rest.result.now) c.pairs.values
    c.with-values.result c.in-Some.name.now c.in-Some.value.now c.in-Some.ensures c.after_value-rest.ensures.tokens
    put (c.pairs.invariant es q)

pub returns : goal.returns
returns c = λ es q. walk_ends es (token_buffer_tokens c.pairs.rest.now) c.pairs.values c.in_default.ensures
    (c.pairs.invariant es q)
