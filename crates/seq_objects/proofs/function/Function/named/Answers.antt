use Rattle.std.proofs.Common.{arith, ◌<◌, ap, ◌∙◌, below_more}
use Rattle.std.specs.Cmp.Lexicographic.{other_text}
use Rattle.seq_objects.specs.declared.function.Function.TheVariants.{Enqueue}
use Rattle.seq_objects.specs.Functions.{name_of}
use Rattle.seq_objects.proofs.Places.{place, place-below, get_or-place}
use Rattle.seq_objects.proofs.function.Function.named.Goals as goal

pub loop-f-preserved : goal.loop-f-preserved
loop-f-preserved c =
    below_more _ _ c.loop-f.invariant
    (λ e. other_text _ _ c.if-eq.ensures (c.as_bytes.ensures.value ∙ c.name.ensures ∙ e))

pub returns-clause-unknown : goal.returns-clause-unknown
returns-clause-unknown c f e =
    let below : place f < c.loop-f.f-index =
    let within = place-below f in
    omega arith in
    c.loop-f.invariant (place f) below (ap name_of (get_or-place f Enqueue) ∙ e)
