-- A reason names one part: where none of its operations failed, its calls say what they are.
use Rattle.std.proofs.Common.{◌≡◌, ◌≢◌, List, [], ◌∷◌, Option, Some, None, inl, inr, map, refl, ap, sym, ◌∙◌}
use Rattle.std.specs.List.{cons_option}
use Rattle.model.specs.Orders.{Call, Return}
use Rattle.model.specs.Lists.{In}
use Rattle.model.proofs.Lists.{all_at}
use Rattle.events.specs.declared.operations.End.{End}
use Rattle.events.specs.declared.operations.End.TheVariants.{Returned, Pending, Failed}
use Rattle.events.specs.declared.operations.Operation.{Operation}
use Rattle.events.specs.Operations.{ObjectCalls, call_with, calls_of}
use Rattle.cuts.specs.Cuts.{NoneFailed}

abbrev end_of : Option Return → End
end_of None = Pending
end_of (Some r) = Returned r.at r.reply

-- an operation, with this end
abbrev ended : Operation → End → Operation
ended o e = record { number = o.number; op = o.op; «end» = e }

-- a call as an operation
abbrev operation_of : Call → Operation
operation_of e = record { number = e.number; op = e.op; «end» = end_of e.returned }

operations : (ops : List Operation) → ((o : Operation) → In o ops → o.«end» ≢ Failed)
    → map operation_of (calls_of ops) ≡ ops
operations [] f = refl
operations (o ∷ ops) f = go o.«end» (f o (inl refl)) (operations ops (λ p i. f p (inr i)))
  where
    go : (e : End) → e ≢ Failed → map operation_of (calls_of ops) ≡ ops
        → map operation_of (cons_option (call_with o.number o.op e) (calls_of ops))
        ≡ ended o e ∷ ops
    go (Returned at r) ne h = ap (λ (os : List Operation). ended o (Returned at r) ∷ os) h
    go Pending ne h = ap (λ (os : List Operation). ended o Pending ∷ os) h
    go Failed ne h = absurd (ne refl)

same_operations : (ops os : List Operation) → NoneFailed ops → NoneFailed os → calls_of ops ≡ calls_of os → ops ≡ os
same_operations ops os a b e =
    sym (operations ops (λ o i. all_at (λ (o : Operation). o.«end» ≢ Failed) ops a o i)) ∙ ap (map operation_of) e
    ∙ operations os (λ o i. all_at (λ (o : Operation). o.«end» ≢ Failed) os b o i)

-- parts of one object, kind and calls, in which no operation failed, are equal
pub same_part : (p q : ObjectCalls) → p.object ≡ q.object → p.kind ≡ q.kind → NoneFailed p.ops → NoneFailed q.ops
    → calls_of p.ops ≡ calls_of q.ops → p ≡ q
same_part p q object kind a b e =
    let ops = same_operations p.ops q.ops a b e in
    λ i. record { object = object i; kind = kind i; ops = ops i }
