-- The operations that did not fail are a part with the same calls (`alone_calls`): by induction, since a failed
-- operation is no call.
use Rattle.std.proofs.Common.{arith, ◌≡◌, Bool, not, cond, List, [], ◌∷◌, Some, filter, refl, subst}
use Rattle.std.specs.List.{cons_option}
use Rattle.model.specs.Orders.{HasNoValidOrder}
use Rattle.events.specs.declared.operations.End.{End}
use Rattle.events.specs.declared.operations.End.TheVariants.{Failed}
use Rattle.events.specs.declared.operations.Operation.{Operation}
use Rattle.events.specs.Operations.{call_with, calls_of, ObjectCalls, IsObjectHistory}
use Rattle.cuts.specs.Cuts.{IsPart, NoneFailed}
use Rattle.cuts.specs.CutOperations.{has_failed}
use Rattle.cuts.proofs.Kept.{own, own_is, as_filter}
use Rattle.cuts.proofs.CutOperations.{cut_history, cut_lives, did_not_fail}

abbrev lives : Operation → Bool
lives o = not (has_failed o.«end»)

operation_lives : (o p : Operation) → own lives o ≡ Some p → p.«end» ≡ Failed → ⊥
operation_lives o p e = grind (arith, did_not_fail)

pub alone_history : (h : ObjectCalls) → IsObjectHistory h
    → IsObjectHistory (record { object = h.object; kind = h.kind; ops = filter (λ o. not (has_failed o.«end»)) h.ops })
alone_history h is = subst
    (λ (ops : List Operation). IsObjectHistory (record { object = h.object; kind = h.kind; ops = ops }))
    (as_filter lives h.ops) (cut_history h.object h.kind h.ops (own lives) (λ o p i e. own_is lives o p e) is)

pub alone_calls : (ops : List Operation) → calls_of (filter (λ o. not (has_failed o.«end»)) ops) ≡ calls_of ops
alone_calls [] = refl
alone_calls (o ∷ ops) = go o.«end» (alone_calls ops)
  where
    go : (e : End) → calls_of (filter lives ops) ≡ calls_of ops
        → calls_of (cond (not (has_failed e)) (record { number = o.number; op = o.op; «end» = e } ∷ filter lives ops)
        (filter lives ops)) ≡ cons_option (call_with o.number o.op e) (calls_of ops)
    go e h = grind arith

pub alone_shows : (h : ObjectCalls)
    → IsPart h (record { object = h.object; kind = h.kind; ops = filter (λ o. not (has_failed o.«end»)) h.ops })
alone_shows h = record {
  object = refl;
  none_failed = subst NoneFailed (as_filter lives h.ops) (cut_lives (own lives) h.ops operation_lives);
  shows = λ none. subst (HasNoValidOrder h.kind) (alone_calls h.ops) none;
}
