-- One call more, drawn from a stream of numbers: after it the calls so far and those that the stream still gives are
-- the same list as before (`drawn_more`). By one step of the definition of the workload.
use Rattle.std.proofs.Common.{◌≡◌, ℕ, suc, ◌<◌, List, [], ◌∷◌, ◌++◌, length, append_assoc, ap, sym, ◌∙◌, arith}
use Rattle.std.proofs.lemmas.List.FromFn.{length-map-range_with_len, get_or-map-range_with_len}
use Rattle.rand_core.specs.Stream.{Stream}
use Rattle.model.specs.declared.Kind.TheVariants.{Queue}
use Rattle.model.specs.declared.AnyOp.{AnyOp}
use Rattle.model.specs.Objects.{kind_of}
use Rattle.seq_objects.specs.declared.kinds.Kinds.{Kinds}
use Rattle.clients.specs.declared.call_numbers.Draws.{Draws}
use Rattle.clients.specs.Workloads.{WorkCall, IsCall}
use Rattle.seq_objects.specs.Kinds.{kind_in, kinds_of}
use Rattle.clients.specs.Drawing.{draws_from, op_for, drawn_calls, pairs_from}

-- one call is drawn: the calls so far and those that the stream still gives are as before
pub drawn_more : (kinds : Kinds) (objects calls left : ℕ) (stream rest : Stream) (draws : Draws) (op : AnyOp)
    (so_far all : List WorkCall)
    → calls ≡ suc left → (draws, rest) ≡ draws_from objects stream → op ≡ op_for (kind_in kinds draws.object) draws
    → so_far ++ drawn_calls kinds objects calls stream ≡ all
    → (so_far ++ (draws.object, op) ∷ []) ++ drawn_calls kinds objects left rest ≡ all
drawn_more kinds objects calls left stream rest draws op so_far all one_less e op_is is =
    append_assoc so_far ((draws.object, op) ∷ []) (drawn_calls kinds objects left rest)
    ∙ ap (λ (o : AnyOp). so_far ++ (draws.object, o) ∷ drawn_calls kinds objects left rest) op_is
    ∙ ap (λ (p : Draws × Stream). so_far ++ (p.0.object, op_for (kind_in kinds p.0.object) p.0)
    ∷ drawn_calls kinds objects left p.1) e
    ∙ ap (λ (k : ℕ). so_far ++ drawn_calls kinds objects k stream) (sym one_less) ∙ is

-- two calls on one object are drawn: the calls so far and those that the stream still gives are as before
pub pair_more : (take free : AnyOp) (objects pairs left : ℕ) (stream between rest : Stream) (draws others : Draws)
    (so_far all : List WorkCall)
    → pairs ≡ suc left → (draws, between) ≡ draws_from objects stream → (others, rest) ≡ draws_from objects between
    → so_far ++ pairs_from take free objects pairs stream ≡ all
    → ((so_far ++ (draws.object, take) ∷ []) ++ (draws.object, free) ∷ []) ++ pairs_from take free objects left rest
    ≡ all
pair_more take free objects pairs left stream between rest draws others so_far all one_less first second is =
    append_assoc (so_far ++ (draws.object, take) ∷ []) ((draws.object, free) ∷ [])
    (pairs_from take free objects left rest)
    ∙ append_assoc so_far ((draws.object, take) ∷ []) ((draws.object, free) ∷ pairs_from take free objects left rest)
    ∙ ap (λ (p : Draws × Stream). so_far ++ (draws.object, take) ∷ (draws.object, free)
    ∷ pairs_from take free objects left p.1)
    second
    ∙ ap (λ (p : Draws × Stream). so_far ++ (p.0.object, take) ∷ (p.0.object, free)
    ∷ pairs_from take free objects left (draws_from objects p.1).1)
    first
    ∙ ap (λ (k : ℕ). so_far ++ pairs_from take free objects k stream) (sym one_less) ∙ is

-- a call on one of the objects, of its kind
pub is_call : (kinds : Kinds) (m x : ℕ) (op : AnyOp) → x < m → kind_of op ≡ kind_in kinds x
    → IsCall (kinds_of kinds m) (x, op)
is_call kinds m x op inside is =
    let long : length (kinds_of kinds m) ≡ m = length-map-range_with_len (kind_in kinds) 0 m in
    (omega arith, is ∙ sym (get_or-map-range_with_len (kind_in kinds) 0 m x x Queue inside (omega arith)))
