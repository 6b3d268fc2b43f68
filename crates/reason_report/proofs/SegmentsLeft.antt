-- Segments and lines, one after the other.
use Rattle.std.proofs.Common.{◌≡◌, ◌∙◌, ℕ, ◌+◌, ◌<◌, Bool, List, ◌++◌, length, drop, get_or, ap, sym, append_assoc}
use Rattle.std.proofs.lemmas.List.{drop_more}
use Rattle.events.specs.declared.event.Event.{Event}
use Rattle.events.specs.declared.operations.Operation.{Operation}
use Rattle.reason_report.specs.Operations.{operation_line, operations_text}
use Rattle.reason_report.specs.Segments.{comment_text, segment_text, segments_text}
use Rattle.reason_report.specs.declared.segments.Segment.{Segment}

pub segments_left : (ps : List Segment) (i : ℕ) (d : Segment) → i < length ps
    → segments_text (drop i ps) ≡ segment_text (get_or ps i d) ++ segments_text (drop (i + 1) ps)
segments_left ps i d lt = ap segments_text (drop_more ps i d lt)

pub operations_left : (commented : Bool) (es : List Event) (ops : List Operation) (i : ℕ) (d : Operation)
    → i < length ops
    → operations_text commented es (drop i ops)
    ≡ (comment_text commented ++ operation_line es (get_or ops i d))
    ++ operations_text commented es (drop (i + 1) ops)
operations_left commented es ops i d lt = ap (operations_text commented es) (drop_more ops i d lt)

-- a segment is pushed: what was sent and what is left are the same text as before
pub segment_pushed : (old new segment rest left all : List ℕ) → new ≡ old ++ segment → left ≡ segment ++ rest
    → old ++ left ≡ all
    → new ++ rest ≡ all
segment_pushed old new segment rest left all is parts done =
    ap (λ x. x ++ rest) is ∙ (append_assoc old segment rest ∙ (ap (λ x. old ++ x) (sym parts) ∙ done))

-- of two texts that were pushed one after the other, both are at the end
pub two_pushed : (old first second new last : List ℕ) → new ≡ old ++ first → last ≡ new ++ second
    → last ≡ old ++ (first ++ second)
two_pushed old first second new last p q = q ∙ (ap (λ x. x ++ second) p ∙ append_assoc old first second)
