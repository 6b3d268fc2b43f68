-- Lines written one after the other.
use Rattle.std.proofs.Common.{◌≡◌, ℕ, ◌+◌, ◌<◌, Bool, List, ◌++◌, length, drop, get_or, ap}
use Rattle.std.proofs.lemmas.List.{drop_more}
use Rattle.report.specs.Lines.{comment_text, kind_line, kind_lines}
use Rattle.report.specs.Segments.{segment_text, segments_text}
use Rattle.report.specs.declared.segments.Segment.{Segment}
use Rattle.report.specs.declared.verdict.KindCount.{KindCount}

pub segments_left : (ps : List Segment) (i : ℕ) (d : Segment) → i < length ps → segments_text (drop i ps)
    ≡ segment_text (get_or ps i d) ++ segments_text (drop (i + 1) ps)
segments_left ps i d lt = ap segments_text (drop_more ps i d lt)

pub kinds_left : (commented : Bool) (ks : List KindCount) (i : ℕ) (d : KindCount) → i < length ks
    → kind_lines commented (drop i ks) ≡ (comment_text commented ++ kind_line
    (get_or ks i d)) ++ kind_lines commented (drop (i + 1) ks)
kinds_left commented ks i d lt = ap (kind_lines commented) (drop_more ks i d lt)
