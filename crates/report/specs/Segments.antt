-- The text of a line's segments. No public clause speaks of it.
use Rattle.std.specs.Prelude.{ℕ, List, [], ◌∷◌, ◌++◌, decimal}
use Rattle.std.specs.Fmt.{signed_decimal}
use Rattle.report.specs.declared.segments.Segment.{Segment}
use Rattle.report.specs.declared.segments.Segment.TheVariants.{Text, Natural, Integer}

-- the text of a segment: bytes as they are, or a number in decimal
abbrev pub segment_text : Segment → List ℕ
segment_text (Text bytes) = bytes.now
segment_text (Natural n) = decimal n
segment_text (Integer z) = signed_decimal z

-- the text of the segments, one after the other
abbrev pub segments_text : List Segment → List ℕ
segments_text [] = []
segments_text (p ∷ ps) = segment_text p ++ segments_text ps
