-- The text of a line's segments, and what a line begins with.
use Rattle.std.specs.Prelude.{ℕ, Bool, true, false, List, [], ◌∷◌, ◌++◌, codes, decimal}
use Rattle.std.specs.Fmt.{signed_decimal}
use Rattle.seq_objects.specs.declared.value.Value.{Value}
use Rattle.seq_objects.specs.declared.value.Value.TheVariants as value
use Rattle.reason_report.specs.declared.segments.Segment.{Segment}
use Rattle.reason_report.specs.declared.segments.Segment.TheVariants as segment

-- what a line begins with
abbrev pub comment_text : Bool → List ℕ
comment_text true = codes "; "
comment_text false = []

-- an argument or a reply, as a history writes it
abbrev pub value_text : Value → List ℕ
value_text value.Nil = codes "nil"
value_text value.False = codes "false"
value_text value.True = codes "true"
value_text (value.Int z) = signed_decimal z
value_text (value.Pair a b) =
    codes "[" ++ (signed_decimal a ++ (codes " " ++ (signed_decimal b ++ codes "]")))
value_text (value.Triple a b c) =
    codes "["
    ++ (signed_decimal a
    ++ (codes " " ++ (signed_decimal b ++ (codes " " ++ (signed_decimal c ++ codes "]")))))

-- the text of a segment: bytes as they are, a number in decimal, or a value as a history writes it
abbrev pub segment_text : Segment → List ℕ
segment_text (segment.Text bytes) = bytes.now
segment_text (segment.Natural n) = decimal n
segment_text (segment.Value v) = value_text v

-- the segments one after the other
abbrev pub segments_text : List Segment → List ℕ
segments_text [] = []
segments_text (p ∷ ps) = segment_text p ++ segments_text ps
