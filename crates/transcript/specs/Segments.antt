-- The text of a line in the segments in which it is written.
use Rattle.std.specs.Prelude.{ℕ, List, [], ◌∷◌, ◌++◌, codes, decimal}
use Rattle.std.specs.Fmt.{signed_decimal}
use Rattle.seq_objects.specs.Functions.{name_of}
use Rattle.seq_objects.specs.Values.{function_in}
use Rattle.seq_objects.specs.declared.value.Value.{Value}
use Rattle.seq_objects.specs.declared.value.Value.TheVariants.{Nil, False, True, Int, Pair, Triple}
use Rattle.transcript.specs.declared.line.Line.{Line}
use Rattle.transcript.specs.Lines.{type_of, map_value}

-- the text of an argument or a reply
abbrev pub value_text : Value → List ℕ
value_text Nil = codes "nil"
value_text False = codes "false"
value_text True = codes "true"
value_text (Int z) = signed_decimal z
value_text (Pair a b) =
    codes "[" ++ (signed_decimal a ++ (codes " " ++ (signed_decimal b ++ codes "]")))
value_text (Triple a b c) =
    codes "["
    ++ (signed_decimal a
    ++ (codes " " ++ (signed_decimal b ++ (codes " " ++ (signed_decimal c ++ codes "]")))))

-- the front of a line, such as `{:process 0, :type :invoke`
abbrev pub process_text : Line → List ℕ
process_text l =
    codes "{:process " ++ (decimal l.event.process ++ (codes ", :type :" ++ type_of l.event.action))

-- the middle of a line, such as `, :f :enqueue, :value 1`
abbrev pub operation_text : Line → List ℕ
operation_text l =
    codes ", :f :"
    ++ (name_of (function_in l.op)
    ++ (codes ", :value " ++ value_text (map_value l.op l.event.action)))

-- the end of a line, such as `, :object 0}`, and a line feed
abbrev pub object_text : ℕ → List ℕ
object_text x = codes ", :object " ++ (decimal x ++ codes "}\n")

-- the text of a line, with its line feed
abbrev pub line_text : Line → List ℕ
line_text l = process_text l ++ (operation_text l ++ object_text l.event.object)

-- the text of the lines, each with its line feed
abbrev pub lines_text : List Line → List ℕ
lines_text [] = []
lines_text (l ∷ ls) = line_text l ++ lines_text ls
