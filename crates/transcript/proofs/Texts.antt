-- The text of a line's form is that of its segments, so the text of all lines is what is written piece by piece
-- (`texts_are`). By computation for each form of a line.
use Rattle.std.proofs.Common.{◌≡◌, ℕ, ◌+◌, ◌<◌, ◌++◌, [], ◌∷◌, List, length, drop, get_or, refl, ap, sym, ◌∙◌}
use Rattle.std.proofs.Common.{append_assoc, codes, decimal}
use Rattle.std.proofs.lemmas.List.{drop_more, append-nil}
use Rattle.edn_reader.specs.Text.{text_of}
use Rattle.std.specs.Fmt.{signed_decimal}
use Rattle.seq_objects.specs.Functions.{name_of}
use Rattle.seq_objects.specs.Values.{function_in}
use Rattle.seq_objects.specs.declared.value.Value.{Value}
use Rattle.seq_objects.specs.declared.value.Value.TheVariants.{Pair, Triple}
use Rattle.transcript.specs.declared.line.Line.{Line}
use Rattle.transcript.specs.Lines.{type_of, value_form, map_value, form_of, history_text}
use Rattle.transcript.specs.Segments.{value_text, object_text, line_text, lines_text}

rest_of_triple : (b c : List ℕ)
    → (codes " " ++ (b ++ (codes " " ++ c))) ++ codes "]" ≡ codes " " ++ (b ++ (codes " " ++ (c ++ codes "]")))
rest_of_triple b c = ap (λ l. codes " " ++ l) (append_assoc b (codes " " ++ c) (codes "]"))

value_is : (v : Value) → text_of (value_form v) ≡ value_text v
value_is (Pair a b) = simp (append_assoc, append-nil)
value_is (Triple a b c) = simp (append_assoc, append-nil) (ap (λ l. codes "[" ++ (signed_decimal a ++ l))
    (rest_of_triple (signed_decimal b) (signed_decimal c)))
value_is v = refl

-- a line's text is that of its segments: the same texts, grouped in pairs of a key and its value
flat : (start process_key process type_key type f_key f value_key value object_key object end feed : List ℕ)
    → (start ++ (((process_key ++ process) ++ ((type_key ++ type) ++ ((f_key ++ f) ++ ((value_key ++ value)
    ++ ((object_key ++ object) ++ []))))) ++ end)) ++ feed
    ≡ ((start ++ process_key) ++ (process ++ (type_key ++ type)))
    ++ ((f_key ++ (f ++ (value_key ++ value))) ++ (object_key ++ (object ++ (end ++ feed))))
flat start process_key process type_key type f_key f value_key value object_key object end feed =
    simp (append_assoc, append-nil)

line_is : (l : Line) → text_of (form_of l) ++ 10 ∷ [] ≡ line_text l
line_is l =
    let value = map_value l.op l.event.action in
    let t = type_of l.event.action in
    let f = name_of (function_in l.op) in
    flat (codes "{") (codes ":process ") (decimal l.event.process) (codes ", :type :") t (codes ", :f :") f
    (codes ", :value ")
    (text_of (value_form value)) (codes ", :object ") (decimal l.event.object) (codes "}") (10 ∷ [])
    ∙ ap (λ v. (codes "{:process " ++ (decimal l.event.process ++ (codes ", :type :" ++ t)))
    ++ ((codes ", :f :" ++ (f ++ (codes ", :value " ++ v))) ++ object_text l.event.object)) (value_is value)

pub texts_are : (ls : List Line) → history_text ls ≡ lines_text ls
texts_are [] = refl
texts_are (l ∷ ls) = sym (append_assoc (text_of (form_of l)) (10 ∷ []) (history_text ls))
    ∙ (ap (λ xs. xs ++ history_text ls) (line_is l) ∙ ap (λ xs. line_text l ++ xs) (texts_are ls))

pub lines_left : (ls : List Line) (i : ℕ) (d : Line) → i < length ls
    → lines_text (drop i ls) ≡ line_text (get_or ls i d) ++ lines_text (drop (i + 1) ls)
lines_left ls i d lt = ap lines_text (drop_more ls i d lt)
