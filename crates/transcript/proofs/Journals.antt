-- The lines of a journal, one event after the other.
use Rattle.std.proofs.Common.{◌≡◌, ℕ, ◌+◌, ◌<◌, List, ◌∷◌, ◌++◌, length, drop, map, get_or, ap, sym, ◌∙◌, append_assoc}
use Rattle.std.proofs.lemmas.List.{drop_more}
use Rattle.desk_model.specs.World.{AnyEvent}
use Rattle.transcript.specs.declared.line.Line.{Line}
use Rattle.transcript.specs.Lines.{journal_lines, lines_in}

-- the next journal
pub journal_more : {J : Type 0} (f : J → List AnyEvent) (js : List J) (i : ℕ) (j : J) (old new all : List Line)
    → i < length js → j ≡ get_or js i j
    → old ++ lines_in i (map f (drop i js)) ≡ all → new ≡ old ++ journal_lines i (f j)
    → new ++ lines_in (i + 1) (map f (drop (i + 1) js)) ≡ all
journal_more f js i j old new all low is h more =
    ap (λ xs. xs ++ lines_in (i + 1) (map f (drop (i + 1) js))) more
    ∙ (append_assoc old (journal_lines i (f j)) (lines_in (i + 1) (map f (drop (i + 1) js)))
    ∙ (ap (λ xs. old ++ xs)
    (sym (ap (λ xs. lines_in i (map f xs)) (drop_more js i j low ∙ ap (λ x. x ∷ drop (i + 1) js) (sym is)))) ∙ h))
