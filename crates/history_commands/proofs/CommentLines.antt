-- The lines of certificates as comments, one after the other.
use Rattle.std.proofs.Common.{◌≡◌, ◌∙◌, ℕ, List, ◌∷◌, ◌++◌, ◌<◌, ◌+◌, length, drop, get_or, refl, ap, sym, codes}
use Rattle.std.proofs.lemmas.List.{drop_more}
use Rattle.certificate.specs.declared.Certificate.{Certificate}
use Rattle.certificate.specs.Lines.{certificate_line}
use Rattle.history_commands.specs.Comments.{comment_lines}

pub comments_left : (cs : List Certificate) (i : ℕ) (c : Certificate) → i < length cs → c ≡ get_or cs i c
    → comment_lines (drop i cs) ≡ (codes "; " ++ certificate_line c) ++ comment_lines (drop (i + 1) cs)
comments_left cs i c lt e =
    let here : drop i cs ≡ c ∷ drop (i + 1) cs = drop_more cs i c lt
    ∙ ap (λ (y : Certificate). y ∷ drop (i + 1) cs) (sym e) in
    rw here refl
