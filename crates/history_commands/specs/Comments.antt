-- The text of certificates as comments.
use Rattle.std.specs.Prelude.{ℕ, List, [], ◌∷◌, ◌++◌, codes}
use Rattle.certificate.specs.declared.Certificate.{Certificate}
use Rattle.certificate.specs.Lines.{certificate_line}

-- the lines of certificates, each as a comment
abbrev pub comment_lines : List Certificate → List ℕ
comment_lines [] = []
comment_lines (c ∷ cs) = (codes "; " ++ certificate_line c) ++ comment_lines cs
