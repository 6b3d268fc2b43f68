-- Where no line to merge was read, there is none for the verifier: lines on files have other names.
use Rattle.std.proofs.Common.{◌≡◌, ◌∙◌, ◌≢◌, true, false, List, codes, ap, subst, sym}
use Rattle.std.specs.Prelude.{Result, Ok, Err, IsErrAnd}
use Rattle.std.specs.Str.{bytes_eq}
use Rattle.clap.specs.Walk.{Row, Text}
use Rattle.command_line.specs.Lines.{IsFolderLine, IsHistoryLine, IsRead, rows_in}
use Rattle.command_line.specs.declared.lines.FilesLine.TheVariants.{Check, Search, Refute, Verify}
use Rattle.command_line.specs.declared.lines.FolderLine.{FolderLine}
use Rattle.command_line.specs.declared.lines.HistoryLine.{HistoryLine}
use Rattle.command_line.specs.declared.lines.HistoryLine.TheVariants.{OnFiles, OnFolder}
use Rattle.command_line.specs.declared.values.Unfit.{Unfit}
use Rattle.command_line.specs.declared.values.Unfit.TheVariants.{NoMemory}
use Rattle.command_line.proofs.reading.verifier_line.Goals as goal

module _ (name : Text) (rows : List Row) (named : name ≡ codes "merge") where
  is_merge : (t : Text) → name ≡ t → bytes_eq t (codes "merge") ≡ true
  is_merge t e = ap (λ s. bytes_eq s (codes "merge")) (sym e ∙ named)

  no_line : ((l : FolderLine) → IsFolderLine (codes "merge") rows l → ⊥)
      → (l : HistoryLine) → IsHistoryLine name rows l → ⊥
  no_line none (OnFiles (Check l)) h = let no : false ≡ true = is_merge (codes "check") h.0 in cc
  no_line none (OnFiles (Search l)) h = let no : false ≡ true = is_merge (codes "search") h.0 in cc
  no_line none (OnFiles (Refute l)) h = let no : false ≡ true = is_merge (codes "refute") h.0 in cc
  no_line none (OnFiles (Verify l)) h = let no : false ≡ true = is_merge (codes "verify") h.0 in cc
  no_line none (OnFolder l) h = none l (subst (λ n. IsFolderLine n rows l) named h)

  unread : (r : Result HistoryLine Unfit) (u : Unfit) → IsErrAnd r (λ e. e ≡ u)
      → (u ≢ NoMemory → (l : FolderLine) → IsFolderLine (codes "merge") rows l → ⊥)
      → IsRead (IsHistoryLine name rows) r
  unread (Ok l) u is none = absurd is
  unread (Err e) u is none = λ other. no_line (none (λ m. other (is ∙ m)))

pub returns-in_err-merge_of-in-merge : goal.returns-in_err-merge_of-in-merge
returns-in_err-merge_of-in-merge c =
    let err = c.from_residual-in_err-merge_of-in-merge in
    rw c.in-Some.is
    (unread c.in-Some.name.now (rows_in c.in-Some.found.now) c.in-merge.is err.result
    c.in_err-merge_of-in-merge.field-0.0 err.ensures.1 c.in_err-merge_of-in-merge.ensures)
