-- `read_lines`: the piece has then the forms that the lines spell after its own. The piece is always of its forms
-- and of the forms of the lines up to the place that was reached.
use Rattle.std.proofs.Common.{[], ◌∷◌, ◌++◌, sym, subst, append_assoc}
use Rattle.std.proofs.lemmas.List.{append-nil}
use Rattle.edn_reader.proofs.FormsInARow.{along_more, along_moved, along_spells}
use Rattle.history.specs.MapReading.{left_in, start_of_map}
use Rattle.history.specs.ReadPieces.{IsOfForms}
use Rattle.history.proofs.PieceMore.{along_start}
use Rattle.history.proofs.piece.ReadPiece.read_lines.Goals as goal

pub forms-init : goal.forms-init
forms-init c = λ ds h.
    let text = c.in-Ok.ensures.text in
    along_moved (λ es. IsOfForms c.args.self.now (ds ++ es)) c.args.lines.now c.args.lines.now
    (left_in c.in-Ok.maps) 0 (start_of_map c.in-Ok.maps) text.0 text.1
    (along_start (λ es. IsOfForms c.args.self.now (ds ++ es)) c.args.lines.now
    (subst (IsOfForms c.args.self.now) (sym (append-nil ds)) h))

pub forms-preserved : goal.forms-preserved
forms-preserved c = λ ds h.
    let read = rw c.in-Ok-Some.field-0-is at c.in-Ok-Some.ensures.reads in
    along_more (λ es. IsOfForms c.forms.self (ds ++ es)) (λ es. IsOfForms c.take.new.self (ds ++ es)) c.args.lines.now
    (left_in c.forms.maps) (left_in c.advance.new.self) (start_of_map c.forms.maps) (start_of_map c.advance.new.self)
    read.form read.front c.in-Ok-Some.ensures.moves
    (λ es p. subst (IsOfForms c.take.new.self) (append_assoc ds es (read.form ∷ []))
    (c.in_ok-take-in-Ok-Some.ensures (ds ++ es) read.form read.says p)) (c.forms.invariant ds h)

pub returns-in-Ok-None : goal.returns-in-Ok-None
returns-in-Ok-None c = λ ds h.
    let a = c.forms.invariant ds h in
    let n = rw c.in-Ok-None.field-0-is at c.in-Ok-None.ensures.reads in (
      a.forms,
      along_spells (λ es. IsOfForms c.forms.self (ds ++ es)) c.args.lines.now (left_in c.forms.maps)
          (start_of_map c.forms.maps) a n,
      a.holds,
    )
