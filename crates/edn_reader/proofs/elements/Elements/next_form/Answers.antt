-- `next_form`: all tokens of the element are kept, so the form that is made of them is the element.
use Rattle.std.proofs.Common.{Bool, [], ◌∷◌, sym, ap, subst, ◌∙◌}
use Rattle.std.proofs.lemmas.List.{append-nil}
use Rattle.edn_reader.specs.Datum.{Datum}
use Rattle.edn_reader.specs.Elements.{SpellsFront}
use Rattle.edn_reader.specs.Left.{text_left, start_of, is_truncating, tokens_in}
use Rattle.edn_reader.specs.Token.{tokens_of}
use Rattle.edn_reader.specs.Truncation.{kept_of}
use Rattle.edn_reader.specs.View.{view}
use Rattle.edn_reader.proofs.FormsInARow.{reads_some}
use Rattle.edn_reader.proofs.Prefixes.{same_datum}
use Rattle.edn_reader.proofs.Standing.{element_in, element_sound}
use Rattle.edn_reader.proofs.elements.Elements.next_form.Goals as goal

pub form_at-requires : goal.form_at-requires
form_at-requires c =
    let old = c.args.self.now in
    let new = c.advance.new.self in
    let e = reads_some (is_truncating old) c.in-Ok-true.field-0 (text_left old) (tokens_in new) (text_left new)
    c.in-Ok-true.field-0-test c.in-Ok-true.ensures.reads in
    record {
      form = e.element;
      rest = [];
      in_profile = element_in (text_left old) (text_left new) e.element c.place-place.ensures.utf8 e.front;
      tokens_are = c.pieces.ensures ∙ e.own ∙ ap (λ (b : Bool). tokens_of (kept_of b e.element)) c.requires
          ∙ sym (append-nil (tokens_of e.element));
    }

pub returns-in-Ok-clause-gives : goal.returns-in-Ok-clause-gives
returns-in-Ok-clause-gives c =
    let old = c.args.self.now in
    let new = c.advance.new.self in
    let e = reads_some (is_truncating old) c.in-Ok-true.field-0 (text_left old) (tokens_in new) (text_left new)
    c.in-Ok-true.field-0-test c.in-Ok-true.ensures.reads in
    let f = c.in-Ok.ensures in
    let s = same_datum (view c.in-Ok.form) e.element f.0 [] (sym f.1 ∙ c.pieces.ensures ∙ e.own
    ∙ ap (λ (b : Bool). tokens_of (kept_of b e.element)) c.requires ∙ sym (append-nil (tokens_of e.element))) in
    subst (λ (d : Datum). SpellsFront (text_left old) (d ∷ []) (text_left new)) (sym s.0) e.front

pub returns-in-Err-form_at-clause-memory : goal.returns-in-Err-form_at-clause-memory
returns-in-Err-form_at-clause-memory c =
    let old = c.args.self.now in
    let new = c.advance.new.self in
    let e = reads_some (is_truncating old) c.in-Ok-true.field-0 (text_left old) (tokens_in new) (text_left new)
    c.in-Ok-true.field-0-test c.in-Ok-true.ensures.reads in
    λ _. element_sound (text_left old) (text_left new) e.element (start_of old) c.place-place.result
    c.place-place.ensures.utf8 e.front c.place-place.ensures.place
