-- `advance`: what is given is what the next form says, or there is none. Of a usual map `usual_map` says that. Of
-- any other form the pieces that are kept say as much as the whole form does (`says_as_much`).
use Rattle.std.proofs.Common.{◌≡◌, ℕ, Bool, List, ap, sym, subst, ◌∙◌}
use Rattle.edn_reader.specs.Left.{text_left, is_truncating, tokens_in}
use Rattle.edn_reader.specs.Token.{tokens_of}
use Rattle.edn_reader.specs.Truncation.{kept_of, truncated}
use Rattle.edn_reader.proofs.FormsInARow.{reads_some, reads_none}
use Rattle.history.specs.declared.client_map.OperationMap.TheVariants.{OfClient}
use Rattle.history.specs.MapReading.{left_in}
use Rattle.history.specs.UsualForms.{ReadsForm}
use Rattle.history.proofs.Truncated.{says_as_much}
use Rattle.history.proofs.map_reader.MapReader.advance.Goals as goal

pub returns-in-Some-clause-reads : goal.returns-in-Some-clause-reads
returns-in-Some-clause-reads c =
    let text = left_in c.args.self.now in
    let said = OfClient c.in-Some.map in
    let at : c.as_bytes.result.now ≡ text = c.as_bytes.ensures.value ∙ c.rest.ensures in
    subst (ReadsForm text said) (sym c.pass.ensures.left)
    (subst (λ (t : List ℕ). ReadsForm t said c.in-Some.rest.now) at c.in-Some.ensures)

pub returns-in-Ok-true-clause-reads : goal.returns-in-Ok-true-clause-reads
returns-in-Ok-true-clause-reads c =
    let old = c.args.self.now.elements in
    let new = c.advance.new.self in
    let e = reads_some (is_truncating old) c.in-Ok-true.field-0 (left_in c.args.self.now) (tokens_in new)
    (text_left new) c.in-Ok-true.field-0-test c.in-Ok-true.ensures.reads in
    record {
      form = e.element;
      front = e.front;
      utf8 = e.utf8;
      says = says_as_much c.said_on.result e.element (c.said_on.ensures (truncated e.element)
          (c.pieces.ensures ∙ e.own ∙ ap (λ (b : Bool). tokens_of
          (kept_of b e.element)) c.args.self.now.truncates));
    }

pub returns-in-Ok-false-clause-reads : goal.returns-in-Ok-false-clause-reads
returns-in-Ok-false-clause-reads c =
    let old = c.args.self.now.elements in
    let new = c.advance.new.self in
    reads_none (is_truncating old) c.in-Ok-false.field-0 (left_in c.args.self.now) (tokens_in new)
    (text_left new) c.in-Ok-false.field-0-test c.in-Ok-false.ensures.reads
