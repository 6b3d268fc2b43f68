use Rattle.std.proofs.Common.{All, ap, ◌∙◌, subst}
use Rattle.edn_reader.specs.Text.{InProfile}
use Rattle.transcript.specs.declared.line.Line.{Line}
use Rattle.transcript.specs.Lines.{form_of, history_text}
use Rattle.transcript.proofs.accounts.account_of.Goals as goal

pub returns-clause-text : goal.returns-clause-text
returns-clause-text g c =
    let ls = c.in_ok-lines.lines.items in
    let profile : All (λ (l : Line). InProfile (form_of l)) ls =
    subst (All (λ (l : Line). InProfile (form_of l))) c.deref.ensures.value c.in_ok-text.ensures.in_profile in
    record {
      lines = ls;
      are_lines = c.in_ok-lines.ensures.lines;
      text_is = c.in_ok-text.ensures.text ∙ ap history_text c.deref.ensures.value;
      in_profile = profile;
    }
