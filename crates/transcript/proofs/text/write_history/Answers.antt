-- `write_history`: the text of the history is sent, or a front of it if the sink fails. The lines are those of the
-- journals and in the profile, and their text is made in whole before any of it is sent.
use Rattle.std.proofs.Common.{rules, All, subst}
use Rattle.edn.specs.Sent.{WritesPrefix}
use Rattle.edn_reader.specs.Text.{InProfile}
use Rattle.transcript.specs.declared.line.Line.{Line}
use Rattle.transcript.specs.Lines.{form_of}
use Rattle.transcript.proofs.text.write_history.Goals as goal

pub returns-in-Ok-write_bytes-clause-ok : goal.returns-in-Ok-write_bytes-clause-ok
returns-in-Ok-write_bytes-clause-ok g c =
    let ls = c.in-Ok.lines.items in
    let profile : All (λ (l : Line). InProfile (form_of l)) ls =
    subst (All (λ (l : Line). InProfile (form_of l))) c.deref.ensures.value c.in-Ok-history_text.ensures.in_profile in
    record {
      text = c.in-Ok-history_text.text.items;
      of_journals = record {
        lines = ls;
        are_lines = c.in-Ok.ensures.lines;
        text_is = search rules;
        in_profile = profile;
      };
      sent = search rules;
    }

pub returns-clause-front : goal.returns-clause-front
returns-clause-front g c e =
    let ls = c.in-Ok.lines.items in
    let profile : All (λ (l : Line). InProfile (form_of l)) ls =
    subst (All (λ (l : Line). InProfile (form_of l))) c.deref.ensures.value c.in-Ok-history_text.ensures.in_profile in
    let sent : WritesPrefix (g.K.Sink.sent c.args.sink.now)
    (g.K.Sink.sent c.write_bytes.new.sink) c.in-Ok-history_text.text.items = search rules in
    record {
      text = c.in-Ok-history_text.text.items;
      of_journals = record {
        lines = ls;
        are_lines = c.in-Ok.ensures.lines;
        text_is = search rules;
        in_profile = profile;
      };
      sent = sent;
    }
