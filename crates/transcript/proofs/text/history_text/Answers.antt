use Rattle.std.proofs.Common.{◌≡◌, rules, sym, ◌∙◌}
use Rattle.transcript.specs.Segments.{lines_text}
use Rattle.transcript.proofs.Texts.{texts_are}
use Rattle.transcript.proofs.text.history_text.Goals as goal

pub returns-in-Ok-clause-text : goal.returns-in-Ok-clause-text
returns-in-Ok-clause-text c =
    let written : c.into_inner.result.items ≡ lines_text c.args.lines.now = search rules in
    written ∙ sym (texts_are c.args.lines.now)
