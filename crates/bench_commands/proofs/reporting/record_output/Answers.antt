use Rattle.std.proofs.lemmas.Result.{IfOk-weaker}
use Rattle.bench_commands.proofs.reporting.record_output.Goals as goal

pub returns : goal.returns
returns c =
    let e = c.in_ok-text.ensures in
    IfOk-weaker c.with_verdict.result _ _ (λ o k. record {
      own = c.in_ok-text.text.items;
      verdict = c.in_ok-text.verdict;
      is_text = e.text;
      says = e.says;
      accepted = e.accepted;
      status_is = k.0;
      text_is = k.1;
    }) c.with_verdict.ensures
