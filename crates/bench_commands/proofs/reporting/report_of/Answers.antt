use Rattle.std.proofs.Common.{rules, subst, sym}
use Rattle.transcript.specs.Accounts.{AreCertificatesOf}
use Rattle.bench_commands.specs.Runs.{journals_of, logs_of}
use Rattle.bench_commands.proofs.Reports.{says_of}
use Rattle.bench_commands.proofs.reporting.report_of.Goals as goal

pub returns : goal.returns
returns c =
    let js = journals_of c.args.recorded.now in
    let ls = logs_of c.args.recorded.now in
    let es = c.in_ok-history.field-0.history in
    let cs = c.deref.result.now in
    let are_events = c.in_ok-history.ensures.history in
    let are_certificates = subst (AreCertificatesOf js ls) (sym c.deref.ensures.value)
    c.in_ok-history.ensures.certificates in
    let e = c.verdict_by-verdict.ensures in
    record {
      text = record {
        history = c.in_ok-history.field-0.text.items;
        certificates = c.in_ok-history.field-0.certificates.items;
        is_history = c.in_ok-history.ensures.text;
        are_certificates = c.in_ok-history.ensures.certificates;
        text_is = search rules;
      };
      says = says_of js ls es cs are_events are_certificates c.verdict_by-verdict.result e.judges;
      accepted = λ kinds quota sound. e.accepts
          (c.sound_record_is_accepted.ensures kinds quota js ls sound es cs are_events are_certificates);
    }
