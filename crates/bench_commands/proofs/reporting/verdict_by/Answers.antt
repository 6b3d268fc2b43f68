use Rattle.text_check.proofs.Verdicts.{judges_by, yes_unless_memory}
use Rattle.bench_commands.proofs.reporting.verdict_by.Goals as goal

pub returns : goal.returns
returns c =
    let es = c.args.history.now in
    let e = c.check_all-checked.ensures in
    let is = c.verdict_on_check.ensures in
    record {
      judges = judges_by es c.args.certificates.now c.check_all-checked.result c.verdict_on_check.result is e.valid
          e.refused;
      accepts = λ valid. yes_unless_memory es c.check_all-checked.result c.verdict_on_check.result is (e.exact valid);
    }
