use Rattle.text_check.specs.Verdicts.{IsJudgement}
use Rattle.text_check.proofs.decision.judge.Given.{Over}
use Rattle.text_check.proofs.decision.judge.Goals as goal
use Rattle.text_check.proofs.decision.judge.Goals.{After-check_read}

holds : (g : Over) (c : After-check_read g) → IsJudgement c.args.history.now c.args.certificates.now c.check_read.result
holds g c = c.check_read.ensures c.args.history.now c.history_of_text_by_workers-read.ensures

pub returns-clause-linearizable : goal.returns-clause-linearizable
returns-clause-linearizable g c = (holds g c).linearizable

pub returns-clause-holds : goal.returns-clause-holds
returns-clause-holds g c = holds g c
