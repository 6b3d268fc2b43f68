use Rattle.events.specs.Events.{kind_of_object, denoted}
use Rattle.verifying.specs.Decisions.{certificates_decided}
use Rattle.text_check.proofs.Naming.{orders}
use Rattle.history_commands.proofs.Verified.{on_valid}
use Rattle.history_commands.proofs.verification.verdict_of.Goals as goal

pub returns : goal.returns
returns c claims limit decided =
    let es = c.args.history.now in
    let answers = c.args.answers.now in
    let valid = c.requires.valid in
    let linearizable = c.named_objects.ensures (kind_of_object es) (denoted es) c.events.ensures.history
    (orders es (certificates_decided answers) valid) in
    on_valid es claims limit answers decided c.requires.all valid linearizable c.verdict_on_check.result
    c.verdict_on_check.ensures
