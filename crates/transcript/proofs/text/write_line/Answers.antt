use Rattle.std.proofs.lemmas.Result.{on_ok_weaker}
use Rattle.transcript.proofs.Profiles.{form_in_profile}
use Rattle.transcript.proofs.text.write_line.Goals as goal

pub returns-clause-in_profile : goal.returns-clause-in_profile
returns-clause-in_profile g c =
    on_ok_weaker c.write_object.result
    (λ k. form_in_profile c.args.line.now c.requires.low c.write_object.ensures.low
    c.in_ok-write_operation.ensures.in_profile) c.write_object.ensures.usable
