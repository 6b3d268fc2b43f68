use Rattle.std.proofs.Common.{ap}
use Rattle.events.specs.Operations.{return_of}
use Rattle.checker.proofs.walk.late_by.Goals as goal

pub returns-in-Returned-Some : goal.returns-in-Returned-Some
returns-in-Returned-Some c =
    let s = c.in-Returned-Some in
    (s.is-1, (record { at = s.at; reply = s.reply-0 }, ap return_of s.is-0, c.if-at-by.true))
