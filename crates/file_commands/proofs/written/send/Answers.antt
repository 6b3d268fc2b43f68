use Rattle.file_commands.proofs.Leaving.{wrote_all, wrote_front}
use Rattle.file_commands.proofs.written.send.Goals as goal

pub returns-in-Ok : goal.returns-in-Ok
returns-in-Ok g c = let e = c.in-Ok.ensures.sent.0 in
    record { leaves = rw c.number.ensures (wrote_all c.args.status c.args.lines.now c.requires.not_failed e.0 e.1) }

pub returns-in-Err : goal.returns-in-Err
returns-in-Err g c = let e = c.in-Err.ensures.sent.1 in
    record { leaves = rw c.number-in-Err.ensures (wrote_front c.args.status c.args.lines.now e.0 e.1) }
