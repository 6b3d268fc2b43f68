use Rattle.history.proofs.Reading.{next_form_read}
use Rattle.history.proofs.TextReading.{are_read, found}
use Rattle.history.proofs.text_reader.Reading.take_said.Goals as goal

pub returns-in-Ok : goal.returns-in-Ok
returns-in-Ok c = λ ds d says h.
    let a = are_read c.args.self.now ds c.requires h in
    let r = c.in-Ok.ensures.read ds d says a.kept a.count in
    let more = next_form_read c.args.self.now.seen c.read_next.new.seen c.args.self.now.map ds d
    c.args.self.now.events.items r.0 a c.in-Ok.ensures.few
    (c.in-Ok.ensures.small d says) r.1 in
    rw (c.requires, r.2) more

pub returns-in-Err : goal.returns-in-Err
returns-in-Err c = λ ds d says h.
    let a = are_read c.args.self.now ds c.requires h in
    found c.args.self.now.seen c.args.self.now.map ds d c.args.self.now.events.items c.in-Err.kind a
    (λ n. c.in-Err.ensures.fault n ds d says a.kept a.count) (λ m. c.in-Err.ensures.memory m ds d says a.kept a.count)
