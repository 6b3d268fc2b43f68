use Rattle.history.proofs.TextReading.{faulty_stays}
use Rattle.history.proofs.text_reader.Reading.take.Goals as goal

pub returns-else-is_none : goal.returns-else-is_none
returns-else-is_none c = λ ds d says h. faulty_stays c.args.self.now ds d c.if-is_none.ensures h
