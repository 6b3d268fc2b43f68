use Rattle.certificate.specs.Denotes.{reading_of}
use Rattle.certificate.proofs.reader.next_usual.Goals as goal

pub returns-then-is_some : goal.returns-then-is_some
returns-then-is_some c = λ d h. (reading_of c.args.certificate, h, cc)
