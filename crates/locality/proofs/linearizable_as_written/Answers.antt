use Rattle.model.specs.Objects.{specification}
use Rattle.locality.proofs.AsWritten.{is_linearizable_as_written}
use Rattle.locality.proofs.linearizable_as_written.Goals as goal

pub returns : goal.returns
returns c = λ kinds. is_linearizable_as_written (λ x. specification (kinds x))
