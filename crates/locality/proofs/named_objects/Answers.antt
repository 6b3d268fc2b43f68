use Rattle.locality.proofs.OneKind.{named_kinds}
use Rattle.locality.proofs.named_objects.Goals as goal

pub returns : goal.returns
returns c = named_kinds
