use Rattle.locality.proofs.OneKind.{valid_alone_iff_among_all}
use Rattle.locality.proofs.one_kind_among_all.Goals as goal

pub returns : goal.returns
returns c = valid_alone_iff_among_all
