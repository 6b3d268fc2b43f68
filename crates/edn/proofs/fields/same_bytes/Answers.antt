use Rattle.std.proofs.Common.{◌∙◌}
use Rattle.edn.proofs.Finding.{same_bytes_is}
use Rattle.edn.proofs.fields.same_bytes.Goals as goal

pub returns : goal.returns
returns c = c.eq.ensures ∙ same_bytes_is c.args.left.now c.args.right.now
