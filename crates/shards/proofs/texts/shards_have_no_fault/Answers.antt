use Rattle.shards.proofs.FewerForms.{faultless_on}
use Rattle.shards.proofs.texts.shards_have_no_fault.Goals as goal

pub returns : goal.returns
returns c = faultless_on
