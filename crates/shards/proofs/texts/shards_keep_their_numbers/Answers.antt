use Rattle.shards.proofs.KeptNumbers.{keeps_numbers}
use Rattle.shards.proofs.texts.shards_keep_their_numbers.Goals as goal

pub returns : goal.returns
returns c = keeps_numbers
