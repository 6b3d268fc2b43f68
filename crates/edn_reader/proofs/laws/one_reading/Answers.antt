use Rattle.edn_reader.proofs.Progress as laws
use Rattle.edn_reader.proofs.laws.one_reading.Goals as goal

pub returns : goal.returns
returns c = laws.one_reading_of
