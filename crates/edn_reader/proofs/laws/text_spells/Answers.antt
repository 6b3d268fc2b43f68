use Rattle.edn_reader.proofs.Joined as laws
use Rattle.edn_reader.proofs.laws.text_spells.Goals as goal

pub returns : goal.returns
returns c = laws.text_spells_it
