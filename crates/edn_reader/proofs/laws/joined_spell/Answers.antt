use Rattle.edn_reader.proofs.Joined as laws
use Rattle.edn_reader.proofs.laws.joined_spell.Goals as goal

pub returns : goal.returns
returns c = laws.joined_spell
