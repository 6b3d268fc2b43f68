use Rattle.edn_reader.proofs.Joined as laws
use Rattle.edn_reader.proofs.laws.lines_spell.Goals as goal

pub returns : goal.returns
returns c = laws.lines_spell_them
