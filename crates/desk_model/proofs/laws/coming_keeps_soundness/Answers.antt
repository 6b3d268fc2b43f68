use Rattle.desk_model.proofs.Initial.{sound_coming}
use Rattle.desk_model.proofs.laws.coming_keeps_soundness.Goals as goal

pub returns : goal.returns
returns g = sound_coming
