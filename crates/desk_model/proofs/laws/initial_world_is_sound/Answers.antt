use Rattle.desk_model.proofs.Initial.{sound_initial}
use Rattle.desk_model.proofs.laws.initial_world_is_sound.Goals as goal

pub returns : goal.returns
returns g = sound_initial
