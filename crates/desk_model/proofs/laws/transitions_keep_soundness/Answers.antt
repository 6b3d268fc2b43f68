use Rattle.desk_model.proofs.Transitions.{transition_keeps_soundness}
use Rattle.desk_model.proofs.laws.transitions_keep_soundness.Goals as goal

pub returns : goal.returns
returns g = transition_keeps_soundness
