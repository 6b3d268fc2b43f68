use Rattle.transcript.proofs.Accepting.{are_valid}
use Rattle.transcript.proofs.laws.sound_record_is_accepted.Goals as goal

pub returns : goal.returns
returns c kinds quota journals logs s es cs are h = are_valid kinds quota journals logs s es are cs h
