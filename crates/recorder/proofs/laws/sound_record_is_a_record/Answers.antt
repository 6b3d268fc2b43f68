use Rattle.recorder.proofs.Making.{is_record}
use Rattle.recorder.proofs.laws.sound_record_is_a_record.Goals as goal

pub returns : goal.returns
returns c kinds quota journals logs s low = is_record kinds quota journals logs s low
