use Rattle.desk_model.proofs.RecordOrders.{sound_record}
use Rattle.desk_model.proofs.laws.record_is_sound.Goals as goal

pub returns : goal.returns
returns g = sound_record
