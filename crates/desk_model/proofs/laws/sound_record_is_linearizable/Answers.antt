use Rattle.locality.proofs.OneKind.{locality_of_kinds}
use Rattle.desk_model.specs.Records.{order_of}
use Rattle.desk_model.specs.World.{kind_at}
use Rattle.desk_model.proofs.laws.sound_record_is_linearizable.Goals as goal

pub returns : goal.returns
returns g kinds quota journals logs r =
    locality_of_kinds (kind_at kinds) r.history r.well_formed (λ x. (order_of (logs x), r.valid x))
