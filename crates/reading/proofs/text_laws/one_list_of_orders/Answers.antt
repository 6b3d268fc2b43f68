use Rattle.reading.proofs.OneMeaning.{one_meaning}
use Rattle.reading.proofs.text_laws.one_list_of_orders.Goals as goal

pub returns : goal.returns
returns c text cs ds h k = one_meaning text k.forms ds cs
    (λ es s. c.one_reading.ensures es k.forms text s k.spelled) k.denoted h
