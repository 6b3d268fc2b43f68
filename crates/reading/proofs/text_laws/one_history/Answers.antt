use Rattle.reading.proofs.OneMeaning.{one_history}
use Rattle.reading.proofs.text_laws.one_history.Goals as goal

pub returns : goal.returns
returns c text es fs h k = one_history text k.forms fs es
    (λ ds s. c.one_reading.ensures ds k.forms text s k.spelled) k.denoted h
