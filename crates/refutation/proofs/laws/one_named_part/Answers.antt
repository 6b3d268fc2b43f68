use Rattle.std.proofs.Common.{sym, ◌∙◌}
use Rattle.events.specs.Operations.{calls_of}
use Rattle.refutation.proofs.OnePart.{same_part}
use Rattle.refutation.proofs.laws.one_named_part.Goals as goal

pub returns : goal.returns
returns c cuts x whole calls p q rising h k =
    same_part p q (h.object ∙ sym k.object) (h.kind ∙ sym k.kind) h.none_failed k.none_failed
    (c.one_part.ensures cuts calls (calls_of p.ops) (calls_of q.ops) rising h.named k.named)
