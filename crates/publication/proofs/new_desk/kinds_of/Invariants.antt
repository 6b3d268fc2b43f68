use Rattle.std.proofs.Common.{◌≡◌, take, length, vec_len, vec_capacity}
use Rattle.publication.specs.Making.{kinds_with}
use Rattle.publication.proofs.new_desk.kinds_of.Given as goal

abbrev pub invariant-loop-object : goal.invariant-loop-object
invariant-loop-object g l =
    (l.kinds.items ≡ kinds_with g.S.SeqObject.content (take l.object-index l.objects))
    × (vec_len l.kinds ≡ l.object-index) × (vec_capacity l.kinds ≡ length l.objects)
