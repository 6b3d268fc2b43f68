use Rattle.std.proofs.Common.{◌≡◌, length, arith}
use Rattle.shards.proofs.RenamedTexts.{spells_one}
use Rattle.shards.proofs.renaming.spells_map.Goals as goal

pub returns-in-OfClient : goal.returns-in-OfClient
returns-in-OfClient c = λ q.
    let ms = c.as_slice.result.now in
    let least = c.in-len1.len_at_least in
    let below = c.in-len1.len_below in
    let one : length ms ≡ 1 = omega (arith, least, below) in
    spells_one ms _ c.args.text.now c.in-OfClient.said c.args.map.now
    (rw c.as_slice.ensures.value c.in-Ok.ensures.maps) one c.in-OfClient.is
    (c.are_same.ensures q)
