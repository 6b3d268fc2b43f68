use Rattle.std.proofs.Common.{◌≡◌, ◌+◌, ◌/◌, ◌%◌, ◌<◌, ◌∙◌, length, set, subst, arith, OnOk}
use Rattle.std.proofs.lemmas.Nat.{mod_below}
use Rattle.shards.specs.Dividing.{most_names, shard_among}
use Rattle.shards.specs.Taking.{AddsLine}
use Rattle.shards.proofs.OnOk.{of_three}
use Rattle.shards.proofs.WaitingLines.{adds_line}
use Rattle.shards.proofs.divider.Divider.put_text.Goals as goal

pub returns-clause-adds : goal.returns-clause-adds
returns-clause-adds c =
    let d = c.args.self.now in
    let x = c.args.object in
    let at : c.from.result ≡ shard_among d.shards x = c.from.ensures ∙ c.shard_of-shard.ensures in
    let below : shard_among d.shards x < d.shards = mod_below (x / most_names + x % most_names) d.shards d.some in
    let within : c.from.result < length d.waiting.items = omega (arith, at, below, d.each, d.waiting.ok.0) in
    subst
    (λ k. OnOk c.add.result (AddsLine k c.args.text.now c.args.place d.waiting.items
    (set d.waiting.items c.from.result c.add.new.self))) at
    (of_three c.add.result
    (λ maps places count. adds_line d.waiting.items c.from.result c.index_mut.result.now c.add.new.self c.args.text.now
    c.args.place within c.index_mut.ensures.value maps places count)
    c.add.ensures.maps c.add.ensures.places c.add.ensures.count)
