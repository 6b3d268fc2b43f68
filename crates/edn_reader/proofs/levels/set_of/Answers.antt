use Rattle.std.proofs.Common.{◌<◌, length, arith}
use Rattle.edn_reader.proofs.Known.{names_with, views_more}
use Rattle.edn_reader.proofs.levels.set_of.Goals as goal

pub loop-name-preserved : goal.loop-name-preserved
loop-name-preserved c =
    let lt : c.loop-name.name-index < length c.args.names.now = omega arith in
    names_with c.loop-name.set c.insert.new.self _ _ _ c.in_ok-insert.ensures.updates c.loop-name.invariant
    (views_more c.args.names.now c.loop-name.name-index _ lt)
