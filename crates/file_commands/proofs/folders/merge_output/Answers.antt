use Rattle.std.proofs.Common.{◌≡◌, ◌∙◌, List, length, subst, sym}
use Rattle.std.specs.Prelude.{IfSome}
use Rattle.std.proofs.lemmas.Result.{IfOk-weaker}
use Rattle.history_commands.specs.Merged.{AreMerged, Shard}
use Rattle.file_commands.specs.Sharded.{AreShardsRead}
use Rattle.file_commands.proofs.folders.merge_output.Goals as goal

pub returns-in-Some : goal.returns-in-Some
returns-in-Some g c =
    let all = subst (λ made. IfSome made (λ m. (all : List Shard) × (length all ≡ c.args.shards)
    × AreShardsRead (g.F.ShardFiles.holds c.args.files.now) c.args.counts.now c.args.steps all × AreMerged m all))
    c.in-Some.is c.in_ok-merging.ensures in
    IfOk-weaker c.output.result _ _ (λ o k. (all.0, all.1 ∙ sym c.requires.one_each, all.2, k))
    (c.output.ensures all.0 all.3)
