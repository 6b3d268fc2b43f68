use Rattle.file_commands.specs.Sharded.{IsSplitOutput}
use Rattle.file_commands.proofs.Leaving.{leaves_as, made_is}
use Rattle.file_commands.proofs.Merges.{shows_divided}
use Rattle.file_commands.proofs.folders.split_history.Goals as goal

pub returns : goal.returns
returns g c =
    let left = leaves_as c.write_output-status.ensures.leaves
    (made_is (IsSplitOutput c.args.shards (g.F.Source.remaining c.args.history.now)
    (g.F.Source.remaining c.split_output.new.history) (g.D.Folder.files c.args.folder.now)
    (g.D.Folder.files c.split_output.new.folder) c.in_ok-done.done.counts.items)
    c.in_ok-done.done.output c.in_ok-done.ensures.made) in
    record { divided = shows_divided _ _ _ _ _ _ left; few_shards = tt; leaves = left; nothing_written = tt }
