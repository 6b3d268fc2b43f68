use Rattle.file_commands.specs.Sharded.{IsMergeOf}
use Rattle.file_commands.proofs.Leaving.{leaves_as, made_as}
use Rattle.std.proofs.Common.{◌<◌, subst, sym}
use Rattle.file_commands.proofs.Merges.{shows_counted, shows_linearizable, shows_none_miscounted, shows_refuted}
use Rattle.file_commands.proofs.Merges.{shows_whole}
use Rattle.file_commands.proofs.folders.merge_shards.Goals as goal

pub returns : goal.returns
returns g c =
    let holds = g.F.ShardFiles.holds c.args.files.now in
    let counts = c.args.counts.now in
    let count = c.args.shards in
    let left = leaves_as c.write_output.ensures.leaves
    (made_as (IsMergeOf holds counts c.args.steps) c.in_ok-made.made c.in_ok-made.ensures) in
    record {
      linearizable = λ yes whole split.
          shows_linearizable holds counts c.args.steps left count c.requires.some c.requires.one_each whole split yes;
      refuted = λ no whole split.
          shows_refuted holds counts c.args.steps left count c.requires.some c.requires.one_each whole split no;
      whole = shows_whole holds counts c.args.steps left
          (subst (λ n. 0 < n) (sym c.requires.one_each) c.requires.some);
      counted = shows_counted holds counts c.args.steps left;
      none_miscounted = shows_none_miscounted holds counts c.args.steps left;
      leaves = left;
      nothing_written = tt;
    }
