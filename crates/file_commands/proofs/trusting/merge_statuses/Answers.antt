use Rattle.file_commands.specs.Trusted.{IsTrustedOf}
use Rattle.file_commands.proofs.TrustedShards.{trusted_no, trusted_yes}
use Rattle.file_commands.proofs.Leaving.{leaves_as, made_as}
use Rattle.file_commands.proofs.trusting.merge_statuses.Goals as goal

pub returns : goal.returns
returns g c =
    let holds = g.F.StatusFiles.holds c.args.files.now in
    let count = c.args.shards in
    let left = leaves_as c.write_output.ensures.leaves
    (made_as (IsTrustedOf holds count) c.in_ok-made.made c.in_ok-made.ensures) in
    record {
      linearizable = λ e whole divided are right.
          trusted_yes holds count c.requires.some whole divided are left e right;
      refuted = λ e whole divided are right.
          trusted_no holds count c.requires.some whole divided are left e right;
      leaves = left;
      nothing_written = tt;
    }
