use Rattle.std.proofs.lemmas.Result.{on_ok_weaker}
use Rattle.history_commands.specs.Merged.{Shard}
use Rattle.history_commands.proofs.merging.Merging.take.Goals as goal

pub returns : goal.returns
returns c =
    let shard : Shard = record {
      number = c.args.shard.number;
      count = c.args.shard.count;
      maps = c.args.shard.maps;
      text = c.args.text.now;
      table = c.args.table.now;
      evidence = c.args.evidence.now;
      limit = c.args.steps;
    } in
    on_ok_weaker c.add.result (λ more shards h. more shards shard h c.in_ok-answer_shard.ensures) c.add.ensures
