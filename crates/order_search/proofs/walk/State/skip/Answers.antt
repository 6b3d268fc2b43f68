use Rattle.order_search.proofs.Steps.{skipped}
use Rattle.order_search.proofs.walk.State.skip.Goals as goal

pub returns-clause-search : goal.returns-clause-search
returns-clause-search c = record {
  walk = skipped c.requires.trials c.requires.search.walk c.requires.small c.requires.late;
  dead = c.requires.search.dead;
}
