use Rattle.order_search.proofs.Stack.{walk_linked}
use Rattle.order_search.proofs.Steps.{dead_pair}
use Rattle.order_search.proofs.walk.State.pair_here.Goals as goal

pub below-requires : goal.below-requires
below-requires c = (_, _, walk_linked c.requires.search.walk)

pub returns : goal.returns
returns c = rw c.in_ok-of.ensures (dead_pair c.requires.search.walk c.requires.dead_here c.in_ok-below.ensures)
