-- `pass`: the walk goes on to the next place that is linked, which is later. The place that it leaves is dead, so
-- the search is still complete (`passed`).
use Rattle.std.proofs.Common.{◌+◌, ◌∙◌, arith}
use Rattle.std.proofs.lemmas.List.{get_or_default}
use Rattle.order_search.proofs.Stack.{passed}
use Rattle.order_search.proofs.Steps.{pass_rises}
use Rattle.order_search.proofs.walk.State.pass.Goals as goal

pub index-requires : goal.index-requires
index-requires c = let r = (pass_rises c.requires.search.walk c.requires.at).1 in omega arith

pub returns-clause-search : goal.returns-clause-search
returns-clause-search c =
    let a = c.args.self.now in
    let w = c.requires.search.walk in
    record {
      walk = passed w c.requires.at c.requires.dead_at
          (c.index.ensures ∙ get_or_default a.not_done.next.items (a.at + 1) _ 0 (pass_rises w c.requires.at).1);
      dead = c.requires.search.dead;
    }

pub returns-clause-rises : goal.returns-clause-rises
returns-clause-rises c =
    let a = c.args.self.now in
    let r = pass_rises c.requires.search.walk c.requires.at in
    let t = c.index.ensures ∙ get_or_default a.not_done.next.items (a.at + 1) _ 0 r.1 in
    let u = r.0 in
    omega arith
