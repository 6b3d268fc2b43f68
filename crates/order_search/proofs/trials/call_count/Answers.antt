use Rattle.std.proofs.Common.{◌≡◌, ◌∙◌, rules, count_by}
use Rattle.order_search.proofs.Calls.{happens, count-calls}
use Rattle.order_search.proofs.trials.call_count.Goals as goal

pub returns : goal.returns
returns c =
    let n : c.count.result ≡ count_by happens c.args.operations.now = search rules in
    n ∙ count-calls c.args.operations.now
