-- `is_overdrawn`: the answer is whether the history's calls overdraw the count, and then no order is valid. The
-- operations that are counted are as many as the calls that the count names (`decided`, `count_exceeded`).
use Rattle.std.proofs.Common.{List, count_by, ap, ◌∙◌}
use Rattle.events.specs.declared.operations.Operation.{Operation}
use Rattle.model.specs.declared.Kind.{Kind}
use Rattle.cuts.specs.Counts.{most_before}
use Rattle.cuts.specs.CutOperations.{is_set, is_gone}
use Rattle.cuts.proofs.CountedCalls.{decided, count_exceeded}
use Rattle.cuts.proofs.counting.is_overdrawn.Goals as goal

pub returns-clause-counts : goal.returns-clause-counts
returns-clause-counts c =
    let k = c.args.count in
    let set = c.times-set.ensures.set
    ∙ ap (λ (os : List Operation). count_by (λ o. is_set k.counted k.from o.op o.«end») os) c.ops.ensures.ops in
    let taken = c.times-set.ensures.taken
    ∙ ap (λ (os : List Operation). count_by (λ o. is_gone k.counted k.from o.number o.op o.«end») os)
    c.ops.ensures.ops in
    decided c.args.history.now k c.in-Some.most c.times-set.result.0 c.times-set.result.1 c.saturating_sub.result
    (c.in-Some.ensures ∙ ap (λ (z : Kind). most_before z k.counted k.from) c.kind.ensures) set taken
    c.saturating_sub.ensures

pub returns-clause-shows : goal.returns-clause-shows
returns-clause-shows c =
    let k = c.args.count in
    let set = c.times-set.ensures.set
    ∙ ap (λ (os : List Operation). count_by (λ o. is_set k.counted k.from o.op o.«end») os) c.ops.ensures.ops in
    let taken = c.times-set.ensures.taken
    ∙ ap (λ (os : List Operation). count_by (λ o. is_gone k.counted k.from o.number o.op o.«end») os)
    c.ops.ensures.ops in
    count_exceeded c.args.history.now k c.in-Some.most c.times-set.result.0 c.times-set.result.1 c.saturating_sub.result
    c.ops.ensures.kept
    (c.in-Some.ensures ∙ ap (λ (z : Kind). most_before z k.counted k.from) c.kind.ensures) set taken
    c.saturating_sub.ensures
