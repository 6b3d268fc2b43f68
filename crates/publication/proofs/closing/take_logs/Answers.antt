-- `take_logs`: the logs are those of the objects, one by one. The loop keeps that the logs so far are those of the
-- objects below `x`, that the slots below it were taken out, and that the values are as they were.
use Rattle.std.proofs.Common.{rules, arith, ◌≡◌, sym, subst, ◌∙◌}
use Rattle.recorder.specs.Records.{items_of_each}
use Rattle.publication.specs.Closing.{values_of, HasCore, IsLogOf, AreLogs}
use Rattle.publication.proofs.Gathering.{items_of_each-push, length-push, rows_more}
use Rattle.publication.proofs.closing.take_logs.Goals as goal

pub take_log-requires-clause-core : goal.take_log-requires-clause-core
take_log-requires-clause-core g c lfts within =
    let so_far = c.loop-x.invariant in
    subst (λ xs. HasCore xs c.loop-x.x) (sym so_far.1) (c.requires.cores c.loop-x.x c.loop-x-test.true)

pub loop-x-preserved : goal.loop-x-preserved
loop-x-preserved g c =
    let so_far = c.loop-x.invariant in
    let pushed = c.push_reserved.ensures in
    let n = pushed.len in
    let count = so_far.2 in
    let grown = items_of_each-push c.loop-x.logs.items c.push_reserved.new.self.items c.take_log.result pushed.items in
    let log = subst (λ xs. IsLogOf xs c.loop-x.x c.take_log.result.items) so_far.1 c.take_log.ensures.log in (
      c.take_log.ensures.slots.0,
      c.take_log.ensures.slots.1 ∙ so_far.1,
      omega arith,
      search rules,
      (
        length-push (items_of_each c.loop-x.logs.items)
            (items_of_each c.push_reserved.new.self.items) c.take_log.result.items c.loop-x.x grown so_far.4.0,
        λ k h. rows_more (IsLogOf (values_of c.args.left.now)) 0 c.loop-x.x (items_of_each c.loop-x.logs.items)
            (items_of_each c.push_reserved.new.self.items)
            c.take_log.result.items grown so_far.4.0 (λ k l h. so_far.4.1 k h) log k (omega arith) h,
      ),
    )

pub returns-clause-logs : goal.returns-clause-logs
returns-clause-logs g c =
    let so_far = c.loop-x.invariant in
    let past = c.loop-x-test.false in
    let end = c.loop-x.auto.x-end in
    let same : c.loop-x.x ≡ c.args.objects = omega arith in
    subst (λ n. AreLogs n (values_of c.args.left.now) (items_of_each c.loop-x.logs.items)) same so_far.4
