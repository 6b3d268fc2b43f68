-- `take_journals`: each client of the range has its journal in its place, and the ones before are the same. The
-- invariant says so of the clients up to the one at hand; each turn takes one slot and adds one row.
use Rattle.std.proofs.Common.{rules, arith, ◌≡◌, sym, subst, ◌∙◌}
use Rattle.recorder.specs.Records.{items_of_each}
use Rattle.publication.specs.Closing.{values_of, HasJournal, IsJournalOf, AreJournals}
use Rattle.publication.proofs.Gathering.{items_of_each-push, length-push, rows_more, IsSameBelow-push}
use Rattle.publication.proofs.closing.take_journals.Goals as goal

pub take_journal-requires-clause-journal : goal.take_journal-requires-clause-journal
take_journal-requires-clause-journal g c lfts within = let so_far = c.loop-client.invariant in
    subst (λ xs. HasJournal xs c.loop-client.client) (sym so_far.1)
    (c.requires.present c.loop-client.client c.loop-client.auto.client c.loop-client-test.true)

pub loop-client-preserved : goal.loop-client-preserved
loop-client-preserved g c =
    let so_far = c.loop-client.invariant in
    let pushed = c.push_reserved.ensures in
    let n = pushed.len in
    let count = so_far.2 in
    let taken = c.take_journal.ensures.slots.0 in
    let near = c.loop-client.auto.client in
    let long = so_far.4.0 in
    let grown = items_of_each-push c.loop-client.journals.items c.push_reserved.new.self.items c.take_journal.result
    pushed.items in
    let journal = subst (λ xs. IsJournalOf xs c.loop-client.client c.take_journal.result.items) so_far.1
    c.take_journal.ensures.journal in (
      (taken.0, (λ k l h. taken.1 k (omega arith) h), λ k h. taken.2 k (omega arith)),
      c.take_journal.ensures.slots.1 ∙ so_far.1,
      omega arith,
      search rules,
      (
        length-push (items_of_each c.loop-client.journals.items)
            (items_of_each c.push_reserved.new.self.items) c.take_journal.result.items c.loop-client.client grown
            so_far.4.0,
        rows_more (IsJournalOf (values_of c.args.left.now)) c.args.from c.loop-client.client
            (items_of_each c.loop-client.journals.items)
            (items_of_each c.push_reserved.new.self.items) c.take_journal.result.items grown so_far.4.0 so_far.4.1
            journal,
      ),
      IsSameBelow-push c.args.from (items_of_each c.args.journals.now.items)
          (items_of_each c.loop-client.journals.items)
          (items_of_each c.push_reserved.new.self.items) c.take_journal.result.items grown (omega arith) so_far.5,
    )

pub returns-clause-journals : goal.returns-clause-journals
returns-clause-journals g c =
    let so_far = c.loop-client.invariant in
    let past = c.loop-client-test.false in
    let end = c.loop-client.auto.client-end c.requires.slots.1 in
    let same : c.loop-client.client ≡ c.args.to = omega arith in (
      subst (λ n. AreJournals c.args.from n (values_of c.args.left.now) (items_of_each c.loop-client.journals.items))
          same
          so_far.4,
      so_far.5,
    )
