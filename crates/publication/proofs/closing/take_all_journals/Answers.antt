-- `take_all_journals`: each client has its journal in its place, the last one's own among them. The journals below
-- its number, its own and those above are taken in turn, and each turn keeps the ones before.
use Rattle.std.proofs.Common.{arith, ◌<◌, sym, subst, ◌∙◌}
use mathlib.Core.Logic.{dite}
use native.Mathlib.Decide.{dec_le}
use Rattle.recorder.specs.Records.{items_of_each}
use Rattle.publication.specs.Closing.{values_of, HasJournal, IsJournalOf}
use Rattle.publication.proofs.Gathering.{items_of_each-push, row_here, row_there}
use Rattle.publication.proofs.closing.take_all_journals.Goals as goal

pub take_journals-requires-clause-present : goal.take_journals-requires-clause-present
take_journals-requires-clause-present g c lfts within =
    let low = c.requires.slots.1 in λ d l h. c.requires.present d (omega arith) (λ e. omega arith)

pub take_journals-requires-2-clause-slots : goal.take_journals-requires-2-clause-slots
take_journals-requires-2-clause-slots g c lfts within =
    let dropped = c.drop_slots.ensures.0 in
    let low = c.requires.slots.1 in (
      (dropped.0, (λ k l h. dropped.1 k (omega arith) h), λ k h. dropped.2 k (omega arith)),
      omega arith,
      c.requires.slots.2,
    )

pub take_journals-requires-2-clause-present : goal.take_journals-requires-2-clause-present
take_journals-requires-2-clause-present g c lfts within =
    λ d l h. subst (λ xs. HasJournal xs d) (sym (c.drop_slots.ensures.1 ∙ c.take_journals.ensures.slots.1))
    (c.requires.present d h (λ e. omega arith))

pub returns-clause-own : goal.returns-clause-own
returns-clause-own g c =
    let e = items_of_each-push c.take_journals.new.journals.items c.push_reserved.new.self.items c.args.own
    c.push_reserved.ensures.items in
    c.take_journals-2.ensures.journals.1 c.args.number (omega arith)
    ∙ row_here (items_of_each c.take_journals.new.journals.items)
    (items_of_each c.push_reserved.new.self.items) c.args.own.items c.args.number e c.take_journals.ensures.journals.0.0

pub returns-clause-others : goal.returns-clause-others
returns-clause-others g c = let e =
    items_of_each-push c.take_journals.new.journals.items c.push_reserved.new.self.items c.args.own
    c.push_reserved.ensures.items in let long = c.take_journals.ensures.journals.0.0 in
    λ d l other. dite (dec_le d c.args.number)
    (λ below. let low : d < c.args.number = omega arith in
    subst (IsJournalOf (values_of c.args.left.now) d) (sym (c.take_journals-2.ensures.journals.1 d (omega arith)
    ∙ row_there (items_of_each c.take_journals.new.journals.items)
    (items_of_each c.push_reserved.new.self.items) c.args.own.items d e (omega arith)))
    (c.take_journals.ensures.journals.0.1 d (omega arith) low))
    (λ above. subst (λ xs. IsJournalOf xs d
    (Rattle.std.proofs.Common.get_or (items_of_each c.take_journals-2.new.journals.items) d
    Rattle.std.proofs.Common.[]))
    (c.drop_slots.ensures.1 ∙ c.take_journals.ensures.slots.1)
    (c.take_journals-2.ensures.journals.0.1 d (omega arith) l))
