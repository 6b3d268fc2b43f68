-- `gather`: the record is that of the desk, which all others have left. What the last client knows tells that each
-- core and each other journal is there to be taken (`left_by`), and `closed_ok` puts together what was taken.
use Rattle.std.proofs.Common.{rules, arith, ◌≡◌, [], map, length, get_or, vec_len, sym, ap, subst, ◌∙◌}
use Rattle.std.specs.Slots.{slots_items}
use Rattle.desk_model.specs.Images.{event_in}
use Rattle.recorder.specs.Records.{recorded, items_of_each}
use Rattle.recorder.proofs.Making.{record_from}
use Rattle.desk_invariant.specs.Views.{journal}
use Rattle.publication.specs.Closing.{values_of, HasJournal, IsJournalOf, AreLogs}
use Rattle.publication.proofs.Leavings.{Leavings, left_by, closed_ok}
use Rattle.publication.proofs.closing.gather.Goals as goal
use Rattle.publication.proofs.closing.gather.Given.{Over}
use Rattle.publication.proofs.closing.gather.Goals.{After-close_with-left}

-- what the slots have, since all others have left
left_here : (g : Over) (c : After-close_with-left g)
    → Leavings g.S.SeqObject.op_in g.S.SeqObject.reply_in c.args.desk.id.kinds c.args.desk.clients c.args.desk.id.quota
    c.args.last.knows (values_of c.close_with-left.result)
left_here g c =
    let desk = c.desk.invariant.0 in
    let last = c.last.invariant.0 in
    left_by g.S.SeqObject.content g.S.SeqObject.op_in g.S.SeqObject.reply_in c.desk.inside.table.shared.key
    c.args.desk c.args.last
    c.last.inside.seat.id c.last.inside.seat.me.0 (slots_items c.close_with-left.result.words)
    (values_of c.close_with-left.result)
    (desk.2 ∙ ap (λ s. s.id.kinds) c.desk.view_is) (desk.3 ∙ ap (λ s. s.clients) c.desk.view_is)
    (desk.4 ∙ ap (λ s. s.id.quota) c.desk.view_is)
    (ap (λ k. k.knows) c.last.view_is) last.agrees.client_is last.free last.agrees.at_rest c.requires.ended
    c.close_with-left.ensures.values.2

pub take_logs-requires-clause-slots : goal.take_logs-requires-clause-slots
take_logs-requires-clause-slots g c lfts within =
    let desk = c.desk.invariant.0 in
    let closed = c.close_with-left.ensures in
    let n = c.len-objects.ensures in
    let deep = desk.1 in
    let slots = closed.counts.1 in
    let few = desk.5 in
    let count : length c.desk.inside.kinds.items ≡ vec_len c.desk.inside.kinds = search rules in
    ((omega arith, (λ k l h. closed.values.1 k l (omega arith)), λ k h. absurd (omega arith)), omega arith)

pub take_logs-requires-clause-cores : goal.take_logs-requires-clause-cores
take_logs-requires-clause-cores g c lfts within =
    let left = left_here g (goal.at.take_logs-requires-clause-cores g c).After-close_with-left in
    let n = c.len-objects.ensures in
    let count : length c.desk.inside.kinds.items ≡ vec_len c.desk.inside.kinds = search rules in
    let same : length c.desk.inside.kinds.items ≡ length c.args.desk.id.kinds =
    ap (λ s. length s.id.kinds) c.desk.view_is in
    λ x l. let b = left.cores x (omega arith) in (b.0, b.1)

pub take_all_journals-requires-clause-slots : goal.take_all_journals-requires-clause-slots
take_all_journals-requires-clause-slots g c lfts within =
    let desk = c.desk.invariant.0 in
    let last = c.last.invariant.0 in
    let left = left_here g (goal.at.take_all_journals-requires-clause-slots g c).After-close_with-left in
    let low = left.number_low in
    let own : c.last.inside.number ≡ c.args.last.knows.number =
    sym last.agrees.number_is ∙ ap (λ k. k.knows.number) c.last.view_is in
    let clients = ap (λ s. s.clients) c.desk.view_is in
    (c.drop_slots.ensures.0, omega arith, desk.6)

pub take_all_journals-requires-clause-present : goal.take_all_journals-requires-clause-present
take_all_journals-requires-clause-present g c lfts within =
    let last = c.last.invariant.0 in
    let left = left_here g (goal.at.take_all_journals-requires-clause-present g c).After-close_with-left in
    let own : c.last.inside.number ≡ c.args.last.knows.number =
    sym last.agrees.number_is ∙ ap (λ k. k.knows.number) c.last.view_is in
    let clients = ap (λ s. s.clients) c.desk.view_is in
    λ n l other. subst (λ xs. HasJournal xs n) (sym (c.drop_slots.ensures.1 ∙ c.take_logs.ensures.slots.1))
    (let b = left.journals n (omega arith) (λ f. other (f ∙ sym own)) in (b.0, b.1))

pub returns : goal.returns
returns g c =
    let last = c.last.invariant.0 in
    let left = left_here g (goal.at.returns g c).After-close_with-left in
    let own : c.last.inside.number ≡ c.args.last.knows.number =
    sym last.agrees.number_is ∙ ap (λ k. k.knows.number) c.last.view_is in
    let n = c.len-objects.ensures in
    let count : length c.desk.inside.kinds.items ≡ vec_len c.desk.inside.kinds = search rules in
    let same : length c.desk.inside.kinds.items ≡ length c.args.desk.id.kinds =
    ap (λ s. length s.id.kinds) c.desk.view_is in
    let all : c.len-objects.result ≡ length c.args.desk.id.kinds = omega arith in
    let clients : c.desk.inside.clients ≡ c.args.desk.clients = ap (λ s. s.clients) c.desk.view_is in
    closed_ok g.S.SeqObject.op_in g.S.SeqObject.reply_in c.args.desk c.args.last
    (values_of c.close_with-left.result) c.new.result left
    (subst (λ m. AreLogs m (values_of c.close_with-left.result) c.new.result.logs) all
    (subst (λ l. AreLogs c.len-objects.result (values_of c.close_with-left.result) l)
    (sym (ap (λ r. r.logs) c.new.ensures)) c.take_logs.ensures.logs))
    (ap (λ r. length r.journals) c.new.ensures
    ∙ (c.take_all_journals.ensures.count ∙ ap (λ s. s.clients) c.desk.view_is))
    (ap (λ r. map (event_in g.S.SeqObject.op_in g.S.SeqObject.reply_in)
    (get_or r.journals c.args.last.knows.number [])) c.new.ensures
    ∙ (ap (λ m. map (event_in g.S.SeqObject.op_in g.S.SeqObject.reply_in)
    (get_or (items_of_each c.take_all_journals.new.journals.items) m [])) (sym own)
    ∙ (ap (map (event_in g.S.SeqObject.op_in g.S.SeqObject.reply_in)) c.take_all_journals.ensures.own
    ∙ (ap (λ j. map (event_in g.S.SeqObject.op_in g.S.SeqObject.reply_in) j.events.items)
    c.into_journal-journal.ensures ∙ last.agrees.journal_is ∙ ap (λ k. journal k.knows) c.last.view_is))))
    (λ n l other. subst (λ js. IsJournalOf (values_of c.close_with-left.result) n (get_or js n []))
    (sym (ap (λ r. r.journals) c.new.ensures))
    (subst (λ xs. IsJournalOf xs n (get_or (items_of_each c.take_all_journals.new.journals.items) n []))
    (c.drop_slots.ensures.1 ∙ c.take_logs.ensures.slots.1)
    (c.take_all_journals.ensures.others n (omega arith) (λ f. other (f ∙ own)))))

pub new-requires-clause-kept : goal.new-requires-clause-kept
new-requires-clause-kept g c lfts within =
    let desk = c.desk.invariant.0 in
    let last = c.last.invariant.0 in
    let left = left_here g (goal.at.new-requires-clause-kept g c).After-close_with-left in
    let own : c.last.inside.number ≡ c.args.last.knows.number =
    sym last.agrees.number_is ∙ ap (λ k. k.knows.number) c.last.view_is in
    let n = c.len-objects.ensures in
    let count : length c.desk.inside.kinds.items ≡ vec_len c.desk.inside.kinds = search rules in
    let same : length c.desk.inside.kinds.items ≡ length c.args.desk.id.kinds =
    ap (λ s. length s.id.kinds) c.desk.view_is in
    let all : c.len-objects.result ≡ length c.args.desk.id.kinds = omega arith in
    let clients : c.desk.inside.clients ≡ c.args.desk.clients = ap (λ s. s.clients) c.desk.view_is in
    let r = recorded c.take_all_journals.new.journals.items c.take_logs.new.logs.items in
    let closed = closed_ok g.S.SeqObject.op_in g.S.SeqObject.reply_in c.args.desk c.args.last
    (values_of c.close_with-left.result) r left
    (subst (λ m. AreLogs m (values_of c.close_with-left.result) r.logs) all c.take_logs.ensures.logs)
    (c.take_all_journals.ensures.count ∙ ap (λ s. s.clients) c.desk.view_is)
    (ap (λ m. map (event_in g.S.SeqObject.op_in g.S.SeqObject.reply_in)
    (get_or (items_of_each c.take_all_journals.new.journals.items) m [])) (sym own)
    ∙ (ap (map (event_in g.S.SeqObject.op_in g.S.SeqObject.reply_in)) c.take_all_journals.ensures.own
    ∙ (ap (λ j. map (event_in g.S.SeqObject.op_in g.S.SeqObject.reply_in) j.events.items)
    c.into_journal-journal.ensures ∙ last.agrees.journal_is ∙ ap (λ k. journal k.knows) c.last.view_is)))
    (λ n l other. subst (λ xs. IsJournalOf xs n (get_or (items_of_each c.take_all_journals.new.journals.items) n []))
    (c.drop_slots.ensures.1 ∙ c.take_logs.ensures.slots.1)
    (c.take_all_journals.ensures.others n (omega arith) (λ f. other (f ∙ own)))) in
    let quota : c.desk.inside.quota ≡ c.args.desk.id.quota = ap (λ s. s.id.quota) c.desk.view_is in
    record_from g.S.SeqObject.op_in g.S.SeqObject.reply_in r c.args.desk.id.kinds c.args.desk.id.quota closed.sound
    closed.logs (omega (arith, desk.7))
