-- `lines_of`: the lines are those of the record's journals, in order of tickets. They are the lines of all
-- journals, sorted by their tickets, which is what `Gathered` asks for.
use Rattle.std.proofs.Common.{rules, ◌^◌, map, subst}
use Rattle.std.specs.List.Sorted.{IsPermutation}
use Rattle.std.proofs.lemmas.List.Sorted.{IsNonDecreasingBy-from_sort_by_key}
use Rattle.desk_model.specs.Images.{event_in}
use Rattle.recorder.specs.Histories.{journals_in}
use Rattle.transcript.proofs.Gathered as gathered
use Rattle.transcript.proofs.Tickets.{journal_is}
use Rattle.transcript.proofs.Profiles.{clients_low}
use Rattle.transcript.proofs.line.lines_of.Goals as goal

lines_are : goal.returns-clause-lines
lines_are g c =
    let op_in = g.S.SeqObject.op_in in
    let reply_in = g.S.SeqObject.reply_in in
    let r = c.args.recorded.now in
    let kept = c.gather.ensures.kept in
    let ls = c.sort_unstable_by_key.new.self.items in
    gathered.are_lines (journals_in op_in reply_in r) kept.events kept.are_events kept.proper
    (map (map (event_in op_in reply_in)) r.journals) (journal_is op_in reply_in r) ls
    (subst (λ xs. IsPermutation xs ls) c.in_ok-lines.ensures.lines c.sort_unstable_by_key.ensures.permutation)
    (IsNonDecreasingBy-from_sort_by_key (λ l. l.event.number) _ c.sort_unstable_by_key.ensures.sorted
    (λ a r q k. search rules))

pub returns-clause-lines : goal.returns-clause-lines
returns-clause-lines g c = lines_are g c

pub returns-clause-events : goal.returns-clause-events
returns-clause-events g c =
    let kept = c.gather.ensures.kept in
    gathered.are_events (journals_in g.S.SeqObject.op_in g.S.SeqObject.reply_in c.args.recorded.now) kept.events
    kept.are_events kept.proper c.sort_unstable_by_key.new.self.items (lines_are g c)

pub returns-clause-proper : goal.returns-clause-proper
returns-clause-proper g c =
    let kept = c.gather.ensures.kept in
    gathered.is_proper (journals_in g.S.SeqObject.op_in g.S.SeqObject.reply_in c.args.recorded.now) kept.events
    kept.are_events kept.proper c.sort_unstable_by_key.new.self.items (lines_are g c)

pub returns-clause-low : goal.returns-clause-low
returns-clause-low g c =
    clients_low g.S.SeqObject.op_in g.S.SeqObject.reply_in c.args.recorded.now
    (2 ^ 63) c.in_ok-lines.ensures.few c.sort_unstable_by_key.new.self.items (lines_are g c)
