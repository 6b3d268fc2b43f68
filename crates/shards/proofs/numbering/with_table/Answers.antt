-- `with_table`: the events have the numbers of the table, which fits the history. There is one number for each
-- event, and the events made of them rise in number (`fits`), so they are a history too (`proper_renumbered`).
use Rattle.std.proofs.Common.{◌≡◌, length, ap, ◌∙◌, arith}
use Rattle.shards.specs.Dividing.{table_text, with_numbers}
use Rattle.shards.specs.Tables.{FitsTable}
use Rattle.shards.proofs.Numbers.{fits}
use Rattle.shards.proofs.Renumbered.{proper_renumbered}
use Rattle.shards.proofs.numbering.with_table.Goals as goal
use Rattle.shards.proofs.numbering.with_table.Goals.{In_ok-renumber}

-- the events that were made have the numbers that were read
numbered : (c : In_ok-renumber)
    → c.in_ok-renumber.field-0.items ≡ with_numbers c.in_ok-numbers.numbers.items c.args.history
numbered c =
    c.in_ok-renumber.ensures.numbered ∙ rw (c.deref.ensures.value, c.events-events.ensures.events)

-- The numbers that were read fit the table and the history.
fitting : (c : In_ok-renumber) → FitsTable c.in_ok-numbers.numbers.items c.args.table.now c.args.history
fitting c =
    let value = c.deref.ensures.value in
    let ns = c.deref.result.now in
    let es = c.events-events.result.now in
    let made = c.in_ok-renumber.ensures in
    let one_each : length ns ≡ length es =
    let long = ap length value in
    let ok = c.in_ok-numbers.numbers.ok in
    let read = c.len.ensures in
    let same = c.if-len-events.false in
    omega (arith, long, ok, read, same) in
    rw (value, c.events-events.ensures.events) at (fits ns c.args.table.now es c.in_ok-renumber.field-0.items
    (ap table_text value ∙ c.in_ok-numbers.ensures.written) (rw value c.in_ok-numbers.ensures.short)
    one_each made.numbered made.placed made.rising)

pub new-requires : goal.new-requires
new-requires c = proper_renumbered c.args.history c.in_ok-renumber.field-0.items
    c.events-events.ensures.proper
    (rw (numbered c) (fitting c).renumbered)

pub returns-clause-numbered : goal.returns-clause-numbered
returns-clause-numbered c =
    let made = (goal.at.returns-clause-numbered c).In_ok-renumber in
    (c.in_ok-numbers.numbers.items, fitting made, c.new.ensures ∙ numbered made)
