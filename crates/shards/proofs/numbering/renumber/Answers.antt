-- `renumber`: each event has the number in its place of the list, and these rise. A number that is not there or
-- does not rise means a misfit; the least one that may come is one past the last.
use Rattle.std.proofs.Common.{◌+◌, ◌<◌, [], ◌∷◌, ◌++◌, get_or, length, ap, ◌∙◌}
use Rattle.std.proofs.lemmas.List.Elements.{All-more}
use Rattle.events.specs.declared.event.Event.{Event}
use Rattle.events.proofs.Gathering.{placeholder_event}
use Rattle.shards.proofs.Numbers.{RiseBelow, due_more, event_more, no_misfit, rise_further}
use Rattle.shards.proofs.numbering.renumber.Goals as goal

pub loop-event-preserved : goal.loop-event-preserved
loop-event-preserved c =
    let l = c.loop-event in
    let ns = c.args.numbers.now in
    let es = c.args.events.now in
    let i = l.event-index in
    let d = placeholder_event in
    let e : Event = record (get_or es i d) { number = c.in-Some.number } in
    let next = c.from-least.ensures in
    let rise : RiseBelow (c.in-Some.number + 1) (l.renumbered.items ++ e ∷ []) =
    rise_further l.renumbered.items e l.least l.invariant.rise c.in-Some.ensures.far in
    record {
      numbered = event_more ns es i d l.renumbered.items c.push.new.self.items c.loop-event-test.true
          l.invariant.numbered
          (c.in_ok-push.ensures.items
          ∙ ap (λ n. l.renumbered.items ++ record (get_or es i d) { number = n } ∷ []) c.in-Some.ensures.own);
      placed = All-more (λ x. x.number < length ns) es i d c.loop-event-test.true l.invariant.placed
          c.in-Some.ensures.placed;
      rise = rw (next, c.in_ok-push.ensures.items) rise;
      due = due_more ns es i (c.from-least.result + 1) d (ap (λ n. n + 1) (next ∙ c.in-Some.ensures.own));
    }

pub returns-in_default-clause-misfit : goal.returns-in_default-clause-misfit
returns-in_default-clause-misfit c e placed rising =
    let l = c.loop-event in
    no_misfit c.args.numbers.now c.args.events.now l.event-index l.least placeholder_event c.loop-event-test.true
    l.invariant.due c.in_default.ensures.none placed rising
