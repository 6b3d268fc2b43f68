-- `begin`: the search is at its start: no level, all places linked, and an empty object. No place is dead yet,
-- because both sets of dead ones are new.
use Rattle.std.proofs.Common.{◌≡◌, [], length, ◌∙◌, arith}
use Rattle.std.proofs.lemmas.List.{get_or_default}
use Rattle.order_search.specs.Arranged.{call_at}
use Rattle.order_search.specs.Searching.{IsWindow}
use Rattle.order_search.proofs.Stack.{placed}
use Rattle.order_search.proofs.Generations.{none_dead}
use Rattle.order_search.proofs.walk.State.begin.Goals as goal

pub returns-clause-search : goal.returns-clause-search
returns-clause-search c =
    let t = c.args.trials.now in
    let items = t.items.items in
    let u = c.in_ok-not_done.not_done in
    let len : c.len.result ≡ length items = omega (arith, c.len.ensures) in
    let link = rw len at c.in_ok-not_done.ensures in
    let long = link.long_next in
    let window : IsWindow (length items) (call_at items) []
    (record { least = c.least_return-least.result; pending = t.pending }) = record {
      is_least = c.least_return-least.ensures [] link;
      returned = λ k b i. c.requires.trials.returned k b;
      stop = record { within = c.requires.trials.within; left = λ m i. absurd i };
    } in
    record {
      walk = rw c.new-2.ensures.items (placed (c.empty-object.ensures, link)
          (c.index-at.ensures ∙ get_or_default u.next.items 0 _ 0 (omega arith)) window c.requires.counts
          c.requires.owed);
      dead = record {
        older = none_dead t c.in_ok-dead.dead.older.pairs.items c.in_ok-dead.ensures.older;
        younger = none_dead t c.in_ok-dead.dead.younger.pairs.items c.in_ok-dead.ensures.younger;
      };
    }
