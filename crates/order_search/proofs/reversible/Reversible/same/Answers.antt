use Rattle.std.proofs.Common.{rules, ap, sym}
use Rattle.model.specs.Objects.{queue, stack, heap}
use Rattle.order_search.specs.Undoing.{reversible_content}
use Rattle.seq_objects.proofs.Sameness.{same_views, decides_items}
use Rattle.order_search.proofs.reversible.Reversible.same.Goals as goal

pub returns-in-Queue-Queue : goal.returns-in-Queue-Queue
returns-in-Queue-Queue c =
    same_views queue (λ a b e. search rules) _ _ _ _ _ (ap reversible_content (sym c.in-Queue-Queue.is-0))
    (ap reversible_content (sym c.in-Queue-Queue.is-1)) (decides_items _ _ _ c.eq.ensures)

pub returns-in-Stack-Stack : goal.returns-in-Stack-Stack
returns-in-Stack-Stack c =
    same_views stack (λ a b e. search rules) _ _ _ _ _ (ap reversible_content (sym c.in-Stack-Stack.is-0))
    (ap reversible_content (sym c.in-Stack-Stack.is-1)) (decides_items _ _ _ c.eq-in-Stack-Stack.ensures)

pub returns-in-Heap-Heap : goal.returns-in-Heap-Heap
returns-in-Heap-Heap c =
    same_views heap (λ a b e. search rules) _ _ _ _ _ (ap reversible_content (sym c.in-Heap-Heap.is-0))
    (ap reversible_content (sym c.in-Heap-Heap.is-1)) (decides_items _ _ _ c.eq-in-Heap-Heap.ensures)
