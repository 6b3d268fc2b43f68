-- What objects contain that can go back, and what undoes an operation.
use Rattle.std.specs.Prelude.{◌≡◌, ℤ, true, false, List, [], ◌∷◌, length, take, drop, ◌-◌}
use Rattle.std.specs.Prelude.{Some, None}
use Rattle.std.specs.List.{remove}
use Rattle.std.specs.FinMap as map
use Rattle.std.specs.FinSet as set
use Rattle.model.specs.declared.AnyOp.{AnyOp}
use Rattle.model.specs.declared.AnyReply.TheVariants.{Value}
use Rattle.model.specs.Objects.{Content, queue, stack, heap, register, table, mutex, elements}
use Rattle.model.specs.Objects.{count, owner, next}
use Rattle.order_search.specs.declared.reversible.Reversible.{Reversible}
use Rattle.order_search.specs.declared.reversible.Reversible.TheVariants.{Queue, Stack, Heap}
use Rattle.order_search.specs.declared.reversible.Reversible.TheVariants.{Register}
use Rattle.order_search.specs.declared.reversible.Reversible.TheVariants.{Map, Mutex, Set, Counter}
use Rattle.order_search.specs.declared.reversible.Reversible.TheVariants.{Lock}
use Rattle.order_search.specs.declared.kept.KeptContent.{KeptContent}
use Rattle.order_search.specs.declared.kept.KeptContent.TheVariants as kept
use Rattle.order_search.specs.declared.step.Undo.{Undo}
use Rattle.order_search.specs.declared.step.Undo.TheVariants.{Nothing, TakeFirst, TakeLast, TakeAt}
use Rattle.order_search.specs.declared.step.Undo.TheVariants.{PutFirst, SetRegister, SetKey}
use Rattle.order_search.specs.declared.step.Undo.TheVariants.{SetHeld}
use Rattle.order_search.specs.declared.step.Undo.TheVariants.{SetElement, SetCount, SetOwner}
use Rattle.order_search.specs.declared.step.Step.{Step}

-- what an object that can be undone contains
abbrev pub reversible_content : Reversible → Content
reversible_content (Queue vs) = queue vs.items
reversible_content (Stack vs) = stack vs.items
reversible_content (Heap vs) = heap vs.items
reversible_content (Register v) = register v
reversible_content (Map m) = table m
reversible_content (Mutex held) = mutex held
reversible_content (Set s) = elements s
reversible_content (Counter n) = count n
reversible_content (Lock o) = owner o

-- what an object contained when its content was kept with a remembered pair
abbrev pub content_kept : KeptContent → Content
content_kept (kept.Queue vs) = queue vs.items
content_kept (kept.Stack vs) = stack vs.items
content_kept (kept.Heap vs) = heap vs.items
content_kept (kept.Whole object) = reversible_content object

-- the values of a queue, a stack or a heap after an operation on it was undone
abbrev pub values_undone : Undo → List ℤ → List ℤ
values_undone Nothing vs = vs
values_undone TakeFirst vs = drop 1 vs
values_undone TakeLast vs = take (length vs - 1) vs
values_undone (TakeAt k) vs = remove vs k
values_undone (PutFirst v) vs = v ∷ vs
values_undone u vs = vs

-- the content after an operation on it was undone
abbrev pub undone : Undo → Content → Content
undone u (queue vs) = queue (values_undone u vs)
undone u (stack vs) = stack (values_undone u vs)
undone u (heap vs) = heap (values_undone u vs)
undone (SetRegister v) (register w) = register v
undone (SetKey k None) (table m) = table (map.remove m k)
undone (SetKey k (Some v)) (table m) = table (map.insert m k v)
undone (SetHeld held) (mutex h) = mutex held
undone (SetElement v true) (elements s) = elements (set.insert s v)
undone (SetElement v false) (elements s) = elements (set.remove s v)
undone (SetCount n) (count m) = count n
undone (SetOwner o) (owner p) = owner o
undone u c = c

-- the step of an operation, from one content to the next, and back by what undoes it
pub record IsStep (before : Content) (op : AnyOp) (after : Content) (step : Step) : Type 0 where
  pub does : next before op ≡ Some (after, step.reply)
  pub back : undone step.undo after ≡ before

-- the step of an operation that takes the first value, if there is one
abbrev pub IsValueTaken : List ℤ → List ℤ → Step → Type 0
IsValueTaken [] after step = (after ≡ []) × (step ≡ record { reply = Value None; undo = Nothing })
IsValueTaken (v ∷ vs) after step =
    (after ≡ vs) × (step ≡ record { reply = Value (Some v); undo = PutFirst v })
