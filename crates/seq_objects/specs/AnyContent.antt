-- What an object of any kind contains.
use Rattle.model.specs.Objects.{Content, queue, stack, heap, register, table, mutex, elements}
use Rattle.model.specs.Objects.{count, owner}
use Rattle.seq_objects.specs.declared.any_object.AnyObject.{AnyObject}
use Rattle.seq_objects.specs.declared.any_object.AnyObject.TheVariants.{Queue, Stack, Heap}
use Rattle.seq_objects.specs.declared.any_object.AnyObject.TheVariants.{Register, Map, Mutex}
use Rattle.seq_objects.specs.declared.any_object.AnyObject.TheVariants.{Set, Counter, Lock}

-- what an object contains, among the contents of all kinds
abbrev pub content_of : AnyObject → Content
content_of (Queue vs) = queue vs
content_of (Stack vs) = stack vs
content_of (Heap vs) = heap vs
content_of (Register v) = register v
content_of (Map m) = table m
content_of (Mutex held) = mutex held
content_of (Set s) = elements s
content_of (Counter n) = count n
content_of (Lock o) = owner o
