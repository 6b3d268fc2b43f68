-- The operations that clients call on objects of each kind.
use Rattle.std.specs.Prelude.{ℤ}
use Rattle.model.specs.declared.Kind.{Kind}
use Rattle.model.specs.declared.Kind.TheVariants.{Queue, Stack, Heap, Register, Map, Mutex, Set}
use Rattle.model.specs.declared.Kind.TheVariants.{Counter, Lock}
use Rattle.model.specs.declared.AnyOp.TheVariants.{Enqueue, Dequeue, Push, Pop, Insert, ExtractMin}
use Rattle.model.specs.declared.AnyOp.TheVariants.{Write, Read, Cas, Put, Get, Del, Acquire}
use Rattle.model.specs.declared.AnyOp.TheVariants.{Release, Add, Remove, Has, FetchAdd, GetCount}
use Rattle.model.specs.declared.AnyOp.TheVariants.{LockBy, UnlockBy}
use Rattle.clients.specs.declared.kinds.Operations.{Operations}
use Rattle.clients.specs.declared.kinds.Operations.TheVariants.{Either, AnyOfThree, InTurn}

-- the operations of a kind with two values
abbrev pub operations_with : Kind → ℤ → ℤ → Operations
operations_with Queue v w = Either (Enqueue v) Dequeue
operations_with Stack v w = Either (Push v) Pop
operations_with Heap v w = Either (Insert v) ExtractMin
operations_with Register v w = AnyOfThree (Write v) Read (Cas v w)
operations_with Map v w = AnyOfThree (Put v w) (Get v) (Del v)
operations_with Mutex v w = InTurn Acquire Release
operations_with Set v w = AnyOfThree (Add v) (Remove v) (Has v)
operations_with Counter v w = Either (FetchAdd v) GetCount
operations_with Lock v w = InTurn (LockBy v) (UnlockBy v)
