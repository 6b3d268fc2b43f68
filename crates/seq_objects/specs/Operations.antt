-- The operations and replies of one kind of object among those of all kinds.
use Rattle.model.specs.declared.AnyOp.{AnyOp}
use Rattle.model.specs.declared.AnyOp.TheVariants.{Enqueue, Dequeue, Push, Pop, Insert, ExtractMin}
use Rattle.model.specs.declared.AnyOp.TheVariants.{Write, Read, Cas, Put, Get, Del, Acquire}
use Rattle.model.specs.declared.AnyOp.TheVariants.{Release, Clear, Create, PutIfAbsent, Replace}
use Rattle.model.specs.declared.AnyOp.TheVariants.{Assoc, Dissoc, Add, Remove, Has, FetchAdd}
use Rattle.model.specs.declared.AnyOp.TheVariants.{GetCount, LockBy, UnlockBy}
use Rattle.model.specs.declared.AnyReply.{AnyReply}
use Rattle.model.specs.declared.AnyReply.TheVariants as reply
use Rattle.seq_objects.specs.declared.queue.QueueOp.{QueueOp}
use Rattle.seq_objects.specs.declared.queue.QueueOp.TheVariants as of_queue
use Rattle.seq_objects.specs.declared.stack.StackOp.{StackOp}
use Rattle.seq_objects.specs.declared.stack.StackOp.TheVariants as of_stack
use Rattle.seq_objects.specs.declared.heap.HeapOp.{HeapOp}
use Rattle.seq_objects.specs.declared.heap.HeapOp.TheVariants as of_heap
use Rattle.seq_objects.specs.declared.register.RegisterOp.{RegisterOp}
use Rattle.seq_objects.specs.declared.register.RegisterOp.TheVariants as of_register
use Rattle.seq_objects.specs.declared.register.RegisterReply.{RegisterReply}
use Rattle.seq_objects.specs.declared.register.RegisterReply.TheVariants as from_register
use Rattle.seq_objects.specs.declared.map_object.MapOp.{MapOp}
use Rattle.seq_objects.specs.declared.map_object.MapOp.TheVariants as of_map
use Rattle.seq_objects.specs.declared.map_object.MapReply.{MapReply}
use Rattle.seq_objects.specs.declared.map_object.MapReply.TheVariants as from_map
use Rattle.seq_objects.specs.declared.mutex.MutexOp.{MutexOp}
use Rattle.seq_objects.specs.declared.mutex.MutexOp.TheVariants as of_mutex
use Rattle.seq_objects.specs.declared.set.SetOp.{SetOp}
use Rattle.seq_objects.specs.declared.set.SetOp.TheVariants as of_set
use Rattle.seq_objects.specs.declared.counter.CounterOp.{CounterOp}
use Rattle.seq_objects.specs.declared.counter.CounterOp.TheVariants as of_counter
use Rattle.seq_objects.specs.declared.lock.LockOp.{LockOp}
use Rattle.seq_objects.specs.declared.lock.LockOp.TheVariants as of_lock

-- an operation of a queue among those of all kinds
abbrev pub queue_op : QueueOp → AnyOp
queue_op (of_queue.Enqueue v) = Enqueue v
queue_op of_queue.Dequeue = Dequeue

-- an operation of a stack among those of all kinds
abbrev pub stack_op : StackOp → AnyOp
stack_op (of_stack.Push v) = Push v
stack_op of_stack.Pop = Pop

-- an operation of a heap among those of all kinds
abbrev pub heap_op : HeapOp → AnyOp
heap_op (of_heap.Insert v) = Insert v
heap_op of_heap.ExtractMin = ExtractMin

-- an operation of a register among those of all kinds
abbrev pub register_op : RegisterOp → AnyOp
register_op (of_register.Write v) = Write v
register_op of_register.Read = Read
register_op (of_register.Cas a b) = Cas a b
register_op of_register.Clear = Clear
register_op (of_register.Create v) = Create v

-- a reply of a register among those of all kinds
abbrev pub register_reply : RegisterReply → AnyReply
register_reply (from_register.Value v) = reply.Value v
register_reply (from_register.Swapped a b) = reply.Swapped a b
register_reply from_register.NotSwapped = reply.NotSwapped
register_reply (from_register.Created so) = reply.Flag so

-- an operation of a map among those of all kinds
abbrev pub map_op : MapOp → AnyOp
map_op (of_map.Put k v) = Put k v
map_op (of_map.Get k) = Get k
map_op (of_map.Del k) = Del k
map_op (of_map.PutIfAbsent k v) = PutIfAbsent k v
map_op (of_map.Replace k a b) = Replace k a b
map_op (of_map.Assoc k v) = Assoc k v
map_op (of_map.Dissoc k) = Dissoc k

-- a reply of a map among those of all kinds
abbrev pub map_reply : MapReply → AnyReply
map_reply (from_map.Value v) = reply.Value v
map_reply (from_map.Changed so) = reply.Flag so

-- an operation of a mutex among those of all kinds
abbrev pub mutex_op : MutexOp → AnyOp
mutex_op of_mutex.Acquire = Acquire
mutex_op of_mutex.Release = Release

-- an operation of a set among those of all kinds
abbrev pub set_op : SetOp → AnyOp
set_op (of_set.Add v) = Add v
set_op (of_set.Remove v) = Remove v
set_op (of_set.Has v) = Has v

-- an operation of a counter among those of all kinds
abbrev pub counter_op : CounterOp → AnyOp
counter_op (of_counter.FetchAdd n) = FetchAdd n
counter_op of_counter.GetCount = GetCount

-- an operation of a lock among those of all kinds
abbrev pub lock_op : LockOp → AnyOp
lock_op (of_lock.Lock o) = LockBy o
lock_op (of_lock.Unlock o) = UnlockBy o
