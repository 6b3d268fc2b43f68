-- What an operation tells of the content that it leaves, so that a suffix may begin with it.
use Rattle.std.specs.Prelude.{ℤ, pos, ◌+ℤ◌, true, false, Option, Some, None, if◌then◌else◌}
use Rattle.model.specs.declared.AnyOp.{AnyOp}
use Rattle.model.specs.declared.AnyOp.TheVariants.{Dequeue, Pop, ExtractMin, Write, Read, Cas}
use Rattle.model.specs.declared.AnyOp.TheVariants.{Clear, Create, Put, Get, Del, PutIfAbsent}
use Rattle.model.specs.declared.AnyOp.TheVariants.{Replace, Assoc, Dissoc, Acquire, Release}
use Rattle.model.specs.declared.AnyOp.TheVariants.{Add, Remove, Has, FetchAdd, GetCount}
use Rattle.model.specs.declared.AnyOp.TheVariants.{LockBy, UnlockBy}
use Rattle.model.specs.declared.AnyReply.{AnyReply}
use Rattle.model.specs.declared.AnyReply.TheVariants.{Value, Swapped, Flag}
use Rattle.model.specs.Objects.{is_i64}

-- the key of an operation of a map, or the element of one of a set
abbrev pub key_of : AnyOp → Option ℤ
key_of (Put k v) = Some k
key_of (Get k) = Some k
key_of (Del k) = Some k
key_of (PutIfAbsent k v) = Some k
key_of (Replace k a b) = Some k
key_of (Assoc k v) = Some k
key_of (Dissoc k) = Some k
key_of (Add v) = Some v
key_of (Remove v) = Some v
key_of (Has v) = Some v
key_of op = None

-- what leaves this number in a counter at 0, if it is a number of 64 bits
abbrev pub leaves_count : ℤ → Option (Option (AnyOp × AnyReply))
leaves_count n = if is_i64 n then Some (Some (FetchAdd n, Value (Some (pos 0)))) else None

-- What an operation with this reply leaves in the object (of a map: under its key; of a set: of its
-- element), if the reply tells: nothing, or what this other operation leaves in an empty object,
-- with the reply that it then has.
abbrev pub leaves : AnyOp → AnyReply → Option (Option (AnyOp × AnyReply))
leaves Dequeue (Value None) = Some None
leaves Pop (Value None) = Some None
leaves ExtractMin (Value None) = Some None
leaves (Write v) reply = Some (Some (Write v, Value (Some v)))
leaves Read (Value None) = Some None
leaves Read (Value (Some v)) = Some (Some (Write v, Value (Some v)))
leaves (Cas a b) (Swapped c d) = Some (Some (Write b, Value (Some b)))
leaves Clear reply = Some None
leaves (Create v) (Flag true) = Some (Some (Write v, Value (Some v)))
leaves (Put k v) reply = Some (Some (Put k v, Value None))
leaves (Get k) (Value None) = Some None
leaves (Get k) (Value (Some v)) = Some (Some (Put k v, Value None))
leaves (Del k) reply = Some None
leaves (PutIfAbsent k v) (Flag true) = Some (Some (Put k v, Value None))
leaves (Replace k a b) (Flag true) = Some (Some (Put k b, Value None))
leaves (Assoc k v) reply = Some (Some (Put k v, Value None))
leaves (Dissoc k) reply = Some None
leaves Acquire reply = Some (Some (Acquire, Value None))
leaves Release reply = Some None
leaves (Add v) reply = Some (Some (Add v, Flag true))
leaves (Remove v) reply = Some None
leaves (Has v) (Flag true) = Some (Some (Add v, Flag true))
leaves (Has v) (Flag false) = Some None
leaves (FetchAdd n) (Value (Some c)) = leaves_count (c +ℤ n)
leaves GetCount (Value (Some c)) = leaves_count c
leaves (LockBy o) reply = Some (Some (LockBy o, Value None))
leaves (UnlockBy o) reply = Some None
leaves op reply = None

-- the value that a call left in a register, whatever the register contained
abbrev pub written : AnyOp → AnyReply → Option ℤ
written (Write v) reply = Some v
written (Cas a b) (Swapped c d) = Some b
written op reply = None
