-- What sets a content that is counted, and what takes it away.
use Rattle.std.specs.Prelude.{ℤ, Bool, true, false, not, ◌&&◌, Option, Some, None}
use Rattle.std.specs.Ordering.{int_eq}
use Rattle.model.specs.declared.Kind.{Kind}
use Rattle.model.specs.declared.Kind.TheVariants.{Queue, Stack, Heap, Register, Map, Mutex, Set}
use Rattle.model.specs.declared.Kind.TheVariants.{Counter, Lock}
use Rattle.model.specs.declared.AnyOp.{AnyOp}
use Rattle.model.specs.declared.AnyOp.TheVariants.{Enqueue, Dequeue, Push, Pop, Insert, ExtractMin}
use Rattle.model.specs.declared.AnyOp.TheVariants.{Write, Cas, Create, Put, Del, PutIfAbsent}
use Rattle.model.specs.declared.AnyOp.TheVariants.{Replace, Assoc, Dissoc, Acquire, Release}
use Rattle.model.specs.declared.AnyReply.{AnyReply}
use Rattle.model.specs.declared.AnyReply.TheVariants as reply
use Rattle.model.specs.declared.AnyReply.TheVariants.{Swapped, Flag}
use Rattle.cuts.specs.declared.counting.Counted.{Counted}
use Rattle.cuts.specs.declared.counting.Counted.TheVariants.{Value, Entry, NoEntry, Held, Free}

-- whether the reply is this value
abbrev pub is_reply : ℤ → Option AnyReply → Bool
is_reply v (Some (reply.Value (Some w))) = int_eq w v
is_reply v other = false

-- whether the reply is that the operation did not take place
abbrev pub is_refused : Option AnyReply → Bool
is_refused (Some (Flag false)) = true
is_refused other = false

-- Whether an operation with this reply sets the content: puts it in, or leaves it. With no reply:
-- whether it may.
abbrev pub sets : Counted → AnyOp → Option AnyReply → Bool
sets (Value v) (Enqueue w) r = int_eq w v
sets (Value v) (Push w) r = int_eq w v
sets (Value v) (Insert w) r = int_eq w v
sets (Value v) (Write w) r = int_eq w v
sets (Value v) (Cas a b) None = int_eq b v
sets (Value v) (Cas a b) (Some (Swapped c d)) = int_eq b v
sets (Value v) (Create w) r = not (is_refused r) && int_eq w v
sets (Entry k v) (Put q w) r = int_eq q k && int_eq w v
sets (Entry k v) (PutIfAbsent q w) r = not (is_refused r) && (int_eq q k && int_eq w v)
sets (Entry k v) (Replace q a b) r = not (is_refused r) && (int_eq q k && int_eq b v)
sets (Entry k v) (Assoc q w) r = int_eq q k && int_eq w v
sets (NoEntry k) (Del q) None = int_eq q k
sets (NoEntry k) (Del q) (Some (reply.Value (Some w))) = int_eq q k
sets (NoEntry k) (Dissoc q) r = int_eq q k
sets Held Acquire r = true
sets Free Release r = true
sets what op r = false

-- whether the reply of an operation tells that it took the content away
abbrev pub takes : Counted → AnyOp → Option AnyReply → Bool
takes (Value v) Dequeue r = is_reply v r
takes (Value v) Pop r = is_reply v r
takes (Value v) ExtractMin r = is_reply v r
takes (Value v) (Cas a b) (Some (Swapped c d)) = int_eq a v
takes (Entry k v) (Put q w) r = int_eq q k && is_reply v r
takes (Entry k v) (Del q) r = int_eq q k && is_reply v r
takes (Entry k v) (Replace q a b) (Some (Flag true)) = int_eq q k && int_eq a v
takes (NoEntry k) (Put q w) (Some (reply.Value None)) = int_eq q k
takes (NoEntry k) (PutIfAbsent q w) (Some (Flag true)) = int_eq q k
takes Free Acquire (Some r) = true
takes Held Release (Some r) = true
takes what op r = false

-- whether a count on an object of this kind may begin at any number: a content can be there only
-- once at a time
abbrev pub may_count_from : Kind → Bool
may_count_from Queue = false
may_count_from Stack = false
may_count_from Heap = false
may_count_from Register = true
may_count_from Map = true
may_count_from Mutex = true
may_count_from Set = false
may_count_from Counter = false
may_count_from Lock = false
