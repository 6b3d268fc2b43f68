-- The values in which histories write arguments and replies.
use Rattle.std.specs.Prelude.{true, false, Option, Some, None}
use Rattle.model.specs.declared.AnyOp.{AnyOp}
use Rattle.model.specs.declared.AnyOp.TheVariants.{Enqueue, Dequeue, Push, Pop, Insert, ExtractMin}
use Rattle.model.specs.declared.AnyOp.TheVariants.{Write, Read, Cas, Put, Get, Del, Acquire}
use Rattle.model.specs.declared.AnyOp.TheVariants.{Release, Clear, Create, PutIfAbsent, Replace}
use Rattle.model.specs.declared.AnyOp.TheVariants.{Assoc, Dissoc, Add, Remove, Has, FetchAdd}
use Rattle.model.specs.declared.AnyOp.TheVariants.{GetCount, LockBy, UnlockBy}
use Rattle.model.specs.declared.AnyReply.{AnyReply}
use Rattle.model.specs.declared.AnyReply.TheVariants as reply
use Rattle.seq_objects.specs.declared.function.Function.{Function}
use Rattle.seq_objects.specs.declared.function.Function.TheVariants as name
use Rattle.seq_objects.specs.Functions.{Row, row, no_argument, integer, pair, triple, row_of}
use Rattle.seq_objects.specs.Functions.{Replies, nil, number, number_or_nil, flag, swap}
use Rattle.seq_objects.specs.declared.value.Value.{Value}
use Rattle.seq_objects.specs.declared.value.Value.TheVariants.{Nil, False, True, Int, Pair, Triple}

-- the operation that a row makes of this argument; one of another shape makes none
abbrev pub op_in_row : Row → Value → Option AnyOp
op_in_row (row name (no_argument op) replies) Nil = Some op
op_in_row (row name (integer op) replies) (Int a) = Some (op a)
op_in_row (row name (pair op) replies) (Pair a b) = Some (op a b)
op_in_row (row name (triple op) replies) (Triple a b c) = Some (op a b c)
op_in_row r value = None

-- the operation of this name with this argument
abbrev pub op_with : Function → Value → Option AnyOp
op_with f value = op_in_row (row_of f) value

-- the reply that this value stands for; one of another shape stands for none
abbrev pub reply_in : Replies → Value → Option AnyReply
reply_in nil Nil = Some (reply.Value None)
reply_in number (Int v) = Some (reply.Value (Some v))
reply_in number_or_nil (Int v) = Some (reply.Value (Some v))
reply_in number_or_nil Nil = Some (reply.Value None)
reply_in flag True = Some (reply.Flag true)
reply_in flag False = Some (reply.Flag false)
reply_in swap (Pair a b) = Some (reply.Swapped a b)
reply_in swap False = Some reply.NotSwapped
reply_in replies value = None

-- how the replies of a row are written
abbrev pub replies_in : Row → Replies
replies_in (row name argument replies) = replies

-- the reply to an operation of this name that this value stands for
abbrev pub reply_with : Function → Value → Option AnyReply
reply_with f value = reply_in (replies_in (row_of f)) value

-- the name of an operation
abbrev pub function_in : AnyOp → Function
function_in (Enqueue v) = name.Enqueue
function_in Dequeue = name.Dequeue
function_in (Push v) = name.Push
function_in Pop = name.Pop
function_in (Insert v) = name.Insert
function_in ExtractMin = name.ExtractMin
function_in (Write v) = name.Write
function_in Read = name.Read
function_in (Cas a b) = name.Cas
function_in (Put k v) = name.Put
function_in (Get k) = name.Get
function_in (Del k) = name.Del
function_in Acquire = name.Acquire
function_in Release = name.Release
function_in Clear = name.Clear
function_in (Create v) = name.Create
function_in (PutIfAbsent k v) = name.PutIfAbsent
function_in (Replace k a b) = name.Replace
function_in (Assoc k v) = name.Assoc
function_in (Dissoc k) = name.Dissoc
function_in (Add v) = name.Add
function_in (Remove v) = name.Remove
function_in (Has v) = name.Has
function_in (FetchAdd n) = name.FetchAdd
function_in GetCount = name.GetCount
function_in (LockBy o) = name.LockBy
function_in (UnlockBy o) = name.UnlockBy

-- the argument of an operation
abbrev pub op_value : AnyOp → Value
op_value (Enqueue v) = Int v
op_value (Push v) = Int v
op_value (Insert v) = Int v
op_value (Write v) = Int v
op_value (Cas a b) = Pair a b
op_value (Put k v) = Pair k v
op_value (Get k) = Int k
op_value (Del k) = Int k
op_value (Create v) = Int v
op_value (PutIfAbsent k v) = Pair k v
op_value (Replace k a b) = Triple k a b
op_value (Assoc k v) = Pair k v
op_value (Dissoc k) = Int k
op_value (Add v) = Int v
op_value (Remove v) = Int v
op_value (Has v) = Int v
op_value (FetchAdd n) = Int n
op_value (LockBy o) = Int o
op_value (UnlockBy o) = Int o
op_value op = Nil

-- the value that stands for a reply
abbrev pub reply_value : AnyReply → Value
reply_value (reply.Value None) = Nil
reply_value (reply.Value (Some v)) = Int v
reply_value (reply.Swapped a b) = Pair a b
reply_value reply.NotSwapped = False
reply_value (reply.Flag true) = True
reply_value (reply.Flag false) = False
