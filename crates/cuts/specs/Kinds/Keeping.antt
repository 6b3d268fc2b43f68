-- Which operations a part may keep that keeps some values, or some keys. An element of a set is its
-- own key.
use Rattle.std.specs.Prelude.{ℤ, Bool, true, false, not, ◌||◌, Option, Some, None, if◌then◌else◌}
use Rattle.model.specs.declared.AnyOp.{AnyOp}
use Rattle.model.specs.declared.AnyOp.TheVariants.{Enqueue, Dequeue, Push, Pop, Insert}
use Rattle.model.specs.declared.AnyOp.TheVariants.{ExtractMin, Write, Read, Cas, Clear, Create}
use Rattle.model.specs.declared.AnyOp.TheVariants.{Put, Get, Del, PutIfAbsent, Replace, Assoc}
use Rattle.model.specs.declared.AnyOp.TheVariants.{Dissoc, Acquire, Release, Add, Remove, Has}
use Rattle.model.specs.declared.AnyOp.TheVariants.{FetchAdd, GetCount, LockBy, UnlockBy}
use Rattle.model.specs.declared.AnyReply.{AnyReply}
use Rattle.model.specs.declared.AnyReply.TheVariants.{Value, Swapped, NotSwapped, Flag}

-- whether both are true, or neither is
abbrev pub is_same : Bool → Bool → Bool
is_same a b = if a then b else not b

-- a call is kept only if its value is kept
abbrev pub only_where : Bool → Bool → Bool
only_where kept keeps = not kept || keeps

-- A part keeps a removal exactly if it keeps the value that the removal took. It may keep or leave
-- out one that found nothing. `IsClosed` says of all pending ones when a part may leave them out.
abbrev pub fits_removal : (ℤ → Bool) → Bool → Option AnyReply → Bool
fits_removal keeps kept None = true
fits_removal keeps kept (Some (Value (Some v))) = is_same kept (keeps v)
fits_removal keeps kept (Some (Value None)) = true
fits_removal keeps kept (Some (Swapped a b)) = true
fits_removal keeps kept (Some NotSwapped) = true
fits_removal keeps kept (Some (Flag b)) = true

-- A read is kept only if its value is kept. A pending one, or one that found nothing, is kept or
-- left out.
abbrev pub fits_read : (ℤ → Bool) → Bool → Option AnyReply → Bool
fits_read keeps kept None = true
fits_read keeps kept (Some (Value (Some v))) = only_where kept (keeps v)
fits_read keeps kept (Some (Value None)) = true
fits_read keeps kept (Some (Swapped a b)) = true
fits_read keeps kept (Some NotSwapped) = true
fits_read keeps kept (Some (Flag b)) = true

-- A part leaves out a swap only if it leaves out its new value, and keeps it only if it keeps its
-- expected value. It keeps a pending one also if it leaves out both values, and a failed one only
-- if it keeps all values.
abbrev pub fits_cas : Bool → (ℤ → Bool) → Bool → ℤ → ℤ → Option AnyReply → Bool
fits_cas all keeps kept a b None = if kept then keeps a || not (keeps b) else not (keeps b)
fits_cas all keeps kept a b (Some (Value v)) = true
fits_cas all keeps kept a b (Some (Swapped c d)) = if kept then keeps a else not (keeps b)
fits_cas all keeps kept a b (Some NotSwapped) = only_where kept all
fits_cas all keeps kept a b (Some (Flag c)) = true

-- A part leaves out a creation only if it leaves out its value. It keeps one that failed only if it
-- keeps all values.
abbrev pub fits_create : Bool → (ℤ → Bool) → Bool → ℤ → Option AnyReply → Bool
fits_create all keeps kept v (Some (Flag false)) = only_where kept all
fits_create all keeps kept v reply = kept || not (keeps v)

-- A removal is kept exactly if its key is kept. One that found nothing may also be left out.
abbrev pub fits_del : (ℤ → Bool) → Bool → ℤ → Option AnyReply → Bool
fits_del keeps kept k None = is_same kept (keeps k)
fits_del keeps kept k (Some (Value (Some v))) = is_same kept (keeps k)
fits_del keeps kept k (Some (Value None)) = only_where kept (keeps k)
fits_del keeps kept k (Some (Swapped c d)) = true
fits_del keeps kept k (Some NotSwapped) = true
fits_del keeps kept k (Some (Flag b)) = true

-- A change that replies whether it took place is kept exactly if its key is kept. One that
-- failed may also be left out.
abbrev pub fits_change : (ℤ → Bool) → Bool → ℤ → Option AnyReply → Bool
fits_change keeps kept k (Some (Flag false)) = only_where kept (keeps k)
fits_change keeps kept k reply = is_same kept (keeps k)

-- Whether a part that keeps these values, or keys, may keep an operation with this reply (`kept`),
-- or leave it out. `all` says that all values are kept.
abbrev pub fits : Bool → (ℤ → Bool) → Bool → AnyOp → Option AnyReply → Bool
fits all keeps kept (Enqueue v) reply = is_same kept (keeps v)
fits all keeps kept Dequeue reply = fits_removal keeps kept reply
fits all keeps kept (Push v) reply = is_same kept (keeps v)
fits all keeps kept Pop reply = fits_removal keeps kept reply
fits all keeps kept (Insert v) reply = is_same kept (keeps v)
fits all keeps kept ExtractMin reply = fits_removal keeps kept reply
fits all keeps kept (Write v) reply = kept || not (keeps v)
fits all keeps kept Read reply = fits_read keeps kept reply
fits all keeps kept (Cas a b) reply = fits_cas all keeps kept a b reply
fits all keeps kept Clear reply = kept
fits all keeps kept (Create v) reply = fits_create all keeps kept v reply
fits all keeps kept (Put k v) reply = is_same kept (keeps k)
fits all keeps kept (Get k) reply = only_where kept (keeps k)
fits all keeps kept (Del k) reply = fits_del keeps kept k reply
fits all keeps kept (PutIfAbsent k v) reply = fits_change keeps kept k reply
fits all keeps kept (Replace k a b) reply = fits_change keeps kept k reply
fits all keeps kept (Assoc k v) reply = is_same kept (keeps k)
fits all keeps kept (Dissoc k) reply = is_same kept (keeps k)
fits all keeps kept Acquire reply = kept
fits all keeps kept Release reply = kept
fits all keeps kept (Add v) reply = fits_change keeps kept v reply
fits all keeps kept (Remove v) reply = fits_change keeps kept v reply
fits all keeps kept (Has v) reply = only_where kept (keeps v)
fits all keeps kept (FetchAdd n) reply = kept
fits all keeps kept GetCount reply = true
fits all keeps kept (LockBy o) reply = kept
fits all keeps kept (UnlockBy o) reply = kept
