-- The functions of histories, a row for each, and the words for kinds.
use Rattle.std.specs.Prelude.{ℕ, ℤ, pos, List, [], ◌∷◌, codes}
use Rattle.model.specs.declared.Kind.{Kind}
use Rattle.model.specs.declared.Kind.TheVariants.{Queue, Stack, Heap, Register, Map, Mutex, Set}
use Rattle.model.specs.declared.Kind.TheVariants.{Counter, Lock}
use Rattle.model.specs.declared.AnyOp.{AnyOp}
use Rattle.model.specs.declared.AnyOp.TheVariants as op
use Rattle.model.specs.Objects.{kind_of}
use Rattle.seq_objects.specs.declared.function.Function.{Function}
use Rattle.seq_objects.specs.declared.function.Function.TheVariants.{Enqueue, Dequeue, Push, Pop}
use Rattle.seq_objects.specs.declared.function.Function.TheVariants.{Insert, ExtractMin, Write}
use Rattle.seq_objects.specs.declared.function.Function.TheVariants.{Read, Cas, Put, Get, Del}
use Rattle.seq_objects.specs.declared.function.Function.TheVariants.{Acquire, Release}
use Rattle.seq_objects.specs.declared.function.Function.TheVariants.{Clear, Create, PutIfAbsent}
use Rattle.seq_objects.specs.declared.function.Function.TheVariants.{Replace, Assoc, Dissoc, Add}
use Rattle.seq_objects.specs.declared.function.Function.TheVariants.{Remove, Has, FetchAdd}
use Rattle.seq_objects.specs.declared.function.Function.TheVariants.{GetCount, LockBy, UnlockBy}

-- every function, in the order in which the code lists them
abbrev pub all_functions : List Function
all_functions =
    Enqueue ∷ Dequeue ∷ Push ∷ Pop ∷ Insert ∷ ExtractMin ∷ Write ∷ Read ∷ Cas ∷ Put ∷ Get ∷ Del
    ∷ Acquire ∷ Release ∷ Clear ∷ Create ∷ PutIfAbsent ∷ Replace ∷ Assoc ∷ Dissoc ∷ Add ∷ Remove
    ∷ Has ∷ FetchAdd ∷ GetCount ∷ LockBy ∷ UnlockBy ∷ []

-- what makes an operation of an argument: nil, an integer, or a vector of two or three
pub data Argument : Type 0 where
  no_argument : AnyOp → Argument
  integer : (ℤ → AnyOp) → Argument
  pair : (ℤ → ℤ → AnyOp) → Argument
  triple : (ℤ → ℤ → ℤ → AnyOp) → Argument

-- How replies are written: as nil, as an integer, as one or nil, as true or false, or as a pair or
-- false.
pub data Replies : Type 0 where
  nil number number_or_nil flag swap : Replies

-- a function: its name as bytes, its argument and its replies
pub data Row : Type 0 where
  row : List ℕ → Argument → Replies → Row

-- the row of a function
abbrev pub row_of : Function → Row
row_of Enqueue = row (codes "enqueue") (integer op.Enqueue) number
row_of Dequeue = row (codes "dequeue") (no_argument op.Dequeue) number_or_nil
row_of Push = row (codes "push") (integer op.Push) number
row_of Pop = row (codes "pop") (no_argument op.Pop) number_or_nil
row_of Insert = row (codes "insert") (integer op.Insert) number
row_of ExtractMin = row (codes "extract-min") (no_argument op.ExtractMin) number_or_nil
row_of Write = row (codes "write") (integer op.Write) number
row_of Read = row (codes "read") (no_argument op.Read) number_or_nil
row_of Cas = row (codes "cas") (pair op.Cas) swap
row_of Put = row (codes "put") (pair op.Put) number_or_nil
row_of Get = row (codes "get") (integer op.Get) number_or_nil
row_of Del = row (codes "del") (integer op.Del) number_or_nil
row_of Acquire = row (codes "acquire") (no_argument op.Acquire) nil
row_of Release = row (codes "release") (no_argument op.Release) nil
row_of Clear = row (codes "clear") (no_argument op.Clear) nil
row_of Create = row (codes "create") (integer op.Create) flag
row_of PutIfAbsent = row (codes "put-if-absent") (pair op.PutIfAbsent) flag
row_of Replace = row (codes "replace") (triple op.Replace) flag
row_of Assoc = row (codes "assoc") (pair op.Assoc) nil
row_of Dissoc = row (codes "dissoc") (integer op.Dissoc) nil
row_of Add = row (codes "add") (integer op.Add) flag
row_of Remove = row (codes "remove") (integer op.Remove) flag
row_of Has = row (codes "contains") (integer op.Has) flag
row_of FetchAdd = row (codes "fetch-add") (integer op.FetchAdd) number
row_of GetCount = row (codes "get-count") (no_argument op.GetCount) number
row_of LockBy = row (codes "lock") (integer op.LockBy) nil
row_of UnlockBy = row (codes "unlock") (integer op.UnlockBy) nil

-- the name in a row
abbrev pub name_in : Row → List ℕ
name_in (row name argument replies) = name

-- the name of an operation, as bytes
abbrev pub name_of : Function → List ℕ
name_of f = name_in (row_of f)

-- the kind of objects that have the operations of a row
abbrev pub kind_in_row : Row → Kind
kind_in_row (row name (no_argument op) replies) = kind_of op
kind_in_row (row name (integer op) replies) = kind_of (op (pos 0))
kind_in_row (row name (pair op) replies) = kind_of (op (pos 0) (pos 0))
kind_in_row (row name (triple op) replies) = kind_of (op (pos 0) (pos 0) (pos 0))

-- the kind of objects that have an operation of this name
abbrev pub kind_of_function : Function → Kind
kind_of_function f = kind_in_row (row_of f)

-- the word for a kind, as bytes
abbrev pub word_of : Kind → List ℕ
word_of Queue = codes "queue"
word_of Stack = codes "stack"
word_of Heap = codes "heap"
word_of Register = codes "register"
word_of Map = codes "map"
word_of Mutex = codes "mutex"
word_of Set = codes "set"
word_of Counter = codes "counter"
word_of Lock = codes "lock"
