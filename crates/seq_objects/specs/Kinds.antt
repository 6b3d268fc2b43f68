-- The list of kinds, and which kind each object of a desk or a machine has.
use Rattle.std.specs.Prelude.{ℕ, ◌%◌, ◌==◌, List, Option, Some, None, codes, map, if◌then◌else◌}
use Rattle.std.specs.Str.{bytes_eq}
use Rattle.std.specs.List.{range_with_len}
use Rattle.model.specs.declared.Kind.{Kind}
use Rattle.model.specs.declared.Kind.TheVariants.{Queue, Stack, Heap, Register, Map, Mutex, Set}
use Rattle.model.specs.declared.Kind.TheVariants.{Counter, Lock}
use Rattle.seq_objects.specs.declared.kinds.Kinds.{Kinds}
use Rattle.seq_objects.specs.declared.kinds.Kinds.TheVariants.{One, Mixed}

-- the place of a kind in the list of them
abbrev pub place_of : Kind → ℕ
place_of Queue = 0
place_of Stack = 1
place_of Heap = 2
place_of Register = 3
place_of Map = 4
place_of Mutex = 5
place_of Set = 6
place_of Counter = 7
place_of Lock = 8

-- the kinds of the objects of a run for which none are named
abbrev pub default_kinds : Kinds
default_kinds = One Queue

-- the kind at a place of the mixed ones: queue, stack, heap, register and map in turn
abbrev pub mixed_kind : ℕ → Kind
mixed_kind x =
    if x % 5 == 0 then Queue
    else if x % 5 == 1 then Stack
    else if x % 5 == 2 then Heap
    else if x % 5 == 3 then Register
    else Map

-- the kind of the object x
abbrev pub kind_in : Kinds → ℕ → Kind
kind_in (One kind) x = kind
kind_in Mixed x = mixed_kind x

-- the kinds of n objects
abbrev pub kinds_of : Kinds → ℕ → List Kind
kinds_of kinds n = map (kind_in kinds) (range_with_len 0 n)

-- the kinds with this name
abbrev pub kinds_named : List ℕ → Option Kinds
kinds_named k =
    if bytes_eq k (codes "queue") then Some (One Queue)
    else if bytes_eq k (codes "stack") then Some (One Stack)
    else if bytes_eq k (codes "heap") then Some (One Heap)
    else if bytes_eq k (codes "register") then Some (One Register)
    else if bytes_eq k (codes "map") then Some (One Map)
    else if bytes_eq k (codes "mutex") then Some (One Mutex)
    else if bytes_eq k (codes "set") then Some (One Set)
    else if bytes_eq k (codes "counter") then Some (One Counter)
    else if bytes_eq k (codes "lock") then Some (One Lock)
    else if bytes_eq k (codes "mixed") then Some Mixed
    else None
