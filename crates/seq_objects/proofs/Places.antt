-- Each function is at its own place among all (`get_or-place`), and there are 27. By cases on the function.
use Rattle.std.proofs.Common.{◌≡◌, ℕ, ◌<◌, get_or, refl, lit<}
use Rattle.seq_objects.specs.declared.function.Function.{Function}
use Rattle.seq_objects.specs.declared.function.Function.TheVariants.{Enqueue, Dequeue, Push, Pop, Insert, ExtractMin}
use Rattle.seq_objects.specs.declared.function.Function.TheVariants.{Write, Read, Cas, Put, Get, Del, Acquire, Release}
use Rattle.seq_objects.specs.declared.function.Function.TheVariants.{Clear, Create, PutIfAbsent, Replace, Assoc, Dissoc}
use Rattle.seq_objects.specs.declared.function.Function.TheVariants.{Add, Remove, Has, FetchAdd, GetCount, LockBy}
use Rattle.seq_objects.specs.declared.function.Function.TheVariants.{UnlockBy}
use Rattle.seq_objects.specs.Functions.{all_functions}

-- the place of a function in the list of all
abbrev pub place : Function → ℕ
place Enqueue = 0
place Dequeue = 1
place Push = 2
place Pop = 3
place Insert = 4
place ExtractMin = 5
place Write = 6
place Read = 7
place Cas = 8
place Put = 9
place Get = 10
place Del = 11
place Acquire = 12
place Release = 13
place Clear = 14
place Create = 15
place PutIfAbsent = 16
place Replace = 17
place Assoc = 18
place Dissoc = 19
place Add = 20
place Remove = 21
place Has = 22
place FetchAdd = 23
place GetCount = 24
place LockBy = 25
place UnlockBy = 26

pub place-below : (f : Function) → place f < 27
place-below f =
    elim f as (λ f. place f < 27) [
      | Enqueue ↦ lit< tt
      | Dequeue ↦ lit< tt
      | Push ↦ lit< tt
      | Pop ↦ lit< tt
      | Insert ↦ lit< tt
      | ExtractMin ↦ lit< tt
      | Write ↦ lit< tt
      | Read ↦ lit< tt
      | Cas ↦ lit< tt
      | Put ↦ lit< tt
      | Get ↦ lit< tt
      | Del ↦ lit< tt
      | Acquire ↦ lit< tt
      | Release ↦ lit< tt
      | Clear ↦ lit< tt
      | Create ↦ lit< tt
      | PutIfAbsent ↦ lit< tt
      | Replace ↦ lit< tt
      | Assoc ↦ lit< tt
      | Dissoc ↦ lit< tt
      | Add ↦ lit< tt
      | Remove ↦ lit< tt
      | Has ↦ lit< tt
      | FetchAdd ↦ lit< tt
      | GetCount ↦ lit< tt
      | LockBy ↦ lit< tt
      | UnlockBy ↦ lit< tt
    ]

-- the function at the place of a function is this function
pub get_or-place : (f d : Function) → get_or all_functions (place f) d ≡ f
get_or-place f d =
    elim f as (λ f. get_or all_functions (place f) d ≡ f) [
      | Enqueue ↦ refl
      | Dequeue ↦ refl
      | Push ↦ refl
      | Pop ↦ refl
      | Insert ↦ refl
      | ExtractMin ↦ refl
      | Write ↦ refl
      | Read ↦ refl
      | Cas ↦ refl
      | Put ↦ refl
      | Get ↦ refl
      | Del ↦ refl
      | Acquire ↦ refl
      | Release ↦ refl
      | Clear ↦ refl
      | Create ↦ refl
      | PutIfAbsent ↦ refl
      | Replace ↦ refl
      | Assoc ↦ refl
      | Dissoc ↦ refl
      | Add ↦ refl
      | Remove ↦ refl
      | Has ↦ refl
      | FetchAdd ↦ refl
      | GetCount ↦ refl
      | LockBy ↦ refl
      | UnlockBy ↦ refl
    ]
