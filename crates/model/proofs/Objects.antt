-- The empty content of a kind is of this kind.
use Rattle.std.proofs.Common.{◌≡◌, refl}
use Rattle.model.specs.declared.Kind.{Kind}
use Rattle.model.specs.declared.Kind.TheVariants as kind
use Rattle.model.specs.Objects.{empty, kind_with}

-- the content of an empty object tells its kind
pub kind_of_empty : (k : Kind) → kind_with (empty k) ≡ k
kind_of_empty kind.Queue = refl
kind_of_empty kind.Stack = refl
kind_of_empty kind.Heap = refl
kind_of_empty kind.Register = refl
kind_of_empty kind.Map = refl
kind_of_empty kind.Mutex = refl
kind_of_empty kind.Set = refl
kind_of_empty kind.Counter = refl
kind_of_empty kind.Lock = refl
