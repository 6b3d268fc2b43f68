-- The calls that are drawn from a seed. Each client has a generator of its own: PCG's XSH RR 64/32,
-- whose state comes from the seed and whose stream is the client's number (O'Neill, "PCG: a family
-- of simple fast space-efficient statistically good algorithms for random number generation",
-- 2014). A number below another is drawn from one word, or two, by Canon's method, as `rand` does
-- it.
use Rattle.std.specs.Prelude.{ℕ, zero, suc, ◌%◌, ◌/◌, ◌^◌, ◌==◌, pos, List, [], ◌∷◌, if◌then◌else◌}
use Rattle.std.specs.Prelude.{◌≡◌, Option, Some, None}
use Rattle.rand_core.specs.Stream.{Stream, next_u32}
use Rattle.rand_core.specs.Steps.{stream_of, steps_u32}
use Rattle.rand_pcg.specs.Lcg.{Lcg, started, increment_of}
use Rattle.rand_pcg.specs.Pcg.{multiplier_64, pcg32}
use Rattle.rand.specs.Uniform.{canon}
use Rattle.model.specs.declared.Kind.{Kind}
use Rattle.model.specs.declared.AnyOp.{AnyOp}
use Rattle.seq_objects.specs.declared.kinds.Kinds.{Kinds}
use Rattle.seq_objects.specs.declared.kinds.Kinds.TheVariants.{One}
use Rattle.seq_objects.specs.Kinds.{kind_in}
use Rattle.model.specs.Objects.{kind_of}
use Rattle.clients.specs.declared.call_numbers.Draws.{Draws}
use Rattle.clients.specs.declared.kinds.Operations.{Operations}
use Rattle.clients.specs.declared.kinds.Operations.TheVariants.{Either, AnyOfThree, InTurn}
use Rattle.clients.specs.Kinds.{operations_with}
use Rattle.clients.specs.Workloads.{WorkCall}

-- the words that a generator will give from now on
abbrev pub stream_at : Lcg → Stream
stream_at g = stream_of (steps_u32 pcg32) g

-- a number below n, and the stream that is left
abbrev pub number_below : ℕ → Stream → ℕ × Stream
number_below n s = canon (2 ^ 32) next_u32 n s

-- the numbers of one call on one of this many objects: the object, the choice of an operation, and
-- two values
abbrev pub draws_from : ℕ → Stream → Draws × Stream
draws_from objects s =
    let object = number_below objects s in
    let choice = number_below 6 object.1 in
    let first = number_below 100 choice.1 in
    let second = number_below 100 first.1 in
    (record { object = object.0; choice = choice.0; first = first.0; second = second.0 }, second.1)

-- the operations are of this kind
abbrev pub AreOf : Kind → Operations → Type 0
AreOf kind (Either a b) = (kind_of a ≡ kind) × (kind_of b ≡ kind)
AreOf kind (AnyOfThree a b c) = (kind_of a ≡ kind) × (kind_of b ≡ kind) × (kind_of c ≡ kind)
AreOf kind (InTurn take free) = (kind_of take ≡ kind) × (kind_of free ≡ kind)

-- the operation at a place, counted around
abbrev pub operation_drawn : Operations → ℕ → AnyOp
operation_drawn (Either a b) place = if place % 2 == 0 then a else b
operation_drawn (AnyOfThree a b c) place =
    if place % 3 == 0 then a else if place % 3 == 1 then b else c
operation_drawn (InTurn take free) place = if place % 2 == 0 then take else free

-- the operation of an object of this kind that these numbers choose
abbrev pub op_for : Kind → Draws → AnyOp
op_for kind d = operation_drawn (operations_with kind (pos d.first) (pos d.second)) d.choice

-- this many calls on objects of these kinds, each made of numbers that are drawn from the stream
abbrev pub drawn_calls : Kinds → ℕ → ℕ → Stream → List WorkCall
drawn_calls kinds objects zero s = []
drawn_calls kinds objects (suc n) s =
    let d = draws_from objects s in
    (d.0.object, op_for (kind_in kinds d.0.object) d.0) ∷ drawn_calls kinds objects n d.1

-- This many pairs of calls: the first call of a pair takes an object, and the second frees it. The
-- object is drawn; the second call draws numbers too.
abbrev pub pairs_from : (take free : AnyOp) → ℕ → ℕ → Stream → List WorkCall
pairs_from take free objects zero s = []
pairs_from take free objects (suc n) s =
    let d = draws_from objects s in
    let e = draws_from objects d.1 in
    (d.0.object, take) ∷ (d.0.object, free) ∷ pairs_from take free objects n e.1

-- the stream of numbers that a client draws, by the seed and the client's number
abbrev pub stream_for : ℕ → ℕ → Stream
stream_for seed client = stream_at (started 64 multiplier_64 seed (increment_of 64 client))

-- the operations that take and free an object, if these are such a pair
abbrev pub pair_in : Operations → Option (AnyOp × AnyOp)
pair_in (InTurn take free) = Some (take, free)
pair_in operations = None

-- the pair that a client calls on objects of one kind that has pairs: both values are its number
abbrev pub pair_for : Kinds → ℕ → Option (AnyOp × AnyOp)
pair_for (One kind) client = pair_in (operations_with kind (pos client) (pos client))
pair_for kinds client = None

-- this many calls from a stream, or whole pairs of calls if there is a pair
abbrev pub calls_or_pairs : Option (AnyOp × AnyOp) → Kinds → ℕ → ℕ → Stream → List WorkCall
calls_or_pairs None kinds objects count s = drawn_calls kinds objects count s
calls_or_pairs (Some pair) kinds objects count s = pairs_from pair.0 pair.1 objects (count / 2) s

-- the calls of one client of a run, by the seed: this many that are drawn; if the objects are of a
-- kind that has pairs, half as many pairs
abbrev pub client_calls : Kinds → ℕ → ℕ → ℕ → ℕ → List WorkCall
client_calls kinds objects count seed client =
    calls_or_pairs (pair_for kinds client) kinds objects count (stream_for seed client)
