-- An object that fits among some shards is told by its shard and its name there. The name is the lower part of its
-- number, and the shard, less the name, is the upper part, up to the number of the shards.
use Rattle.std.proofs.Common.{◌≡◌, ℕ, ◌+◌, ◌-◌, ◌*◌, ◌/◌, ◌%◌, ◌<◌, inl, inr, ap, sym, ◌∙◌, arith}
use Rattle.std.proofs.lemmas.Bool.{cases_lt}
use Rattle.std.proofs.lemmas.Nat.{mod_below, div-add-mod', div-mul-add, mod-mul-add}
use Rattle.std.proofs.Math.Nat.{add_comm, add-mod_right, add-mod-mod, mod-eq_of_lt, mod-mod}
use Rattle.shards.specs.Dividing.{IsObjectOfShard, most_names, name_in_shard, object_named, shard_among}

-- the upper part, where it is less than the number of the shards
upper_with : (q b count : ℕ) → q < count → b < count → ((q + b) % count + (count - b)) % count ≡ q
upper_with q b count l k = elim (cases_lt (q + b) count) [
  | inl below ↦
      let sum : q + b + (count - b) ≡ q + count = omega (arith, k) in
      rw (mod-eq_of_lt below, sum, add-mod_right q count) (mod-eq_of_lt l)
  | inr above ↦
      let less : q + b - count < count = omega (arith, l, k, above) in
      let again : q + b ≡ (q + b - count) + count = omega (arith, above) in
      let low : (q + b) % count ≡ q + b - count =
      ap (λ n. n % count) again ∙ (add-mod_right (q + b - count) count ∙ mod-eq_of_lt less) in
      let sum : q + b - count + (count - b) ≡ q = omega (arith, k, above) in
      rw (low, sum) (mod-eq_of_lt l)
]

upper_is : (q r count : ℕ) → q < count → ((q + r) % count + (count - r % count)) % count ≡ q
upper_is q r count l =
    let some : 0 < count = omega (arith, l) in
    rw (← add-mod-mod q r count) (upper_with q (r % count) count l (mod_below r count some))

-- A number is found again from its shard and its name in the shard, for any number of names.
named_back : (most count x : ℕ) → x / most < count
    → ((((x / most + x % most) % count + (count - x % most % most % count)) % count) * most + x % most % most) ≡ x
named_back most count x l =
    rw (mod-mod x most, upper_is (x / most) (x % most) count l) (div-add-mod' x most)

pub own_name : (count x : ℕ) → x / most_names < count
    → object_named count (shard_among count x) (name_in_shard x) ≡ x
own_name count x l = named_back most_names count x l

pub told_apart : (count x y : ℕ) → x / most_names < count → y / most_names < count
    → shard_among count x ≡ shard_among count y → name_in_shard x ≡ name_in_shard y → x ≡ y
told_apart count x y l k shard name =
    sym (own_name count x l) ∙ rw (shard, name) (own_name count y k)

-- ---- the other way

lower_with : (s r count : ℕ) → s < count → r < count → ((s + (count - r)) % count + r) % count ≡ s
lower_with s r count l k =
    let sum : r + (s + (count - r)) ≡ s + count = omega (arith, k) in
    rw (add_comm ((s + (count - r)) % count) r, add-mod-mod r (s + (count - r)) count, sum, add-mod_right s count)
    (mod-eq_of_lt l)

-- the number of a shard and a name, with any number of names: its upper and its lower part
named_parts : (most q name : ℕ) → name < most
    → ((q * most + name % most) / most ≡ q) × ((q * most + name % most) % most ≡ name)
named_parts most q name k =
    let low : name % most ≡ name = mod-eq_of_lt k in
    let below : name % most < most = omega (arith, k, low) in (
      div-mul-add q most (name % most) below,
      mod-mul-add q most (name % most) below ∙ low,
    )

pub object_there : (count shard name : ℕ) → shard < count → name < most_names
    → IsObjectOfShard count shard name (object_named count shard name)
object_there count shard name l k =
    let some : 0 < count = omega (arith, l) in
    let r : ℕ = name % most_names % count in
    let q : ℕ = (shard + (count - r)) % count in
    let parts = named_parts most_names q name k in
    let small : name % most_names ≡ name = mod-eq_of_lt k in
    let own : r ≡ name % count = ap (λ n. n % count) small in
    record {
      fits = rw parts.0 (mod_below (shard + (count - r)) count some);
      in_shard = rw (parts.0, parts.1, ← add-mod-mod q name count, ← own)
          (lower_with shard r count l (mod_below (name % most_names) count some));
      by_name = parts.1;
    }
