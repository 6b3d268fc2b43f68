-- A full history is linearizable exactly where each shard is: by locality and its converse, since an object has the
-- same calls and the same kind in its shard as in the full history, and so the same valid orders, whatever its name is
-- there.
use Rattle.std.proofs.Common.{◌≡◌, ◌↔◌, ℕ, ◌==◌, Bool, true, List, [], ◌∷◌, refl, ap, sym, ◌∙◌, arith}
use Rattle.std.proofs.lemmas.Bool.{eq-eqb}
use Rattle.std.proofs.lemmas.Bool.Decides.{nat_tests}
use Rattle.model.specs.Orders.{calls_on}
use Rattle.model.proofs.Lists.{in_filter_passes}
use Rattle.events.specs.declared.event.Event.{Event}
use Rattle.events.specs.Events.{denoted, kind_of_object, IsProper}
use Rattle.events.specs.Operations.{calls_of}
use Rattle.events.proofs.ProcessRuns.{idle, runs_from_start}
use Rattle.events.proofs.Calls.{proper_calls}
use Rattle.events.proofs.Owned.{operations_owned}
use Rattle.shards.specs.Shards.{events_on, renamed, AreApart, AreShards, DenoteLinearizable}
use Rattle.shards.proofs.Naming.{named_on}
use Rattle.shards.proofs.Proper.{proper_on}
use Rattle.shards.proofs.RenamedObjects.{HaveOwnNames, OrderedAt, linearizable_by, ordered_same, orders_of}
use Rattle.shards.proofs.RenamedObjects.{renamed_proper, renamed_linearizable, linearizable_renamed}
use Rattle.shards.proofs.Renumbered.{same_from, proper_renumbered, linearizable_same}

-- an object has the same calls among the events on objects with it
calls_kept : (has : ℕ → Bool) (x : ℕ) (es : List Event) → has x ≡ true → IsProper es
    → calls_on x (denoted (events_on has es)) ≡ calls_on x (denoted es)
calls_kept has x es own proper =
    sym (proper_calls (events_on has es) (proper_on has es proper) x)
    ∙ (ap calls_of (operations_owned has x es own (λ p. (idle, runs_from_start es p proper)))
    ∙ proper_calls es proper x)

-- An object has the same kind among the events on objects with it.
kind_kept : (has : ℕ → Bool) (x : ℕ) (es : List Event) → has x ≡ true → kind_of_object (events_on has es) x
    ≡ kind_of_object es x
kind_kept has x [] own = refl
kind_kept has x (e ∷ es) own = grind (arith, nat_tests, kind_kept has x es own)

-- An object that has a valid order among all events has one among the events on objects with it.
order_kept : (has : ℕ → Bool) (x : ℕ) (es : List Event) → has x ≡ true → IsProper es → OrderedAt es x
    → OrderedAt (events_on has es) x
order_kept has x es own proper =
    ordered_same es (events_on has es) x x (sym (kind_kept has x es own)) (sym (calls_kept has x es own proper))

order_found : (has : ℕ → Bool) (x : ℕ) (es : List Event) → has x ≡ true → IsProper es → OrderedAt (events_on has es) x
    → OrderedAt es x
order_found has x es own proper =
    ordered_same (events_on has es) es x x (kind_kept has x es own) (calls_kept has x es own proper)

-- the events on some objects of a linearizable full history
part_linearizable : (has : ℕ → Bool) (es : List Event) → IsProper es → DenoteLinearizable es
    → DenoteLinearizable (events_on has es)
part_linearizable has es proper l = linearizable_by (events_on has es) (proper_on has es proper)
    (λ e i.
    let own = in_filter_passes (λ d. has d.object) e es i in
    order_kept has e.object es own proper (orders_of es proper l e.object))

-- a full history, where the part with each object is linearizable
whole_linearizable : (has : ℕ → ℕ → Bool) (es : List Event) → IsProper es → ((x : ℕ) → has x x ≡ true)
    → ((x : ℕ) → DenoteLinearizable (events_on (has x) es)) → DenoteLinearizable es
whole_linearizable has es proper own each = linearizable_by es proper (λ e i.
    let x = e.object in
    order_found (has x) x es (own x) proper
    (orders_of (events_on (has x) es) (proper_on (has x) es proper) (each x) x))

-- ---- shards

module _ (shard_of name : ℕ → ℕ) (es : List Event) (shards : ℕ → List Event) (proper : IsProper es)
    (apart : AreApart shard_of name es) (are : AreShards shard_of name es shards) where
  abbrev part : ℕ → List Event
  part s = events_on (λ x. shard_of x == s) es

  part_proper : (s : ℕ) → IsProper (part s)
  part_proper s = proper_on (λ x. shard_of x == s) es proper

  -- the objects of one shard have names of their own
  own_names : (s : ℕ) → HaveOwnNames name (part s)
  own_names s x y m n =
      let there = named_on shard_of s x es m in
      let here = named_on shard_of s y es n in
      apart x y there.0 here.0 (there.1 ∙ sym here.1)

  pub proper_shards : (s : ℕ) → IsProper (shards s)
  proper_shards s = proper_renumbered (renamed name (part s)) (shards s)
      (renamed_proper name (part s) (part_proper s) (own_names s)) (are s)

  -- a history is linearizable exactly if the history of each shard is
  pub decided_by_shards : DenoteLinearizable es ↔ ((s : ℕ) → DenoteLinearizable (shards s))
  decided_by_shards = (
    λ l s.
        let own = renamed name (part s) in
        linearizable_same own (shards s) (same_from own (shards s) (sym (are s).same))
        (renamed_linearizable name (part s) (part_proper s) (own_names s)
        (part_linearizable (λ x. shard_of x == s) es proper l)),
    λ each. whole_linearizable (λ x y. shard_of y == shard_of x) es proper
        (λ x. eq-eqb (shard_of x) (shard_of x) refl)
        (λ x.
        let s = shard_of x in
        let own = renamed name (part s) in
        linearizable_renamed name (part s) (part_proper s) (own_names s)
        (linearizable_same (shards s) own (same_from (shards s) own (are s).same) (each s))),
  )
