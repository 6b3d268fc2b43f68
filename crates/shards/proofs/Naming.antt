-- A shard names the objects that the full history names and that are in the shard, by their names there. Each
-- invocation in a shard is one of the full history with another number and name, and each one of the full history on an
-- object of the shard is in it.
use Rattle.std.proofs.Common.{◌≡◌, ◌↔◌, ℕ, ◌==◌, Bool, List, refl, ap, sym, ◌∙◌}
use Rattle.std.proofs.lemmas.Bool.{eqb-true, eq-eqb}
use Rattle.model.proofs.Lists.{in_filter, in_filter_passes, in_filter_from, in_map, in_map_from}
use Rattle.model.proofs.Lists.{contains_from_in, in_from_contains}
use Rattle.events.specs.declared.event.Event.{Event}
use Rattle.model.specs.Lists.{In}
use Rattle.events.specs.Events.{IsNamed}
use Rattle.shards.specs.Shards.{events_on, renamed, renamed_event, AreShards}
use Rattle.shards.proofs.Renumbered.{AreSame, same_from, in_same}

-- an object is named by any event that invokes the same on it
named_by : (es fs : List Event) (x y : ℕ) (n : IsNamed es x) (e : Event) → In e fs → e.object ≡ y
    → e.action ≡ n.event.action → IsNamed fs y
named_by es fs x y n e i own does = record {
  event = e;
  op = n.op;
  stands = contains_from_in fs e i;
  on_object = own;
  invokes = does ∙ n.invokes;
}

named_same : (es fs : List Event) (x : ℕ) → AreSame es fs → IsNamed fs x → IsNamed es x
named_same es fs x same n =
    let e = in_same es fs same n.event (in_from_contains fs n.event n.stands) in
    named_by fs es x x n e.0 e.1 (ap (λ t. t.1) e.2 ∙ n.on_object) (ap (λ t. t.2) e.2)

module _ (shard_of : ℕ → ℕ) (s x : ℕ) (es : List Event) where
  abbrev part : List Event
  part = events_on (λ y. shard_of y == s) es

  abbrev test : Event → Bool
  test e = shard_of e.object == s

  pub named_on : IsNamed part x → IsNamed es x × (shard_of x ≡ s)
  named_on n =
      let i = in_from_contains part n.event n.stands in (
        named_by part es x x n n.event (in_filter test n.event es i) n.on_object refl,
        ap shard_of (sym n.on_object) ∙ eqb-true (shard_of n.event.object) s (in_filter_passes test n.event es i),
      )

  named_there : IsNamed es x → shard_of x ≡ s → IsNamed part x
  named_there n q =
      let own = eq-eqb (shard_of n.event.object) s (ap shard_of n.on_object ∙ q) in
      named_by es part x x n n.event (in_filter_from test n.event es (in_from_contains es n.event n.stands) own)
      n.on_object refl

-- the object that has this name among renamed events
named_before : (name : ℕ → ℕ) (es : List Event) (y : ℕ) → IsNamed (renamed name es) y
    → (x : ℕ) × IsNamed es x × (name x ≡ y)
named_before name es y n =
    let e = in_map (renamed_event name) n.event es (in_from_contains (renamed name es) n.event n.stands) in (
      e.0.object,
      named_by (renamed name es) es y e.0.object n e.0 e.1 refl (sym (ap (λ (x : Event). x.action) e.2)),
      sym (ap (λ (x : Event). x.object) e.2) ∙ n.on_object,
    )

named_after : (name : ℕ → ℕ) (es : List Event) (x : ℕ) → IsNamed es x → IsNamed (renamed name es) (name x)
named_after name es x n = named_by es (renamed name es) x (name x) n (renamed_event name n.event)
    (in_map_from (renamed_event name) n.event es (in_from_contains es n.event n.stands)) (ap name n.on_object) refl

pub shards_name : (shard_of name : ℕ → ℕ) (es : List Event) (shards : ℕ → List Event)
    → AreShards shard_of name es shards → (s y : ℕ)
    → (IsNamed (shards s) y ↔ ((x : ℕ) × IsNamed es x × (shard_of x ≡ s) × (name x ≡ y)))
shards_name shard_of name es shards are s y =
    let part = events_on (λ x. shard_of x == s) es in
    let own = renamed name part in (
      λ n.
          let m = named_same own (shards s) y (same_from own (shards s) (sym (are s).same)) n in
          let before = named_before name part y m in
          let there = named_on shard_of s before.0 es before.1 in
          (before.0, there.0, there.1, before.2),
      λ n. named_same (shards s) own y (same_from (shards s) own (are s).same)
          (rw n.3 at (named_after name part n.0 (named_there shard_of s n.0 es n.1 n.2))),
    )
