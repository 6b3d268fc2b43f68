-- One more piece that fits after the joined ones is joined to them (`joined_more`): what the piece says of a process
-- or an object that no earlier piece named is added (`taken_more`). By cases on whether the key was met.
use Rattle.std.proofs.Common.{◌≡◌, ℕ, ◌+◌, ◌≤◌, ◌⊎◌, inl, inr, false, List, ◌∷◌, ◌++◌, map, length, Option, None, All}
use Rattle.std.proofs.Common.{refl, arith}
use Rattle.std.specs.Option.{option_or, is_some}
use Rattle.std.proofs.lemmas.List.{length-append}
use Rattle.std.proofs.lemmas.List.Elements.{All-append}
use Rattle.number_map.specs.Lookup.{value_of}
use Rattle.model.specs.declared.Kind.{Kind}
use Rattle.model.specs.Lists.{In}
use Rattle.model.proofs.Lists.{in_from_contains, all_at}
use Rattle.edn_reader.specs.Datum.{Datum}
use Rattle.events.specs.Operations.{IsListed}
use Rattle.history.specs.declared.seen.Process.{Process}
use Rattle.history.specs.declared.piece.FirstMap.{FirstMap}
use Rattle.history.specs.declared.piece.ReadPiece.{ReadPiece}
use Rattle.history.specs.declared.seams.Seams.{Seams}
use Rattle.history.specs.declared.fault.HistoryFaultKind.{HistoryFaultKind}
use Rattle.history.specs.Faults.{max_maps}
use Rattle.history.specs.Seen.{IsProcessFault}
use Rattle.history.specs.Views.{map_type}
use Rattle.history.specs.Noting.{TakesOver, IsOneKind, shift_event}
use Rattle.history.specs.ReadPieces.{kept_after, IsAllowed, FitsAfter, IsOfForms, AreJoined}
use Rattle.history.proofs.MapLimit.{IsSmall, at_any_length, faultless_within, small_objects}
use Rattle.history.proofs.PieceMore.{seen_same}
use Rattle.history.proofs.PartEvents.{events_after}

-- ---- what is taken over from a piece

-- the value of a key is taken over, or the key is still to come
abbrev pub IsTakenOver : {V : Type 0} → (ℕ → Option V) → (ℕ → Option V) → (ℕ → Option V) → List ℕ → ℕ → Type 0
IsTakenOver old own now left k = (now k ≡ kept_after old own k) ⊎ ((now k ≡ old k) × In k left)

-- before any key is taken over, those of the list are still to be
pub taken_first : {V : Type 0} (old own : ℕ → Option V) (keys : List ℕ) (k : ℕ) → IsListed (own k) keys k
    → IsTakenOver old own old keys k
taken_first {V} old own keys k h = grind (arith, in_from_contains keys k)

-- a value that is taken over twice is the same
twice : {V : Type 0} (own old now : Option V) → (now ≡ option_or own old) ⊎ (now ≡ old) → option_or own now
    ≡ option_or own old
twice own old now h = grind arith

-- When the first key of a list is taken over, the later keys are what is left to take over.
pub taken_more : {V : Type 0} (old own now new : ℕ → Option V) (key : ℕ) (later : List ℕ) (k : ℕ)
    → TakesOver now own new key
    → IsTakenOver old own now (key ∷ later) k → IsTakenOver old own new later k
taken_more {V} old own now new key later k t h =
    let at_key = t.at_key in
    let others = t.others k in
    grind (arith, twice (own key) (old key) (now key))

-- ---- a piece that fits

pub fits : (read : ReadPiece) (es : List Datum) (processes : ℕ → Option Process) (kinds : ℕ → Option Kind)
    → IsOfForms read es
    → All (IsAllowed processes) read.firsts.items → All
    (λ x. IsOneKind (kinds x) (value_of read.seen.kinds x)) read.objects.items → FitsAfter read processes kinds
fits read es processes kinds h allowed one = record {
  allowed = allowed;
  of_kind = λ x kind q. elim (h.objects x) [
    | inl none ↦ absurd (cc (q, none))
    | inr c ↦ all_at (λ (y : ℕ). IsOneKind (kinds y) (value_of read.seen.kinds y)) read.objects.items one x
        (in_from_contains read.objects.items x c) kind q
  ];
}

-- ---- joined

-- a piece that fits is joined to what is kept of the pieces before it
pub joined_more : (old new : Seams) (read : ReadPiece) (ds es : List Datum) → AreJoined old ds → IsOfForms read es
    → All (IsAllowed (value_of old.seen.processes)) read.firsts.items
    → All (λ x. IsOneKind (value_of old.seen.kinds x) (value_of read.seen.kinds x)) read.objects.items
    → read.maps + old.maps ≤ max_maps
    → ((p : ℕ) → IsListed (value_of read.seen.processes p) (map (λ m. m.process) read.firsts.items) p
    → value_of new.seen.processes p ≡ kept_after (value_of old.seen.processes) (value_of read.seen.processes) p)
    → ((x : ℕ) → IsListed (value_of read.seen.kinds x) read.objects.items x
    → value_of new.seen.kinds x ≡ kept_after (value_of old.seen.kinds) (value_of read.seen.kinds) x)
    → new.events.items ≡ old.events.items ++ map (shift_event old.maps) read.events.items → new.maps
    ≡ old.maps + read.maps
    → AreJoined new (ds ++ es)
joined_more old new read ds es h p allowed one few processes kinds events maps =
    let counted : length ds ≡ old.maps = h.count in
    let own : read.maps ≡ length es = p.count in
    let whole = p.continues ds (value_of old.seen.processes) (value_of old.seen.kinds) h.kept
    (at_any_length ds h.faultless) (fits read es (value_of old.seen.processes)
    (value_of old.seen.kinds) p allowed one) in
    record {
      kept = seen_same (kept_after (value_of old.seen.processes) (value_of read.seen.processes))
          (value_of new.seen.processes)
          (kept_after (value_of old.seen.kinds) (value_of read.seen.kinds)) (value_of new.seen.kinds) (ds ++ es) whole.1
          (λ k. processes k (p.processes k)) (λ x. kinds x (p.objects x));
      faultless = faultless_within (ds ++ es) whole.0 (omega (arith, length-append ds es, few, counted, own))
          (All-append IsSmall ds es (small_objects ds h.faultless) p.small);
      events = rw (events, h.events, p.events, ← counted, events_after ds es) refl;
      count = omega (arith, length-append ds es, counted, own, maps);
    }

was_none : {X : Type 0} (o : Option X) → false ≡ is_some o → o ≡ None
was_none o q = grind arith

-- a process may do what its first map in the piece says, if no fault was found
pub allowed_at : (processes : ℕ → Option Process) (m : FirstMap) (kept : Option Process)
    (found : Option HistoryFaultKind) → kept ≡ processes m.process
    → false ≡ is_some found → IsProcessFault kept (map_type m.map_type) m.function m.object found
    → IsAllowed processes m
allowed_at processes m kept found is none h =
    rw (← is) (rw (was_none found none) at h)
