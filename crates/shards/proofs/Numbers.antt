-- Events that get the numbers of a list are renumbered: they say what they said, and their numbers rise, or the list
-- does not fit. A table is written line by line. By steps of loops, an event or a number at a time.
use Rattle.std.proofs.Common.{◌≡◌, ℕ, ◌+◌, ◌<◌, ◌≤◌, List, [], ◌∷◌, ◌++◌, length, get_or, map, take}
use Rattle.std.proofs.Common.{All, AllPairs, refl, arith}
use Rattle.std.proofs.lemmas.List.{get_or-map, length-map, map_more}
use Rattle.std.proofs.lemmas.List.Elements.{All-push, All-weaker}
use Rattle.std.proofs.lemmas.List.Quantifiers.{all_pairs_push}
use Rattle.events.specs.declared.event.Event.{Event}
use Rattle.shards.specs.Shards.{AreRenumbered, said}
use Rattle.shards.specs.Dividing.{numbered_by, table_text, with_numbers}
use Rattle.shards.specs.Tables.{AreShort, FitsTable}

-- ---- events

-- events say the same under other numbers
pub said_same : (ns : List ℕ) (es : List Event) → map said (with_numbers ns es) ≡ map said es
said_same ns [] = refl
said_same ns (e ∷ es) = rw (said_same ns es)

-- one event more
pub event_more : (ns : List ℕ) (es : List Event) (i : ℕ) (d : Event) (vs ws : List Event) → i < length es
    → vs ≡ with_numbers ns (take i es) → ws ≡ vs ++ numbered_by ns (get_or es i d) ∷ []
    → ws ≡ with_numbers ns (take (i + 1) es)
event_more ns es i d vs ws less so_far more =
    rw (map_more (numbered_by ns) es i d less, ← so_far) more

-- events whose numbers rise, and are all below the next
pub record RiseBelow (next : ℕ) (es : List Event) : Type 0 where
  pub below : All (λ e. e.number < next) es
  pub rising : AllPairs (λ a b. a.number < b.number) es

pub rise_further : (es : List Event) (e : Event) (next : ℕ) → RiseBelow next es → next ≤ e.number
    → RiseBelow (e.number + 1) (es ++ e ∷ [])
rise_further es e next h far = record {
  below = All-push (λ d. d.number < e.number + 1) es e
      (All-weaker (λ d. d.number < next) (λ d. d.number < e.number + 1) (λ d less. omega arith) es h.below)
      (omega arith);
  rising = all_pairs_push (λ a b. a.number < b.number) es e h.rising
      (λ k d less. let low = h.below k d less in omega arith);
}

-- ---- a table that does not fit

-- the number that an event in this place gets
abbrev pub number_of : List ℕ → List Event → ℕ → Event → ℕ
number_of ns es k d = get_or ns (get_or es k d).number 0

-- the next number is no greater than one that is above those of the first events
abbrev pub IsDue : List ℕ → List Event → ℕ → ℕ → Type 0
IsDue ns es i next = (n : ℕ) → ((k : ℕ) (d : Event) → k < i → number_of ns es k d < n) → next ≤ n

pub due_more : (ns : List ℕ) (es : List Event) (i next : ℕ) (d : Event) → next ≡ number_of ns es i d + 1
    → IsDue ns es (i + 1) next
due_more ns es i next d is n h = let own = h i d (omega arith) in omega arith

-- where numbers rise along the events, an earlier event has a lower one
numbers_rise : (ns : List ℕ) (es : List Event) (i j : ℕ) (d e : Event) → i < j → j < length es
    → AllPairs (λ a b. a.number < b.number) (with_numbers ns es) → number_of ns es i d < number_of ns es j e
numbers_rise ns es i j d e less within rising =
    let f = numbered_by ns in
    let long = length-map es f in
    rw (get_or-map f es i d d (omega arith), get_or-map f es j e d within) at (rising i j d less (omega arith))

-- where the numbers of all events rise, none is below the next
pub no_misfit : (ns : List ℕ) (es : List Event) (i next : ℕ) (d : Event) → i < length es → IsDue ns es i next
    → ((get_or es i d).number < length ns → number_of ns es i d < next)
    → All (λ e. e.number < length ns) es → AllPairs (λ a b. a.number < b.number) (with_numbers ns es) → ⊥
no_misfit ns es i next d within due low placed rising =
    let below = low (placed i d within) in
    let above = due (number_of ns es i d) (λ k e less. numbers_rise ns es k i e d less within rising) in
    omega arith

pub fits : (ns table : List ℕ) (es others : List Event) → table_text ns ≡ table → AreShort ns → length ns ≡ length es
    → others ≡ with_numbers ns es → All (λ e. e.number < length ns) es
    → AllPairs (λ a b. a.number < b.number) others → FitsTable ns table es
fits ns table es others written short one_each are placed rising =
    let renumbered : AreRenumbered es (with_numbers ns es) =
    record { same = said_same ns es; rising = rw are at rising } in
    assumption
