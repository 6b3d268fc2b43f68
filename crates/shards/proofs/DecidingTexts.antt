-- What a split denotes: each shard denotes the events on its objects, renamed and renumbered; so the shards decide
-- whether the full history is linearizable. A text denotes one list of forms only.
use Rattle.std.proofs.Common.{◌≡◌, ◌↔◌, ℕ, ◌==◌, ◌⊎◌, inl, inr, Bool, List, [], map, refl, sym, ◌∙◌, subst}
use Rattle.edn_reader.specs.Datum.{Datum}
use Rattle.edn_reader.specs.Spells.{Spells}
use Rattle.edn_reader.proofs.Progress.{one_reading_of}
use Rattle.events.specs.declared.event.Event.{Event}
use Rattle.history.specs.Denotes.{events_of_forms}
use Rattle.shards.specs.Shards.{AreShards, DenoteLinearizable}
use Rattle.shards.proofs.WholeAndShards.{decided_by_shards}
use Rattle.reading.specs.Texts.{IsLinearizableText, IsNotLinearizableText}
use Rattle.history.proofs.MapLimit.{at_any_length}
use Rattle.history.proofs.Reading.{nothing_faulty}
use Rattle.edn_reader.proofs.Joined.{nothing_spelled}
use Rattle.history.specs.Faults.{IsFaultlessAtAnyLength, IsMapFault}
use Rattle.history.proofs.Proper.{proper_at_any_length}
use Rattle.shards.specs.ShardTexts.{SpelledMap, IsSplit, IsLinearizableAtAnyLength, IsShardOf, TextDenotes}
use Rattle.shards.proofs.RenamedForms.{own_faultless, own_forms_on, own_said}
use Rattle.shards.proofs.WorkedShards.{nothing-linearizable}
use Rattle.shards.proofs.WrittenShards.{shard_spells}

-- the objects of a shard
abbrev objects_of : (ℕ → ℕ) → ℕ → ℕ → Bool
objects_of shard_of s x = shard_of x == s

abbrev forms_of : {shard_of name : ℕ → ℕ} {whole : List ℕ} {shards : ℕ → List ℕ}
    → IsSplit shard_of name whole shards → List Datum
forms_of h = map (λ (m : SpelledMap). m.form) h.maps

-- a text denotes what its one list of forms denotes
one_denoted : (text : List ℕ) (es : List Event) (ds : List Datum) → TextDenotes text es → Spells ds text
    → es ≡ events_of_forms 0 ds
one_denoted text es ds d spelled = rw (← one_reading_of d.forms ds text d.spelled spelled) d.denoted.events

-- a text denotes the events of forms without a fault that it spells
denotes : (text : List ℕ) (ds : List Datum) → Spells ds text → IsFaultlessAtAnyLength ds
    → TextDenotes text (events_of_forms 0 ds)
denotes text ds spelled faultless =
    record { forms = ds; spelled = spelled; denoted = record { faultless = faultless; events = refl } }

module _ {shard_of name : ℕ → ℕ} {whole : List ℕ} {shards : ℕ → List ℕ}
    (h : IsSplit shard_of name whole shards) where
  abbrev own_forms : ℕ → List Datum
  own_forms s = own_forms_on (objects_of shard_of s) h.maps

  abbrev own_events : ℕ → List Event
  own_events s = events_of_forms 0 (own_forms s)

  faultless_in : (s : ℕ) → IsFaultlessAtAnyLength (own_forms s)
  faultless_in s = own_faultless shard_of name h.maps h.each h.faultless s h.apart

  own_spelled : (s : ℕ) → Spells (own_forms s) (shards s)
  own_spelled s = rw (h.texts s) (shard_spells name (objects_of shard_of s) h.maps h.each)

  own_denoted : (s : ℕ) → TextDenotes (shards s) (own_events s)
  own_denoted s = denotes (shards s) (own_forms s) (own_spelled s) (faultless_in s)

  abbrev whole_events : List Event
  whole_events = events_of_forms 0 (forms_of h)

  whole_denoted : TextDenotes whole whole_events
  whole_denoted = denotes whole (forms_of h) h.spelled h.faultless

  are_shards : AreShards shard_of name whole_events own_events
  are_shards s = record {
    same = own_said name (objects_of shard_of s) h.maps h.each;
    rising = (proper_at_any_length (own_forms s) (faultless_in s)).rising;
  }

  pub whole_is : (es : List Event) → TextDenotes whole es → es ≡ whole_events
  whole_is es d = one_denoted whole es (forms_of h) d h.spelled

  -- the text of a shard denotes the shard's events and no others
  pub own_is : (s : ℕ) (es : List Event) → TextDenotes (shards s) es → es ≡ own_events s
  own_is s es d = one_denoted (shards s) es (own_forms s) d (own_spelled s)

  -- the text of a shard is that of the full history's events on the shard's objects
  pub shard_is : (es : List Event) → TextDenotes whole es → (s : ℕ)
      → IsShardOf (λ x. shard_of x == s) name es (shards s)
  shard_is es d s = record {
    events = own_events s;
    denoted = own_denoted s;
    renumbered = rw (whole_is es d) (are_shards s);
  }

  -- a history is linearizable exactly if its shards are
  decided : DenoteLinearizable whole_events ↔ ((s : ℕ) → DenoteLinearizable (own_events s))
  decided = decided_by_shards shard_of name whole_events own_events (proper_at_any_length (forms_of h) h.faultless)
      h.apart are_shards

  -- each shard of a linearizable history is linearizable
  pub shards_of_linearizable : IsLinearizableAtAnyLength whole
      → (s : ℕ) → IsLinearizableAtAnyLength (shards s)
  shards_of_linearizable l s = record {
    events = own_events s;
    denoted = own_denoted s;
    linearizable = decided.0 (rw (whole_is l.events l.denoted) at l.linearizable) s;
  }

  -- a history is linearizable if each of its shards is
  pub linearizable_by_shards : ((s : ℕ) → IsLinearizableAtAnyLength (shards s))
      → IsLinearizableAtAnyLength whole
  linearizable_by_shards l = record {
    events = whole_events;
    denoted = whole_denoted;
    linearizable = decided.1 (λ s. rw (own_is s (l s).events (l s).denoted) at (l s).linearizable);
  }

-- ---- what `judge` says of a shard

-- what denotes a history within the limit denotes it at any length
at_length : (text : List ℕ) → IsLinearizableText text → IsLinearizableAtAnyLength text
at_length text l = record {
  events = l.client_events;
  denoted = record {
    forms = l.history_text.forms;
    spelled = l.history_text.spelled;
    denoted = record {
      faultless = at_any_length l.history_text.forms l.history_text.denoted.faultless;
      events = l.history_text.denoted.events;
    };
  };
  linearizable = l.linearizable;
}

nothing_linearizable : IsLinearizableAtAnyLength []
nothing_linearizable = record {
  events = [];
  denoted = denotes [] [] nothing_spelled (nothing_faulty IsMapFault);
  linearizable = nothing-linearizable;
}

judged : (text : List ℕ) → (text ≡ []) ⊎ IsLinearizableText text → IsLinearizableAtAnyLength text
judged text (inl e) = rw e nothing_linearizable
judged text (inr l) = at_length text l

-- a divided history is linearizable if each shard that has text is
pub linearizable_where_judged : (shard_of name : ℕ → ℕ) (whole : List ℕ) (shards : ℕ → List ℕ)
    → IsSplit shard_of name whole shards
    → ((s : ℕ) → (shards s ≡ []) ⊎ IsLinearizableText (shards s)) → IsLinearizableAtAnyLength whole
linearizable_where_judged shard_of name whole shards h each = linearizable_by_shards h (λ s. judged (shards s) (each s))

-- a text that denotes a history which is not linearizable denotes no other
refuted : (text : List ℕ) → IsNotLinearizableText text → IsLinearizableAtAnyLength text → ⊥
refuted text n l =
    let same = one_denoted text l.events n.history_text.forms l.denoted n.history_text.spelled in
    n.not_linearizable (subst DenoteLinearizable (same ∙ sym n.history_text.denoted.events) l.linearizable)

-- a divided history is not linearizable if one shard is not
pub refuted_by_shard : (shard_of name : ℕ → ℕ) (whole : List ℕ) (shards : ℕ → List ℕ)
    → IsSplit shard_of name whole shards
    → (s : ℕ) → IsNotLinearizableText (shards s) → IsLinearizableAtAnyLength whole → ⊥
refuted_by_shard shard_of name whole shards h s n l = refuted (shards s) n (shards_of_linearizable h l s)
