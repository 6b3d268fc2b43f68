-- The limits of a history in one text: a fault of a form is one at any length, or that of a great object, which is the
-- first of its faults, or that of too many maps, which is the last. So forms without a fault at any length have none
-- where they are not too many and name no great object, and no other forms have none.
use Rattle.std.proofs.Common.{◌≡◌, ℕ, ◌<◌, ◌≤◌, ◌⊎◌, ◌↔◌, inl, inr, zero, suc, List, [], ◌∷◌, ◌++◌, length, All}
use Rattle.std.proofs.Common.{refl, ap, sym, subst, arith, length-append}
use Rattle.model.specs.Lists.{In}
use Rattle.model.proofs.Lists.{all_from_in, all_at, in_middle, in_split}
use Rattle.edn_reader.specs.Datum.{Datum}
use Rattle.events.specs.declared.event.Event.{Event}
use Rattle.history.specs.declared.fault.HistoryFaultKind.{HistoryFaultKind}
use Rattle.history.specs.declared.fault.HistoryFaultKind.TheVariants.{NotAnOperation, TooMany, NoMemory}
use Rattle.history.specs.Faults.{max_maps, HasGreatObject, IsMapFault, IsHistoryFormFault, HasNoHistoryFault}
use Rattle.history.specs.Faults.{IsFaultlessAtAnyLength, history_fault_number}
use Rattle.history.specs.Denotes.{Denotes, DenotesAtAnyLength}
use Rattle.history.specs.Seen.{HasFirst, HasNoFault}

-- ---- of one form

fault_within : (ds : List Datum) (d : Datum) (k : HistoryFaultKind) → IsMapFault ds d k → IsHistoryFormFault ds d k
fault_within ds d k h = grind arith

-- a form on no great object
abbrev pub IsSmall : Datum → Type 0
IsSmall d = HasGreatObject d → ⊥

fault_or_limit : (ds : List Datum) (d : Datum) (k : HistoryFaultKind) → IsSmall d → IsHistoryFormFault ds d k
    → IsMapFault ds d k ⊎ ((k ≡ TooMany) × (max_maps ≤ length ds))
fault_or_limit ds d k small h = grind arith

before_limit : (ds : List Datum) (d : Datum) (k : HistoryFaultKind) → IsMapFault ds d k
    → history_fault_number k < history_fault_number TooMany
before_limit ds d k h = grind arith

-- no allocation failure is a fault
pub not_memory : (ds : List Datum) (d : Datum) (k : HistoryFaultKind) → IsMapFault ds d k → k ≡ NoMemory → ⊥
not_memory ds d k h q = let g : IsMapFault ds d NoMemory = subst (IsMapFault ds d) q h in g.2

-- an object past the greatest that a text names is the first fault of its form
pub great_first : (ds : List Datum) (d : Datum) → HasGreatObject d → HasFirst IsHistoryFormFault ds d NotAnOperation
great_first ds d great = record { stands = inr great; first = λ j f. grind arith }

-- the first fault of a form at any length is its first fault in one text, if its object is small
pub first_within : (ds : List Datum) (d : Datum) (k : HistoryFaultKind) → IsSmall d → HasFirst IsMapFault ds d k
    → HasFirst IsHistoryFormFault ds d k
first_within ds d k small h = record {
  stands = fault_within ds d k h.stands;
  first = λ j f. elim (fault_or_limit ds d j small f) [
    | inl g ↦ h.first j g
    | inr t ↦ let l = before_limit ds d k h.stands in
        rw t.0 (omega arith)
  ];
}

-- a form that is faultless apart from the limits of one text is faultless if it keeps them
pub none_within : (ds : List Datum) (d : Datum) → IsSmall d → HasNoFault IsMapFault ds d → length ds < max_maps
    → HasNoFault IsHistoryFormFault ds d
none_within ds d small none few k f = elim (fault_or_limit ds d k small f) [
  | inl g ↦ none k g
  | inr t ↦ let l = t.1 in omega arith
]

-- a form without another fault is one too many if there are as many before it as there may be
pub too_many_first : (ds : List Datum) (d : Datum) → IsSmall d → HasNoFault IsMapFault ds d → max_maps ≤ length ds
    → HasFirst IsHistoryFormFault ds d TooMany
too_many_first ds d small none many = record {
  stands = many;
  first = λ j f. elim (fault_or_limit ds d j small f) [
    | inl g ↦ absurd (none j g)
    | inr t ↦ rw t.0 (omega arith)
  ];
}

-- ---- of all forms

-- forms that are faultless in one text are so at any length
pub at_any_length : (ds : List Datum) → HasNoHistoryFault ds → IsFaultlessAtAnyLength ds
at_any_length ds h earlier later d k q f = h earlier later d k q (fault_within earlier d k f)

-- No form of a faultless history is on an object past the greatest.
pub small_objects : (ds : List Datum) → HasNoHistoryFault ds → All IsSmall ds
small_objects ds h = all_from_in IsSmall ds
    (λ d i great. let r = in_split d ds i in h r.0 r.1 d NotAnOperation r.2 (inr great))

-- forms that are faultless at any length are so in one text if they keep its limits
pub faultless_within : (ds : List Datum) → IsFaultlessAtAnyLength ds → length ds ≤ max_maps → All IsSmall ds
    → HasNoHistoryFault ds
faultless_within ds h few small earlier later d k q f =
    elim (fault_or_limit earlier d k (all_at IsSmall ds small d (subst (In d) (sym q) (in_middle d earlier later))) f) [
      | inl g ↦ h earlier later d k q g
      | inr t ↦
          let long = ap length q in
          let split = length-append earlier (d ∷ later) in
          let many = t.1 in
          absurd (omega arith)
    ]

-- where no form has that many before it, there are no more forms than that
few : (n : ℕ) (ds : List Datum) → ((earlier later : List Datum) (d : Datum) → ds ≡ earlier ++ d ∷ later
    → n ≤ length earlier → ⊥)
    → length ds ≤ n
few n [] h = omega arith
few zero (d ∷ ds) h = absurd (h [] ds d refl (omega arith))
few (suc n) (d ∷ ds) h =
    let rest = few n ds (λ earlier later e q l. h (d ∷ earlier) later e (ap (λ (xs : List Datum). d ∷ xs) q)
    (omega arith)) in
    omega arith

-- forms denote events in one text exactly if they do so at any length and keep the limits of one text
pub only_limits : (ds : List Datum) (es : List Event)
    → Denotes ds es ↔ (DenotesAtAnyLength ds es × (length ds ≤ max_maps) × All IsSmall ds)
only_limits ds es = (
  λ h. (
    record { faultless = at_any_length ds h.faultless; events = h.events },
    few max_maps ds (λ earlier later d q l. h.faultless earlier later d TooMany q l),
    small_objects ds h.faultless,
  ),
  λ h. record { faultless = faultless_within ds h.0.faultless h.1 h.2; events = h.0.events },
)
