-- Which of a list of forms is the first with a fault, when a fault is one of a form after those
-- before it.
use Rattle.std.specs.Prelude.{◌≡◌, ℕ, ◌≤◌, List, ◌∷◌, ◌++◌, length}
use Rattle.edn_reader.specs.Datum.{Datum}

-- no form is faulty
abbrev pub AreFaultless : {Kind : Type 0} → (List Datum → Datum → Kind → Type 0) → List Datum
    → Type 0
AreFaultless {Kind} IsFault ds =
    (earlier later : List Datum) (d : Datum) (kind : Kind) → ds ≡ earlier ++ d ∷ later
    → IsFault earlier d kind → ⊥

-- the first fault: that of the first faulty form, and of the faults there that of the least number
pub record IsFirstFaultBy {Kind : Type 0} (IsFault : List Datum → Datum → Kind → Type 0)
    (number_of : Kind → ℕ) (ds : List Datum) (at : ℕ) (kind : Kind) : Type 0 where
  pub earlier : List Datum
  pub form : Datum
  pub later : List Datum
  pub split : ds ≡ earlier ++ form ∷ later
  pub place : length earlier ≡ at
  pub stands : IsFault earlier form kind
  pub faultless : AreFaultless IsFault earlier
  pub least : (other : Kind) → IsFault earlier form other → number_of kind ≤ number_of other

-- there is a form at this place, and no form before it is faulty
pub record AreSoundBefore {Kind : Type 0} (IsFault : List Datum → Datum → Kind → Type 0)
    (ds : List Datum) (place : ℕ) : Type 0 where
  pub earlier : List Datum
  pub form : Datum
  pub later : List Datum
  pub split : ds ≡ earlier ++ form ∷ later
  pub place_is : length earlier ≡ place
  pub faultless : AreFaultless IsFault earlier
