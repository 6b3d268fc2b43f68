-- The first fault of a list of forms stays so, whatever follows.
use Rattle.std.proofs.Common.{ℕ, List, [], ◌∷◌, ◌++◌, ap, ◌∙◌, append_assoc}
use Rattle.edn_reader.specs.Datum.{Datum}
use Rattle.edn.specs.FirstFaults.{IsFirstFaultBy}

-- the first fault of forms is the first also with one more form at the end
pub first_more : {Kind : Type 0} {IsFault : List Datum → Datum → Kind → Type 0} {number_of : Kind → ℕ}
    (ds : List Datum) (d : Datum) (at : ℕ)
    (kind : Kind) → IsFirstFaultBy IsFault number_of ds at kind
    → IsFirstFaultBy IsFault number_of (ds ++ d ∷ []) at kind
first_more ds d at kind h = record {
  earlier = h.earlier;
  form = h.form;
  later = h.later ++ d ∷ [];
  split = ap (λ (xs : List Datum). xs ++ d ∷ []) h.split ∙ append_assoc h.earlier (h.form ∷ h.later) (d ∷ []);
  place = h.place;
  stands = h.stands;
  faultless = h.faultless;
  least = h.least;
}
