-- What is wrong with a text of reasons.
use Rattle.std.specs.Prelude.{◌≡◌, ◌≢◌, ℕ, List}
use Rattle.edn_reader.specs.Datum.{Datum}
use Rattle.edn_reader.specs.Sound.{IsReadingFault, SpellsWithFault}
use Rattle.refutation.specs.Faults.{IsFirstFault, AreReasonsSoundBefore}
use Rattle.refutation.specs.declared.fault.ReasonFault.{ReasonFault}
use Rattle.refutation.specs.declared.fault.ReasonFaultKind.TheVariants.{NoMemory}
use Rattle.refutation.specs.declared.fault.ReasonTextFault.{ReasonTextFault}
use Rattle.refutation.specs.declared.fault.ReasonTextFault.TheVariants.{Text, Forms}

-- The first fault of the forms; or an allocation failed for one of them, and before it is no fault.
abbrev pub IsReasonFaultIn : List Datum → ReasonFault → Type 0
IsReasonFaultIn ds f =
    (f.kind ≢ NoMemory → IsFirstFault ds f) × (f.kind ≡ NoMemory → AreReasonsSoundBefore ds f.form)

-- The text is unreadable, or an allocation failed for a token; or it is short and spells forms in
-- which this was found.
abbrev pub IsReasonTextFault : List ℕ → ReasonTextFault → Type 0
IsReasonTextFault text (Text e) = IsReadingFault text e
IsReasonTextFault text (Forms f) = SpellsWithFault IsReasonFaultIn text f
