-- What is wrong with a text of claims.
use Rattle.std.specs.Prelude.{◌≡◌, ◌≢◌, ℕ, List}
use Rattle.edn_reader.specs.Datum.{Datum}
use Rattle.edn_reader.specs.Sound.{IsReadingFault, SpellsWithFault}
use Rattle.verifying.specs.Faults.{IsFirstFault, AreClaimsSoundBefore}
use Rattle.verifying.specs.declared.fault.ClaimFault.{ClaimFault}
use Rattle.verifying.specs.declared.fault.ClaimFaultKind.TheVariants.{NoMemory}
use Rattle.verifying.specs.declared.fault.ClaimTextFault.{ClaimTextFault}
use Rattle.verifying.specs.declared.fault.ClaimTextFault.TheVariants.{Text, Forms}

-- The first fault of the forms; or an allocation failed for one of them, and before it there is
-- none.
abbrev pub IsClaimFaultIn : List Datum → ClaimFault → Type 0
IsClaimFaultIn ds f =
    (f.kind ≢ NoMemory → IsFirstFault ds f) × (f.kind ≡ NoMemory → AreClaimsSoundBefore ds f.form)

-- The text is unreadable, or an allocation failed for a token; or it is short and spells forms in
-- which this was found.
abbrev pub IsClaimTextFault : List ℕ → ClaimTextFault → Type 0
IsClaimTextFault text (Text e) = IsReadingFault text e
IsClaimTextFault text (Forms f) = SpellsWithFault IsClaimFaultIn text f
