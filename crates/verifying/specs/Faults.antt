-- What can be wrong with the forms of a text of claims, and which fault of it is the first.
use Rattle.std.specs.Prelude.{◌≡◌, ℕ, List, None, true, false}
use Rattle.edn_reader.specs.Datum.{Datum}
use Rattle.edn.specs.FirstFaults.{IsFirstFaultBy, AreSoundBefore}
use Rattle.verifying.specs.Denotes.{claim_in, names_order}
use Rattle.verifying.specs.declared.fault.ClaimFaultKind.{ClaimFaultKind}
use Rattle.verifying.specs.declared.fault.ClaimFaultKind.TheVariants.{NotACertificate, NotAReason}
use Rattle.verifying.specs.declared.fault.ClaimFaultKind.TheVariants.{NoMemory}
use Rattle.verifying.specs.declared.fault.ClaimFault.{ClaimFault}

-- an order of the kinds of faults; no two kinds are of one form
abbrev pub fault_rank : ClaimFaultKind → ℕ
fault_rank NotACertificate = 1
fault_rank NotAReason = 2
fault_rank NoMemory = 3

-- this is wrong with the form: it is not a certificate, or not a reason
abbrev pub IsClaimFault : List Datum → Datum → ClaimFaultKind → Type 0
IsClaimFault earlier d NotACertificate = (names_order d ≡ true) × (claim_in d ≡ None)
IsClaimFault earlier d NotAReason = (names_order d ≡ false) × (claim_in d ≡ None)
IsClaimFault earlier d NoMemory = ⊥

-- the first fault: that of the first form that is no claim
abbrev pub IsFirstFault : List Datum → ClaimFault → Type 0
IsFirstFault ds fault = IsFirstFaultBy IsClaimFault fault_rank ds fault.form fault.kind

-- there is a form at this place, and nothing is wrong with the forms before it
abbrev pub AreClaimsSoundBefore : List Datum → ℕ → Type 0
AreClaimsSoundBefore ds place = AreSoundBefore IsClaimFault ds place
