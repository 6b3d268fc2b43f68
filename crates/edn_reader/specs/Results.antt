-- No public clause speaks of this. How a result of the reader stands to what its definition in
-- `Reading` gives.
use Rattle.std.specs.Prelude.{◌≡◌, Option, Some, None, IsSome, Result, MatchResult}
use Rattle.edn_reader.specs.declared.fault.Cause.{Cause}
use Rattle.edn_reader.specs.declared.fault.Cause.TheVariants.{NoMemory}

-- An error says that nothing is expected, but an allocation failure that something is.
abbrev pub Denies : {B : Type 0} → Cause → Option B → Type 0
Denies e expected = ((e ≡ NoMemory → ⊥) → expected ≡ None) × (e ≡ NoMemory → IsSome expected)

-- the value became what is expected, unless an allocation failed
abbrev pub Becomes : {B : Type 0} → Result (Unit {0}) Cause → Option B → B → Type 0
Becomes r expected new = MatchResult r (λ _. expected ≡ Some new) (λ e. Denies e expected)
