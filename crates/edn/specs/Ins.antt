-- What a source over a supply is made of, and why it fails.
use Rattle.std.specs.Prelude.{◌≡◌, ℕ, Bool, true, false, Option, Some, Result, Err, is_some}
use Rattle.std.specs.declared.io.ErrorKind.{ErrorKind}
use Rattle.std.specs.declared.io.ErrorKind.TheVariants.{OutOfMemory}
use Rattle.edn.specs.declared.source.In.{In}

-- the supply from which a source takes its bytes
abbrev pub supply_of : {D : Type 0} → In D → D
supply_of source = source.supply

-- the kind of the error for which the source failed, if it failed
abbrev pub failure_in : {D : Type 0} → In D → Option ErrorKind
failure_in source = source.failure

-- whether the source has failed
abbrev pub has_failed_in : {D : Type 0} → In D → Bool
has_failed_in source = is_some (failure_in source)

-- whether a source failed because an allocation failed
abbrev pub is_allocation_failure : Option ErrorKind → Bool
is_allocation_failure (Some OutOfMemory) = true
is_allocation_failure failure = false

-- the supply failed in a call for a buffer of this length, for the reason that the source keeps
pub record IsFailedRead {D : Type 0} (answers : D → ℕ → Result ℕ ErrorKind → D → Type 0)
    (old : In D) (length : ℕ) (new : In D) : Type 0 where
  pub kind : ErrorKind
  pub answered : answers (supply_of old) length (Err kind) (supply_of new)
  pub failure : failure_in new ≡ Some kind
