-- Which statuses have a number: of 0 and 1 one each.
use Rattle.std.proofs.Common.{arith, ◌≡◌}
use Rattle.history_commands.specs.Outputs.{status_number}
use Rattle.history_commands.specs.declared.status.Status.{Status}
use Rattle.history_commands.specs.declared.status.Status.TheVariants.{Yes, No}

-- the number of a yes is that of no other status
pub yes_by_number : (status : Status) → status_number status ≡ status_number Yes → status ≡ Yes
yes_by_number status e = grind arith

-- the number of a no is that of no other status
pub no_by_number : (status : Status) → status_number status ≡ status_number No → status ≡ No
no_by_number status e = grind arith
