-- What a source gave.
use Rattle.std.specs.Prelude.{◌≡◌, ◌<◌, ◌≤◌, ℕ, List, length, take, Option}
use Rattle.std.specs.Io.KnownBytes.{Consumes, IsAtEnd}

-- the bytes at the beginning of the buffer were the next that were left, and none only at the end
pub record GivesBytes (old new : Option (List ℕ)) (buf : List ℕ) (n : ℕ) : Type 0 where
  pub consumed : Consumes old new (take n buf)
  pub ended : n ≡ 0 → 0 < length buf → IsAtEnd new

-- What was read of a source: the next bytes that were left, to the end or to the limit.
pub record WasRead (limit : ℕ) (old new : Option (List ℕ)) (bytes : List ℕ) : Type 0 where
  pub consumed : Consumes old new bytes
  pub within : length bytes ≤ limit
  pub whole : length bytes < limit → IsAtEnd new
