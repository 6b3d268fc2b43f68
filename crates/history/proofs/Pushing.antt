-- A value that was pushed, since no error was answered: by the two answers of a push.
use Rattle.std.proofs.Common.{◌≡◌, false, List}
use Rattle.std.specs.Prelude.{Result, Ok, Err, is_ok, is_err, if◌then◌else◌}

-- a vector to which something was pushed, if the push did not fail
pub pushed_unless : {T E X : Type 0} (r : Result T E) (new a b : List X) → is_err r ≡ false → new ≡
    (if is_ok r then a else b) → new ≡ a
pushed_unless (Ok y) new a b q h = h
pushed_unless (Err e) new a b q h = absurd (cc q)
