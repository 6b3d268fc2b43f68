-- Several facts that hold after an `Ok`, or after an `Err`, taken together.
use Rattle.std.proofs.Common.{Result, Ok, Err, OnOk, IfErr}

pub of_three : {T E P Q R S : Type 0} (r : Result T E) → (P → Q → R → S) → OnOk r P → OnOk r Q → OnOk r R → OnOk r S
of_three (Ok x) f p q r = f p q r
of_three (Err e) f p q r = tt

pub of_errors : {T E : Type 0} {P Q R : E → Type 0} (r : Result T E) → ((e : E) → P e → Q e → R e) → IfErr r P
    → IfErr r Q → IfErr r R
of_errors (Ok x) f p q = tt
of_errors (Err e) f p q = f e p q
