-- The check of one object is Ok exactly where its order is valid: a valid order has no fault, and is refused by an
-- allocation failure alone (`valid_is_ok`); an order without a fault is valid. By `Deciding` and `Exact`.
use Rattle.std.proofs.Common.{◌≡◌, ◌<◌, ℕ, ℤ, List, AllPairs, refl}
use Rattle.std.specs.Result.{IfErr, OnOk}
use Rattle.std.specs.declared.result.Result.{Result}
use Rattle.std.specs.declared.result.Result.TheVariants.{Ok, Err}
use Rattle.model.specs.declared.Kind.{Kind}
use Rattle.model.specs.Orders.{IsValidOrder}
use Rattle.model.proofs.Lists.{pairs_from_all}
use Rattle.events.specs.declared.operations.Operation.{Operation}
use Rattle.events.specs.Operations.{calls_of}
use Rattle.checker.specs.declared.refusal.Refusal.{Refusal}
use Rattle.checker.specs.declared.refusal.Refusal.TheVariants.{NoCertificate, StrangeObject, BadOrder, NoMemory}
use Rattle.checker.specs.declared.refusal.OrderFault.{OrderFault}
use Rattle.checker.specs.Faults.{IsFirstFault}
use Rattle.checker.specs.Refusals.{RefusesOrder}
use Rattle.checker.proofs.Exact.{fault_refutes}
use Rattle.checker.proofs.Finding.{rising_calls}

-- a valid order is refused by an allocation failure alone
pub valid_is_not_refused : (object : ℕ) (kind : Kind) (ops : List Operation) (order : List ℤ) (refusal : Refusal)
    → AllPairs (λ a b. a.number < b.number) ops
    → IsValidOrder kind (calls_of ops) order → RefusesOrder object kind (calls_of ops) order refusal
    → refusal ≡ NoMemory
valid_is_not_refused object kind ops order (BadOrder other fault) rising valid refused =
    absurd (fault_refutes kind (calls_of ops) order fault
    (rising_calls ops (pairs_from_all (λ a b. a.number < b.number) ops rising)) refused.1 valid)
valid_is_not_refused object kind ops order (NoCertificate other) rising valid refused = absurd refused
valid_is_not_refused object kind ops order (StrangeObject other) rising valid refused = absurd refused
valid_is_not_refused object kind ops order NoMemory rising valid refused = refl

-- A check of a valid order answers that it is valid, if no allocation fails.
pub valid_is_ok : (object : ℕ) (kind : Kind) (ops : List Operation) (order : List ℤ) (answer : Result Unit Refusal)
    → AllPairs (λ a b. a.number < b.number) ops
    → IsValidOrder kind (calls_of ops) order → IfErr answer (RefusesOrder object kind (calls_of ops) order)
    → IfErr answer (λ e. e ≡ NoMemory)
valid_is_ok object kind ops order (Ok u) rising valid refused = tt
valid_is_ok object kind ops order (Err e) rising valid refused =
    valid_is_not_refused object kind ops order e rising valid refused

-- nor has it a first fault
pub ok_is_faultless : (kind : Kind) (ops : List Operation) (order : List ℤ) (answer : Result Unit Refusal)
    → AllPairs (λ a b. a.number < b.number) ops → OnOk answer (IsValidOrder kind (calls_of ops) order)
    → OnOk answer ((f : OrderFault) → IsFirstFault kind (calls_of ops) order f → ⊥)
ok_is_faultless kind ops order (Ok u) rising valid =
    λ f h. fault_refutes kind (calls_of ops) order f
    (rising_calls ops (pairs_from_all (λ a b. a.number < b.number) ops rising)) h valid
ok_is_faultless kind ops order (Err e) rising valid = tt
