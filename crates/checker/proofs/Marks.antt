-- The first unmarked operation that returned is the first that the order leaves out.
use Rattle.std.proofs.Common.{◌≡◌, ℕ, ◌<◌, Bool, true, false, List, length, is_some, get_or, ap, ◌∙◌}
use Rattle.std.proofs.lemmas.List.{get_or_default}
use Rattle.events.specs.declared.operations.Operation.{Operation}
use Rattle.events.specs.Operations.{return_of}
use Rattle.checker.specs.Ends.{AreMarked, IsFirstUnmarked}

pub first_unmarked : (ops : List Operation) (marks : List Bool) (k : ℕ) (d : Operation) → k < length ops
    → AreMarked ops marks k
    → is_some (return_of (get_or ops k d).«end») ≡ true → get_or marks k false ≡ false
    → IsFirstUnmarked ops marks (get_or ops k d).number
first_unmarked ops marks k d l before back fresh = record {
  place = k;
  within = l;
  before = before;
  returned = λ e. ap (λ (o : Operation). is_some (return_of o.«end»)) (get_or_default ops k e d l) ∙ back;
  unmarked = fresh;
  is = λ e. ap (λ (o : Operation). o.number) (get_or_default ops k d e l);
}
