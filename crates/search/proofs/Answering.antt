-- A search of an order answers for an object: found, with a valid order; impossible, if there is none; or where it
-- ended (`answer_from`). By cases on the outcome.
use Rattle.std.proofs.Common.{◌≡◌, ℕ, ◌<◌, ◌≤◌, List, length, Any, IsSome, refl}
use Rattle.std.specs.Prelude.{◌↔◌}
use Rattle.model.specs.declared.Kind.{Kind}
use Rattle.model.specs.Orders.{Call, IsValidOrder, HasNoValidOrder}
use Rattle.order_search.specs.declared.order_search.OrderSearch.{OrderSearch}
use Rattle.order_search.specs.declared.order_search.OrderOutcome.{OrderOutcome}
use Rattle.order_search.specs.declared.order_search.OrderOutcome.TheVariants as outcome
use Rattle.order_search.specs.Outcomes.{max_operations}
use Rattle.order_search.specs.Outcomes as order
use Rattle.search.specs.declared.certificate_search.CertificateOutcome.TheVariants.{TooLarge}
use Rattle.search.specs.Answers.{IsSearchAnswer, IsSoundAnswer, search_for, outcome_for}

-- what a search found is a sound answer: of each outcome, what it promises
sound_from : (object : ℕ) (kind : Kind) (calls : List Call) (limit : ℕ) (o : OrderOutcome) (steps : ℕ)
    → order.IfFound o (IsValidOrder kind calls)
    → (o ≡ outcome.Impossible → HasNoValidOrder kind calls) → steps ≤ limit → (o ≡ outcome.OutOfSteps → steps ≡ limit)
    → (o ≡ outcome.NoMemory → Any (λ call. IsSome call.returned) calls)
    → IsSoundAnswer object kind calls limit (search_for object (record { outcome = o; steps = steps }))
sound_from object kind calls limit (outcome.Found order) steps f i s out memory =
    record { found = (refl, f); impossible = λ e. cc; steps = s; out_of_steps = λ e. cc; memory = λ e. cc }
sound_from object kind calls limit outcome.Impossible steps f i s out memory =
    record { found = tt; impossible = λ e. i refl; steps = s; out_of_steps = λ e. cc; memory = λ e. cc }
sound_from object kind calls limit outcome.OutOfSteps steps f i s out memory =
    record { found = tt; impossible = λ e. cc; steps = s; out_of_steps = λ e. out refl; memory = λ e. cc }
sound_from object kind calls limit outcome.TooLarge steps f i s out memory =
    record { found = tt; impossible = λ e. cc; steps = s; out_of_steps = λ e. cc; memory = λ e. cc }
sound_from object kind calls limit outcome.NoMemory steps f i s out memory =
    record { found = tt; impossible = λ e. cc; steps = s; out_of_steps = λ e. cc; memory = λ e. memory refl }

-- what is too large is so in both words
large_in : (object : ℕ) (o : OrderOutcome) → (outcome_for object o ≡ TooLarge) ↔ (o ≡ outcome.TooLarge)
large_in object outcome.TooLarge = (λ e. refl, λ e. refl)
large_in object outcome = (λ e. cc, λ e. cc)

-- what a search for an order promises is what a search for a certificate answers
pub answer_from : (object : ℕ) (kind : Kind) (calls : List Call) (limit : ℕ) (a : OrderSearch)
    → order.IfFound a.outcome (IsValidOrder kind calls)
    → (a.outcome ≡ outcome.Impossible → HasNoValidOrder kind calls) → a.steps ≤ limit
    → (a.outcome ≡ outcome.OutOfSteps → a.steps ≡ limit)
    → ((a.outcome ≡ outcome.TooLarge) ↔ (max_operations < length calls))
    → (a.outcome ≡ outcome.NoMemory → Any (λ call. IsSome call.returned) calls)
    → IsSearchAnswer object kind calls limit (search_for object a)
answer_from object kind calls limit a f i s out large memory = record {
  sound = sound_from object kind calls limit a.outcome a.steps f i s out memory;
  too_large = (λ l. large.0 ((large_in object a.outcome).0 l), λ l. (large_in object a.outcome).1 (large.1 l));
}
