-- What a search answers of an object, and of all objects of a history.
use Rattle.std.specs.Prelude.{◌≡◌, ℕ, ◌<◌, ◌≤◌, ◌↔◌, ⊤, List, length, Option, Some, None}
use Rattle.std.specs.Prelude.{Any, IsSome}
use Rattle.std.specs.List.{filter_map}
use Rattle.model.specs.declared.Kind.{Kind}
use Rattle.model.specs.Orders.{Call, calls_on, HasNoValidOrder}
use Rattle.events.specs.declared.event.Event.{Event}
use Rattle.events.specs.Events.{kind_of_object, denoted}
use Rattle.certificate.specs.declared.Certificate.{Certificate}
use Rattle.checker.specs.Refusals.{IsCertificateOf}
use Rattle.order_search.specs.Outcomes.{max_operations}
use Rattle.order_search.specs.declared.order_search.OrderSearch.{OrderSearch}
use Rattle.order_search.specs.declared.order_search.OrderOutcome.{OrderOutcome}
use Rattle.order_search.specs.declared.order_search.OrderOutcome.TheVariants as outcome
use Rattle.search.specs.declared.certificate_search.Search.{Search}
use Rattle.search.specs.declared.certificate_search.CertificateOutcome.{CertificateOutcome}
use Rattle.search.specs.declared.certificate_search.CertificateOutcome.TheVariants.{Impossible}
use Rattle.search.specs.declared.certificate_search.CertificateOutcome.TheVariants.{OutOfSteps}
use Rattle.search.specs.declared.certificate_search.CertificateOutcome.TheVariants.{TooLarge}
use Rattle.search.specs.declared.certificate_search.CertificateOutcome.TheVariants.{NoMemory}
use Rattle.search.specs.declared.certificate_search.CertificateOutcome.TheVariants as found

-- the certificate that was found, if there is one
abbrev pub certificate_found : CertificateOutcome → Option Certificate
certificate_found (found.Found c) = Some c
certificate_found Impossible = None
certificate_found OutOfSteps = None
certificate_found TooLarge = None
certificate_found NoMemory = None

-- the outcome of a search for an order, as that of a search for a certificate of the object with
-- this number
abbrev pub outcome_for : ℕ → OrderOutcome → CertificateOutcome
outcome_for object (outcome.Found order) = found.Found (record { object = object; order = order })
outcome_for object outcome.Impossible = Impossible
outcome_for object outcome.OutOfSteps = OutOfSteps
outcome_for object outcome.TooLarge = TooLarge
outcome_for object outcome.NoMemory = NoMemory

-- the result of a search for an order, as that of a search for a certificate of the object with
-- this number
abbrev pub search_for : ℕ → OrderSearch → Search
search_for object a = record { found = outcome_for object a.outcome; steps = a.steps }

-- if a certificate was found, this holds of it
abbrev pub IfFound : CertificateOutcome → (Certificate → Type 0) → Type 0
IfFound (found.Found c) P = P c
IfFound Impossible P = ⊤
IfFound OutOfSteps P = ⊤
IfFound TooLarge P = ⊤
IfFound NoMemory P = ⊤

-- the search found a certificate
abbrev pub IsFound : Search → Type 0
IsFound s = IsSome (certificate_found s.found)

-- what a search within a limit may answer of the calls of an object, however many they are
pub record IsSoundAnswer (object : ℕ) (kind : Kind) (calls : List Call) (limit : ℕ)
    (s : Search) : Type 0
  where
    -- what was found is valid
    pub found : IfFound s.found (IsCertificateOf object kind calls)
    -- the answer is impossible only if no order is valid
    pub impossible : s.found ≡ Impossible → HasNoValidOrder kind calls
    -- The number of steps is at most the limit, and is the limit if that was not enough. Nothing
    -- says how many operations were tried.
    pub steps : s.steps ≤ limit
    pub out_of_steps : s.found ≡ OutOfSteps → s.steps ≡ limit
    -- the answer is NoMemory only if some operation returned
    pub memory : s.found ≡ NoMemory → Any (λ call. IsSome call.returned) calls

-- what a search that accepts at most 4,096 calls may answer of the calls of an object
pub record IsSearchAnswer (object : ℕ) (kind : Kind) (calls : List Call) (limit : ℕ) (s : Search) :
    Type 0
  where
    pub sound : IsSoundAnswer object kind calls limit s
    -- the answer is that there are too many calls exactly if there are
    pub too_large : (s.found ≡ TooLarge) ↔ (max_operations < length calls)

-- an answer on the object with this number, in the history that the events denote
abbrev pub IsSearchAnswerOn : List Event → ℕ → ℕ → Search → Type 0
IsSearchAnswerOn es limit x s = IsSearchAnswer x (kind_of_object es x) (calls_on x (denoted es))
    limit s

-- the certificates among the answers
abbrev pub certificates_found : List (ℕ × Search) → List Certificate
certificates_found answers = filter_map (λ a. certificate_found a.1.found) answers
