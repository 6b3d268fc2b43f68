-- What may be decided of an object of a history by claims.
use Rattle.std.specs.Prelude.{◌≡◌, ◌<◌, ◌↔◌, ◌⊎◌, ℕ, ⊤, Bool, true, false, List, [], map}
use Rattle.std.specs.Prelude.{All, AllPairs, Any, Contains, Option, Some, None, IsSome}
use Rattle.std.specs.List.{filter_map, list_all}
use Rattle.model.specs.declared.Kind.{Kind}
use Rattle.model.specs.Linearizable.{IsLinearizable}
use Rattle.model.specs.Orders.{Call, IsValidOrder, calls_on, events, HasNoValidOrder}
use Rattle.events.specs.declared.event.Event.{Event}
use Rattle.events.specs.Events.{IsNamed, kind_of_object, denoted}
use Rattle.events.specs.Operations.{ObjectCalls}
use Rattle.certificate.specs.declared.Certificate.{Certificate}
use Rattle.certificate.specs.Denotes.{AreDistinct}
use Rattle.checker.specs.Refusals.{AreValid}
use Rattle.cuts.specs.Cuts.{NamesPart}
use Rattle.checker.specs.Refusals.{IsCertificateOf}
use Rattle.refutation.specs.declared.reason.Reason.{Reason}
use Rattle.refutation.specs.declared.refuting.WhyNotShown.TheVariants.{Possible, NotExceeded}
use Rattle.refutation.specs.Refutations.{PartHasNoValidOrder, IsWhyNotShown, IsNamedPart}
use Rattle.refutation.specs.Refutations.{IsSearchBasis, IsShownBy, steps_of}
use Rattle.verifying.specs.declared.claim.Claim.{Claim}
use Rattle.verifying.specs.declared.claim.Claim.TheVariants as claim
use Rattle.verifying.specs.Denotes.{claim_object}
use Rattle.verifying.specs.declared.decision.ShownReason.{ShownReason}
use Rattle.verifying.specs.declared.decision.Decision.{Decision}
use Rattle.verifying.specs.declared.decision.Decision.TheVariants.{Order, Impossible, OutOfSteps}
use Rattle.verifying.specs.declared.decision.Decision.TheVariants.{NoMemory, Open}

-- ---- the cases

-- the certificate, if the decision is an order
abbrev pub certificate_decided : Decision → Option Certificate
certificate_decided (Order c) = Some c
certificate_decided (Impossible f) = None
certificate_decided (OutOfSteps n) = None
certificate_decided NoMemory = None
certificate_decided Open = None

-- if an order is shown, this holds of the certificate
abbrev pub IfOrder : Decision → (Certificate → Type 0) → Type 0
IfOrder (Order c) P = P c
IfOrder (Impossible f) P = ⊤
IfOrder (OutOfSteps n) P = ⊤
IfOrder NoMemory P = ⊤
IfOrder Open P = ⊤

-- if no order is valid, this holds of what shows it
abbrev pub IfImpossible : Decision → (ShownReason → Type 0) → Type 0
IfImpossible (Order c) P = ⊤
IfImpossible (Impossible f) P = P f
IfImpossible (OutOfSteps n) P = ⊤
IfImpossible NoMemory P = ⊤
IfImpossible Open P = ⊤

-- if a search is out of steps, this holds of their number
abbrev pub IfOutOfSteps : Decision → (ℕ → Type 0) → Type 0
IfOutOfSteps (Order c) P = ⊤
IfOutOfSteps (Impossible f) P = ⊤
IfOutOfSteps (OutOfSteps n) P = P n
IfOutOfSteps NoMemory P = ⊤
IfOutOfSteps Open P = ⊤

-- whether the decision is an order
abbrev pub is_order : Decision → Bool
is_order (Order c) = true
is_order (Impossible f) = false
is_order (OutOfSteps n) = false
is_order NoMemory = false
is_order Open = false

-- whether the decision is that no order is valid
abbrev pub is_impossible : Decision → Bool
is_impossible (Order c) = false
is_impossible (Impossible f) = true
is_impossible (OutOfSteps n) = false
is_impossible NoMemory = false
is_impossible Open = false

-- whether the decision is that the object is open
abbrev pub is_open : Decision → Bool
is_open (Order c) = false
is_open (Impossible f) = false
is_open (OutOfSteps n) = false
is_open NoMemory = false
is_open Open = true

-- an order or a reason is shown
abbrev pub is_shown : Decision → Bool
is_shown (Order c) = true
is_shown (Impossible f) = true
is_shown (OutOfSteps n) = false
is_shown NoMemory = false
is_shown Open = false

-- ---- what claims have to do with a decision

-- the claim asks for the search of the whole object
abbrev pub AsksForSearch : Claim → Type 0
AsksForSearch (claim.Order c) = ⊥
AsksForSearch (claim.Reason r _) = (r.cuts.items ≡ []) × IsSearchBasis r.basis

-- the claim is this order, or asks for a search of the whole object, which can find it
abbrev pub IsSourceOf : Certificate → Claim → Type 0
IsSourceOf c e = (e ≡ claim.Order c) ⊎ AsksForSearch e

-- the claim asks for a search, of a part or of the whole, that takes at most `n` steps: as many as
-- its reason says, or else the limit
abbrev pub AsksForSearchWithin : ℕ → ℕ → Claim → Type 0
AsksForSearchWithin limit n (claim.Order c) = ⊥
AsksForSearchWithin limit n (claim.Reason r _) = IsSearchBasis r.basis
    × (n ≡ steps_of r.basis limit)

-- the claim asks for a search, of a part or of the whole
abbrev pub AsksForAnySearch : Claim → Type 0
AsksForAnySearch (claim.Order c) = ⊥
AsksForAnySearch (claim.Reason r _) = IsSearchBasis r.basis

-- The cuts of the reason name no part, or its basis does not hold of the part: the part has a
-- valid order, or its count is not exceeded.
abbrev pub IsUntrueReason : Kind → List Call → Reason → Type 0
IsUntrueReason kind calls r =
    ((part : List Call) → NamesPart r.cuts.items calls part → ⊥)
    ⊎ ((part : ObjectCalls) × IsNamedPart r.cuts.items r.object kind calls part
    × (((order : _) × IsWhyNotShown r.basis part (Possible order))
    ⊎ IsWhyNotShown r.basis part NotExceeded))

-- the claim is not true of an object of this kind and these calls
abbrev pub IsUntrue : Kind → List Call → Claim → Type 0
IsUntrue kind calls (claim.Order c) = IsValidOrder kind calls c.order.items → ⊥
IsUntrue kind calls (claim.Reason r _) = IsUntrueReason kind calls r

-- the claim is an order that is valid for an object of this kind and these calls
abbrev pub IsValidClaim : Kind → List Call → Claim → Type 0
IsValidClaim kind calls (claim.Order c) = IsValidOrder kind calls c.order.items
IsValidClaim kind calls (claim.Reason r _) = ⊥

-- no claim is a valid order of this object, which the history names
pub record LacksOrder (es : List Event) (claims : List Claim) : Type 0 where
  pub object : ℕ
  pub named : IsNamed es object
  pub none : All (λ e. claim_object e ≡ object
      → IsValidClaim (kind_of_object es object) (calls_on object (denoted es)) e → ⊥) claims

-- What shows that no order of the calls of an object is valid: the reason names a part, and its
-- basis holds of the part, which has no valid order.
pub record IsShownReason (x : ℕ) (kind : Kind) (calls : List Call) (f : ShownReason) : Type 0 where
  pub named : f.reason.object ≡ x
  pub part : IsNamedPart f.reason.cuts.items x kind calls f.part
  pub shown : IsShownBy f.reason.basis f.part
  pub no_order : PartHasNoValidOrder f.part
  pub impossible : HasNoValidOrder kind calls

-- ---- decisions

-- what is decided of an object by one claim on it
pub record IsClaimAnswer (x : ℕ) (kind : Kind) (calls : List Call) (limit : ℕ) (e : Claim)
    (d : Decision) : Type 0 where
  -- the order is valid, and is claimed, or found by the search for which the claim asks
  pub order : IfOrder d (λ c. IsCertificateOf x kind calls c × IsSourceOf c e)
  -- the reason is claimed, and shows that no order is valid
  pub impossible : IfImpossible d (λ f.
      IsShownReason x kind calls f × (e ≡ claim.Reason f.reason f.note))
  -- the claim asks for a search with this limit (no clause says that it took the steps)
  pub out_of_steps : IfOutOfSteps d (λ n. AsksForSearchWithin limit n e)
  -- the decision is that an allocation failed only if the claim asks for a search
  pub memory : d ≡ NoMemory → AsksForAnySearch e
  -- if nothing is shown, the claim is not true, or asks for a search
  pub unshown : is_shown d ≡ false → IsUntrue kind calls e ⊎ AsksForAnySearch e
  -- the object is open only if the claim is not true
  pub refused : d ≡ Open → IsUntrue kind calls e

-- What is decided of an object, with its kind and calls, by claims, if a search for which none
-- of them names a number of steps takes at most `limit`.
pub record IsDecision (claims : List Claim) (limit x : ℕ) (kind : Kind) (calls : List Call)
    (d : Decision) : Type 0 where
  -- the order is valid, and comes from a claim
  pub order : IfOrder d (λ c.
      IsCertificateOf x kind calls c × Any (λ e. (claim_object e ≡ x) × IsSourceOf c e) claims)
  -- the reason is claimed, and shows that no order is valid
  pub impossible : IfImpossible d (λ f.
      IsShownReason x kind calls f × Contains claims (claim.Reason f.reason f.note))
  -- a claim on the object asks for a search with this limit (that it took the steps is not said)
  pub out_of_steps : IfOutOfSteps d (λ n.
      Any (λ e. (claim_object e ≡ x) × AsksForSearchWithin limit n e) claims)
  -- the decision is that an allocation failed only if a claim on the object asks for a search
  pub memory : d ≡ NoMemory → Any (λ e. (claim_object e ≡ x) × AsksForAnySearch e) claims
  -- if nothing is shown each claim on the object is not true, or asks for a search
  pub unshown : is_shown d ≡ false
      → All (λ e. claim_object e ≡ x → IsUntrue kind calls e ⊎ AsksForAnySearch e) claims
  -- it is open only if no claim on the object is true
  pub refused : d ≡ Open → All (λ e. claim_object e ≡ x → IsUntrue kind calls e) claims

-- a decision on the object with this number, in the history that the events denote
abbrev pub IsDecisionOn : List Event → List Claim → ℕ → ℕ → Decision → Type 0
IsDecisionOn es claims limit x d =
    IsDecision claims limit x (kind_of_object es x) (calls_on x (denoted es)) d

-- the certificates among the decisions
abbrev pub certificates_decided : List (ℕ × Decision) → List Certificate
certificates_decided answers = filter_map (λ a. certificate_decided a.1) answers

-- These are decisions on all objects of the history that the events denote, by these claims.
pub record AreDecisionsOn (es : List Event) (claims : List Claim) (limit : ℕ)
    (answers : List (ℕ × Decision)) : Type 0 where
  pub rising : AllPairs (λ a b. a.0 < b.0) answers
  -- on the objects that some invocation names, and no others
  pub named : (x : ℕ) → Contains (map (λ a. a.0) answers) x ↔ IsNamed es x
  pub decisions : All (λ a. IsDecisionOn es claims limit a.0 a.1) answers
  -- if one is impossible the history is not linearizable
  pub impossible : Any (λ a. is_impossible a.1 ≡ true) answers
      → IsLinearizable (kind_of_object es) (events (denoted es)) → ⊥
  -- if all have an order `check_all` accepts the certificates
  pub distinct : AreDistinct (certificates_decided answers)
  pub valid : All (λ a. IsSome (certificate_decided a.1)) answers
      → AreValid es (certificates_decided answers)
  -- if one has no order the claims have no valid order of some object
  pub lacking : list_all (λ a. is_order a.1) answers ≡ false → LacksOrder es claims
