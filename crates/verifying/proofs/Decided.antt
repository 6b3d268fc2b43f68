-- The decisions on all objects together: if each is an order, the orders certify the history (`certifies`); if one is
-- impossible, the history is not linearizable, by locality (`not_linearizable`).
use Rattle.std.proofs.Common.{◌≡◌, ◌∙◌, ◌&&◌, ◌⊎◌, ℕ, Bool, List, [], ◌∷◌, true, false, All, Any, get_or, inl, inr}
use Rattle.std.proofs.Common.{refl, ap, sym, map}
use Rattle.std.specs.List.{list_all}
use Rattle.std.proofs.lemmas.Option.{same_Some}
use Rattle.model.specs.Linearizable.{IsLinearizable}
use Rattle.model.specs.declared.Kind.{Kind}
use Rattle.model.specs.Orders.{Numbered, Call, IsHistory, events, calls_on, HasNoValidOrder}
use Rattle.model.specs.Lists.{In}
use Rattle.model.proofs.Lists.{contains_from_in, in_from_contains, in_map_from, all_at}
use Rattle.locality.specs.Locality.{HasValidOrder}
use Rattle.events.specs.declared.event.Event.{Event}
use Rattle.events.specs.Events.{kind_of_object, denoted}
use Rattle.checker.proofs.Collected.{Certifies, AreOnAll}
use Rattle.verifying.specs.declared.claim.Claim.{Claim}
use Rattle.verifying.specs.declared.claim.Claim.TheVariants as claim
use Rattle.verifying.specs.Denotes.{claim_object}
use Rattle.verifying.specs.declared.decision.Decision.{Decision}
use Rattle.verifying.specs.declared.decision.Decision.TheVariants.{Order, Impossible}
use Rattle.verifying.specs.Decisions.{certificate_decided, IfImpossible, IsDecision, IsValidClaim, IsShownReason}
use Rattle.verifying.specs.Decisions.{IsUntrue, LacksOrder, AsksForAnySearch, is_impossible, is_order}

-- a decision, with its arguments in the order of `Certifies`
abbrev pub IsDecided : List Claim → ℕ → ℕ → Kind → List Call → Decision → Type 0
IsDecided claims limit object kind calls d = IsDecision claims limit object kind calls d

-- what is found is certified
pub certifies : (claims : List Claim) (limit : ℕ) → Certifies certificate_decided (IsDecided claims limit)
certifies claims limit x kind calls (Order d) c h e = rw (same_Some d c e) at h.order.0
certifies claims limit x kind calls d c h e = absurd (cc e)

none_valid : (x : ℕ) (kind : Kind) (calls : List Call) (d : Decision)
    → IfImpossible d (IsShownReason x kind calls) → is_impossible d ≡ true → HasNoValidOrder kind calls
none_valid x kind calls (Impossible f) h e = h.impossible
none_valid x kind calls d h e = absurd (cc e)

-- what is decided impossible is refuted
refutes : {claims : List Claim} {limit x : ℕ} {kind : Kind} {calls : List Call} (d : Decision)
    → IsDecision claims limit x kind calls d → IfImpossible d (IsShownReason x kind calls)
refutes (Impossible f) h = h.impossible.0
refutes d h = tt

-- an object of which no order is valid, against locality
pub not_linearizable : (es : List Event) (claims : List Claim) (limit : ℕ) (answers : List (ℕ × Decision))
    → ((kinds : ℕ → Kind) (h : List Numbered) → IsHistory h → IsLinearizable kinds (events h)
    → (x : ℕ) → HasValidOrder kinds h x)
    → IsHistory (denoted es) → AreOnAll es (IsDecided claims limit) answers
    → Any (λ a. is_impossible a.1 ≡ true) answers
    → IsLinearizable (kind_of_object es) (events (denoted es)) → ⊥
not_linearizable es claims limit answers orders h all some lin =
    let a : ℕ × Decision = some.1 in
    let decided =
    all_at (λ (a : ℕ × Decision). IsDecided claims limit a.0 (kind_of_object es a.0) (calls_on a.0 (denoted es)) a.1)
    answers all.each a (in_from_contains answers a (some.0, some.2, some.3)) in
    let order = orders (kind_of_object es) (denoted es) h lin a.0 in
    none_valid a.0 (kind_of_object es a.0) (calls_on a.0 (denoted es)) a.1 (refutes a.1 decided) some.4
    order.0 order.1

-- ---- where a decision is no order

-- a claim on an object of which no order is valid is none
by_none : (kind : Kind) (calls : List Call) (e : Claim) → HasNoValidOrder kind calls → IsValidClaim kind calls e → ⊥
by_none kind calls (claim.Order c) none valid = none c.order.items valid
by_none kind calls (claim.Reason r said) none valid = valid

-- a claim that is not true, or asks for a search, is none
by_refusal : (kind : Kind) (calls : List Call) (x : ℕ) (e : Claim)
    → (claim_object e ≡ x → IsUntrue kind calls e ⊎ AsksForAnySearch e) → claim_object e ≡ x
    → IsValidClaim kind calls e → ⊥
by_refusal kind calls x (claim.Order c) unshown on valid =
    elim (unshown on) [ inl refused ↦ refused valid | inr asks ↦ asks ]
by_refusal kind calls x (claim.Reason r said) unshown on valid = valid

-- no claim on the object is a valid order of it
lacks : (claims : List Claim) (limit x : ℕ) (kind : Kind) (calls : List Call) (d : Decision) → is_order d ≡ false
    → IsDecision claims limit x kind calls d → All (λ e. claim_object e ≡ x → IsValidClaim kind calls e → ⊥) claims
lacks claims limit x kind calls (Order c) e h = absurd (cc e)
lacks claims limit x kind calls (Impossible f) e h =
    λ i d less on. by_none kind calls (get_or claims i d) h.impossible.0.impossible
lacks claims limit x kind calls d e h =
    λ i a less. by_refusal kind calls x (get_or claims i a) (h.unshown refl i a less)

-- an element that does not pass, where not all do
fails : {X : Type 0} (p : X → Bool) (xs : List X) → list_all p xs ≡ false → (x : X) × In x xs × (p x ≡ false)
fails p [] e = absurd (cc e)
fails {X} p (x ∷ xs) e = go (p x) refl (λ rest. fails p xs rest)
  where
    go : (b : Bool) → p x ≡ b → (list_all p xs ≡ false → (y : X) × In y xs × (p y ≡ false))
        → (y : X) × In y (x ∷ xs) × (p y ≡ false)
    go false s later = (x, inl refl, s)
    go true s later =
        let y = later (sym (ap (λ b. b && list_all p xs) s) ∙ e) in
        (y.0, inr y.1, y.2)

-- where one has no order the claims have no valid order of some object
pub lacks_order : (es : List Event) (claims : List Claim) (limit : ℕ) (answers : List (ℕ × Decision))
    → AreOnAll es (IsDecided claims limit) answers → list_all (λ a. is_order a.1) answers ≡ false
    → LacksOrder es claims
lacks_order es claims limit answers h some =
    let found = fails (λ (a : ℕ × Decision). is_order a.1) answers some in
    let a = found.0 in
    let decided =
    all_at (λ (a : ℕ × Decision). IsDecided claims limit a.0 (kind_of_object es a.0) (calls_on a.0 (denoted es)) a.1)
    answers h.each a found.1 in
    record {
      object = a.0;
      named = (h.named a.0).0
          (contains_from_in (map (λ (a : ℕ × Decision). a.0) answers) a.0
          (in_map_from (λ (a : ℕ × Decision). a.0) a answers found.1));
      none = lacks claims limit a.0 (kind_of_object es a.0) (calls_on a.0 (denoted es)) a.1 found.2 decided;
    }
