-- The answers on all objects of a history: if each is a certificate, the certificates are valid (`certifies`); if one
-- is impossible, the history is not linearizable, by locality (`not_linearizable`).
use Rattle.std.proofs.Common.{◌≡◌, ℕ, List, Some, Any, subst}
use Rattle.std.proofs.lemmas.Option.{same_Some}
use Rattle.model.specs.Linearizable.{IsLinearizable}
use Rattle.model.specs.declared.Kind.{Kind}
use Rattle.model.specs.Orders.{Numbered, Call, IsHistory, events, calls_on, HasNoValidOrder}
use Rattle.model.proofs.Lists.{in_from_contains, all_at}
use Rattle.locality.specs.Locality.{HasValidOrder}
use Rattle.events.specs.declared.event.Event.{Event}
use Rattle.events.specs.Events.{kind_of_object, denoted}
use Rattle.certificate.specs.declared.Certificate.{Certificate}
use Rattle.checker.proofs.Collected.{Certifies, AreOnAll}
use Rattle.search.specs.declared.certificate_search.Search.{Search}
use Rattle.search.specs.declared.certificate_search.CertificateOutcome.{CertificateOutcome}
use Rattle.search.specs.declared.certificate_search.CertificateOutcome.TheVariants.{Impossible}
use Rattle.search.specs.declared.certificate_search.CertificateOutcome.TheVariants as found
use Rattle.search.specs.Answers.{certificate_found, IfFound, IsSearchAnswer}
use Rattle.checker.specs.Refusals.{IsCertificateOf}

-- an answer within this limit
abbrev pub IsWithin : ℕ → ℕ → Kind → List Call → Search → Type 0
IsWithin limit object kind calls s = IsSearchAnswer object kind calls limit s

-- what holds of a certificate that was found
if_found : (f : CertificateOutcome) (P : Certificate → Type 0) (c : Certificate) → IfFound f P
    → certificate_found f ≡ Some c → P c
if_found (found.Found d) P c h e = subst P (same_Some d c e) h
if_found f P c h e = absurd (cc e)

-- an order that is found is a certificate of its object
pub certifies : (Is : ℕ → Kind → List Call → Search → Type 0)
    → ((x : ℕ) (kind : Kind) (calls : List Call) (s : Search) → Is x kind calls s
    → IfFound s.found (IsCertificateOf x kind calls)) → Certifies (λ s. certificate_found s.found) Is
certifies Is found x kind calls s c h e = if_found s.found (IsCertificateOf x kind calls) c (found x kind calls s h) e

-- an object of which no order is valid, against locality
pub not_linearizable : (es : List Event) (Is : ℕ → Kind → List Call → Search → Type 0) (answers : List (ℕ × Search))
    → ((x : ℕ) (kind : Kind) (calls : List Call) (s : Search) → Is x kind calls s → s.found ≡ Impossible
    → HasNoValidOrder kind calls)
    → ((kinds : ℕ → Kind) (h : List Numbered) → IsHistory h → IsLinearizable kinds (events h) → (x : ℕ)
    → HasValidOrder kinds h x)
    → IsHistory (denoted es) → AreOnAll es Is answers → Any (λ a. a.1.found ≡ Impossible) answers
    → IsLinearizable (kind_of_object es) (events (denoted es)) → ⊥
not_linearizable es Is answers none orders h all some lin =
    let a : ℕ × Search = some.1 in
    let answer = all_at (λ (a : ℕ × Search). Is a.0 (kind_of_object es a.0) (calls_on a.0 (denoted es)) a.1) answers
    all.each
    a (in_from_contains answers a (some.0, some.2, some.3)) in
    let o = orders (kind_of_object es) (denoted es) h lin a.0 in
    none a.0 (kind_of_object es a.0) (calls_on a.0 (denoted es)) a.1 answer some.4 o.0 o.1
