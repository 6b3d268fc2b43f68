-- What holds while a list of certificates is checked.
use Rattle.std.specs.Prelude.{◌≡◌, ℕ, ◌<◌, ◌≤◌, ⊤, List, Option, Some, None, IsSome, All, Contains}
use Rattle.std.specs.Prelude.{length, get_or}
use Rattle.number_map.specs.Lookup.{value_of}
use Rattle.number_map.specs.declared.NumberMap.{NumberMap}
use Rattle.model.specs.declared.Kind.{Kind}
use Rattle.model.specs.Orders.{Call, IsValidOrder}
use Rattle.certificate.specs.declared.Certificate.{Certificate}
use Rattle.checker.specs.declared.refusal.OrderFault.{OrderFault}
use Rattle.checker.specs.declared.refusal.Refusal.{Refusal}
use Rattle.checker.specs.declared.refusal.Refusal.TheVariants.{NoCertificate, StrangeObject}
use Rattle.checker.specs.declared.refusal.Refusal.TheVariants.{BadOrder, NoMemory}
use Rattle.checker.specs.Faults.{IsFirstFault}
use Rattle.checker.specs.Refusals.{HasCertificate}

-- the certificate of the object is at this place
pub record IsCertificatePlace (certificates : List Certificate) (x k : ℕ) : Type 0 where
  pub inside : k < length certificates
  pub for_object : (c : Certificate) → (get_or certificates k c).object ≡ x

-- each key is an object whose certificate is at the value
abbrev pub AreCertificatePlaces : NumberMap ℕ → List Certificate → Type 0
AreCertificatePlaces m certificates = (x k : ℕ) → value_of m x ≡ Some k
    → IsCertificatePlace certificates x k

-- the object has a certificate, and its order is valid, and so without a fault
pub record IsFine (kind : Kind) (calls : List Call) (certificates : List Certificate) (x : ℕ) : Type
    0 where
  pub certificate : HasCertificate certificates x
  pub valid : IsValidOrder kind calls certificate.certificate.order.items
  pub faultless : (f : OrderFault) → IsFirstFault kind calls certificate.certificate.order.items f
      → ⊥

-- each certificate of the list has a place
pub record AreAllPlaces (m : NumberMap ℕ) (certificates : List Certificate) : Type 0 where
  pub places : AreCertificatePlaces m certificates
  pub all : All (λ c. IsSome (value_of m c.object)) certificates

-- the least object of these certificates that has a place, if there is one
abbrev pub IsLeastPlaced : NumberMap ℕ → List Certificate → Option ℕ → Type 0
IsLeastPlaced m certificates None = All (λ c. value_of m c.object ≡ None) certificates
IsLeastPlaced m certificates (Some x) =
    IsSome (value_of m x) × All (λ c. IsSome (value_of m c.object) → x ≤ c.object) certificates

-- why an object is refused: it has no certificate, or its order has a first fault and is not valid
abbrev pub IsRefused : Kind → List Call → List Certificate → ℕ → Refusal → Type 0
IsRefused kind calls certificates x (NoCertificate y) =
    (y ≡ x) × (HasCertificate certificates x → ⊥)
IsRefused kind calls certificates x (StrangeObject y) = ⊥
IsRefused kind calls certificates x (BadOrder y fault) =
    (y ≡ x) × (c : HasCertificate certificates x)
    × IsFirstFault kind calls c.certificate.order.items fault
    × (IsValidOrder kind calls c.certificate.order.items → ⊥)
IsRefused kind calls certificates x NoMemory = ⊤

-- each certificate is for one of these objects
abbrev pub AreForThese : List ℕ → List Certificate → Type 0
AreForThese xs certificates = All (λ c. Contains xs c.object) certificates

-- x is the least object that has a certificate and is none of these
pub record IsLeastBesides (xs : List ℕ) (certificates : List Certificate) (x : ℕ) : Type 0 where
  pub certified : HasCertificate certificates x
  pub besides : Contains xs x → ⊥
  pub least : All (λ c. c.object < x → Contains xs c.object) certificates
