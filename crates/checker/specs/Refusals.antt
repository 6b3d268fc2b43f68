-- Why orders are refused: that of one object, and a list of certificates.
use Rattle.std.specs.Prelude.{◌≡◌, ℕ, ℤ, ◌<◌, ⊤, List, All, Contains, OnOk, IfErr}
use Rattle.std.specs.declared.result.Result.{Result}
use Rattle.model.specs.declared.Kind.{Kind}
use Rattle.model.specs.Orders.{Call, IsValidOrder, calls_on}
use Rattle.events.specs.declared.event.Event.{Event}
use Rattle.events.specs.Events.{IsNamed, kind_of_object, denoted}
use Rattle.certificate.specs.declared.Certificate.{Certificate}
use Rattle.checker.specs.declared.refusal.Refusal.{Refusal}
use Rattle.checker.specs.declared.refusal.Refusal.TheVariants.{NoCertificate, StrangeObject}
use Rattle.checker.specs.declared.refusal.Refusal.TheVariants.{BadOrder, NoMemory}
use Rattle.checker.specs.Faults.{IsFirstFault}

-- The refusal of an object's order names the object and the order's first fault. An allocation
-- failure says nothing.
abbrev pub RefusesOrder : ℕ → Kind → List Call → List ℤ → Refusal → Type 0
RefusesOrder x kind calls order (BadOrder y fault) = (y ≡ x) × IsFirstFault kind calls order fault
RefusesOrder x kind calls order (NoCertificate y) = ⊥
RefusesOrder x kind calls order (StrangeObject y) = ⊥
RefusesOrder x kind calls order NoMemory = ⊤

-- the certificate is one of the object, and its order is valid
abbrev pub IsCertificateOf : ℕ → Kind → List Call → Certificate → Type 0
IsCertificateOf object kind calls c = (c.object ≡ object) × IsValidOrder kind calls c.order.items

-- the certificates have one for this object
pub record HasCertificate (certificates : List Certificate) (x : ℕ) : Type 0 where
  pub certificate : Certificate
  pub stands : Contains certificates certificate
  pub for_object : certificate.object ≡ x

-- Each named object has a valid order among the certificates, and no other object has a
-- certificate.
pub record AreValid (es : List Event) (certificates : List Certificate) : Type 0 where
  pub each : (x : ℕ) → IsNamed es x
      → (c : HasCertificate certificates x)
      × IsValidOrder (kind_of_object es x) (calls_on x (denoted es)) c.certificate.order.items
  pub none_besides : All (λ c. IsNamed es c.object) certificates

-- what is wrong with the certificates at a named object: it has none, or a first fault
abbrev pub IsRefusalAt : List Event → List Certificate → ℕ → Refusal → Type 0
IsRefusalAt es certificates x (NoCertificate y) = (y ≡ x) × (HasCertificate certificates x → ⊥)
IsRefusalAt es certificates x (StrangeObject y) = ⊥
IsRefusalAt es certificates x (BadOrder y fault) =
    (y ≡ x) × (c : HasCertificate certificates x)
    × IsFirstFault (kind_of_object es x) (calls_on x (denoted es)) c.certificate.order.items fault
IsRefusalAt es certificates x NoMemory = ⊥

-- nothing is wrong at the named objects below x
abbrev pub NoneBelow : List Event → List Certificate → ℕ → Type 0
NoneBelow es certificates x =
    (y : ℕ) (r : Refusal) → y < x → IsNamed es y → IsRefusalAt es certificates y r → ⊥

-- the refusal of the least named object with which something is wrong
pub record IsLeastRefusal (es : List Event) (certificates : List Certificate) (r : Refusal) : Type 0
  where
    pub object : ℕ
    pub named : IsNamed es object
    pub stands : IsRefusalAt es certificates object r
    pub least : NoneBelow es certificates object

-- nothing is wrong at any named object, and x is the least object that has a certificate and is not
-- named
pub record IsLeastStrange (es : List Event) (certificates : List Certificate) (x : ℕ) : Type 0 where
  pub certified : HasCertificate certificates x
  pub not_named : IsNamed es x → ⊥
  pub least : All (λ c. c.object < x → IsNamed es c.object) certificates
  pub none : (y : ℕ) (r : Refusal) → IsNamed es y → IsRefusalAt es certificates y r → ⊥

-- The first refusal of a list of certificates: named objects come in rising number, an object
-- without a certificate in its place among them, and strange objects last. An allocation failure
-- says nothing.
abbrev pub IsFirstRefusal : List Event → List Certificate → Refusal → Type 0
IsFirstRefusal es certificates (StrangeObject x) = IsLeastStrange es certificates x
IsFirstRefusal es certificates NoMemory = ⊤
IsFirstRefusal es certificates r = IsLeastRefusal es certificates r

-- What a check of all certificates answers: Ok exactly if they are valid, and else the first
-- refusal. An allocation failure says nothing.
pub record IsCheckAnswer (es : List Event) (certificates : List Certificate)
    (answer : Result Unit Refusal) : Type 0 where
  pub valid : OnOk answer (AreValid es certificates)
  pub refused : IfErr answer (IsFirstRefusal es certificates)
  -- valid certificates are refused only because an allocation failed
  pub exact : AreValid es certificates → IfErr answer (λ e. e ≡ NoMemory)
