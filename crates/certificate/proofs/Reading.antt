-- Reading certificates form by form: the forms so far have no fault, or this is the first one.
use Rattle.std.proofs.Common.{◌≡◌, ◌≢◌, ℕ, zero, suc, ◌+◌, ◌<◌, ◌≤◌, ◌==◌, Bool, true, false, cond, List, [], ◌∷◌}
use Rattle.std.proofs.Common.{◌++◌, length, get_or}
use Rattle.std.proofs.Common.{map, option_map, Option, Some, None, Contains, refl, ap, sym, ◌∙◌, length-append, arith}
use Rattle.std.specs.Prelude.{ℤ, ◌||◌, codes}
use Rattle.std.specs.List.{list_any}
use Rattle.std.proofs.lemmas.Bool.{both_ways, or_parts, eqb-true, eq-eqb}
use Rattle.std.proofs.Math.ListN.{get_or-append}
use Rattle.std.proofs.Math.Seq.{get_or-append_seam}
use Rattle.std.proofs.lemmas.List.Quantifiers.{all_pairs_push}
use Rattle.edn_reader.specs.Truncation.{integers_in}
use Rattle.edn_reader.specs.Datum.{Datum, dictionary, Entries, items_of}
use Rattle.edn_reader.specs.View.{view, views}
use Rattle.edn_reader.specs.declared.form.Form.{Form}
use Rattle.edn.specs.Fields.{value_at, natural_in, object_in}
use Rattle.edn.proofs.FormsRead.{push_read}
use Rattle.certificate.specs.Denotes.{Reading, order_in, reading_with, certificate_of, reading_of, AreDistinct, Denotes}
use Rattle.certificate.specs.Faults.{cert_fault_number, IsCertFault, HasNoCertFault, IsFirstFault}
use Rattle.certificate.specs.Inside.{IsFaultAmong, AreCertificatesRead}
use Rattle.certificate.specs.declared.Certificate.{Certificate}
use Rattle.certificate.specs.declared.fault.CertFault.{CertFault}
use Rattle.certificate.specs.declared.fault.CertFaultKind.{CertFaultKind}
use Rattle.certificate.specs.declared.fault.CertFaultKind.TheVariants.{NotACertificate, TwoForOneObject, NoMemory}

-- ---- the elements of an order

-- the integers of a list of forms, after some that were read
abbrev pub integers_after : List ℤ → List Form → Option (List ℤ)
integers_after done fs = option_map (λ zs. done ++ zs) (integers_in (items_of (views fs)))

-- ---- one certificate

pub no_object : (es : Entries) (v : Option Datum) (n : Option ℕ) → v ≡ value_at (codes "object") es → n ≡ natural_in v
    → None ≡ object_in n → None ≡ certificate_of (dictionary es)
no_object es v n h k e =
    ap (λ x. reading_with x (order_in (value_at (codes "order") es)))
    (e ∙ ap object_in k ∙ ap (λ w. object_in (natural_in w)) h)

-- what is made of the values of both keys is the certificate that the map is
pub both_keys : (es : Entries) (value second : Option Datum) (natural object : Option ℕ) (order : Option (List ℤ))
    → value ≡ value_at (codes "object") es → natural ≡ natural_in value → object ≡ object_in natural
    → second ≡ value_at (codes "order") es → order ≡ order_in second
    → reading_with object order ≡ certificate_of (dictionary es)
both_keys es value second natural object order value_is natural_is object_is second_is order_is =
    ap (λ x. reading_with x order) (object_is ∙ ap object_in natural_is ∙ ap (λ v. object_in (natural_in v)) value_is)
    ∙ ap (reading_with (object_in (natural_in (value_at (codes "object") es)))) (order_is ∙ ap order_in second_is)

-- ---- the forms so far

either : (b w t : Bool) → (b || cond w true t) ≡ cond w true (b || t)
either true true t = refl
either true false t = refl
either false true t = refl
either false false t = refl

or_nothing : (b : Bool) → (b || false) ≡ cond b true false
or_nothing true = refl
or_nothing false = refl

list_any-push : (p : Certificate → Bool) (cs : List Certificate) (c : Certificate)
    → list_any p (cs ++ c ∷ []) ≡ cond (p c) true (list_any p cs)
list_any-push p [] c = or_nothing (p c)
list_any-push p (b ∷ cs) c = ap (λ v. p b || v) (list_any-push p cs c) ∙ either (p b) (p c) (list_any p cs)

list_any-none : (p : Certificate → Bool) (cs : List Certificate) (k : ℕ) (d : Certificate) → list_any p cs ≡ false
    → k < length cs → p (get_or cs k d) ≡ false
list_any-none p [] k d h lt = absurd (omega arith)
list_any-none p (c ∷ cs) zero d h lt = (or_parts (p c) (list_any p cs) h).0
list_any-none p (c ∷ cs) (suc k) d h lt = list_any-none p cs k d (or_parts (p c) (list_any p cs) h).1 (omega arith)

pub Contains-cons : {X : Type 0} → (x : X) (xs : List X) (y : X) → Contains xs y → Contains (x ∷ xs) y
Contains-cons x xs y (k, lt, is) = (suc k, omega arith, is)

-- some certificate passes the test
abbrev pub Passes : (Certificate → Bool) → List Certificate → Type 0
Passes p cs = (c : Certificate) × Contains cs c × (p c ≡ true)

passes_first : (p : Certificate → Bool) (c : Certificate) (cs : List Certificate) (b : Bool) → p c ≡ b
    → (b || list_any p cs) ≡ true → (list_any p cs ≡ true → Passes p cs) → Passes p (c ∷ cs)
passes_first p c cs true e h more = (c, (0, omega arith, refl), e)
passes_first p c cs false e h more = let m = more h in (m.0, Contains-cons c cs m.0 m.1, m.2)

list_any-some : (p : Certificate → Bool) (cs : List Certificate) → list_any p cs ≡ true → Passes p cs
list_any-some p [] h = absurd cc
list_any-some p (c ∷ cs) h = passes_first p c cs (p c) refl h (list_any-some p cs)

-- if the next form is a certificate of another object, the certificates up to it are read
pub next_certificate_read : (ds : List Datum) (cs : List Certificate) (among after : ℕ → Bool) (d : Datum)
    (c : Certificate) → AreCertificatesRead ds cs among
    → certificate_of d ≡ Some (reading_of c) → among c.object ≡ false
    → ((x : ℕ) → after x ≡ cond (c.object == x) true (among x))
    → AreCertificatesRead (ds ++ d ∷ []) (cs ++ c ∷ []) after
next_certificate_read ds cs among after d c h own new more = record {
  denoted = record {
    each = push_read certificate_of reading_of ds cs d c h.denoted.each own;
    distinct = all_pairs_push (λ (a b : Certificate). a.object ≢ b.object) cs c h.denoted.distinct
        (λ k e lt same. both_ways ((get_or cs k e).object == c.object)
        (list_any-none (λ b. b.object == c.object) cs k e (sym (h.objects c.object) ∙ new) lt)
        (eq-eqb (get_or cs k e).object c.object same));
  };
  objects = λ x. more x ∙ ap (λ v. cond (c.object == x) true v) (h.objects x)
      ∙ sym (list_any-push (λ b. b.object == x) cs c);
}

-- ---- faults

-- what was read at a place
record IsReadAt (earlier : List Datum) (d : Datum) (cs : List Certificate) : Type 0 where
  before : List Certificate
  own : Certificate
  later : List Certificate
  split : cs ≡ before ++ own ∷ later
  each : map certificate_of earlier ≡ map (λ c. Some (reading_of c)) before
  is_own : certificate_of d ≡ Some (reading_of own)

read_at : (earlier later : List Datum) (d : Datum) (cs : List Certificate)
    → map certificate_of (earlier ++ d ∷ later) ≡ map (λ c. Some (reading_of c)) cs → IsReadAt earlier d cs
read_at [] later d [] h = absurd cc
read_at [] later d (c ∷ cs) h = record { before = []; own = c; later = cs; split = refl; each = refl; is_own = cc }
read_at (e ∷ es) later d [] h = absurd cc
read_at (e ∷ es) later d (c ∷ cs) h =
    let r = read_at es later d cs cc in
    let first : certificate_of e ≡ Some (reading_of c) = cc in
    record {
      before = c ∷ r.before;
      own = r.own;
      later = r.later;
      split = ap (λ xs. c ∷ xs) r.split;
      each = ap (λ v. v ∷ map certificate_of es) first
          ∙ ap (λ xs. Some (reading_of c) ∷ xs) r.each;
      is_own = r.is_own;
    }

-- the certificate of a form that was read
read_from : (ds : List Datum) (cs : List Certificate) (d : Datum) (k : ℕ)
    → map certificate_of ds ≡ map (λ c. Some (reading_of c)) cs → k < length ds
    → get_or ds k d ≡ d → (c : Certificate) × Contains cs c × (certificate_of d ≡ Some (reading_of c))
read_from [] cs d k h lt is = absurd (omega arith)
read_from (e ∷ es) [] d k h lt is = absurd cc
read_from (e ∷ es) (c ∷ cs) d zero h lt is = (c, (0, omega arith, refl), ap certificate_of (sym is) ∙ cc)
read_from (e ∷ es) (c ∷ cs) d (suc k) h lt is =
    let r = read_from es cs d k (cc) (omega arith) is in (r.0, Contains-cons c cs r.0 r.1, r.2)

-- the form of a certificate
form_from : (ds : List Datum) (cs : List Certificate) (c : Certificate) (k : ℕ)
    → map certificate_of ds ≡ map (λ b. Some (reading_of b)) cs
    → k < length cs → get_or cs k c ≡ c → (d : Datum) × Contains ds d × (certificate_of d ≡ Some (reading_of c))
form_from ds [] c k h lt is = absurd (omega arith)
form_from [] (b ∷ bs) c k h lt is = absurd cc
form_from (e ∷ es) (b ∷ bs) c zero h lt is =
    let own : certificate_of e ≡ Some (reading_of b) = cc in
    (e, (0, omega arith, refl), own ∙ ap (λ (x : Certificate). Some (reading_of x)) is)
form_from (e ∷ es) (b ∷ bs) c (suc k) h lt is =
    let r = form_from es bs c k (cc) (omega arith) is in (r.0, Contains-cons e es r.0 r.1, r.2)

apart : (cs before later : List Certificate) (c b : Certificate) → AreDistinct cs → cs ≡ before ++ c ∷ later
    → Contains before b → b.object ≡ c.object → ⊥
apart cs before later c b h split (k, lt, is) same =
    let at_b : get_or cs k b ≡ b =
    ap (λ (xs : List Certificate). get_or xs k b) split ∙ get_or-append before (c ∷ later) b k lt ∙ is in
    let at_c : get_or cs (length before) b ≡ c =
    ap (λ (xs : List Certificate). get_or xs (length before) b) split ∙ get_or-append_seam before c later b in
    let long : length cs ≡ length before + length (c ∷ later) = ap length split ∙ length-append before (c ∷ later) in
    h k (length before) b lt (omega (arith, long))
    (ap (λ (x : Certificate). x.object) at_b ∙ same ∙ sym (ap (λ (x : Certificate). x.object) at_c))

-- two that are read as others of one object are of one object
same_objects : (a b read_a read_b : Reading) → Some a ≡ Some read_a → Some b ≡ Some read_b
    → read_a.object ≡ read_b.object → a.object ≡ b.object
same_objects a b read_a read_b a_is b_is same =
    let first : a ≡ read_a = cc in
    let second : b ≡ read_b = cc in
    ap (λ (x : Reading). x.object) first ∙ same ∙ sym (ap (λ (x : Reading). x.object) second)

pub no_fault : (ds : List Datum) (cs : List Certificate) → Denotes ds cs → HasNoCertFault ds
no_fault ds cs h earlier later d NotACertificate split fault =
    let r = read_at earlier later d cs (ap (map certificate_of) (sym split) ∙ h.each) in
    let own : certificate_of d ≡ Some (reading_of r.own) = r.is_own in
    absurd cc
no_fault ds cs h earlier later d TwoForOneObject split fault =
    let r = read_at earlier later d cs (ap (map certificate_of) (sym split) ∙ h.each) in
    let f = read_from earlier r.before fault.first fault.stands.0 r.each fault.stands.1 fault.stands.2 in
    let first : Some (reading_of f.0) ≡ Some fault.first_own = sym f.2 ∙ fault.is_first_own in
    let own : Some (reading_of r.own) ≡ Some fault.own = sym r.is_own ∙ fault.is_own in
    let same : f.0.object ≡ r.own.object = same_objects _ _ _ _ first own fault.same_object in
    apart cs r.before r.later r.own f.0 h.distinct r.split f.1 same
no_fault ds cs h earlier later d NoMemory split fault = fault

pub fault_here : (ds : List Datum) (cs : List Certificate) (among : ℕ → Bool) (d : Datum) (kind : CertFaultKind)
    → AreCertificatesRead ds cs among → IsFaultAmong among d kind → kind ≢ NoMemory → IsCertFault ds d kind
fault_here ds cs among d NotACertificate h fault other = fault
fault_here ds cs among d TwoForOneObject h (r, own, stands) other =
    let some = list_any-some (λ c. c.object == r.object) cs (sym (h.objects r.object) ∙ stands) in
    let first = form_from ds cs some.0 some.1.0 h.denoted.each some.1.1 some.1.2 in
    record {
      own = r;
      first = first.0;
      first_own = reading_of some.0;
      is_own = own;
      stands = first.1;
      is_first_own = first.2;
      same_object = eqb-true some.0.object r.object some.2;
    }
fault_here ds cs among d NoMemory h fault other = absurd (other refl)

-- a form has one fault at most
pub only_fault : (earlier : List Datum) (d : Datum) (kind other : CertFaultKind) → IsCertFault earlier d kind
    → IsCertFault earlier d other → cert_fault_number kind ≤ cert_fault_number other
only_fault earlier d NotACertificate NotACertificate h k = omega arith
only_fault earlier d NotACertificate TwoForOneObject h k = omega arith
only_fault earlier d NotACertificate NoMemory h k = omega arith
only_fault earlier d TwoForOneObject NotACertificate h k = let own = h.is_own in absurd (cc (own, k))
only_fault earlier d TwoForOneObject TwoForOneObject h k = omega arith
only_fault earlier d TwoForOneObject NoMemory h k = omega arith
only_fault earlier d NoMemory other h k = absurd h

pub not_denoted : (ds : List Datum) (e : CertFault) → IsFirstFault ds e → (cs : List Certificate) → Denotes ds cs → ⊥
not_denoted ds e f cs h = no_fault ds cs h f.earlier f.later f.form e.kind f.split f.stands

-- a certificate of an object that no earlier form has
pub nothing_here : (ds : List Datum) (cs : List Certificate) (among : ℕ → Bool) (d : Datum) (r : Reading)
    → AreCertificatesRead ds cs among
    → certificate_of d ≡ Some r → among r.object ≡ false → (kind : CertFaultKind) → IsCertFault ds d kind → ⊥
nothing_here ds cs among d r h own new NotACertificate fault = cc
nothing_here ds cs among d r h own new TwoForOneObject fault =
    let f = read_from ds cs fault.first fault.stands.0 h.denoted.each fault.stands.1 fault.stands.2 in
    let x = r.object in
    let same : f.0.object ≡ x =
    same_objects _ _ _ _ (sym f.2 ∙ fault.is_first_own) (sym own ∙ fault.is_own) fault.same_object in
    let none = list_any-none (λ b. b.object == x) cs f.1.0 f.0 (sym (h.objects x) ∙ new) f.1.1 in
    both_ways ((get_or cs f.1.0 f.0).object == x) none
    (eq-eqb (get_or cs f.1.0 f.0).object x (ap (λ (b : Certificate). b.object) f.1.2 ∙ same))
nothing_here ds cs among d r h own new NoMemory fault = fault
