-- The objects are checked in turn. While all before this one are fine, the first refusal here is the first of all
-- (`next_is_first`); in the end all orders are valid, or the least object that only a certificate names is refused.
use Rattle.std.proofs.Common.{◌≡◌, ◌≢◌, ℕ, zero, suc, ◌+◌, ◌<◌, ◌≤◌, ◌↔◌, ◌++◌, ◌∷◌, [], List, Option, Some, None}
use Rattle.std.proofs.Common.{IsSome, All, AllPairs, Contains, map, length, get_or, take, drop, OnOk, IfErr, Result, Ok}
use Rattle.std.proofs.Common.{Err, inl, inr, refl, ap, sym, ◌∙◌, subst, arith}
use Rattle.std.specs.Prelude.{IfSome, IfNone}
use Rattle.std.proofs.lemmas.Option.{same_Some}
use Rattle.number_map.specs.Lookup.{value_of}
use Rattle.number_map.specs.declared.NumberMap.{NumberMap}
use Rattle.std.proofs.lemmas.Bool.{cases_eq}
use Rattle.std.proofs.lemmas.List.{get_or_default, take_more, take_all}
use Rattle.model.specs.declared.Kind.{Kind}
use Rattle.model.specs.Orders.{Call, IsValidOrder, calls_on}
use Rattle.model.specs.Lists.{In}
use Rattle.model.proofs.Lists.{Pairs, in_append, in_left, in_middle, in_map, in_map_from, in_from_contains}
use Rattle.model.proofs.Lists.{contains_from_in, in_from_get, all_at, all_from_in, pairs_from_all}
use Rattle.events.specs.declared.event.Event.{Event}
use Rattle.events.specs.Events.{IsNamed, kind_of_object, denoted}
use Rattle.events.specs.Operations.{ObjectCalls, calls_of}
use Rattle.certificate.specs.declared.Certificate.{Certificate}
use Rattle.checker.specs.declared.refusal.OrderFault.{OrderFault}
use Rattle.checker.specs.declared.refusal.Refusal.{Refusal}
use Rattle.checker.specs.declared.refusal.Refusal.TheVariants.{NoCertificate, StrangeObject, BadOrder, NoMemory}
use Rattle.checker.specs.Faults.{IsFirstFault}
use Rattle.checker.specs.Refusals.{RefusesOrder, HasCertificate, AreValid, IsRefusalAt, IsLeastStrange, IsFirstRefusal}
use Rattle.checker.specs.Checking.{IsCertificatePlace, AreCertificatePlaces, AreAllPlaces, IsFine, IsRefused}
use Rattle.checker.specs.Checking.{AreForThese, IsLeastBesides, IsLeastPlaced}

-- a certificate that is put in the table has its place, and so have those before it
pub one_placed : (certificates : List Certificate) (places more : NumberMap ℕ) (place : ℕ) (certificate : Certificate)
    → place < length certificates
    → certificate ≡ get_or certificates place certificate → AreCertificatePlaces places certificates
    → ((c : Certificate) → In c (take place certificates) → IsSome (value_of places c.object))
    → value_of more certificate.object ≡ Some place
    → ((x : ℕ) → x ≢ certificate.object → value_of more x ≡ value_of places x)
    → AreCertificatePlaces more certificates
    × ((c : Certificate) → In c (take (place + 1) certificates) → IsSome (value_of more c.object))
one_placed certificates places more place certificate inside is right some own others = (
  λ x j q. elim (cases_eq x certificate.object) [
    | inl e ↦
        let same : place ≡ j = same_Some place j (sym own ∙ (ap (value_of more) (sym e) ∙ q)) in
        rw (← same) (record {
          inside = inside;
          for_object =
              λ c. ap (λ (z : Certificate). z.object) (get_or_default certificates place c certificate inside ∙ sym is)
              ∙ sym e;
        })
    | inr ne ↦ right x j (sym (others x ne) ∙ q)
  ],
  λ other i. elim (cases_eq other.object certificate.object) [
    | inl e ↦ rw (e, own) refl
    | inr ne ↦ rw (others other.object ne)
        (elim (in_append other (take place certificates) (get_or certificates place certificate ∷ [])
        (rw (take_more certificates place certificate inside) at i)) [
          | inl j ↦ some other j
          | inr j ↦ elim j [
            | inl e ↦ absurd (ne (ap (λ (z : Certificate). z.object) (e ∙ sym is)))
            | inr z ↦ absurd z
          ]
        ])
  ],
)

-- each certificate has its object's place in the table, once all were put in
pub all_placed : (certificates : List Certificate) (m : NumberMap ℕ) (k : ℕ) → length certificates ≤ k
    → ((c : Certificate) → In c (take k certificates) → IsSome (value_of m c.object))
    → All (λ c. IsSome (value_of m c.object)) certificates
all_placed certificates m k l some =
    all_from_in (λ (c : Certificate). IsSome (value_of m c.object)) certificates
    (λ c i. some c (rw (take_all k certificates l) i))

-- a history's objects, in rising number, each with its kind and calls
pub record AreObjects (es : List Event) (os : List ObjectCalls) : Type 0 where
  pub rising : AllPairs (λ a b. a.object < b.object) os
  pub named : (x : ℕ) → Contains (map (λ o. o.object) os) x ↔ IsNamed es x
  pub kinds : All (λ o. o.kind ≡ kind_of_object es o.object) os
  pub calls : All (λ o. calls_of o.ops ≡ calls_on o.object (denoted es)) os

abbrev pub IsFineAt : List Event → List Certificate → ℕ → Type 0
IsFineAt es certificates x = IsFine (kind_of_object es x) (calls_on x (denoted es)) certificates x

-- each of these objects has a valid order
abbrev pub AreFine : List Event → List Certificate → List ObjectCalls → Type 0
AreFine es certificates os = (o : ObjectCalls) → In o os → IsFineAt es certificates o.object

-- the places that are left once those of these objects are taken out
pub record AreLeft (certificates : List Certificate) (os : List ObjectCalls) (left : NumberMap ℕ) : Type 0 where
  pub places : AreCertificatePlaces left certificates
  pub apart : (o : ObjectCalls) → In o os → value_of left o.object ≡ None
  pub gone : (c : Certificate) → In c certificates → value_of left c.object ≡ None
      → (o : ObjectCalls) × In o os × (o.object ≡ c.object)

-- ---- the next object

abbrev pub has_here : (certificates : List Certificate) (object place : ℕ) (found : Certificate)
    → IsCertificatePlace certificates object place
    → found ≡ get_or certificates place found → HasCertificate certificates object
has_here certificates object place found at is = record {
  certificate = found;
  stands = contains_from_in certificates found (rw is (in_from_get certificates place found at.inside));
  for_object = ap (λ (c : Certificate). c.object) is ∙ at.for_object found;
}

-- an order that was found valid for the object has no fault
pub fine_here : (kind : Kind) (calls : List Call) (certificates : List Certificate) (object place : ℕ)
    (certificate : Certificate) (answer : Result (Unit {0}) Refusal) → IsCertificatePlace certificates object place
    → certificate ≡ get_or certificates place certificate
    → OnOk answer (IsValidOrder kind calls certificate.order.items)
    → OnOk answer ((f : OrderFault) → IsFirstFault kind calls certificate.order.items f → ⊥)
    → OnOk answer (IsFine kind calls certificates object)
fine_here kind calls certificates object place certificate (Ok u) at is valid faultless =
    record { certificate = has_here certificates object place certificate at is; valid = valid; faultless = faultless }
fine_here kind calls certificates object place certificate (Err e) at is valid faultless = tt

-- an object whose order was refused is refused, and its certificate is not valid
pub refused_here : (kind : Kind) (calls : List Call) (certificates : List Certificate) (object place : ℕ)
    (certificate : Certificate) (answer : Result (Unit {0}) Refusal)
    → IsCertificatePlace certificates object place → certificate ≡ get_or certificates place certificate
    → IfErr answer (RefusesOrder object kind calls certificate.order.items)
    → (IsValidOrder kind calls certificate.order.items → IfErr answer (λ e. e ≡ NoMemory))
    → IfErr answer (IsRefused kind calls certificates object)
refused_here kind calls certificates object place certificate (Ok u) at is refused exact = tt
refused_here kind calls certificates object place certificate (Err (BadOrder other fault)) at is refused exact =
    (refused.0, has_here certificates object place certificate at is, refused.1, λ v. let e = exact v in cc e)
refused_here kind calls certificates object place certificate (Err NoMemory) at is refused exact = tt
refused_here kind calls certificates object place certificate (Err e) at is refused exact = absurd refused

has_some : (o : Option ℕ) → o ≡ None → IsSome o → ⊥
has_some None q s = cc s
has_some (Some k) q s = cc q

-- an object that has no place has no certificate
pub no_certificate : (certificates : List Certificate) (m : NumberMap ℕ) (x : ℕ) → AreAllPlaces m certificates
    → value_of m x ≡ None → HasCertificate certificates x → ⊥
no_certificate certificates m x h none c =
    let some = all_at (λ (c : Certificate). IsSome (value_of m c.object)) certificates h.all c.certificate
    (in_from_contains certificates c.certificate c.stands) in
    has_some (value_of m c.certificate.object) (ap (value_of m) c.for_object ∙ none) some

-- ---- one after the other

-- with the next object, which has a valid certificate too, all these have one
pub fine_with_next : (es : List Event) (certificates : List Certificate) (os : List ObjectCalls) (next : ObjectCalls)
    → AreFine es certificates os → IsFineAt es certificates next.object → AreFine es certificates (os ++ next ∷ [])
fine_with_next es certificates os next all_fine fine = λ p i. elim (in_append p os (next ∷ []) i) [
  | inl j ↦ all_fine p j
  | inr j ↦ elim j [
    | inl e ↦ rw e fine
    | inr n ↦ absurd n
  ]
]

-- at first the certificates of all objects are left in the table
pub all_left : (certificates : List Certificate) (m : NumberMap ℕ) → AreAllPlaces m certificates
    → AreLeft certificates [] m
all_left certificates m h = record {
  places = h.places;
  apart = λ o i. absurd i;
  gone = λ c i q. absurd (has_some (value_of m c.object) q
      (all_at (λ c. IsSome (value_of m c.object)) certificates h.all c i));
}

-- the certificate of one more object was taken out of the table
pub one_taken : (certificates : List Certificate) (os : List ObjectCalls) (next : ObjectCalls) (left new : NumberMap ℕ)
    → AreLeft certificates os left
    → value_of new next.object ≡ None → ((x : ℕ) → x ≢ next.object → value_of new x ≡ value_of left x)
    → AreLeft certificates (os ++ next ∷ []) new
one_taken certificates os next left new were own others = record {
  places = λ x k q. elim (cases_eq x next.object) [
    | inl e ↦ (let n : None ≡ Some k = sym own ∙ (ap (value_of new) (sym e) ∙ q) in cc n)
    | inr ne ↦ were.places x k (sym (others x ne) ∙ q)
  ];
  apart = λ p i. elim (in_append p os (next ∷ []) i) [
    | inl j ↦ elim (cases_eq p.object next.object) [
      | inl e ↦ ap (value_of new) e ∙ own
      | inr ne ↦ others p.object ne ∙ were.apart p j
    ]
    | inr j ↦ elim j [
      | inl e ↦ ap (λ (q : ObjectCalls). value_of new q.object) e ∙ own
      | inr n ↦ absurd n
    ]
  ];
  gone = λ c i q. elim (cases_eq c.object next.object) [
    | inl e ↦ (next, in_middle next os [], sym e)
    | inr ne ↦ let g = were.gone c i (sym (others c.object ne) ∙ q) in (g.0, in_left g.0 os (next ∷ []) g.1, g.2)
  ];
}

-- an object in the list stands among their numbers
number_stands : (os : List ObjectCalls) (o : ObjectCalls) → In o os → Contains (map (λ o. o.object) os) o.object
number_stands os o i = contains_from_in (map (λ (o : ObjectCalls). o.object) os) o.object
    (in_map_from (λ (o : ObjectCalls). o.object) o os i)

-- where no certificate has a place that is left, each is for one of these
none_besides : (certificates : List Certificate) (os : List ObjectCalls) (left : NumberMap ℕ)
    → AreLeft certificates os left
    → IsLeastPlaced left certificates None → AreForThese (map (λ o. o.object) os) certificates
none_besides certificates os left h none =
    all_from_in (λ (c : Certificate). Contains (map (λ o. o.object) os) c.object) certificates (λ c i.
    let g = h.gone c i (all_at (λ (c : Certificate). value_of left c.object ≡ None) certificates none c i) in
    rw g.2 at (number_stands os g.0 g.1))

-- what is at a place
pub element : {X : Type 0} (xs : List X) (k : ℕ) → k < length xs → (d : X) × (d ≡ get_or xs k d)
element [] k l = absurd (omega arith)
element (x ∷ xs) k l = let d = get_or (x ∷ xs) k x in (d, get_or_default (x ∷ xs) k x d l)

-- the least object of a place that is left is the least object besides
least_besides : (certificates : List Certificate) (os : List ObjectCalls) (left : NumberMap ℕ) (x : ℕ)
    → AreLeft certificates os left
    → IsLeastPlaced left certificates (Some x) → IsLeastBesides (map (λ o. o.object) os) certificates x
least_besides certificates os left x h is = record {
  certified = (let p = h.places x there.0 there.1 in let e = element certificates there.0 p.inside in
      has_here certificates x there.0 e.0 p e.1);
  besides = λ stands. let o =
      in_map (λ (o : ObjectCalls). o.object) x os
      (in_from_contains (map (λ (o : ObjectCalls). o.object) os) x stands) in
      let n : None ≡ Some there.0 = sym (h.apart o.0 o.1) ∙ (ap (value_of left) (sym o.2) ∙ there.1) in cc n;
  least = all_from_in (λ (c : Certificate). c.object < x → Contains (map (λ o. o.object) os) c.object) certificates
      (λ c i l. below c i l (value_of left c.object) refl);
}
  where
    the : (o : Option ℕ) → IsSome o → (k : ℕ) × (o ≡ Some k)
    the None s = cc s
    the (Some k) s = (k, refl)

    there : (k : ℕ) × (value_of left x ≡ Some k)
    there = the (value_of left x) is.0

    below : (c : Certificate) → In c certificates → c.object < x → (o : Option ℕ) → value_of left c.object ≡ o
        → Contains (map (λ o. o.object) os) c.object
    below c i l None q =
        let g = h.gone c i q in rw g.2 at (number_stands os g.0 g.1)
    below c i l (Some j) q =
        let least = all_at (λ (c : Certificate). IsSome (value_of left c.object) → x ≤ c.object) certificates is.1 c i
        (rw q refl) in
        absurd (omega (arith, l, least))

-- what is left in the table is the least object whose certificate is for no object, or there is none
pub strange : (certificates : List Certificate) (os : List ObjectCalls) (left : NumberMap ℕ) (r : Option ℕ)
    → AreLeft certificates os left
    → IsLeastPlaced left certificates r
    → IfNone r (AreForThese (map (λ o. o.object) os) certificates)
    × IfSome r (IsLeastBesides (map (λ o. o.object) os) certificates)
strange certificates os left None h is = (none_besides certificates os left h is, tt)
strange certificates os left (Some x) h is = (tt, least_besides certificates os left x h is)

-- ---- what has been checked

object_named : (es : List Event) (os : List ObjectCalls) → AreObjects es os → (x : ℕ) → IsNamed es x
    → (o : ObjectCalls) × In o os × (x ≡ o.object)
object_named es os h x named =
    in_map (λ (o : ObjectCalls). o.object) x os
    (in_from_contains (map (λ (o : ObjectCalls). o.object) os) x ((h.named x).1 named))

is_named : (es : List Event) (os : List ObjectCalls) → AreObjects es os → (o : ObjectCalls) → In o os
    → IsNamed es o.object
is_named es os h o i = (h.named o.object).0
    (contains_from_in (map (λ (o : ObjectCalls). o.object) os) o.object
    (in_map_from (λ (o : ObjectCalls). o.object) o os i))

fine_at : (es : List Event) (certificates : List Certificate) (os : List ObjectCalls) → AreObjects es os
    → AreFine es certificates os → (x : ℕ) → IsNamed es x → IsFineAt es certificates x
fine_at es certificates os objects h x named =
    let o = object_named es os objects x named in rw o.2 (h o.0 o.1)

same_certificate : (certificates : List Certificate) → Pairs (λ a b. a.object ≢ b.object) certificates
    → (a b : Certificate) → In a certificates → In b certificates → a.object ≡ b.object → a ≡ b
same_certificate [] d a b i j q = absurd i
same_certificate (c ∷ cs) d a b i j q = elim i [
  | inl e ↦ elim j [
    | inl f ↦ e ∙ sym f
    | inr g ↦ absurd (d.0 b g (ap (λ (z : Certificate). z.object) (sym e) ∙ q))
  ]
  | inr h ↦ elim j [
    | inl f ↦ absurd (d.0 a h (ap (λ (z : Certificate). z.object) (sym f) ∙ sym q))
    | inr g ↦ same_certificate cs d.1 a b h g q
  ]
]

-- an object has one certificate, if no two certificates are of one object
pub same_orders : (certificates : List Certificate) → AllPairs (λ a b. a.object ≢ b.object) certificates
    → (x : ℕ) (a b : HasCertificate certificates x) → a.certificate ≡ b.certificate
same_orders certificates apart x a b =
    same_certificate certificates
    (pairs_from_all (λ a b. a.object ≢ b.object) certificates apart) a.certificate b.certificate
    (in_from_contains certificates a.certificate a.stands) (in_from_contains certificates b.certificate b.stands)
    (a.for_object ∙ sym b.for_object)

no_refusal : (es : List Event) (certificates : List Certificate) → AllPairs (λ a b. a.object ≢ b.object) certificates
    → (x : ℕ)
    → IsFineAt es certificates x → (r : Refusal) → IsRefusalAt es certificates x r → ⊥
no_refusal es certificates apart x fine (NoCertificate y) s = s.1 fine.certificate
no_refusal es certificates apart x fine (BadOrder y f) s =
    fine.faultless f (rw (same_orders certificates apart x s.1 fine.certificate) at s.2)
no_refusal es certificates apart x fine r s = s

-- if each object has a valid certificate, and each certificate is for one of them, the certificates are valid
pub all_valid : (es : List Event) (certificates : List Certificate) (os : List ObjectCalls) → AreObjects es os
    → AreFine es certificates os
    → AreForThese (map (λ o. o.object) os) certificates → AreValid es certificates
all_valid es certificates os objects h besides = record {
  each = λ x named. let f = fine_at es certificates os objects h x named in (f.certificate, f.valid);
  none_besides = all_from_in (λ (c : Certificate). IsNamed es c.object) certificates
      (λ c i. (objects.named c.object).0
      (all_at (λ (c : Certificate). Contains (map (λ o. o.object) os) c.object) certificates besides c i));
}

-- if each named object has a valid certificate, the least object of the other certificates is the one to be refused
pub least_strange : (es : List Event) (certificates : List Certificate) (os : List ObjectCalls) (x : ℕ)
    → AllPairs (λ a b. a.object ≢ b.object) certificates → AreObjects es os → AreFine es certificates os
    → IsLeastBesides (map (λ o. o.object) os) certificates x → IsLeastStrange es certificates x
least_strange es certificates os x apart objects fine besides = record {
  certified = besides.certified;
  not_named = λ named. besides.besides ((objects.named x).1 named);
  least = all_from_in (λ (c : Certificate). c.object < x → IsNamed es c.object) certificates
      (λ c i l. (objects.named c.object).0
      (all_at (λ (c : Certificate). c.object < x → Contains (map (λ o. o.object) os) c.object)
      certificates besides.least c i l));
  none = λ y r named t. no_refusal es certificates apart y (fine_at es certificates os objects fine y named) r t;
}

-- ---- where the next object is refused

already : (os : List ObjectCalls) (next : ObjectCalls) (later : List ObjectCalls)
    → Pairs (λ a b. a.object < b.object) (os ++ next ∷ later)
    → (object : ObjectCalls) → In object (os ++ next ∷ later) → object.object < next.object → In object os
already [] next later rising object i less = elim i [
  | inl e ↦ (let e' : object.object ≡ next.object = ap (λ (z : ObjectCalls). z.object) e in absurd (omega arith))
  | inr j ↦ (let g = rising.0 object j in absurd (omega arith))
]
already (q ∷ os) next later rising object i less = elim i [
  | inl e ↦ inl e
  | inr j ↦ inr (already os next later rising.1 object j less)
]

-- The objects before this one have valid certificates, and this one is refused: then that is the first refusal.
first_refusal : (es : List Event) (certificates : List Certificate) (all os : List ObjectCalls) (next : ObjectCalls)
    (later : List ObjectCalls)
    (refusal : Refusal) → AllPairs (λ a b. a.object ≢ b.object) certificates → AreObjects es all
    → all ≡ os ++ next ∷ later → AreFine es certificates os
    → IsRefused (kind_of_object es next.object) (calls_on next.object (denoted es)) certificates next.object refusal
    → IsFirstRefusal es certificates refusal
first_refusal es certificates all os next later refusal apart objects split fine refused = go refusal refused
  where
    up : Pairs (λ a b. a.object < b.object) (os ++ next ∷ later)
    up = rw split at (pairs_from_all (λ a b. a.object < b.object) all objects.rising)

    named : IsNamed es next.object
    named = is_named es all objects next (rw split (in_middle next os later))

    least : (y : ℕ) (s : Refusal) → y < next.object → IsNamed es y → IsRefusalAt es certificates y s → ⊥
    least y s l named stands =
        let p = object_named es all objects y named in
        let i = already os next later up p.0 (subst (In p.0) split p.1) (rw p.2 at l) in
        no_refusal es certificates apart y (rw p.2 (fine p.0 i)) s stands

    go : (refusal : Refusal)
        → IsRefused (kind_of_object es next.object) (calls_on next.object (denoted es)) certificates next.object refusal
        → IsFirstRefusal es certificates refusal
    go (NoCertificate y) s = record { object = next.object; named = named; stands = (s.0, s.1); least = least }
    go (StrangeObject y) s = absurd s
    go (BadOrder y f) s = record { object = next.object; named = named; stands = (s.0, s.1, s.2); least = least }
    go NoMemory s = tt

-- certificates that are valid are refused by an allocation failure alone
refused_are_not_valid : (es : List Event) (certificates : List Certificate) (all os : List ObjectCalls)
    (next : ObjectCalls) (later : List ObjectCalls)
    (refusal : Refusal) → AllPairs (λ a b. a.object ≢ b.object) certificates → AreObjects es all
    → all ≡ os ++ next ∷ later → AreFine es certificates os
    → IsRefused (kind_of_object es next.object) (calls_on next.object (denoted es)) certificates next.object refusal
    → AreValid es certificates → refusal ≡ NoMemory
refused_are_not_valid es certificates all os next later refusal apart objects split fine refused valid =
    go refusal (first_refusal es certificates all os next later refusal apart objects split fine refused) refused
  where
    go : (refusal : Refusal) → IsFirstRefusal es certificates refusal
        → IsRefused (kind_of_object es next.object) (calls_on next.object (denoted es)) certificates next.object refusal
        → refusal ≡ NoMemory
    go (NoCertificate y) f s = absurd (f.stands.1 (valid.each f.object f.named).0)
    go (StrangeObject y) f s = absurd s
    go (BadOrder y g) f s =
        let each = valid.each next.object (rw (sym f.stands.0 ∙ s.0) at f.named) in
        absurd (s.3 (rw (same_orders certificates apart next.object each.0 s.1) at each.1))
    go NoMemory f s = refl

-- certificates are not valid if one is for an object that is not in the history
pub strange_is_not_valid : (es : List Event) (certificates : List Certificate) (x : ℕ)
    → IsLeastStrange es certificates x → AreValid es certificates → ⊥
strange_is_not_valid es certificates x h valid =
    h.not_named (rw h.certified.for_object at
    (all_at (λ (c : Certificate). IsNamed es c.object) certificates valid.none_besides h.certified.certificate
    (in_from_contains certificates h.certified.certificate h.certified.stands)))

-- ---- the list of objects

-- objects in rising order, with their kinds and calls, are those of the history
pub are_objects : (es : List Event) (fs os : List ObjectCalls) → fs ≡ os → AllPairs (λ a b. a.object < b.object) os
    → ((x : ℕ) → Contains (map (λ o. o.object) os) x ↔ IsNamed es x)
    → All (λ o. o.kind ≡ kind_of_object es o.object) os → All (λ o. calls_of o.ops ≡ calls_on o.object (denoted es)) os
    → AreObjects es fs
are_objects es fs os is rising named kinds calls =
    rw is (record { rising = rising; named = named; kinds = kinds; calls = calls })

next_parts : (fs : List ObjectCalls) (i : ℕ) (next : ObjectCalls) → i < length fs → next ≡ get_or fs i next
    → fs ≡ take i fs ++ next ∷ drop (suc i) fs
next_parts fs i next inside is = parts fs i inside ∙ ap (λ x. take i fs ++ x ∷ drop (suc i) fs) (sym is)
  where
    parts : (gs : List ObjectCalls) (j : ℕ) → j < length gs → gs ≡ take j gs ++ get_or gs j next ∷ drop (suc j) gs
    parts [] j m = absurd (omega arith)
    parts (g ∷ gs) zero m = refl
    parts (g ∷ gs) (suc j) m = ap (λ t. g ∷ t) (parts gs j (omega arith))

in_objects : (fs : List ObjectCalls) (i : ℕ) (next : ObjectCalls) → i < length fs → next ≡ get_or fs i next → In next fs
in_objects fs i next inside is = rw is (in_from_get fs i next inside)

-- what holds of the kind and the calls of an object holds of those in the history
pub next_is : (es : List Event) (fs : List ObjectCalls) (i : ℕ) (next : ObjectCalls) (P : Kind → List Call → Type 0)
    → AreObjects es fs → i < length fs → next ≡ get_or fs i next → P next.kind (calls_of next.ops)
    → P (kind_of_object es next.object) (calls_on next.object (denoted es))
next_is es fs i next P objects inside is holds =
    let j = in_objects fs i next inside is in
    let its_kind = subst (λ k. P k (calls_of next.ops))
    (all_at (λ (o : ObjectCalls). o.kind ≡ kind_of_object es o.object) fs objects.kinds next j) holds in
    subst (P (kind_of_object es next.object))
    (all_at (λ (o : ObjectCalls). calls_of o.ops ≡ calls_on o.object (denoted es)) fs objects.calls next j) its_kind

-- An object of the list is fine in the history if its calls are fine.
pub next_fine : (es : List Event) (certificates : List Certificate) (fs : List ObjectCalls) (i : ℕ) (next : ObjectCalls)
    → AreObjects es fs
    → i < length fs → next ≡ get_or fs i next → IsFine next.kind (calls_of next.ops) certificates next.object
    → IsFineAt es certificates next.object
next_fine es certificates fs i next objects inside is fine =
    next_is es fs i next (λ kind calls. IsFine kind calls certificates next.object) objects inside is fine

-- Where the next object is refused, that is the first refusal. Certificates that are valid are refused by an
-- allocation failure alone.
pub next_is_first : (es : List Event) (certificates : List Certificate) (fs : List ObjectCalls) (i : ℕ)
    (next : ObjectCalls) (refusal : Refusal)
    → AllPairs (λ a b. a.object ≢ b.object) certificates → AreObjects es fs → AreFine es certificates (take i fs)
    → i < length fs → next ≡ get_or fs i next → IsRefused next.kind (calls_of next.ops) certificates next.object refusal
    → IsFirstRefusal es certificates refusal × (AreValid es certificates → refusal ≡ NoMemory)
next_is_first es certificates fs i next refusal apart objects fine inside is refused =
    let in_history = next_is es fs i next (λ kind calls. IsRefused kind calls certificates next.object refusal)
    objects inside is refused in
    let parts = next_parts fs i next inside is in (
      first_refusal es certificates fs (take i fs) next (drop (suc i) fs) refusal apart objects parts fine in_history,
      refused_are_not_valid es certificates fs (take i fs) next (drop (suc i) fs)
          refusal apart objects parts fine in_history,
    )
