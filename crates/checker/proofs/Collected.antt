-- Certificates that were found for the objects of a history, one by one, are certificates of all its objects: each is
-- of its own object (`on_all`), no two are of one object (`distinct`), and together they are valid (`valid`).
use Rattle.std.proofs.Common.{◌≡◌, ◌≢◌, ℕ, ◌<◌, inl, inr, List, [], ◌∷◌, ◌++◌, Option, Some, None, IsSome, map, ◌+◌}
use Rattle.std.proofs.Common.{◌≤◌, length, take, get_or, All, AllPairs, Contains, refl, ap, sym, ◌∙◌, subst, arith}
use Rattle.std.specs.Prelude.{◌↔◌}
use Rattle.std.specs.List.{cons_option, filter_map}
use Rattle.std.proofs.lemmas.List.{map-append, take_more, take_all}
use Rattle.std.proofs.lemmas.List.Elements.{All-push}
use Rattle.model.specs.declared.Kind.{Kind}
use Rattle.model.specs.Orders.{Call, calls_on, IsValidOrder}
use Rattle.model.specs.Lists.{In}
use Rattle.model.proofs.Lists.{Pairs, in_map, in_map_from, in_from_contains, contains_from_in, all_from_in}
use Rattle.model.proofs.Lists.{all_at, all_from_pairs, pairs_from_all, pairs_map, pairs_from_map}
use Rattle.events.specs.declared.event.Event.{Event}
use Rattle.events.specs.Events.{IsNamed, kind_of_object, denoted}
use Rattle.events.specs.Operations.{ObjectCalls, calls_of}
use Rattle.certificate.specs.declared.Certificate.{Certificate}
use Rattle.certificate.specs.Denotes.{AreDistinct}
use Rattle.checker.specs.Refusals.{AreValid, HasCertificate}
use Rattle.checker.proofs.Certificates.{AreObjects, next_is}

-- the certificates among answers, of which each has one or none
abbrev pub collected : {A : Type 0} → (A → Option Certificate) → List (ℕ × A) → List Certificate
collected certificate_of answers = filter_map (λ a. certificate_of a.1) answers

-- ---- the certificates among answers

-- Each certificate that is collected comes from an answer.
in_found : {A : Type 0} (certificate_of : A → Option Certificate) (answers : List (ℕ × A)) (c : Certificate)
    → In c (collected certificate_of answers)
    → (a : ℕ × A) × In a answers × (certificate_of a.1 ≡ Some c)
in_found {A} certificate_of [] c i = absurd i
in_found {A} certificate_of (a ∷ answers) c i = go (certificate_of a.1) refl i (in_found certificate_of answers c)
  where
    later : ((b : ℕ × A) × In b answers × (certificate_of b.1 ≡ Some c))
        → (b : ℕ × A) × In b (a ∷ answers) × (certificate_of b.1 ≡ Some c)
    later r = (r.0, inr r.1, r.2)

    go : (o : Option Certificate) → certificate_of a.1 ≡ o → In c (cons_option o (collected certificate_of answers))
        → (In c (collected certificate_of answers) → (b : ℕ × A) × In b answers × (certificate_of b.1 ≡ Some c))
        → (b : ℕ × A) × In b (a ∷ answers) × (certificate_of b.1 ≡ Some c)
    go None e j f = later (f j)
    go (Some d) e j f = elim j [ inl q ↦ (a, inl refl, e ∙ ap Some (sym q)) | inr k ↦ later (f k) ]

-- The certificate of each answer that has one is collected.
found_in_answers : {A : Type 0} (certificate_of : A → Option Certificate) (answers : List (ℕ × A)) (a : ℕ × A)
    (c : Certificate) → In a answers
    → certificate_of a.1 ≡ Some c → In c (collected certificate_of answers)
found_in_answers {A} certificate_of [] a c i e = absurd i
found_in_answers {A} certificate_of (b ∷ answers) a c i e = elim i [
  | inl s ↦ here (certificate_of b.1) (ap (λ (x : ℕ × A). certificate_of x.1) (sym s) ∙ e)
  | inr j ↦ behind (certificate_of b.1) (found_in_answers certificate_of answers a c j e)
]
  where
    here : (o : Option Certificate) → o ≡ Some c → In c (cons_option o (collected certificate_of answers))
    here o q = rw q (inl refl)

    behind : (o : Option Certificate) → In c (collected certificate_of answers)
        → In c (cons_option o (collected certificate_of answers))
    behind None j = j
    behind (Some d) j = inr j

some_certificate : (o : Option Certificate) → IsSome o → (c : Certificate) × (o ≡ Some c)
some_certificate None i = absurd (cc i)
some_certificate (Some c) i = (c, refl)

-- ---- the answers on all objects

-- What answers are asked to be: of the object with a number, its kind and its calls.
-- Where one has a certificate, that is for the object, and its order is valid.
abbrev pub Certifies : {A : Type 0} → (A → Option Certificate) → (ℕ → Kind → List Call → A → Type 0) → Type 0
Certifies {A} certificate_of Is =
    (x : ℕ) (kind : Kind) (calls : List Call) (s : A) (c : Certificate) → Is x kind calls s → certificate_of s ≡ Some c
    → (c.object ≡ x) × IsValidOrder kind calls c.order.items

-- the answers on the objects before a place
pub record AreAnswers {A : Type 0} (es : List Event) (Is : ℕ → Kind → List Call → A → Type 0)
    (objects : List ObjectCalls) (k : ℕ) (answers : List (ℕ × A)) : Type 0 where
  pub objects_are : AreObjects es objects
  pub numbers : map (λ a. a.0) answers ≡ map (λ o. o.object) (take k objects)
  pub each : All (λ a. Is a.0 (kind_of_object es a.0) (calls_on a.0 (denoted es)) a.1) answers

-- before the first object there are no answers
pub no_answers : {A : Type 0} (es : List Event) (Is : ℕ → Kind → List Call → A → Type 0) (objects : List ObjectCalls)
    (answers : List (ℕ × A))
    → AreObjects es objects → answers ≡ [] → AreAnswers es Is objects 0 answers
no_answers {A} es Is objects answers h none =
    rw none (record { objects_are = h; numbers = refl; each = λ i d l. absurd (omega (arith, l)) })

-- an answer on the next object is put after those on the objects before
pub answer_to_next : {A : Type 0} (es : List Event) (Is : ℕ → Kind → List Call → A → Type 0)
    (objects : List ObjectCalls) (place : ℕ) (next : ObjectCalls) (old new : List (ℕ × A)) (number : ℕ) (answer : A)
    → place < length objects → next ≡ get_or objects place next → number ≡ next.object
    → new ≡ old ++ (number, answer) ∷ []
    → Is next.object next.kind (calls_of next.ops) answer → AreAnswers es Is objects place old
    → AreAnswers es Is objects (place + 1) new
answer_to_next {A} es Is objects place next old new number answer inside is numbered put right are = record {
  objects_are = are.objects_are;
  numbers =
      ap (map (λ a. a.0)) put ∙ map-append (λ (a : ℕ × A). a.0) old ((number, answer) ∷ [])
      ∙ ap (λ xs. xs ++ number ∷ []) are.numbers
      ∙ ap (λ (x : ℕ). map object_of (take place objects) ++ x ∷ []) (numbered ∙ ap object_of is)
      ∙ sym (ap (map object_of) (take_more objects place next inside)
      ∙ map-append object_of (take place objects) (get_or objects place next ∷ []));
  each = rw put (All-push (λ (a : ℕ × A). Is a.0 (kind_of_object es a.0) (calls_on a.0 (denoted es)) a.1) old
      (number, answer) are.each (rw numbered here));
}
  where
    object_of : ObjectCalls → ℕ
    object_of o = o.object

    here : Is next.object (kind_of_object es next.object) (calls_on next.object (denoted es)) answer
    here = next_is es objects place next (λ kind calls. Is next.object kind calls answer)
        are.objects_are inside is right

-- the answers on all objects, in rising number
pub record AreOnAll {A : Type 0} (es : List Event) (Is : ℕ → Kind → List Call → A → Type 0)
    (answers : List (ℕ × A)) : Type 0 where
  pub rising : AllPairs (λ a b. a.0 < b.0) answers
  pub named : (x : ℕ) → Contains (map (λ a. a.0) answers) x ↔ IsNamed es x
  pub each : All (λ a. Is a.0 (kind_of_object es a.0) (calls_on a.0 (denoted es)) a.1) answers

-- answers on all objects of the list are answers on all objects of the history
pub on_all : {A : Type 0} (es : List Event) (Is : ℕ → Kind → List Call → A → Type 0) (objects : List ObjectCalls)
    (k : ℕ) (answers : List (ℕ × A))
    → length objects ≤ k → AreAnswers es Is objects k answers → AreOnAll es Is answers
on_all {A} es Is objects k answers l h = record {
  rising = all_from_pairs (λ a b. a.0 < b.0) answers
      (pairs_from_map (λ m n. m < n) (λ a. a.0) answers
      (rw numbers (pairs_map (λ m n. m < n) (λ o. o.object) objects
      (pairs_from_all (λ a b. a.object < b.object) objects h.objects_are.rising))));
  named = rw numbers h.objects_are.named;
  each = h.each;
}
  where
    numbers : map (λ (a : ℕ × A). a.0) answers ≡ map (λ (o : ObjectCalls). o.object) objects
    numbers = h.numbers ∙ ap (map (λ (o : ObjectCalls). o.object)) (take_all k objects l)

-- the answer on an object of this number
answer_on : {A : Type 0} (answers : List (ℕ × A)) (x : ℕ) → Contains (map (λ a. a.0) answers) x
    → (a : ℕ × A) × In a answers × (x ≡ a.0)
answer_on {A} answers x c = in_map (λ (a : ℕ × A). a.0) x answers (in_from_contains (map (λ a. a.0) answers) x c)

-- each certificate is for the object of its answer, and its order is valid
own : {A : Type 0} (certificate_of : A → Option Certificate) (es : List Event)
    (Is : ℕ → Kind → List Call → A → Type 0) (answers : List (ℕ × A))
    → Certifies certificate_of Is → AreOnAll es Is answers → (a : ℕ × A) (c : Certificate) → In a answers
    → certificate_of a.1 ≡ Some c
    → (c.object ≡ a.0) × IsValidOrder (kind_of_object es a.0) (calls_on a.0 (denoted es)) c.order.items
own {A} certificate_of es Is answers certifies h a c i e =
    certifies a.0 (kind_of_object es a.0) (calls_on a.0 (denoted es)) a.1 c
    (all_at (λ (a : ℕ × A). Is a.0 (kind_of_object es a.0) (calls_on a.0 (denoted es)) a.1) answers h.each a i) e

-- the certificates among the answers are of different objects
pub distinct : {A : Type 0} (certificate_of : A → Option Certificate) (es : List Event)
    (Is : ℕ → Kind → List Call → A → Type 0)
    (answers : List (ℕ × A)) → Certifies certificate_of Is → AreOnAll es Is answers
    → AreDistinct (collected certificate_of answers)
distinct {A} certificate_of es Is answers certifies h =
    all_from_pairs (λ a b. a.object ≢ b.object) (collected certificate_of answers)
    (go answers (λ a c i e. (own certificate_of es Is answers certifies h a c i e).0)
    (pairs_from_all (λ a b. a.0 < b.0) answers h.rising))
  where
    go : (rest_of : List (ℕ × A))
        → ((a : ℕ × A) (c : Certificate) → In a rest_of → certificate_of a.1 ≡ Some c → c.object ≡ a.0)
        → Pairs (λ a b. a.0 < b.0) rest_of → Pairs (λ a b. a.object ≢ b.object) (collected certificate_of rest_of)
    go [] own up = tt
    go (a ∷ rest_of) own up = more (certificate_of a.1) refl (go rest_of (λ b c i e. own b c (inr i) e) up.1)
      where
        more : (o : Option Certificate) → certificate_of a.1 ≡ o
            → Pairs (λ a b. a.object ≢ b.object) (collected certificate_of rest_of)
            → Pairs (λ a b. a.object ≢ b.object) (cons_option o (collected certificate_of rest_of))
        more None e rest = rest
        more (Some c) e rest = (
          λ d i q.
              let b = in_found certificate_of rest_of d i in
              let l = up.0 b.0 b.1 in
              let x = own a c (inl refl) e in
              let y = own b.0 d (inr b.1) b.2 in
              absurd (omega arith),
          rest,
        )

-- if each answer has a certificate, the certificates are valid
pub valid : {A : Type 0} (certificate_of : A → Option Certificate) (es : List Event)
    (Is : ℕ → Kind → List Call → A → Type 0) (answers : List (ℕ × A))
    → Certifies certificate_of Is → AreOnAll es Is answers → All (λ a. IsSome (certificate_of a.1)) answers
    → AreValid es (collected certificate_of answers)
valid {A} certificate_of es Is answers certifies h all = record {
  each = λ x n.
      let a = answer_on answers x ((h.named x).1 n) in
      let c = some_certificate (certificate_of a.0.1) (all_at (λ a. IsSome (certificate_of a.1)) answers all a.0 a.1) in
      let of_it = own certificate_of es Is answers certifies h a.0 c.0 a.1 c.1 in
      let certificate : HasCertificate (collected certificate_of answers) x =
      record {
        certificate = c.0;
        stands = contains_from_in (collected certificate_of answers) c.0
            (found_in_answers certificate_of answers a.0 c.0 a.1 c.1);
        for_object = of_it.0 ∙ sym a.2;
      } in (
        certificate,
        subst (λ (y : ℕ). IsValidOrder (kind_of_object es y) (calls_on y (denoted es)) c.0.order.items)
            (sym a.2) of_it.1,
      );
  none_besides = all_from_in (λ c. IsNamed es c.object) (collected certificate_of answers) (λ c i.
      let a = in_found certificate_of answers c i in
      let of_it = own certificate_of es Is answers certifies h a.0 c a.1 a.2 in
      rw of_it.0 ((h.named a.0.0).0 (contains_from_in (map (λ a. a.0) answers) a.0.0
      (in_map_from (λ (a : ℕ × A). a.0) a.0 answers a.1))));
}
