-- An order has one first fault at most, and a list of certificates one first refusal: of two, neither comes before the
-- other, and what the order and the certificates say at that place makes them the same.
use Rattle.std.proofs.Common.{◌≡◌, ◌≢◌, ℕ, ℤ, pos, ◌≤ℤ◌, ◌<◌, ◌≤◌, inl, inr, List, take, Some, IsSome, IfErr}
use Rattle.std.proofs.Common.{Contains, AllPairs, slice_get, refl, ap, sym, ◌∙◌, subst, arith}
use Rattle.std.specs.declared.result.Result.{Result}
use Rattle.std.specs.declared.result.Result.TheVariants.{Ok, Err}
use Rattle.std.proofs.lemmas.Bool.{cases_lt}
use Rattle.std.proofs.lemmas.Int.{ints}
use Rattle.std.proofs.lemmas.Option.{same_Some}
use Rattle.model.specs.declared.Kind.{Kind}
use Rattle.model.specs.declared.AnyReply.{AnyReply}
use Rattle.model.specs.Objects.{Content, next}
use Rattle.model.specs.Orders.{Call, calls_on}
use Rattle.model.proofs.Lists.{all_at, in_from_contains}
use Rattle.events.specs.declared.event.Event.{Event}
use Rattle.events.specs.Events.{IsNamed, kind_of_object, denoted}
use Rattle.certificate.specs.declared.Certificate.{Certificate}
use Rattle.checker.specs.declared.refusal.OrderFault.{OrderFault}
use Rattle.checker.specs.declared.refusal.OrderFault.TheVariants.{UnknownOperation, Repeated, TooLate, NotPossible}
use Rattle.checker.specs.declared.refusal.OrderFault.TheVariants.{WrongReply, Omitted}
use Rattle.checker.specs.declared.refusal.Refusal.{Refusal}
use Rattle.checker.specs.declared.refusal.Refusal.TheVariants.{NoCertificate, StrangeObject, BadOrder, NoMemory}
use Rattle.checker.specs.Faults.{call_with_number, content_at, IsGreatest, HasNumberAt, IsFaultAt, rank}
use Rattle.checker.specs.Faults.{IsFirstAtPlace, IsLeastOmitted, IsFirstFault}
use Rattle.checker.specs.Refusals.{IsRefusalAt, IsLeastRefusal, IsLeastStrange, IsFirstRefusal, IsCheckAnswer}
use Rattle.checker.proofs.Certificates.{same_orders}

-- ---- at one place

module _ (kind : Kind) (calls : List Call) (order : List ℤ) (i : ℕ) where
  same_entry : (z y : ℤ) → slice_get order i ≡ Some z → slice_get order i ≡ Some y → z ≡ y
  same_entry z y at at' = same_Some z y (sym at ∙ at')

  -- one place names one call
  same_named : (entry other : ℤ) (call called : Call) → HasNumberAt calls order i entry call
      → HasNumberAt calls order i other called → call ≡ called
  same_named entry other call called here there =
      same_Some call called (sym here.named
      ∙ (ap (call_with_number calls) (same_entry entry other here.here there.here) ∙ there.named))

  same_greatest : (by k : ℕ) → IsGreatest (pos by) (take i order) → IsGreatest (pos k) (take i order) → by ≡ k
  same_greatest by k g h =
      let below : pos k ≤ℤ pos by =
      all_at (λ z. z ≤ℤ pos by) (take i order) g.above (pos k) (in_from_contains (take i order) (pos k) h.stands) in
      let above : pos by ≤ℤ pos k =
      all_at (λ z. z ≤ℤ pos k) (take i order) h.above (pos by) (in_from_contains (take i order) (pos by) g.stands) in
      omega (arith, ints)

  -- one call in one content has one reply
  same_reply : (call called : Call) (content there after after' : Content) (gives says : AnyReply) → call ≡ called
      → content_at kind calls order i ≡ Some content
      → content_at kind calls order i ≡ Some there → next content call.op ≡ Some (after, gives)
      → next there called.op ≡ Some (after', says) → gives ≡ says
  same_reply call called content there after after' gives says same at at' gives_it says_it =
      let contents : content ≡ there = same_Some content there (sym at ∙ at') in
      let both : next content call.op ≡ next there called.op =
      ap (λ (x : Content). next x call.op) contents ∙ ap (λ (x : Call). next there x.op) same in
      ap (λ (p : Content × AnyReply). p.1) (same_Some (after, gives) (after', says) (sym gives_it ∙ (both ∙ says_it)))

  -- two faults of one place and one rank are one
  same_at : (f g : OrderFault) → IsFaultAt kind calls order i f → IsFaultAt kind calls order i g
      → rank f ≡ rank g → f ≡ g
  same_at (UnknownOperation z) (UnknownOperation y) a b r = ap UnknownOperation (same_entry z y a.0 b.0)
  same_at (Repeated z) (Repeated y) a b r = ap Repeated (same_entry z y a.0 b.0)
  same_at (TooLate z by) (TooLate y k) a b r =
      let entry = same_entry z y a.2.here b.2.here in
      ap (λ x. TooLate x by) entry ∙ ap (TooLate y) (same_greatest by k a.5 b.5)
  same_at (NotPossible z) (NotPossible y) a b r = ap NotPossible (same_entry z y a.2.here b.2.here)
  same_at (WrongReply z gives) (WrongReply y says) a b r =
      let entry = same_entry z y a.4.here b.4.here in
      let reply = same_reply a.0 b.0 a.2 b.2 a.3 b.3 gives says (same_named z y a.0 b.0 a.4 b.4) a.6 b.6 a.7 b.7 in
      ap (λ x. WrongReply x gives) entry ∙ ap (WrongReply y) reply
  same_at (Omitted n) g a b r = absurd a
  same_at f (Omitted n) a b r = absurd b
  same_at f g a b r = absurd (cc r)

-- ---- of one order

module _ (kind : Kind) (calls : List Call) (order : List ℤ) where
  same_place : (f g : OrderFault) → IsFirstAtPlace kind calls order f → IsFirstAtPlace kind calls order g → f ≡ g
  same_place f g a b = elim (cases_lt a.place b.place) [
    | inl less ↦ absurd (b.earlier a.place f less a.stands)
    | inr more ↦ elim (cases_lt b.place a.place) [
      | inl less ↦ absurd (a.earlier b.place g less b.stands)
      | inr least ↦
          let same : b.place ≡ a.place = omega arith in
          let there = subst (λ i. IsFaultAt kind calls order i g) same b.stands in
          let here = subst (λ i. IsFaultAt kind calls order i f) (sym same) a.stands in
          let low : rank f ≤ rank g = a.first g there in
          let high : rank g ≤ rank f = b.first f here in
          same_at kind calls order a.place f g a.stands there (omega (arith, low, high))
    ]
  ]

  not_less : (n m : ℕ) → IsLeastOmitted kind calls order n → IsLeastOmitted kind calls order m → n < m → ⊥
  not_less n m a b less =
      let c = a.call in
      let known = in_from_contains calls c a.known in
      let there = all_at (λ (c : Call). IsSome c.returned → c.number < m → Contains order (pos c.number)) calls
      b.least c known a.returned (subst (λ k. k < m) (sym a.number) less) in
      a.left_out (subst (λ k. Contains order (pos k)) a.number there)

  same_omitted : (n m : ℕ) → IsLeastOmitted kind calls order n → IsLeastOmitted kind calls order m → n ≡ m
  same_omitted n m a b = elim (cases_lt n m) [
    | inl less ↦ absurd (not_less n m a b less)
    | inr more ↦ elim (cases_lt m n) [
      | inl less ↦ absurd (not_less m n b a less)
      | inr least ↦ omega arith
    ]
  ]

  at_no_place : (f : OrderFault) (n : ℕ) {X : Type 0} → IsFirstAtPlace kind calls order f
      → IsLeastOmitted kind calls order n → X
  at_no_place f n a b = absurd (b.places a.place f a.stands)

  pub one_fault : (f g : OrderFault) → IsFirstFault kind calls order f → IsFirstFault kind calls order g → f ≡ g
  one_fault (Omitted n) (Omitted m) a b = ap Omitted (same_omitted n m a b)
  one_fault (Omitted n) g a b = at_no_place g n b a
  one_fault f (Omitted n) a b = at_no_place f n a b
  one_fault f g a b = same_place f g a b

-- ---- of a list of certificates

module _ (es : List Event) (certificates : List Certificate)
    (d : AllPairs (λ a b. a.object ≢ b.object) certificates) where
  -- at one object
  same_refusal : (x : ℕ) (r s : Refusal) → IsRefusalAt es certificates x r → IsRefusalAt es certificates x s → r ≡ s
  same_refusal x (NoCertificate y) (NoCertificate z) a b = ap NoCertificate (a.0 ∙ sym b.0)
  same_refusal x (NoCertificate y) (BadOrder z g) a b = absurd (a.1 b.1)
  same_refusal x (BadOrder y f) (NoCertificate z) a b = absurd (b.1 a.1)
  same_refusal x (BadOrder y f) (BadOrder z g) a b =
      let same = same_orders certificates d x b.1 a.1 in
      let there = rw same at b.2 in
      let fault = one_fault (kind_of_object es x) (calls_on x (denoted es)) a.1.certificate.order.items f g a.2 there in
      ap (λ y. BadOrder y f) (a.0 ∙ sym b.0) ∙ ap (BadOrder z) fault
  same_refusal x (NoCertificate y) s a b = absurd b
  same_refusal x (BadOrder y f) s a b = absurd b
  same_refusal x r s a b = absurd a

  same_least : (r s : Refusal) → IsLeastRefusal es certificates r → IsLeastRefusal es certificates s → r ≡ s
  same_least r s a b = elim (cases_lt a.object b.object) [
    | inl less ↦ absurd (b.least a.object r less a.named a.stands)
    | inr more ↦ elim (cases_lt b.object a.object) [
      | inl less ↦ absurd (a.least b.object s less b.named b.stands)
      | inr least ↦
          let same : b.object ≡ a.object = omega arith in
          same_refusal a.object r s a.stands (subst (λ x. IsRefusalAt es certificates x s) same b.stands)
    ]
  ]

  not_below : (x y : ℕ) → IsLeastStrange es certificates x → IsLeastStrange es certificates y → x < y → ⊥
  not_below x y a b less =
      let c = a.certified.certificate in
      let known = in_from_contains certificates c a.certified.stands in
      let on = a.certified.for_object in
      a.not_named (rw on at (all_at (λ (c : Certificate). c.object < y → IsNamed es c.object) certificates b.least c
      known (rw on less)))

  same_strange : (x y : ℕ) → IsLeastStrange es certificates x → IsLeastStrange es certificates y → x ≡ y
  same_strange x y a b = elim (cases_lt x y) [
    | inl less ↦ absurd (not_below x y a b less)
    | inr more ↦ elim (cases_lt y x) [
      | inl less ↦ absurd (not_below y x b a less)
      | inr least ↦ omega arith
    ]
  ]

  not_strange : (r : Refusal) (x : ℕ) {X : Type 0} → IsLeastRefusal es certificates r
      → IsLeastStrange es certificates x → X
  not_strange r x a b = absurd (b.none a.object r a.named a.stands)

  pub one_refusal : (r s : Refusal) → r ≢ NoMemory → s ≢ NoMemory → IsFirstRefusal es certificates r
      → IsFirstRefusal es certificates s → r ≡ s
  one_refusal NoMemory s n m a b = absurd (n refl)
  one_refusal r NoMemory n m a b = absurd (m refl)
  one_refusal (StrangeObject x) (StrangeObject y) n m a b = ap StrangeObject (same_strange x y a b)
  one_refusal (StrangeObject x) s n m a b = not_strange s x b a
  one_refusal r (StrangeObject y) n m a b = not_strange r y a b
  one_refusal r s n m a b = same_least r s a b

  pub one_answer : (a b : Result Unit Refusal) → IsCheckAnswer es certificates a → IsCheckAnswer es certificates b
      → IfErr a (λ r. r ≢ NoMemory) → IfErr b (λ s. s ≢ NoMemory) → a ≡ b
  one_answer (Ok u) (Ok v) a b n m = refl
  one_answer (Ok u) (Err s) a b n m = absurd (m (b.exact a.valid))
  one_answer (Err r) (Ok v) a b n m = absurd (n (a.exact b.valid))
  one_answer (Err r) (Err s) a b n m = ap Err (one_refusal r s n m a.refused b.refused)
