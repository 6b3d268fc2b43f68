-- Worker w checks the places w, w + workers, and so on; so each place has one worker (`its_worker`), and the least of
-- the refusals that workers found first is the first of all (`first_of_all`). By the remainders of places.
use Rattle.std.proofs.Common.{◌≡◌, ◌≢◌, ℕ, zero, suc, ◌+◌, ◌*◌, ◌/◌, ◌%◌, ◌<◌, ◌≤◌, ◌++◌, ◌∷◌, [], List, All, AllPairs}
use Rattle.std.proofs.Common.{Contains, length, get_or, take, Result, Ok, Err, IsOk, Option, Some, None, IfNone, inl}
use Rattle.std.proofs.Common.{inr, refl, ap, sym, ◌∙◌, subst, arith}
use Rattle.std.proofs.Math.Nat.{lt_of_mul-lt-mul_right, mul-lt-mul_of_pos_right, mod-lt, mod-add-div'}
use Rattle.std.proofs.lemmas.Bool.{cases_order}
use Rattle.std.proofs.lemmas.List.{get_or_default, take_all}
use Rattle.std.proofs.lemmas.List.Elements.{All-push, Contains-push, Contains-append_left}
use Rattle.model.specs.Lists.{In}
use Rattle.model.proofs.Lists.{all_from_in, all_at}
use Rattle.events.specs.declared.event.Event.{Event}
use Rattle.events.specs.Operations.{ObjectCalls, calls_of}
use Rattle.certificate.specs.declared.Certificate.{Certificate}
use Rattle.checker.specs.declared.refusal.Refusal.{Refusal}
use Rattle.checker.specs.declared.refusal.Refusal.TheVariants.{NoMemory}
use Rattle.checker.specs.Refusals.{AreValid, IsFirstRefusal}
use Rattle.checker.specs.Checking.{IsFine, IsRefused}
use Rattle.checker.proofs.Certificates.{AreObjects, AreFine, next_fine, element, next_is_first}
use Rattle.parallel.specs.declared.share.RefusedObject.{RefusedObject}
use Rattle.parallel.specs.Shares.{FallsTo, IsFineAt, IsRefusedAt, IsShare, IsNotBefore, IsEarlier}

-- numbers that rise are no less than their places
pub at_least_its_place : (os : List ObjectCalls) (k : ℕ) (d : ObjectCalls) → AllPairs (λ a b. a.object < b.object) os
    → k < length os → k ≤ (get_or os k d).object
at_least_its_place os zero d rising l = omega arith
at_least_its_place os (suc k) d rising l =
    let before = at_least_its_place os k d rising (omega arith) in
    let step = rising k (suc k) d (omega arith) l in
    omega arith

-- a number that is at most another is at most an equal one
pub no_greater : (a b c : ℕ) → a ≤ b → b ≡ c → a ≤ c
no_greater a b c l e = omega arith

-- a worker has come as far as this place of its own: those before are fine
pub record HasChecked (worker workers : ℕ) (os : List ObjectCalls) (certificates : List Certificate)
    (place : ℕ) : Type 0 where
  pub own : FallsTo worker workers place
  pub fine : (k : ℕ) → k < place → k < length os → FallsTo worker workers k → IsFineAt os certificates k

pub at_first : (worker workers : ℕ) (os : List ObjectCalls) (certificates : List Certificate)
    → HasChecked worker workers os certificates worker
at_first worker workers os certificates =
    record { own = (0, omega arith); fine = λ k l inside own. absurd (let e = own.1 in omega arith) }

-- two turns of which neither is a whole turn from the other are the same
same_turn : (workers i j : ℕ) → i * workers ≤ j * workers → j * workers < i * workers + workers → 0 < workers → j ≡ i
same_turn workers i j low high some =
    let below : j < suc i = lt_of_mul-lt-mul_right workers {m = j} {n = suc i} (omega arith) in
    elim (cases_order j i) [
      | inl e ↦ e
      | inr r ↦ elim r [
        | inl l ↦ (let s = mul-lt-mul_of_pos_right {m = j} {n = i} {k = workers} l some in absurd (omega arith))
        | inr l ↦ absurd (omega arith)
      ]
    ]

-- the worker's next place, where this one is fine
pub at_next : (worker workers : ℕ) (os : List ObjectCalls) (certificates : List Certificate) (place : ℕ) → 0 < workers
    → HasChecked worker workers os certificates place
    → IsFineAt os certificates place → HasChecked worker workers os certificates (place + workers)
at_next worker workers os certificates place some h here = record {
  own = (
    h.own.0 + 1,
    let e = h.own.1 in
        let m : (h.own.0 + 1) * workers ≡ h.own.0 * workers + workers = next_turn h.own.0 in omega arith,
  );
  fine = λ k l inside own. elim (cases_order k place) [
    | inl e ↦ subst (IsFineAt os certificates) (sym e) here
    | inr r ↦ elim r [
      | inl below ↦ h.fine k below inside own
      | inr above ↦ (
          let e = own.1 in
          let f = h.own.1 in
          let turn : own.0 ≡ h.own.0 = same_turn workers h.own.0 own.0 (omega arith) (omega arith) some in
          let is : k ≡ place = e ∙ (ap (λ t. worker + t * workers) turn ∙ sym f) in
          absurd (omega arith)
          )
    ]
  ];
}
  where
    next_turn : (t : ℕ) → (t + 1) * workers ≡ t * workers + workers
    next_turn t = grind arith

-- each place is that of a worker
its_worker : (count k : ℕ) → 0 < count → (k % count < count) × FallsTo (k % count) count k
its_worker count k some = (mod-lt k some, (k / count, sym (mod-add-div' k count)))

place_below : {X : Type 0} (xs : List X) (n : ℕ) (x d : X) → In x (take n xs)
    → (k : ℕ) × (k < n) × (k < length xs) × (get_or xs k d ≡ x)
place_below xs zero x d i = absurd i
place_below [] (suc n) x d i = absurd i
place_below (y ∷ xs) (suc n) x d i = elim i [
  | inl e ↦ (0, omega arith, omega arith, sym e)
  | inr j ↦ let p = place_below xs n x d j in (suc p.0, (let l = p.1 in omega arith), (let l = p.2 in omega arith), p.3)
]

-- the objects below a place are fine, where each worker's are
fine_below : (es : List Event) (certificates : List Certificate) (os : List ObjectCalls) (n : ℕ) → AreObjects es os
    → ((k : ℕ) → k < n → k < length os → IsFineAt os certificates k) → AreFine es certificates (take n os)
fine_below es certificates os n objects fine o i =
    let p = place_below os n o o i in
    let here : IsFine o.kind (calls_of o.ops) certificates o.object =
    subst (λ (q : ObjectCalls). IsFine q.kind (calls_of q.ops) certificates q.object) p.3 (fine p.0 p.1 p.2 o) in
    next_fine es certificates os p.0 o objects p.2 (sym p.3) here

-- the least of what was found so far
abbrev pub IsLeastOf : List (Result (Unit {0}) RefusedObject) → Option RefusedObject → Type 0
IsLeastOf rs None = All IsOk rs
IsLeastOf rs (Some f) = Contains rs (Err f) × All (IsNotBefore f) rs

all_weaker : (f g : RefusedObject) (rs : List (Result (Unit {0}) RefusedObject)) → g.place < f.place
    → All (IsNotBefore f) rs → All (IsNotBefore g) rs
all_weaker f g rs l h = all_from_in (IsNotBefore g) rs (λ r i. weaker r (all_at (IsNotBefore f) rs h r i))
  where
    weaker : (r : Result (Unit {0}) RefusedObject) → IsNotBefore f r → IsNotBefore g r
    weaker (Ok u) n = tt
    weaker (Err k) n = omega arith

all_ok : (g : RefusedObject) (rs : List (Result (Unit {0}) RefusedObject)) → All IsOk rs → All (IsNotBefore g) rs
all_ok g rs h = all_from_in (IsNotBefore g) rs (λ r i. go r (all_at IsOk rs h r i))
  where
    go : (r : Result (Unit {0}) RefusedObject) → IsOk r → IsNotBefore g r
    go (Ok u) k = tt
    go (Err e) k = cc k

-- what one more worker found is taken into account
pub next_found : (rs : List (Result (Unit {0}) RefusedObject)) (r : Result (Unit {0}) RefusedObject)
    (least next : Option RefusedObject)
    → IsLeastOf rs least → IsEarlier least r next → IsLeastOf (rs ++ r ∷ []) next
next_found rs (Ok u) None next h is = subst (IsLeastOf (rs ++ Ok u ∷ [])) (sym is) (All-push IsOk rs (Ok u) h refl)
next_found rs (Ok u) (Some f) next h is =
    subst (IsLeastOf (rs ++ Ok u ∷ [])) (sym is)
    (Contains-append_left rs (Ok u ∷ []) (Err f) h.0, All-push (IsNotBefore f) rs (Ok u) h.1 tt)
next_found rs (Err g) None next h is =
    subst (IsLeastOf (rs ++ Err g ∷ [])) (sym is)
    (Contains-push rs (Err g), All-push (IsNotBefore g) rs (Err g) (all_ok g rs h) (omega arith))
next_found rs (Err g) (Some f) next h is = elim is [
  | inl e ↦ subst (IsLeastOf (rs ++ Err g ∷ [])) (sym e.1)
      (Contains-append_left rs (Err g ∷ []) (Err f) h.0, All-push (IsNotBefore f) rs (Err g) h.1 e.0)
  | inr e ↦ subst (IsLeastOf (rs ++ Err g ∷ [])) (sym e.1)
      (Contains-push rs (Err g), All-push (IsNotBefore g) rs (Err g) (all_weaker f g rs e.0 h.1) (omega arith))
]

-- if no worker found a refusal, none has one
pub none_found : (rs : List (Result (Unit {0}) RefusedObject)) (least : Option RefusedObject) → IsLeastOf rs least
    → IfNone least (All IsOk rs)
none_found rs None h = h
none_found rs (Some f) h = tt

-- ---- one place

-- the object at a place is refused if its calls are
pub refused_at : (os : List ObjectCalls) (certificates : List Certificate) (k : ℕ) (o : ObjectCalls) (r : Refusal)
    → k < length os → o ≡ get_or os k o
    → IsRefused o.kind (calls_of o.ops) certificates o.object r → IsRefusedAt os certificates k r
refused_at os certificates k o r l is h =
    λ d. subst (λ (q : ObjectCalls). IsRefused q.kind (calls_of q.ops) certificates q.object r)
    (is ∙ get_or_default os k o d l) h

-- the object at a place has a valid order if its calls have
pub fine_at : (os : List ObjectCalls) (certificates : List Certificate) (k : ℕ) (o : ObjectCalls) → k < length os
    → o ≡ get_or os k o
    → IsFine o.kind (calls_of o.ops) certificates o.object → IsFineAt os certificates k
fine_at os certificates k o l is h =
    λ d. subst (λ (q : ObjectCalls). IsFine q.kind (calls_of q.ops) certificates q.object)
    (is ∙ get_or_default os k o d l) h

-- ---- what all workers found

-- what this many workers found, each on its share of the objects
pub record AreShares (count : ℕ) (os : List ObjectCalls) (certificates : List Certificate)
    (rs : List (Result (Unit {0}) RefusedObject)) : Type 0 where
  pub some : 0 < count
  pub long : length rs ≡ count
  pub each : (i : ℕ) (d : Result (Unit {0}) RefusedObject) → i < count → IsShare i count os certificates (get_or rs i d)

-- a place below the first that was found is fine
fine_before : (count : ℕ) (os : List ObjectCalls) (certificates : List Certificate)
    (rs : List (Result (Unit {0}) RefusedObject)) (f : RefusedObject)
    → AreShares count os certificates rs → All (IsNotBefore f) rs → (k : ℕ) → k < f.place → k < length os
    → IsFineAt os certificates k
fine_before count os certificates rs f shares least k below inside =
    let w = its_worker count k shares.some in
    let i = k % count in
    let at = least i (Err f) (subst (λ n. i < n) (sym shares.long) w.0) in
    go (get_or rs i (Err f)) (shares.each i (Err f) w.0) at w.1
  where
    go : (r : Result (Unit {0}) RefusedObject) → IsShare (k % count) count os certificates r → IsNotBefore f r
        → FallsTo (k % count) count k → IsFineAt os certificates k
    go (Ok u) h n own = h.fine k inside own
    go (Err g) h n own = h.found.before k (omega arith) own

-- where nothing was found, each place is fine
all_fine : (count : ℕ) (os : List ObjectCalls) (certificates : List Certificate)
    (rs : List (Result (Unit {0}) RefusedObject))
    → AreShares count os certificates rs → All IsOk rs → (k : ℕ) → k < length os → IsFineAt os certificates k
all_fine count os certificates rs shares ok k inside =
    let w = its_worker count k shares.some in
    let i = k % count in
    let d = Ok tt in
    go (get_or rs i d) (shares.each i d w.0) (ok i d (subst (λ n. i < n) (sym shares.long) w.0)) w.1
  where
    go : (r : Result (Unit {0}) RefusedObject) → IsShare (k % count) count os certificates r → IsOk r
        → FallsTo (k % count) count k → IsFineAt os certificates k
    go (Ok u) h n own = h.fine k inside own
    go (Err g) h n own = cc n

-- what was found at the least place is what its worker found first
found_first : (count : ℕ) (os : List ObjectCalls) (certificates : List Certificate)
    (rs : List (Result (Unit {0}) RefusedObject)) (f : RefusedObject)
    → AreShares count os certificates rs → Contains rs (Err f)
    → (f.place < length os) × IsRefusedAt os certificates f.place f.refusal
found_first count os certificates rs f shares stands =
    let i = stands.0 in
    let s = shares.each i (Err f) (subst (λ n. i < n) shares.long stands.1) in
    let h = subst (IsShare i count os certificates) stands.2 s in
    (h.found.inside, h.found.refused)

-- What was found at the least place is the first refusal. Certificates that are valid are refused by an allocation
-- failure alone.
pub first_of_all : (es : List Event) (count : ℕ) (os : List ObjectCalls) (certificates : List Certificate)
    (rs : List (Result (Unit {0}) RefusedObject)) (f : RefusedObject)
    → AllPairs (λ a b. a.object ≢ b.object) certificates → AreObjects es os
    → AreShares count os certificates rs → Contains rs (Err f) → All (IsNotBefore f) rs
    → IsFirstRefusal es certificates f.refusal × (AreValid es certificates → f.refusal ≡ NoMemory)
first_of_all es count os certificates rs f distinct objects shares stands least =
    let k = f.place in
    let below = fine_below es certificates os k objects (fine_before count os certificates rs f shares least) in
    let found = found_first count os certificates rs f shares stands in
    let o = element os k found.0 in
    let here = subst (λ (q : ObjectCalls). IsRefused q.kind (calls_of q.ops) certificates q.object f.refusal)
    (sym o.1) (found.1 o.0) in
    next_is_first es certificates os k o.0 f.refusal distinct objects below found.0 o.1 here

-- each object has a valid order if each worker found that its own have
pub all_are_fine : (es : List Event) (count : ℕ) (os : List ObjectCalls) (certificates : List Certificate)
    (rs : List (Result (Unit {0}) RefusedObject)) → AreObjects es os → AreShares count os certificates rs
    → All IsOk rs → AreFine es certificates os
all_are_fine es count os certificates rs objects shares ok =
    subst (AreFine es certificates) (take_all (length os) os (omega arith))
    (fine_below es certificates os (length os) objects
    (λ k l inside. all_fine count os certificates rs shares ok k inside))
