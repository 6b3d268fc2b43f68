-- The number of calls that returned and are left: it is 0 exactly if each has been placed (`none_owed`), one less after
-- such a call is placed (`owes_more`), and the same after a pending one. By induction on the count below a bound.
use Rattle.std.proofs.Common.{◌≡◌, ◌≢◌, ℕ, zero, suc, ◌<◌, ◌==◌, ◌&&◌, not, Bool, true, false, cond, ◌⊎◌, inl}
use Rattle.std.proofs.Common.{inr, List, [], ◌∷◌, Option, Some, None, is_some, refl, ap, sym, ◌∙◌, arith}
use Rattle.std.specs.List.{list_any}
use Rattle.std.proofs.lemmas.Bool.{cases_eq, eqb-true, eq-eqb, ne_eqb, or_cases, or_left, or_right}
use Rattle.model.specs.Orders.{Call, Return}
use Rattle.model.specs.Lists.{In}
use Rattle.order_search.specs.Arranged.{owes, count_below}
use Rattle.order_search.specs.Continuations.{IsLeft, AreReturnedDone}

count_zero : (f : ℕ → Bool) (n k : ℕ) → count_below f n ≡ 0 → k < n → f k ≡ false
count_zero f zero k e l = absurd (omega arith)
count_zero f (suc n) k e l = go (f n) refl e (cases_eq k n) (count_zero f n k)
  where
    go : (b : Bool) → f n ≡ b → cond b (suc (count_below f n)) (count_below f n) ≡ 0 → ((k ≡ n) ⊎ (k ≢ n))
        → (count_below f n ≡ 0 → k < n → f k ≡ false) → f k ≡ false
    go true q h o more = absurd (omega (arith, h))
    go false q h (inl s) more = ap f s ∙ q
    go false q h (inr s) more = let s' : k ≢ n = s in more h (omega arith)

-- if the count is not 0, a number below n passes the test
pub count_some : (f : ℕ → Bool) (n : ℕ) → 0 < count_below f n → (k : ℕ) × (k < n) × (f k ≡ true)
count_some f zero l = absurd (omega arith)
count_some f (suc n) l = go (f n) refl l (count_some f n)
  where
    go : (b : Bool) → f n ≡ b → 0 < cond b (suc (count_below f n)) (count_below f n)
        → (0 < count_below f n → (k : ℕ) × (k < n) × (f k ≡ true)) → (k : ℕ) × (k < suc n) × (f k ≡ true)
    go true q h more = (n, omega arith, q)
    go false q h more = let r = more h in (r.0, (let l = r.1 in omega arith), r.2)

count_same : (f g : ℕ → Bool) (n : ℕ) → ((k : ℕ) → k < n → f k ≡ g k) → count_below f n ≡ count_below g n
count_same f g zero h = refl
count_same f g (suc n) h = rw (h n (omega arith), count_same f g n (λ k l. h k (omega arith)))

-- f and g agree except at one place, at which g fails
count_moved : (f g : ℕ → Bool) (n at : ℕ) → at < n → g at ≡ false → ((k : ℕ) → k ≢ at → f k ≡ g k)
    → count_below f n ≡ cond (f at) (suc (count_below g n)) (count_below g n)
count_moved f g zero at l u h = absurd (omega arith)
count_moved f g (suc n) at l u h = elim (cases_eq n at) [
  | inl e ↦ rw (e, u, count_same f g at (λ k m. h k (λ q. omega (arith, q))))
  | inr ne ↦ rw (h n ne, count_moved f g n at (omega (arith, ne)) u h) (swap (f at) (g n) (count_below g n))
]
  where
    swap : (a b : Bool) (m : ℕ) → cond b (suc (cond a (suc m) m)) (cond a (suc m) m)
        ≡ cond a (suc (cond b (suc m) m)) (cond b (suc m) m)
    swap true true m = refl
    swap true false m = refl
    swap false b m = refl

-- ---- owing, by facts

any_in : (k : ℕ) (done : List ℕ) → list_any (λ j. j == k) done ≡ true → In k done
any_in k [] e = absurd (cc e)
any_in k (j ∷ done) e = elim (or_cases (j == k) (list_any (λ i. i == k) done) e) [
  | inl q ↦ inl (sym (eqb-true j k q))
  | inr r ↦ inr (any_in k done r)
]

in_any : (k : ℕ) (done : List ℕ) → In k done → list_any (λ j. j == k) done ≡ true
in_any k [] i = absurd i
in_any k (j ∷ done) i = elim i [
  | inl q ↦ or_left (j == k) (list_any (λ i. i == k) done) (eq-eqb j k (sym q))
  | inr r ↦ or_right (j == k) (list_any (λ i. i == k) done) (in_any k done r)
]

-- a call that returned and is not done is left
pub owes_left : (n : ℕ) (call : ℕ → Call) (done : List ℕ) (k : ℕ) → k < n → owes call done k ≡ true
    → IsLeft n done k × ((r : Return) × ((call k).returned ≡ Some r))
owes_left n call done k l e = go (call k).returned (list_any (λ j. j == k) done) refl refl e
  where
    go : (o : Option Return) (b : Bool) → (call k).returned ≡ o → list_any (λ j. j == k) done ≡ b
        → (is_some o && not b) ≡ true → IsLeft n done k × ((r : Return) × ((call k).returned ≡ Some r))
    go None b q p h = absurd (cc h)
    go (Some r) true q p h = absurd (cc h)
    go (Some r) false q p h = ((l, λ i. let t = in_any k done i in absurd (cc (t, p))), (r, q))

-- a place that is left, and whose call returned, is owed
left_owes : (n : ℕ) (call : ℕ → Call) (done : List ℕ) (k : ℕ) (r : Return) → IsLeft n done k
    → (call k).returned ≡ Some r → owes call done k ≡ true
left_owes n call done k r l e = go (call k).returned (list_any (λ j. j == k) done) e refl
  where
    go : (o : Option Return) (b : Bool) → o ≡ Some r → list_any (λ j. j == k) done ≡ b → (is_some o && not b) ≡ true
    go None b q p = absurd (cc q)
    go (Some s) true q p = absurd (l.1 (any_in k done p))
    go (Some s) false q p = refl

-- if no call that returned is left, each that returned is done
pub none_owed : (n : ℕ) (call : ℕ → Call) (done : List ℕ) → count_below (owes call done) n ≡ 0
    → AreReturnedDone n call done
none_owed n call done e j r l q =
    let t = left_owes n call done j r l q in
    let u = count_zero (owes call done) n j e l.0 in
    absurd (cc (t, u))

-- with one more place done there is one less if its call returned
pub owes_more : (n : ℕ) (call : ℕ → Call) (done : List ℕ) (at : ℕ) → IsLeft n done at → count_below (owes call done) n
    ≡ cond (is_some (call at).returned) (suc (count_below (owes call (at ∷ done)) n))
    (count_below (owes call (at ∷ done)) n)
owes_more n call done at l =
    rw (← here (is_some (call at).returned) (list_any (λ j. j == at) done) refl) (
    count_moved (owes call done) (owes call (at ∷ done)) n at l.0 gone others
    )
  where
    here : (a b : Bool) → list_any (λ j. j == at) done ≡ b → (a && not b) ≡ a
    here a true q = absurd (l.1 (any_in at done q))
    here true false q = refl
    here false false q = refl

    gone : owes call (at ∷ done) at ≡ false
    gone = let e = eq-eqb at at refl in grind (arith, e)

    others : (k : ℕ) → k ≢ at → owes call done k ≡ owes call (at ∷ done) k
    others k ne = rw (ne_eqb at k (λ q. ne (sym q)))
