-- Membership in a list, and facts of each two of its elements, by recursion.
use Rattle.std.proofs.Common.{◌≡◌, ℕ, zero, suc, ◌<◌, ◌≤◌, ◌==◌, ◌≢◌, nat_lt, ◌&&◌, Bool, true, false, not, cond, ◌⊎◌}
use Rattle.std.proofs.Common.{inl, inr, List, [], ◌∷◌, ◌++◌, length, map, filter, Some, All, AllPairs, Contains}
use Rattle.std.proofs.Common.{slice_get, get_or, refl, ap, sym, ◌∙◌, subst, arith}
use Rattle.std.proofs.lemmas.Option.{same_Some}
use Rattle.std.specs.List.{flat_map}
use Rattle.std.proofs.lemmas.List.Elements.{filter-append}
use Rattle.std.proofs.lemmas.Bool.{eqb-false, ne_eqb, not-true, ltb-false, le-ltb}
use Rattle.std.proofs.lemmas.Bool.Decides.{nat_tests}
use Rattle.model.specs.Lists.{In}

-- ---- elements, and each two of them

-- each element with each later one
abbrev pub Pairs : {X : Type 0} → (X → X → Type 0) → List X → Type 0
Pairs R [] = Unit {0}
Pairs {X} R (x ∷ xs) = ((y : X) → In y xs → R x y) × Pairs R xs

-- ---- elements of filtered and of joined lists

-- an element of a filtered list is in the list
pub in_filter : {X : Type 0} (p : X → Bool) (x : X) (xs : List X) → In x (filter p xs) → In x xs
in_filter p x [] h = h
in_filter p x (y ∷ ys) h = grind (arith, in_filter p x ys)

-- an element of a filtered list passes the test
pub in_filter_passes : {X : Type 0} (p : X → Bool) (x : X) (xs : List X) → In x (filter p xs) → p x ≡ true
in_filter_passes p x [] h = absurd h
in_filter_passes p x (y ∷ ys) h = grind (arith, in_filter_passes p x ys)

-- an element that passes the test is in the filtered list
pub in_filter_from : {X : Type 0} (p : X → Bool) (x : X) (xs : List X) → In x xs → p x ≡ true → In x (filter p xs)
in_filter_from p x [] h e = absurd h
in_filter_from p x (y ∷ ys) h e = grind (arith, in_filter_from p x ys)

-- an element of two joined lists is in one of them
pub in_append : {X : Type 0} (x : X) (xs ys : List X) → In x (xs ++ ys) → In x xs ⊎ In x ys
in_append x [] ys h = inr h
in_append x (y ∷ xs) ys h = grind (arith, in_append x xs ys)

-- an element of the first list is in the joined list
pub in_left : {X : Type 0} (y : X) (a b : List X) → In y a → In y (a ++ b)
in_left y [] b i = absurd i
in_left y (x ∷ a) b i = elim i [ inl e ↦ inl e | inr j ↦ inr (in_left y a b j) ]

-- an element of the second list is in the joined list
pub in_right : {X : Type 0} (y : X) (a b : List X) → In y b → In y (a ++ b)
in_right y [] b i = i
in_right y (x ∷ a) b i = inr (in_right y a b i)

-- a list has the element that is put in between two parts
pub in_middle : {X : Type 0} (x : X) (xs ys : List X) → In x (xs ++ x ∷ ys)
in_middle x xs ys = in_right x xs (x ∷ ys) (inl refl)

-- a list falls into two at an element
pub in_split : {X : Type 0} (x : X) (xs : List X) → In x xs → (earlier later : List X) × (xs ≡ earlier ++ x ∷ later)
in_split x [] i = absurd i
in_split x (y ∷ xs) i = elim i [
  | inl e ↦ ([], xs, ap (λ z. z ∷ xs) (sym e))
  | inr j ↦ let r = in_split x xs j in (y ∷ r.0, r.1, ap (λ zs. y ∷ zs) r.2)
]

-- ---- filters

-- what holds of each two elements holds in a filtered list
pub pairs_filter : {X : Type 0} (R : X → X → Type 0) (p : X → Bool) (xs : List X) → Pairs R xs → Pairs R (filter p xs)
pairs_filter R p [] h = tt
pairs_filter {X} R p (x ∷ xs) h =
    let rest = pairs_filter R p xs h.1 in
    elim (p x) as (λ b. Pairs R (cond b (x ∷ filter p xs) (filter p xs))) [
      | true ↦ (λ y i. h.0 y (in_filter p y xs i), rest)
      | false ↦ rest
    ]

-- each two elements have a relation that follows from one that they have
pub pairs_weaker : {X : Type 0} (R S : X → X → Type 0) (xs : List X) → ((x y : X) → In x xs → In y xs → R x y → S x y)
    → Pairs R xs → Pairs S xs
pairs_weaker R S [] f h = tt
pairs_weaker R S (x ∷ xs) f h =
    (λ y i. f x y (inl refl) (inr i) (h.0 y i), pairs_weaker R S xs (λ a b i j r. f a b (inr i) (inr j) r) h.1)

-- two filters are one, by both tests
pub filter-filter : {X : Type 0} (p q : X → Bool) (xs : List X) → filter p (filter q xs) ≡ filter (λ x. q x && p x) xs
filter-filter p q [] = refl
filter-filter p q (x ∷ xs) = grind (arith, filter-filter p q xs)

-- tests that agree at each element keep the same
pub filter_same : {X : Type 0} (p q : X → Bool) (xs : List X) → ((x : X) → In x xs → p x ≡ q x)
    → filter p xs ≡ filter q xs
filter_same p q [] f = refl
filter_same p q (x ∷ xs) f =
    let e = f x (inl refl) in
    let rest = filter_same p q xs (λ y i. f y (inr i)) in
    ap (λ b. cond b (x ∷ filter p xs) (filter p xs)) e ∙ ap (λ ys. cond (q x) (x ∷ ys) ys) rest

-- a filter keeps all of a list whose elements pass
pub filter_all : {X : Type 0} (p : X → Bool) (xs : List X) → ((x : X) → In x xs → p x ≡ true) → filter p xs ≡ xs
filter_all p [] f = refl
filter_all p (x ∷ xs) f =
    let e = f x (inl refl) in
    let rest = filter_all p xs (λ y i. f y (inr i)) in
    ap (λ b. cond b (x ∷ filter p xs) (filter p xs)) e ∙ ap (λ ys. x ∷ ys) rest

-- a filter keeps nothing of a list whose elements fail
pub filter_none : {X : Type 0} (p : X → Bool) (xs : List X) → ((x : X) → In x xs → p x ≡ false) → filter p xs ≡ []
filter_none p [] f = refl
filter_none p (x ∷ xs) f =
    let e = f x (inl refl) in
    let rest = filter_none p xs (λ y i. f y (inr i)) in
    ap (λ b. cond b (x ∷ filter p xs) (filter p xs)) e ∙ rest

-- ---- lists that are joined

-- a filter of joined lists is the join of the filtered ones
pub filter-flat_map : {X Y : Type 0} (p : Y → Bool) (f : X → List Y) (xs : List X)
    → filter p (flat_map f xs) ≡ flat_map (λ x. filter p (f x)) xs
filter-flat_map p f [] = refl
filter-flat_map p f (x ∷ xs) =
    filter-append p (f x) (flat_map f xs) ∙ ap (λ ys. filter p (f x) ++ ys) (filter-flat_map p f xs)

-- functions that agree on the elements give the same joined list
pub flat_map_same : {X Y : Type 0} (f g : X → List Y) (xs : List X) → ((x : X) → In x xs → f x ≡ g x)
    → flat_map f xs ≡ flat_map g xs
flat_map_same f g [] h = refl
flat_map_same f g (x ∷ xs) h =
    ap (λ ys. ys ++ flat_map f xs) (h x (inl refl)) ∙ ap (λ ys. g x ++ ys) (flat_map_same f g xs (λ y i. h y (inr i)))

-- elements for which f gives nothing may be left out
pub flat_map_filter : {X Y : Type 0} (f : X → List Y) (p : X → Bool) (xs : List X)
    → ((x : X) → In x xs → p x ≡ false → f x ≡ []) → flat_map f (filter p xs) ≡ flat_map f xs
flat_map_filter f p [] h = refl
flat_map_filter f p (x ∷ xs) h =
    let rest = flat_map_filter f p xs (λ y i. h y (inr i)) in
    let here : (b : Bool) → p x ≡ b → flat_map f (cond b (x ∷ filter p xs) (filter p xs)) ≡ f x ++ flat_map f xs =
    elim [
      | true ↦ λ e. ap (λ ys. f x ++ ys) rest
      | false ↦ λ e. rest ∙ sym (ap (λ ys. ys ++ flat_map f xs) (h x (inl refl) e))
    ] in
    here (p x) refl

-- an element of joined lists is in one of them
pub in_flat_map : {X Y : Type 0} (f : X → List Y) (y : Y) (xs : List X) → In y (flat_map f xs)
    → (x : X) × In x xs × In y (f x)
in_flat_map f y [] h = absurd h
in_flat_map f y (x ∷ xs) h =
    elim (in_append y (f x) (flat_map f xs) h) [
      | inl a ↦ (x, inl refl, a)
      | inr b ↦ let r = in_flat_map f y xs b in (r.0, inr r.1, r.2)
    ]

-- ---- lists of at most one element, and lengths

-- lists of at most one element, with the same elements
pub same_single : {X : Type 0} (xs ys : List X) → Pairs (λ a b. ⊥) xs → Pairs (λ a b. ⊥) ys
    → ((x : X) → In x xs → In x ys) → ((x : X) → In x ys → In x xs) → xs ≡ ys
same_single [] [] h k f g = refl
same_single [] (y ∷ ys) h k f g = absurd (g y (inl refl))
same_single (x ∷ xs) [] h k f g = absurd (f x (inl refl))
same_single (x ∷ []) (y ∷ []) h k f g = elim (f x (inl refl)) [ inl e ↦ ap (λ z. z ∷ []) e | inr n ↦ absurd n ]
same_single (x ∷ []) (y ∷ z ∷ zs) h k f g = absurd (k.0 z (inl refl))
same_single (x ∷ z ∷ zs) (y ∷ ys) h k f g = absurd (h.0 z (inl refl))

-- fewer pass the stronger test
pub length_filter_le : {X : Type 0} (p q : X → Bool) (xs : List X) → ((x : X) → In x xs → p x ≡ true → q x ≡ true)
    → length (filter p xs) ≤ length (filter q xs)
length_filter_le p q [] f = omega arith
length_filter_le p q (x ∷ xs) f =
    let rest = length_filter_le p q xs (λ y i. f y (inr i)) in
    let here = f x (inl refl) in
    grind (arith, rest, here)

-- ---- lists in the order of a number

-- In a list in the order of f, those with the number n come first where all have at least n
pub front_split : {X : Type 0} (f : X → ℕ) (n : ℕ) (xs : List X) → Pairs (λ a b. f a ≤ f b) xs
    → ((x : X) → In x xs → n ≤ f x) → xs ≡ filter (λ x. f x == n) xs ++ filter (λ x. not (f x == n)) xs
front_split f n [] h low = refl
front_split {X} f n (x ∷ xs) h low =
    let rest = front_split f n xs h.1 (λ y i. low y (inr i)) in
    let ks : List X = filter (λ x. f x == n) xs in
    let ds : List X = filter (λ x. not (f x == n)) xs in
    let here : (b : Bool) → (f x == n) ≡ b → x ∷ xs ≡ cond b (x ∷ ks) ks ++ cond (not b) (x ∷ ds) ds =
    elim [
      | true ↦ λ e. ap (λ ys. x ∷ ys) rest
      | false ↦ λ e.
          let ne = eqb-false (f x) n e in
          let le = low x (inl refl) in
          let other : (y : X) → In y xs → f y ≢ n = λ y i same.
          let up = h.0 y i in
          let apart : f x ≢ n = ne in
          let its : f y ≡ n = same in
          omega arith in
          let none : ks ≡ [] = filter_none (λ x. f x == n) xs (λ y i. ne_eqb (f y) n (other y i)) in
          let all : ds ≡ xs = filter_all (λ x. not (f x == n)) xs (λ y i. ap not (ne_eqb (f y) n (other y i))) in
          sym (ap (λ ys. ys ++ (x ∷ ds)) none ∙ ap (λ ys. x ∷ ys) all)
    ] in
    here (f x == n) refl

-- likewise those below t
pub below_split : {X : Type 0} (f : X → ℕ) (t : ℕ) (xs : List X) → Pairs (λ a b. f a ≤ f b) xs
    → xs ≡ filter (λ x. nat_lt (f x) t) xs ++ filter (λ x. not (nat_lt (f x) t)) xs
below_split f t [] h = refl
below_split {X} f t (x ∷ xs) h =
    let rest = below_split f t xs h.1 in
    let ks : List X = filter (λ x. nat_lt (f x) t) xs in
    let ds : List X = filter (λ x. not (nat_lt (f x) t)) xs in
    let here : (b : Bool) → nat_lt (f x) t ≡ b → x ∷ xs ≡ cond b (x ∷ ks) ks ++ cond (not b) (x ∷ ds) ds =
    elim [
      | true ↦ λ e. ap (λ ys. x ∷ ys) rest
      | false ↦ λ e.
          let le = ltb-false (f x) t e in
          let far : (y : X) → In y xs → nat_lt (f y) t ≡ false = λ y i.
          let up = h.0 y i in
          le-ltb (f y) t (omega arith) in
          let none : ks ≡ [] = filter_none (λ x. nat_lt (f x) t) xs far in
          let all : ds ≡ xs = filter_all (λ x. not (nat_lt (f x) t)) xs (λ y i. ap not (far y i)) in
          sym (ap (λ ys. ys ++ (x ∷ ds)) none ∙ ap (λ ys. x ∷ ys) all)
    ] in
    here (nat_lt (f x) t) refl

-- in rising order of what f gives, all numbers among ns
pub batches : {X : Type 0} (f : X → ℕ) (ns : List ℕ) (xs : List X) → Pairs (λ a b. a < b) ns
    → Pairs (λ a b. f a ≤ f b) xs
    → ((x : X) → In x xs → In (f x) ns) → flat_map (λ n. filter (λ x. f x == n) xs) ns ≡ xs
batches f [] [] up h all = refl
batches f [] (x ∷ xs) up h all = absurd (all x (inl refl))
batches {X} f (n ∷ ns) xs up h all =
    let later : List X = filter (λ x. not (f x == n)) xs in
    let low : (x : X) → In x xs → n ≤ f x = λ x i. elim (all x i) [
      | inl e ↦ omega (arith, e)
      | inr r ↦ let g = up.0 (f x) r in omega arith
    ] in
    let split = front_split f n xs h low in
    let in_later : (x : X) → In x later → In (f x) ns = λ x i.
    let passes = in_filter_passes (λ x. not (f x == n)) x xs i in
    elim (all x (in_filter (λ x. not (f x == n)) x xs i)) [
      | inl e ↦ absurd (eqb-false (f x) n (not-true (f x == n) passes) e)
      | inr r ↦ r
    ] in
    let rest = batches f ns later up.1 (pairs_filter (λ a b. f a ≤ f b) (λ x. not (f x == n)) xs h) in_later in
    let same : flat_map (λ m. filter (λ x. f x == m) xs) ns ≡ flat_map (λ m. filter (λ x. f x == m) later) ns =
    flat_map_same (λ m. filter (λ x. f x == m) xs) (λ m. filter (λ x. f x == m) later) ns
    (λ m i. sym (filter-filter (λ x. f x == m) (λ x. not (f x == n)) xs
    ∙ filter_same (λ x. not (f x == n) && (f x == m)) (λ x. f x == m) xs (λ x j. apart (f x) n m (up.0 m i)))) in
    ap (λ ys. filter (λ x. f x == n) xs ++ ys) (same ∙ rest) ∙ sym split
  where
    apart : (a n m : ℕ) → n < m → (not (a == n) && (a == m)) ≡ (a == m)
    apart a n m l = grind (arith, nat_tests)

-- ---- joined and mapped lists, by each two of their elements

-- each two elements of joined lists
pub pairs_append : {X : Type 0} (R : X → X → Type 0) (xs ys : List X) → Pairs R xs → Pairs R ys
    → ((x y : X) → In x xs → In y ys → R x y) → Pairs R (xs ++ ys)
pairs_append R [] ys h k f = k
pairs_append R (x ∷ xs) ys h k f = (
  λ y i. elim (in_append y xs ys i) [
    | inl a ↦ h.0 y a
    | inr b ↦ f x y (inl refl) b
  ],
  pairs_append R xs ys h.1 k (λ a b i j. f a b (inr i) j),
)

-- A relation holds between each two elements of joined lists, if it holds in each list and between two lists.
pub pairs_flat_map : {X Y : Type 0} (R : Y → Y → Type 0) (S : X → X → Type 0) (f : X → List Y) (xs : List X)
    → Pairs S xs
    → ((x : X) → In x xs → Pairs R (f x)) → ((x z : X) → S x z → (a b : Y) → In a (f x) → In b (f z) → R a b)
    → Pairs R (flat_map f xs)
pairs_flat_map R S f [] h k g = tt
pairs_flat_map R S f (x ∷ xs) h k g =
    pairs_append R (f x) (flat_map f xs) (k x (inl refl)) (pairs_flat_map R S f xs h.1 (λ y i. k y (inr i)) g)
    (λ a b i j. let r = in_flat_map f b xs j in g x r.0 (h.0 r.0 r.1) a b i r.2)

-- an element of the mapped list is the image of an element
pub in_map : {X Y : Type 0} (f : X → Y) (y : Y) (xs : List X) → In y (map f xs) → (x : X) × In x xs × (y ≡ f x)
in_map f y [] h = absurd h
in_map f y (x ∷ xs) h = elim h [ inl e ↦ (x, inl refl, e) | inr i ↦ let r = in_map f y xs i in (r.0, inr r.1, r.2) ]

-- what holds of the images of each two elements holds of each two elements of the mapped list
pub pairs_map : {X Y : Type 0} (R : Y → Y → Type 0) (f : X → Y) (xs : List X) → Pairs (λ a b. R (f a) (f b)) xs
    → Pairs R (map f xs)
pairs_map R f [] h = tt
pairs_map {X} R f (x ∷ xs) h =
    (λ y i. let r = in_map f y xs i in subst (R (f x)) (sym r.2) (h.0 r.0 r.1), pairs_map R f xs h.1)

-- the image of an element is in the mapped list
pub in_map_from : {X Y : Type 0} (f : X → Y) (x : X) (xs : List X) → In x xs → In (f x) (map f xs)
in_map_from f x [] h = h
in_map_from f x (y ∷ ys) h = elim h [ inl e ↦ inl (ap f e) | inr i ↦ inr (in_map_from f x ys i) ]

-- what holds of each two elements of the mapped list holds of the images of each two elements
pub pairs_from_map : {X Y : Type 0} (R : Y → Y → Type 0) (f : X → Y) (xs : List X) → Pairs R (map f xs)
    → Pairs (λ a b. R (f a) (f b)) xs
pairs_from_map R f [] h = tt
pairs_from_map R f (x ∷ xs) h = (λ y i. h.0 (f y) (in_map_from f y xs i), pairs_from_map R f xs h.1)

-- ---- from the words of std, by index, to those by recursion, and back

-- an element that std's `Contains` finds is in the list
pub in_from_contains : {X : Type 0} (xs : List X) (x : X) → Contains xs x → In x xs
in_from_contains [] x h = let l = h.1 in absurd (omega arith)
in_from_contains (y ∷ ys) x h = go h.0 h.1 h.2 (λ k l e. in_from_contains ys x (k, l, e))
  where
    go : (k : ℕ) → k < suc (length ys) → get_or (y ∷ ys) k x ≡ x
        → ((k : ℕ) → k < length ys → get_or ys k x ≡ x → In x ys) → (x ≡ y) ⊎ In x ys
    go zero l e f = inl (sym e)
    go (suc k) l e f = inr (f k (omega arith) e)

-- std's `Contains` finds an element that is in the list
pub contains_from_in : {X : Type 0} (xs : List X) (x : X) → In x xs → Contains xs x
contains_from_in [] x h = absurd h
contains_from_in (y ∷ ys) x h = elim h [
  | inl e ↦ (0, omega arith, sym e)
  | inr i ↦ let k = contains_from_in ys x i in (suc k.0, omega (arith, k.1), k.2)
]

-- the element at an index of the list is in it
pub in_from_get : {X : Type 0} (xs : List X) (k : ℕ) (d : X) → k < length xs → In (get_or xs k d) xs
in_from_get [] k d l = absurd (omega arith)
in_from_get (x ∷ xs) zero d l = inl refl
in_from_get (x ∷ xs) (suc k) d l = inr (in_from_get xs k d (omega arith))

-- an element that `slice_get` gives is in the list
pub in_from_slice : {X : Type 0} (xs : List X) (j : ℕ) (z : X) → slice_get xs j ≡ Some z → In z xs
in_from_slice [] j z g = absurd (cc (g))
in_from_slice (x ∷ xs) zero z g = inl (sym (same_Some x z g))
in_from_slice (x ∷ xs) (suc j) z g = inr (in_from_slice xs j z g)

-- what holds of each element by `In` holds of all by index
pub all_from_in : {X : Type 0} (P : X → Type 0) (xs : List X) → ((x : X) → In x xs → P x) → All P xs
all_from_in P xs h = λ k d l. h (get_or xs k d) (in_from_get xs k d l)

-- what holds of all by index holds of each element
pub all_at : {X : Type 0} (P : X → Type 0) (xs : List X) → All P xs → (x : X) → In x xs → P x
all_at P xs h x i = let k = contains_from_in xs x i in subst P k.2 (h k.0 x k.1)

-- what holds of each two elements by `In` holds of each two by index
pub all_from_pairs : {X : Type 0} (R : X → X → Type 0) (xs : List X) → Pairs R xs → AllPairs R xs
all_from_pairs R [] h = λ i j d l m. absurd (omega arith)
all_from_pairs {X} R (x ∷ xs) h = go (all_from_pairs R xs h.1)
  where
    go : AllPairs R xs → (i j : ℕ) (d : X) → i < j → j < suc (length xs) → R (get_or (x ∷ xs) i d) (get_or (x ∷ xs) j d)
    go r i zero d l m = absurd (omega arith)
    go r zero (suc j) d l m = h.0 (get_or xs j d) (in_from_get xs j d (omega arith))
    go r (suc i) (suc j) d l m = r i j d (omega arith) (omega arith)

-- what holds of each two elements by index holds of each two by `In`
pub pairs_from_all : {X : Type 0} (R : X → X → Type 0) (xs : List X) → AllPairs R xs → Pairs R xs
pairs_from_all R [] h = tt
pairs_from_all {X} R (x ∷ xs) h =
    let first : (y : X) → In y xs → R x y = λ y i.
    let k = contains_from_in xs y i in
    subst (R x) k.2 (h 0 (suc k.0) y (omega arith) (omega (arith, k.1))) in
    (first, pairs_from_all R xs (λ i j d l m. h (suc i) (suc j) d (omega arith) (omega arith)))
