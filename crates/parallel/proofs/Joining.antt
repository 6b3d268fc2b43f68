-- The objects that workers gather by parts, joined, are the objects of the history (`all_split`, `all_listed`). Each
-- part is put into one map (`put_more`), part by part (`join_more`), and the map lists objects by rising number.
use Rattle.std.proofs.Common.{◌≡◌, ◌≢◌, ℕ, ◌+◌, ◌%◌, ◌<◌, inl, inr, List, [], ◌∷◌, ◌++◌, length, map, get_or}
use Rattle.std.proofs.Common.{Option, Some, None, Result, Ok, Err, IfOk, All, AllPairs, ◌↔◌}
use Rattle.std.proofs.Common.{false, Contains, refl, ap, sym, ◌∙◌, subst, append_assoc, arith}
use Rattle.std.specs.Ordering.{nat_cmp, is_eq, MatchOrdering}
use Rattle.std.specs.Cmp.{ranked, nat_cmp_total}
use Rattle.std.specs.declared.cmp.Ordering.{Ordering}
use Rattle.std.specs.declared.cmp.Ordering.TheVariants.{Less, Equal, Greater}
use Rattle.std.specs.List.{AllByRecursion}
use Rattle.std.specs.List.Sorted.{IsStrictlySortedBy}
use Rattle.std.specs.BTreeMap.{BTreeMap, IsOrdered, Updates, get, keys, is_at}
use Rattle.std.specs.Map.{lookup}
use Rattle.std.proofs.Math.Nat.{mod-lt}
use Rattle.std.proofs.lemmas.Bool.{cases_eq}
use Rattle.std.proofs.lemmas.List.{append-nil}
use Rattle.std.proofs.lemmas.Option.{same_Some}
use Rattle.std.proofs.lemmas.Map.Keys.{sorted_head, sorted_tail}
use Rattle.std.proofs.lemmas.Map.Lookups.{exact_unsigned}
use Rattle.std.proofs.lemmas.Map.Views.{All-found, btree_map_get_iff}
use Rattle.model.specs.Orders.{calls_on}
use Rattle.model.specs.Lists.{In}
use Rattle.model.proofs.Lists.{Pairs, in_append, in_left, in_middle, in_map, in_map_from, pairs_map, pairs_weaker}
use Rattle.model.proofs.Lists.{pairs_from_map, in_from_contains, contains_from_in, all_at, all_from_in, all_from_pairs}
use Rattle.events.specs.declared.event.Event.{Event}
use Rattle.events.specs.Events.{IsNamed, kind_of_object, denoted}
use Rattle.events.specs.Operations.{ObjectCalls, operations_on, calls_of}
use Rattle.parallel.specs.Gathered.{IsGatheredPart, AreGathered, IsPutIn, IsHistoryOfObject, IsWhole, AreAll}

-- ---- the keys of a map

apart_keys : (k q : ℕ) → q ≢ k → is_eq (nat_cmp k q) ≡ false
apart_keys k q ne = go (nat_cmp k q) (ranked k q _ refl)
  where
    go : (r : Ordering) → MatchOrdering r (k < q) (k ≡ q) (q < k) → is_eq r ≡ false
    go Less h = refl
    go Equal h = absurd (ne (sym h))
    go Greater h = refl

empty_get : {X : Type 0} (m : BTreeMap ℕ X) → m.entries ≡ [] → (q : ℕ) → get nat_cmp m q ≡ None
empty_get m e q = ap (lookup (is_at (nat_cmp q))) e

key_below : (k : ℕ) (ks : List ℕ) → AllByRecursion (λ y. nat_cmp k y ≡ Less) ks → (y : ℕ) → In y ks → k < y
key_below k [] h y i = absurd i
key_below k (z ∷ ks) h y i = elim i [
  | inl e ↦ subst (λ n. k < n) (sym e) (ranked k z Less (sym h.0))
  | inr j ↦ key_below k ks h.1 y j
]

keys_rising : (ks : List ℕ) → IsStrictlySortedBy nat_cmp ks → Pairs (λ a b. a < b) ks
keys_rising [] h = tt
keys_rising (k ∷ ks) h = (key_below k ks (sorted_head nat_cmp k ks h), keys_rising ks (sorted_tail nat_cmp k ks h))

-- ---- the objects of one part

-- those put in so far
pub record ArePutIn (all rest : List ObjectCalls) (old new : BTreeMap ℕ ObjectCalls) : Type 0 where
  pub met : List ObjectCalls
  pub so_far : all ≡ met ++ rest
  pub kept : (x : ℕ) → IsPutIn met x (get nat_cmp old x) (get nat_cmp new x)

-- before the first object nothing was put in
pub nothing_put : (all : List ObjectCalls) (m : BTreeMap ℕ ObjectCalls) → ArePutIn all all m m
nothing_put all m = record { met = []; so_far = refl; kept = λ x. inr (λ c. absurd (in_from_contains [] x c), refl) }

-- an object that is put in is there then, and each other object is as it was
put_one : (met : List ObjectCalls) (o : ObjectCalls) (x : ℕ) (old kept new : Option ObjectCalls)
    → IsPutIn met x old kept
    → (x ≡ o.object → new ≡ Some o) → (x ≢ o.object → new ≡ kept) → IsPutIn (met ++ o ∷ []) x old new
put_one met o x old kept new h own other = elim (cases_eq x o.object) [
  | inl e ↦ inl (o, contains_from_in (met ++ o ∷ []) o (in_middle o met []), sym e, own e)
  | inr ne ↦ elim h [
    | inl p ↦ inl (
      p.0,
      contains_from_in (met ++ o ∷ []) p.0
          (in_left p.0 met (o ∷ []) (in_from_contains met p.0 p.1)),
      p.2,
      other ne ∙ p.3,
    )
    | inr p ↦ inr (
      λ c. absent p.0 ne
          (in_map (λ (o : ObjectCalls). o.object) x (met ++ o ∷ [])
          (in_from_contains (map (λ o. o.object) (met ++ o ∷ [])) x c)),
      other ne ∙ p.1,
    )
  ]
]
  where
    absent : (Contains (map (λ (o : ObjectCalls). o.object) met) x → ⊥) → x ≢ o.object
        → ((p : ObjectCalls) × In p (met ++ o ∷ []) × (x ≡ p.object)) → ⊥
    absent not_in ne p = elim (in_append p.0 met (o ∷ []) p.1) [
      | inl i ↦ not_in (contains_from_in (map (λ (o : ObjectCalls). o.object) met) x
          (subst (λ y. In y (map (λ (o : ObjectCalls). o.object) met)) (sym p.2)
          (in_map_from (λ (o : ObjectCalls). o.object) p.0 met i)))
      | inr i ↦ elim i [ inl e ↦ ne (p.2 ∙ ap (λ (o : ObjectCalls). o.object) e) | inr k ↦ absurd k ]
    ]

-- one more object was put in
pub put_more : (all rest later : List ObjectCalls) (old kept new : BTreeMap ℕ ObjectCalls) (o : ObjectCalls) (key : ℕ)
    → ArePutIn all rest old kept
    → rest ≡ o ∷ later → key ≡ o.object → Updates nat_cmp kept new key (Some o) → ArePutIn all later old new
put_more all rest later old kept new o key h is k u = record {
  met = h.met ++ o ∷ [];
  so_far = h.so_far ∙ (ap (λ r. h.met ++ r) is ∙ sym (append_assoc h.met (o ∷ []) later));
  kept = λ x. put_one h.met o x (get nat_cmp old x) (get nat_cmp kept x) (get nat_cmp new x) (h.kept x)
      (λ e. ap (get nat_cmp new) (e ∙ sym k) ∙ u.1)
      (λ ne. u.2 x (apart_keys key x (λ e. ne (e ∙ k))));
}

-- all objects were put in
pub all_put : (all rest given : List ObjectCalls) (old new : BTreeMap ℕ ObjectCalls) → all ≡ given → rest ≡ []
    → ArePutIn all rest old new → (x : ℕ)
    → IsPutIn given x (get nat_cmp old x) (get nat_cmp new x)
all_put all rest given old new is over h x =
    subst (λ os. IsPutIn os x (get nat_cmp old x) (get nat_cmp new x))
    (sym (append-nil h.met) ∙ (ap (λ r. h.met ++ r) (sym over) ∙ (sym h.so_far ∙ is))) (h.kept x)

-- ---- all parts

-- the objects of the first parts have their histories
pub record IsWholeTo (es : List Event) (met parts : ℕ) (m : BTreeMap ℕ ObjectCalls) : Type 0 where
  pub right : (x : ℕ) (o : ObjectCalls) → get nat_cmp m x ≡ Some o → IsHistoryOfObject es x o
  pub whole : (x : ℕ) → IsNamed es x → x % parts < met → (o : ObjectCalls) × (get nat_cmp m x ≡ Some o)

-- those joined so far
pub record AreJoined {V E : Type 0} (items : V → List ObjectCalls) (all rest : List (Result V E))
    (m : BTreeMap ℕ ObjectCalls) : Type 0 where
  pub met : List (Result V E)
  pub so_far : all ≡ met ++ rest
  pub kept : (es : List Event) → AreGathered items es all → IsWholeTo es (length met) (length all) m

-- before the first part nothing was joined
pub nothing_joined : {V E : Type 0} (items : V → List ObjectCalls) (all : List (Result V E))
    (m : BTreeMap ℕ ObjectCalls) → m.entries ≡ [] → AreJoined items all all m
nothing_joined {V} {E} items all m empty = record {
  met = [];
  so_far = refl;
  kept = λ es h. record {
    right = λ x o is. let none : Some o ≡ None = sym is ∙ empty_get m empty x in absurd (cc none);
    whole = λ x n l. absurd (omega (arith, l));
  };
}

-- an object of a part
of_part : (es : List Event) (n parts : ℕ) (os : List ObjectCalls) (o : ObjectCalls) → IsGatheredPart es n parts os
    → In o os → IsHistoryOfObject es o.object o
of_part es n parts os o h i = record {
  object = refl;
  named = ((h.named o.object).0
      (contains_from_in (map (λ (o : ObjectCalls). o.object) os) o.object
      (in_map_from (λ (o : ObjectCalls). o.object) o os i))).0;
  kind = all_at (λ (o : ObjectCalls). o.kind ≡ kind_of_object es o.object) os h.kinds o i;
  operations = all_at (λ (o : ObjectCalls). o.ops ≡ operations_on o.object es) os h.operations o i;
  calls = all_at (λ (o : ObjectCalls). calls_of o.ops ≡ calls_on o.object (denoted es)) os h.calls o i;
}

-- with the objects of the part n put in, what is there is right, and whole up to that part
whole_more : (es : List Event) (n parts : ℕ) (os : List ObjectCalls) (m next : BTreeMap ℕ ObjectCalls)
    → IsGatheredPart es n parts os
    → ((x : ℕ) → IsPutIn os x (get nat_cmp m x) (get nat_cmp next x)) → IsWholeTo es n parts m
    → IsWholeTo es (n + 1) parts next
whole_more es n parts os m next part put h = record {
  right = λ x o is. elim (put x) [
    | inl p ↦
        let same : p.0 ≡ o = same_Some p.0 o (sym p.3 ∙ is) in
        subst (IsHistoryOfObject es x) same
        (subst (λ y. IsHistoryOfObject es y p.0) p.2 (of_part es n parts os p.0 part (in_from_contains os p.0 p.1)))
    | inr p ↦ h.right x o (sym p.1 ∙ is)
  ];
  whole = λ x named l. elim (put x) [
    | inl p ↦ (p.0, p.3)
    | inr p ↦ elim (cases_eq (x % parts) n) [
      | inl e ↦ absurd (p.0 ((part.named x).1 (named, e)))
      | inr ne ↦ let o = h.whole x named (below (x % parts) n l ne) in (o.0, p.1 ∙ o.1)
    ]
  ];
}
  where
    below : (a b : ℕ) → a < b + 1 → a ≢ b → a < b
    below a b l ne = elim (cases_eq a b) [ inl e ↦ absurd (ne e) | inr d ↦ omega (arith, l, d) ]

at_end : {X : Type 0} (xs ys : List X) (y d : X) → get_or (xs ++ y ∷ ys) (length xs) d ≡ y
at_end [] ys y d = refl
at_end (x ∷ xs) ys y d = at_end xs ys y d

inside : {X : Type 0} (xs ys : List X) (y : X) → length xs < length (xs ++ y ∷ ys)
inside [] ys y = omega arith
inside (x ∷ xs) ys y = let l = inside xs ys y in omega (arith, l)

one_longer : {X : Type 0} (xs : List X) (y : X) → length (xs ++ y ∷ []) ≡ length xs + 1
one_longer [] y = refl
one_longer (x ∷ xs) y = let l = one_longer xs y in omega (arith, l)

-- one more part was joined
pub join_more : {V E : Type 0} (items : V → List ObjectCalls) (all rest later : List (Result V E))
    (m next : BTreeMap ℕ ObjectCalls) (r : Result V E)
    (v : V) → AreJoined items all rest m → rest ≡ r ∷ later → r ≡ Ok v
    → ((x : ℕ) → IsPutIn (items v) x (get nat_cmp m x) (get nat_cmp next x)) → AreJoined items all later next
join_more {V} {E} items all rest later m next r v h is ok put = record {
  met = h.met ++ r ∷ [];
  so_far = whole ∙ sym (append_assoc h.met (r ∷ []) later);
  kept = λ es parts.
      let at = parts (length h.met) r (subst (λ xs. length h.met < length xs) (sym whole) (inside h.met later r)) in
      let here : get_or all (length h.met) r ≡ Ok v =
      ap (λ xs. get_or xs (length h.met) r) whole ∙ (at_end h.met later r r ∙ ok) in
      let part = subst (λ q. IfOk q (λ v. IsGatheredPart es (length h.met) (length all) (items v))) here at in
      subst (λ n. IsWholeTo es n (length all) next) (sym (one_longer h.met r))
      (whole_more es (length h.met) (length all) (items v) m next part put (h.kept es parts));
}
  where
    whole : all ≡ h.met ++ r ∷ later
    whole = h.so_far ∙ ap (λ xs. h.met ++ xs) is

-- all parts were joined: each named object has its history
pub all_joined : {V E : Type 0} (items : V → List ObjectCalls) (all rest given : List (Result V E))
    (m : BTreeMap ℕ ObjectCalls) → all ≡ given
    → rest ≡ [] → 0 < length given → AreJoined items all rest m → (es : List Event) → AreGathered items es given
    → IsWhole es m
all_joined items all rest given m is over some h es parts =
    let k = h.kept es (subst (AreGathered items es) (sym is) parts) in
    let long : length all ≡ length h.met = ap length (h.so_far ∙ (ap (λ r. h.met ++ r) over ∙ append-nil h.met)) in
    let more : 0 < length all = subst (λ xs. 0 < length xs) (sym is) some in record {
      right = k.right;
      whole = λ x named. k.whole x named (subst (λ n. x % length all < n) long (mod-lt x more));
    }

-- ---- by one worker

-- what a split of a history gives
pub all_split : {V E : Type 0} (items : V → List ObjectCalls) (es : List Event) (r : Result V E)
    → IfOk r (λ v. AllPairs (λ a b. a.object < b.object) (items v))
    → IfOk r (λ v. (x : ℕ) → Contains (map (λ o. o.object) (items v)) x ↔ IsNamed es x)
    → IfOk r (λ v. All (λ o. o.kind ≡ kind_of_object es o.object) (items v))
    → IfOk r (λ v. All (λ o. o.ops ≡ operations_on o.object es) (items v))
    → IfOk r (λ v. All (λ o. calls_of o.ops ≡ calls_on o.object (denoted es)) (items v))
    → IfOk r (λ v. AreAll es (items v))
all_split items es (Ok v) rising named kinds operations calls =
    record { rising = rising; named = named; kinds = kinds; operations = operations; calls = calls }
all_split items es (Err e) rising named kinds operations calls = tt

-- ---- in a list

-- the histories listed so far, and those left
abbrev pub AreListed : List (ℕ × ObjectCalls) → List (ℕ × ObjectCalls) → List ObjectCalls → Type 0
AreListed all rest objects = map (λ e. e.1) all ≡ objects ++ map (λ e. e.1) rest

-- one more object was listed
pub list_more : (all rest later : List (ℕ × ObjectCalls)) (objects : List ObjectCalls) (x : ℕ) (o : ObjectCalls)
    → AreListed all rest objects
    → rest ≡ (x, o) ∷ later → AreListed all later (objects ++ o ∷ [])
list_more all rest later objects x o h is =
    h ∙ (ap (λ (r : List (ℕ × ObjectCalls)). objects ++ map (λ e. e.1) r) is
    ∙ sym (append_assoc objects (o ∷ []) (map (λ e. e.1) later)))

-- all objects were listed, in rising order
pub all_listed : (es : List Event) (m : BTreeMap ℕ ObjectCalls) (all rest : List (ℕ × ObjectCalls))
    (os : List ObjectCalls) → IsOrdered nat_cmp m
    → IsWhole es m → all ≡ m.entries → rest ≡ [] → AreListed all rest os → AreAll es os
all_listed es m all rest os sorted h from over listed = record {
  rising = all_from_pairs (λ (a b : ObjectCalls). a.object < b.object) os
      (subst (Pairs (λ (a b : ObjectCalls). a.object < b.object)) (sym is)
      (pairs_map (λ (a b : ObjectCalls). a.object < b.object) (λ (e : ℕ × ObjectCalls). e.1) m.entries
      (pairs_weaker (λ (a b : ℕ × ObjectCalls). a.0 < b.0)
      (λ (a b : ℕ × ObjectCalls). a.1.object < b.1.object) m.entries
      (λ a b i j less. omega (arith, less, (entry a i).object, (entry b j).object))
      (pairs_from_map (λ (a b : ℕ). a < b) (λ (e : ℕ × ObjectCalls). e.0) m.entries (keys_rising (keys m) sorted)))));
  named = λ x. (
    λ c. let o = in_map (λ (o : ObjectCalls). o.object) x os
        (in_from_contains (map (λ (o : ObjectCalls). o.object) os) x c) in
        subst (IsNamed es) (sym o.2) (good o.0 o.1).named,
    λ n. let o = h.whole x n in
        let i = in_from_contains m.entries (x, o.0)
        ((btree_map_get_iff nat_cmp_total exact_unsigned m sorted x o.0).0 o.1) in
        contains_from_in (map (λ (o : ObjectCalls). o.object) os) x
        (subst (λ y. In y (map (λ (o : ObjectCalls). o.object) os)) (h.right x o.0 o.1).object
        (in_map_from (λ (o : ObjectCalls). o.object) o.0 os
        (subst (In o.0) (sym is) (in_map_from (λ (e : ℕ × ObjectCalls). e.1) (x, o.0) m.entries i)))),
  );
  kinds = all_from_in (λ o. o.kind ≡ kind_of_object es o.object) os (λ o i. (good o i).kind);
  operations = all_from_in (λ o. o.ops ≡ operations_on o.object es) os (λ o i. (good o i).operations);
  calls = all_from_in (λ o. calls_of o.ops ≡ calls_on o.object (denoted es)) os (λ o i. (good o i).calls);
}
  where
    is : os ≡ map (λ (e : ℕ × ObjectCalls). e.1) m.entries
    is = sym (append-nil os)
        ∙ (ap (λ (r : List (ℕ × ObjectCalls)). os ++ map (λ (e : ℕ × ObjectCalls). e.1) r) (sym over) ∙ sym listed
        ∙ ap (map (λ (e : ℕ × ObjectCalls). e.1)) from)

    entry : (e : ℕ × ObjectCalls) → In e m.entries → IsHistoryOfObject es e.0 e.1
    entry e i = h.right e.0 e.1
        (all_at (λ (e : ℕ × ObjectCalls). get nat_cmp m e.0 ≡ Some e.1) m.entries
        (All-found nat_cmp_total m sorted) e i)

    good : (o : ObjectCalls) → In o os → IsHistoryOfObject es o.object o
    good o i =
        let e = in_map (λ (e : ℕ × ObjectCalls). e.1) o m.entries (subst (In o) is i) in
        let g = entry e.0 e.1 in
        subst (λ p. IsHistoryOfObject es p.object p) (sym e.2)
        (subst (λ y. IsHistoryOfObject es y e.0.1) (sym g.object) g)
