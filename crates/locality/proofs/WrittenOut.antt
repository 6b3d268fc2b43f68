-- Histories and orders that are written out: tests that compute, and what they decide.
use Rattle.std.proofs.Common.{◌≡◌, ◌≢◌, ℕ, ℤ, pos, zero, suc, ◌<◌, ◌≤◌, ◌==◌, ◌&&◌, nat_lt, nat_le, Bool, true}
use Rattle.std.proofs.Common.{false, not, inl, inr, List, [], ◌∷◌}
use Rattle.std.proofs.Common.{filter, map, Option, Some, IsSome, Contains, refl, ap, ◌∙◌, arith}
use Rattle.std.specs.List.{list_all, AllByRecursion}
use Rattle.std.proofs.lemmas.List.Elements.{All-from_recursion}
use Rattle.std.proofs.lemmas.Bool.{eqb-true, eq-eqb, ne_eqb, and_parts, ltb-true, leb-true, lt-ltb, not-true}
use Rattle.std.proofs.lemmas.Bool.{cases_order}
use Rattle.model.specs.declared.Kind.{Kind}
use Rattle.model.specs.Objects.{empty}
use Rattle.model.specs.Histories.{Event, process_of, is_invocation, by_process, matches, IsSequential, IsWellFormed}
use Rattle.model.specs.Linearizable.{IsLinearizable}
use Rattle.model.specs.Orders.{Numbered, events, Return, Call, ProcessCall, calls_in, IsHistory, ReturnsBefore}
use Rattle.model.specs.Orders.{RepliesAlong, IsValidOrder}
use Rattle.model.specs.Lists.{In}
use Rattle.model.proofs.Lists.{Pairs, filter_none, pairs_map, pairs_weaker, all_from_in, all_from_pairs}
use Rattle.locality.specs.Locality.{HasValidOrder}
use Rattle.locality.proofs.ProcessHistories.{is_back}
use Rattle.locality.proofs.OneKind.{named_kinds}
use Rattle.model.proofs.Orders.{same_pos}

passes : {X : Type 0} (q : X → Bool) (xs : List X) → list_all q xs ≡ true → (x : X) → In x xs → q x ≡ true
passes q [] e x i = absurd i
passes q (y ∷ xs) e x i = let both = and_parts (q y) (list_all q xs) e in elim i [
  | inl s ↦ ap q s ∙ both.0
  | inr j ↦ passes q xs both.1 x j
]

-- the numbers rise, and the first is not below m
abbrev rises_from : ℕ → List Numbered → Bool
rises_from m [] = true
rises_from m (a ∷ h) = nat_le m a.number && rises_from (suc a.number) h

rises : (m : ℕ) (h : List Numbered) → rises_from m h ≡ true
    → Pairs (λ (a b : Numbered). a.number < b.number) h × ((x : Numbered) → In x h → m ≤ x.number)
rises m [] e = (tt, λ x i. absurd i)
rises m (a ∷ h) e =
    let both = and_parts (nat_le m a.number) (rises_from (suc a.number) h) e in
    let low : m ≤ a.number = leb-true m a.number both.0 in
    let rest = rises (suc a.number) h both.1 in (
      (λ y i. let above = rest.1 y i in omega arith, rest.0),
      λ x i. elim i [
        | inl s ↦ omega (arith, ap (λ (k : Numbered). k.number) s)
        | inr j ↦ let above = rest.1 x j in omega arith
      ],
    )

abbrev is_sequential : List Event → Bool
is_sequential [] = true
is_sequential (e ∷ []) = is_invocation e
is_sequential (e ∷ f ∷ rest) = matches e f && is_sequential rest

sequential : (h : List Event) → is_sequential h ≡ true → IsSequential h
sequential [] e = tt
sequential (a ∷ []) e = e
sequential (a ∷ b ∷ rest) e =
    let both = and_parts (matches a b) (is_sequential rest) e in (both.0, sequential rest both.1)

-- each process below n alone is sequential
abbrev are_sequential : ℕ → List Event → Bool
are_sequential zero h = true
are_sequential (suc n) h = is_sequential (by_process n h) && are_sequential n h

one_of : (n : ℕ) (h : List Event) → are_sequential n h ≡ true → (p : ℕ) → p < n → IsSequential (by_process p h)
one_of zero h e p l = absurd (omega arith)
one_of (suc n) h e p l =
    let both = and_parts (is_sequential (by_process n h)) (are_sequential n h) e in
    elim (cases_order p n) [
      | inl q ↦ rw q (sequential (by_process n h) both.0)
      | inr r ↦ elim r [ inl less ↦ one_of n h both.1 p less | inr more ↦ absurd (omega arith) ]
    ]

-- where each event has less, by its process or its object, none has this much
pub none_from : (what : Event → ℕ) (n : ℕ) (h : List Event) → list_all (λ e. nat_lt (what e) n) h ≡ true → (p : ℕ)
    → n ≤ p → filter (λ e. what e == p) h ≡ []
none_from what n h all p l =
    filter_none (λ e. what e == p) h
    (λ e i. ne_eqb (what e) p
    (λ q. let low = ltb-true (what e) n (passes (λ e. nat_lt (what e) n) h all e i) in omega (arith, q)))

pub well_formed : (n : ℕ) (h : List Event) → list_all (λ e. nat_lt (process_of e) n) h ≡ true
    → are_sequential n h ≡ true → IsWellFormed h
well_formed n h all each p = elim (cases_order p n) [
  | inl q ↦ absent (omega arith)
  | inr r ↦ elim r [ inl less ↦ one_of n h each p less | inr more ↦ absent (omega arith) ]
]
  where
    absent : n ≤ p → IsSequential (by_process p h)
    absent l = rw (none_from process_of n h all p l) tt

-- a history of processes below n
abbrev is_history_of : ℕ → List Numbered → Bool
is_history_of n h = rises_from 0 h
    && (list_all (λ e. nat_lt (process_of e) n) (events h) && are_sequential n (events h))

-- a list that the test finds to be a history is one
pub history : (n : ℕ) (h : List Numbered) → is_history_of n h ≡ true → IsHistory h
history n h e =
    let a = and_parts (rises_from 0 h)
    (list_all (λ e. nat_lt (process_of e) n) (events h) && are_sequential n (events h)) e in
    let b = and_parts (list_all (λ e. nat_lt (process_of e) n) (events h)) (are_sequential n (events h)) a.1 in
    record {
      rising = all_from_pairs (λ (a b : Numbered). a.number < b.number) h (rises 0 h a.0).0;
      well_formed = well_formed n (events h) b.0 b.1;
    }

-- each has a number of its own, and none returned before one that is in front of it
abbrev pub in_order : List Call → Bool
in_order [] = true
in_order (a ∷ es) = list_all (λ b. not (a.number == b.number) && not (is_back a.number b.returned)) es && in_order es

returned_back : (t : ℕ) (o : Option Return) (r : Return) → o ≡ Some r → r.at < t → is_back t o ≡ true
returned_back t o r e l = ap (is_back t) e ∙ lt-ltb r.at t l

pub ordered : (es : List Call) → in_order es ≡ true
    → Pairs (λ (a b : Call). (a.number ≢ b.number) × (ReturnsBefore b a → ⊥)) es
ordered [] e = tt
ordered (a ∷ es) e =
    let good : Call → Bool = λ b. not (a.number == b.number) && not (is_back a.number b.returned) in
    let both = and_parts (list_all good es) (in_order es) e in (
      λ b i.
          let parts = and_parts (not (a.number == b.number)) (not (is_back a.number b.returned))
          (passes good es both.0 b i) in
          let apart : (a.number == b.number) ≡ false = not-true (a.number == b.number) parts.0 in
          let late : is_back a.number b.returned ≡ false = not-true (is_back a.number b.returned) parts.1 in (
            λ same. let on = eq-eqb a.number b.number same in
                absurd (cc (apart, on)),
            λ r. let on = returned_back a.number b.returned r.0 r.1 r.2 in
                absurd (cc (late, on)),
          ),
      ordered es both.1,
    )

-- an order that is written out is valid: its calls are the object's, in time order, and each reply is right
pub valid_order : (kind : Kind) (calls entries : List Call) → in_order entries ≡ true
    → AllByRecursion (Contains calls) entries
    → AllByRecursion (λ (e : Call). IsSome e.returned → Contains entries e) calls → RepliesAlong (empty kind) entries
    → IsValidOrder kind calls (map (λ (e : Call). pos e.number) entries)
valid_order kind calls entries e known whole replies =
    let o = ordered entries e in
    record {
      entries = entries;
      numbers = refl;
      known = All-from_recursion (Contains calls) entries known;
      once = all_from_pairs (λ (a b : ℤ). a ≢ b) (map (λ (e : Call). pos e.number) entries)
          (pairs_map (λ (a b : ℤ). a ≢ b) (λ (e : Call). pos e.number) entries
          (pairs_weaker (λ (a b : Call). (a.number ≢ b.number) × (ReturnsBefore b a → ⊥))
          (λ (a b : Call). pos a.number ≢ pos b.number) entries
          (λ a b i j r q. r.0 (same_pos a.number b.number q)) o));
      whole = All-from_recursion (λ (e : Call). IsSome e.returned → Contains entries e) calls whole;
      in_order = all_from_pairs (λ (a b : Call). ReturnsBefore b a → ⊥) entries
          (pairs_weaker (λ (a b : Call). (a.number ≢ b.number) × (ReturnsBefore b a → ⊥))
          (λ (a b : Call). ReturnsBefore b a → ⊥) entries (λ a b i j r. r.1) o);
      replies = replies;
    }

-- where all operations are on object 0
pub linearizable : (kinds : ℕ → Kind) (h : List Numbered) → IsHistory h
    → list_all (λ e. e.object == 0) (calls_in h) ≡ true → HasValidOrder kinds h 0 → IsLinearizable kinds (events h)
linearizable kinds h hist all valid =
    named_kinds kinds h hist (all_from_in (λ (e : ProcessCall). HasValidOrder kinds h e.object) (calls_in h)
    (λ e i. rw (eqb-true e.object 0 (passes (λ e. e.object == 0) (calls_in h) all e i)) valid))
