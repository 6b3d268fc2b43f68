-- Valid orders of an object's calls, and orders of places that go on from nothing: each gives the other.
use Rattle.std.proofs.Common.{◌≡◌, ◌≢◌, ℕ, ℤ, pos, ◌<◌, ◌==◌, Bool, inl, inr, List, [], ◌∷◌, Option, Some, None, IfSome}
use Rattle.std.proofs.Common.{IsSome, length, map, filter, get_or, All, AllPairs, Contains, refl, ap, sym, ◌∙◌, arith}
use Rattle.std.specs.List.Sorted.{IsPermutation}
use Rattle.std.proofs.lemmas.Bool.{cases_eq, cases_order, eq-eqb, ne_eqb}
use Rattle.std.proofs.lemmas.List.Sorted.{IsPermutation-sym, Contains-permutation}
use Rattle.std.proofs.lemmas.Map.Keys.{IsDistinct-from_apart, IsDistinct-IsPermutation, apart_from_distinct}
use Rattle.std.proofs.lemmas.Bool.Decides.{nat_tests}
use Rattle.std.proofs.lemmas.Simd.{map-map}
use Rattle.model.specs.declared.Kind.{Kind}
use Rattle.model.specs.declared.AnyReply.{AnyReply}
use Rattle.model.specs.Objects.{Content, empty}
use Rattle.model.specs.Orders.{Call, Return, ReturnsBefore, RepliesAlong, IsValidOrder}
use Rattle.model.specs.Lists.{In}
use Rattle.model.proofs.Lists.{Pairs, in_map, in_map_from, in_from_contains, contains_from_in, in_from_get}
use Rattle.model.proofs.Lists.{all_from_in, all_at, all_from_pairs}
use Rattle.model.proofs.Lists.{pairs_from_all, pairs_filter, pairs_weaker, pairs_map, pairs_from_map}
use Rattle.events.specs.declared.operations.Operation.{Operation}
use Rattle.events.specs.Operations.{calls_of}
use Rattle.order_search.specs.Arranged.{as_call, call_at}
use Rattle.order_search.specs.declared.order_search.OrderOutcome.{OrderOutcome}
use Rattle.order_search.specs.declared.order_search.OrderOutcome.TheVariants.{Found}
use Rattle.order_search.specs.declared.level.Level.{Level}
use Rattle.order_search.specs.Outcomes.{IfFound}
use Rattle.order_search.specs.declared.trials.Trials.{Trials}
use Rattle.order_search.specs.Continuations.{IsLeft, Continues, IsDead}
use Rattle.order_search.specs.Searching.{places, IsOrderOfTrials}
use Rattle.order_search.proofs.Calls.{happens, none, calls-filter}
use Rattle.order_search.proofs.Deadness.{goes_on_from}
use Rattle.order_search.proofs.Steps.{call_read}
use Rattle.model.proofs.Orders.{same_pos, returned_some}

-- ---- the calls of an object by place

pub record AreListed (calls : List Call) (n : ℕ) (call : ℕ → Call) : Type 0 where
  pub apart : (j k : ℕ) → j < n → k < n → (call j).number ≡ (call k).number → j ≡ k
  pub known : (k : ℕ) → k < n → In (call k) calls
  pub cover : (e : Call) → In e calls → (k : ℕ) × (k < n) × (call k ≡ e)

abbrev same_number : Operation → Operation → Bool
same_number a b = a.number == b.number

-- the calls at two places have different numbers
numbers_differ : (ops items : List Operation) → AllPairs (λ a b. a.number < b.number) ops
    → IsPermutation (filter happens ops) items → (j k : ℕ)
    → j < k → k < length items → (call_at items j).number ≢ (call_at items k).number
numbers_differ ops items up p j k l m e =
    let kept = all_from_pairs (λ a b. a.number < b.number) (filter happens ops)
    (pairs_filter (λ a b. a.number < b.number) happens ops (pairs_from_all (λ a b. a.number < b.number) ops up)) in
    let first = IsDistinct-from_apart same_number (filter happens ops)
    (λ i h d a b. let g = kept i h d a b in ne_eqb _ _ (λ q. omega (arith, q))) in
    let now = IsDistinct-IsPermutation same_number (λ a b. flip a.number b.number) (filter happens ops) items p first in
    let t = apart_from_distinct same_number items j k none now l m in
    let u = eq-eqb _ _ e in
    absurd (cc (t, u))
  where
    flip : (a b : ℕ) → (a == b) ≡ (b == a)
    flip a b = grind (arith, nat_tests)

-- the calls by place are the calls of the object, in another order
pub listed_calls : (ops items : List Operation) → AllPairs (λ a b. a.number < b.number) ops
    → IsPermutation (filter happens ops) items → AreListed (calls_of ops) (length items) (call_at items)
listed_calls ops items up p = record {
  apart = λ j k l m e. elim (cases_order j k) [
    | inl q ↦ q
    | inr o ↦ elim o [
      | inl a ↦ absurd (numbers_differ ops items up p j k a m e)
      | inr b ↦ absurd (numbers_differ ops items up p k j b l (sym e))
    ]
  ];
  known = λ k l.
      let o : Operation = get_or items k none in
      let i = in_from_contains (filter happens ops) o
      (Contains-permutation items (filter happens ops) o (IsPermutation-sym (filter happens ops) items p)
      (contains_from_in items o (in_from_get items k none l))) in
      rw (calls-filter ops) (in_map_from as_call o (filter happens ops) i);
  cover = λ e i.
      let m = in_map as_call e (filter happens ops) (rw calls-filter at i) in
      let k = Contains-permutation (filter happens ops) items m.0 p (contains_from_in (filter happens ops) m.0 m.1) in
      (k.0, k.1, sym (call_read items k.0 m.0 k.1) ∙ ap as_call k.2 ∙ sym m.2);
}

-- ---- from places to an order

pub record Ordered (n : ℕ) (call : ℕ → Call) (done : List ℕ) (c : Content) (rest : List ℕ) : Type 0 where
  pub left : (k : ℕ) → In k rest → IsLeft n done k
  pub apart : Pairs (λ j k. j ≢ k) rest
  pub in_time : Pairs (λ j k. ReturnsBefore (call k) (call j) → ⊥) rest
  pub replies : RepliesAlong c (map call rest)
  pub whole : (j : ℕ) (r : Return) → IsLeft n done j → (call j).returned ≡ Some r → In j rest

replied : (returned : Option Return) (reply : AnyReply) → ((r : Return) → returned ≡ Some r → r.reply ≡ reply)
    → IfSome returned (λ r. r.reply ≡ reply)
replied None reply h = tt
replied (Some r) reply h = h r refl

ordered : (n : ℕ) (call : ℕ → Call) (done : List ℕ) (c : Content) (rest : List ℕ) → Continues n call done c rest
    → Ordered n call done c rest
ordered n call done c [] h =
    record { left = λ k i. absurd i; apart = tt; in_time = tt; replies = tt; whole = λ j r l e. absurd (h j r l e) }
ordered n call done c (k ∷ rest) h = onto (ordered n call (k ∷ done) h.2 rest h.4)
  where
    onto : Ordered n call (k ∷ done) h.2 rest → Ordered n call done c (k ∷ rest)
    onto m =
        let kept : (j : ℕ) → In j rest → IsLeft n done j = λ j i.
        let l = m.left j i in
        (l.0, λ d. l.1 (inr d)) in
        record {
          left = λ j i. elim i [ inl e ↦ rw e h.0 | inr d ↦ kept j d ];
          apart = (λ j i e. (m.left j i).1 (inl (sym e)), m.apart);
          in_time = (λ j i b. h.1 j (kept j i) (λ e. (m.left j i).1 (inl e)) b, m.in_time);
          replies = (h.2, h.3.reply, h.3.does, replied (call k).returned h.3.reply h.3.agrees, m.replies);
          whole = λ j r l e. elim (cases_eq j k) [
            | inl q ↦ inl q
            | inr ne ↦ inr (m.whole j r (l.0, λ i. elim i [ inl q ↦ ne q | inr d ↦ l.1 d ]) e)
          ];
        }

-- places that go on from the start are a valid order, by the numbers of their calls
pub valid_from : (kind : Kind) (calls : List Call) (n : ℕ) (call : ℕ → Call) (rest : List ℕ) (order : List ℤ)
    → AreListed calls n call
    → Continues n call [] (empty kind) rest → order ≡ map (λ k. pos (call k).number) rest
    → IsValidOrder kind calls order
valid_from kind calls n call rest order a h eo =
    let m = ordered n call [] (empty kind) rest h in
    record {
      entries = map call rest;
      numbers = eo ∙ sym (map-map (λ e. pos e.number) call rest);
      known = all_from_in (Contains calls) (map call rest) (λ e i. let k = in_map call e rest i in
          contains_from_in calls e (rw k.2 (a.known k.0 (m.left k.0 k.1).0)));
      once = rw eo (all_from_pairs (λ x y. x ≢ y) (map (λ k. pos (call k).number) rest)
          (pairs_map (λ x y. x ≢ y) (λ k. pos (call k).number) rest
          (pairs_weaker (λ j k. j ≢ k) (λ j k. pos (call j).number ≢ pos (call k).number) rest
          (λ j k i l ne e. ne (a.apart j k (m.left j i).0 (m.left k l).0 (same_pos _ _ e))) m.apart)));
      whole = all_from_in (λ e. IsSome e.returned → Contains (map call rest) e) calls (λ e i some.
          let k = a.cover e i in
          let r = returned_some e.returned some in
          contains_from_in (map call rest) e (rw k.2 at (in_map_from call k.0 rest
          (m.whole k.0 r.0 (k.1, λ z. z) (ap (λ (x : Call). x.returned) k.2 ∙ r.1)))));
      in_order = all_from_pairs (λ x y. ReturnsBefore y x → ⊥) (map call rest)
          (pairs_map (λ x y. ReturnsBefore y x → ⊥) call rest m.in_time);
      replies = m.replies;
    }

-- ---- from a valid order to places

-- no order is valid if none goes on from the beginning
pub none_valid : (kind : Kind) (calls : List Call) (n : ℕ) (call : ℕ → Call) → AreListed calls n call
    → IsDead n call [] (empty kind) → (order : List ℤ) → IsValidOrder kind calls order → ⊥
none_valid kind calls n call a dead order v =
    let number : Call → ℤ = λ e. pos e.number in
    let apart = pairs_weaker (λ x y. number x ≢ number y) (λ x y. x ≢ y) v.entries (λ x y i j ne e. ne (ap number e))
    (pairs_from_map (λ x y. x ≢ y) number v.entries (rw v.numbers at (pairs_from_all (λ x y. x ≢ y) order v.once))) in
    let r = goes_on_from n call [] (empty kind) v.entries (λ j k l m e. a.apart j k l m (ap (λ (x : Call). x.number) e))
    (λ e i. a.cover e (in_from_contains calls e (all_at (Contains calls) v.entries v.known e i)))
    (λ k l i z. z)
    (λ k r l e. in_from_contains v.entries (call k)
    (all_at (λ e. IsSome e.returned → Contains v.entries e) calls v.whole (call k) (a.known k l.0) (rw e refl)))
    apart (pairs_from_all (λ x y. ReturnsBefore y x → ⊥) v.entries v.in_order) v.replies in
    dead r.0 r.1

-- where nothing returned, nothing need be ordered
pub nothing_valid : (kind : Kind) (calls : List Call)
    → ((c : Call) (r : Return) → In c calls → c.returned ≡ Some r → ⊥) → IsValidOrder kind calls []
nothing_valid kind calls pending = record {
  entries = [];
  numbers = refl;
  known = all_from_in (Contains calls) [] (λ e i. absurd i);
  once = all_from_pairs (λ x y. x ≢ y) [] tt;
  whole = all_from_in (λ e. IsSome e.returned → Contains [] e) calls
      (λ e i some. absurd (go e.returned (λ r q. pending e r i q) some));
  in_order = all_from_pairs (λ x y. ReturnsBefore y x → ⊥) [] tt;
  replies = tt;
}
  where
    go : (o : Option Return) → ((r : Return) → o ≡ Some r → ⊥) → IsSome o → ⊥
    go None h i = absurd (cc i)
    go (Some r) h i = h r refl

-- ---- the order that a search found

-- the places of the levels are those of operations
pub places_within : (t : Trials) (levels : List Level)
    → Continues (length t.items.items) (call_at t.items.items) [] (empty t.kind) (places levels)
    → All (λ l. l.place < length t.items.items) levels
places_within t levels h = all_from_in (λ l. l.place < length t.items.items) levels
    (λ l i. ((ordered (length t.items.items) (call_at t.items.items) [] (empty t.kind) (places levels) h).left l.place
    (in_map_from (λ (l : Level). l.place) l levels i)).0)

-- the levels that a search found make an order of its calls
pub order_found : (t : Trials) (levels : List Level) (order : List ℤ)
    → Continues (length t.items.items) (call_at t.items.items) [] (empty t.kind) (places levels)
    → order ≡ map (λ l. pos (call_at t.items.items l.place).number) levels → IsOrderOfTrials t order
order_found t levels order h e = record {
  rest = places levels;
  goes_on = h;
  numbers = e ∙ sym (map-map (λ k. pos (call_at t.items.items k).number) (λ l. l.place) levels);
}

-- an order of a search's calls is valid for the object
pub found_valid : (t : Trials) (calls : List Call) (order : List ℤ)
    → AreListed calls (length t.items.items) (call_at t.items.items) → IsOrderOfTrials t order
    → IsValidOrder t.kind calls order
found_valid t calls order a h =
    valid_from t.kind calls (length t.items.items) (call_at t.items.items) h.rest order a h.goes_on h.numbers

-- what holds of the order that was found, and what follows from it
pub IfFound-weaker : (o : OrderOutcome) (P Q : List ℤ → Type 0) → ((order : List ℤ) → P order → Q order) → IfFound o P
    → IfFound o Q
IfFound-weaker (Found order) P Q f h = f order.items h
IfFound-weaker o P Q f h = tt
