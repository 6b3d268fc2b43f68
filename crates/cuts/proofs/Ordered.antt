-- The fields of a valid order, in the terms of lists: which calls it has, and that each two differ. The definition says
-- it by the words of the library, which the lemmas of `Lists` turn into those of lists.
use Rattle.std.proofs.Common.{◌≢◌, ℤ, pos, ◌<◌, List, AllPairs, Contains, IsSome, ap, subst, arith}
use Rattle.model.specs.declared.Kind.{Kind}
use Rattle.model.specs.Orders.{Call, ReturnsBefore, IsValidOrder}
use Rattle.model.specs.Lists.{In}
use Rattle.model.proofs.Lists.{Pairs, in_from_contains, all_at, pairs_from_all, pairs_weaker, pairs_from_map}

-- calls in the order of their numbers differ
pub calls_apart : (calls : List Call) → AllPairs (λ a b. a.number < b.number) calls → Pairs (λ x y. x ≢ y) calls
calls_apart calls rising = pairs_weaker (λ a b. a.number < b.number) (λ x y. x ≢ y) calls
    (λ x y i j l e. let same = ap (λ (z : Call). z.number) e in absurd (omega arith))
    (pairs_from_all (λ a b. a.number < b.number) calls rising)

module _ {kind : Kind} {calls : List Call} {order : List ℤ} (v : IsValidOrder kind calls order) where
  -- each call in a valid order is one of the calls
  pub in_calls : (e : Call) → In e v.entries → In e calls
  in_calls e i = in_from_contains calls e (all_at (Contains calls) v.entries v.known e i)

  -- each call that returned is in a valid order
  pub in_entries : (e : Call) → In e calls → IsSome e.returned → In e v.entries
  in_entries e i so =
      in_from_contains v.entries e (all_at (λ e. IsSome e.returned → Contains v.entries e) calls v.whole e i so)

  -- the numbers in a valid order are different as integers
  pub named_apart : Pairs (λ x y. ◌≢◌ {A = ℤ} (pos x.number) (pos y.number)) v.entries
  named_apart = pairs_from_map (λ x y. x ≢ y) (λ (e : Call). pos e.number) v.entries
      (subst (Pairs (λ x y. x ≢ y)) v.numbers (pairs_from_all (λ x y. x ≢ y) order v.once))

  -- no number is twice in a valid order
  pub numbers_apart : Pairs (λ x y. x.number ≢ y.number) v.entries
  numbers_apart = pairs_weaker (λ x y. ◌≢◌ {A = ℤ} (pos x.number) (pos y.number)) (λ x y. x.number ≢ y.number)
      v.entries (λ x y i j ne e. ne (ap pos e)) named_apart

  -- no call is twice in a valid order
  pub entries_apart : Pairs (λ x y. x ≢ y) v.entries
  entries_apart = pairs_weaker (λ x y. x.number ≢ y.number) (λ x y. x ≢ y) v.entries
      (λ x y i j ne e. ne (ap (λ (z : Call). z.number) e)) numbers_apart

  -- in a valid order no call returned before an earlier one of the order was invoked
  pub in_time_order : Pairs (λ x y. ReturnsBefore y x → ⊥) v.entries
  in_time_order = pairs_from_all (λ x y. ReturnsBefore y x → ⊥) v.entries v.in_order
