-- A content is taken away no more often than it was there before and was set: each step keeps the balance, by cases of
-- the operations, and the steps of an order are added up.
use Rattle.std.proofs.Common.{rules, ◌≡◌, inl, inr, ℕ, ℤ, ◌<◌, ◌≤◌, ◌+◌, ◌==◌, nat_lt, Bool, true, false, not, ◌&&◌}
use Rattle.std.proofs.Common.{cond, List, [], ◌∷◌, length, Option, Some, None, All, AllPairs, IfSome, IsSome, filter}
use Rattle.std.proofs.Common.{refl, ap, sym, ◌∙◌, subst, arith}
use Rattle.std.specs.Prelude.{is_none}
use Rattle.std.proofs.lemmas.Int.{ints}
use Rattle.std.proofs.lemmas.Bool.{eqb-true, and_from, and_parts}
use Rattle.std.proofs.lemmas.Bool.Decides.{nat_tests}
use Rattle.std.proofs.lemmas.Option.{same_Some}
use Rattle.std.specs.Ordering.{int_cmp, int_eq}
use Rattle.std.specs.FinMap as map
use Rattle.model.specs.declared.Kind.{Kind}
use Rattle.model.specs.declared.AnyOp.{AnyOp}
use Rattle.model.specs.declared.AnyOp.TheVariants.{Replace}
use Rattle.model.specs.declared.AnyReply.{AnyReply}
use Rattle.model.specs.declared.AnyReply.TheVariants as reply
use Rattle.model.specs.Objects as objects
use Rattle.model.specs.Objects.{Content, queue, stack, heap, register, table, mutex, elements, owner, empty}
use Rattle.model.specs.Objects.{contains_value, next, inserted_if, has_value}
use Rattle.model.specs.Orders.{Call, Return, ReturnsBefore, RepliesAlong, IsValidOrder}
use Rattle.model.specs.Lists.{In}
use Rattle.model.proofs.Lists.{Pairs, all_at}
use Rattle.cuts.specs.declared.counting.Counted.{Counted}
use Rattle.cuts.specs.declared.counting.Counted.TheVariants.{Value, Entry, NoEntry, Held, Free}
use Rattle.cuts.specs.Parts.{reply_of, ended_before}
use Rattle.cuts.specs.Counts.{times_at_first, most_before, set_since, taken_since}
use Rattle.cuts.specs.Kinds.Counting.{sets, takes, may_count_from}
use Rattle.cuts.proofs.Ordered.{calls_apart, in_calls, in_entries, entries_apart, in_time_order}
use Rattle.cuts.proofs.Conserved.{one, tally, count_tally, size_after, size_cons, size_with_value, one_le}
use Rattle.cuts.proofs.Conserved.{tally_le, count_among}
use Rattle.cuts.proofs.Booleans.{false_is_not_true, true_or_false, same_by_test}
use Rattle.cuts.proofs.Tables.{get-insert, get-remove}

-- ---- how often an object contains it

abbrev there : Counted → Content → ℕ
there (Value v) (queue vs) = length (filter (λ w. int_eq w v) vs)
there (Value v) (stack vs) = length (filter (λ w. int_eq w v) vs)
there (Value v) (heap vs) = length (filter (λ w. int_eq w v) vs)
there (Value v) (register x) = one (contains_value x v)
there (Entry k v) (table m) = one (contains_value (map.get m k) v)
there (NoEntry k) (table m) = one (is_none (map.get m k))
there Held (mutex b) = one b
there Free (mutex b) = one (not b)
there what c = 0

-- a step takes it away only where it is there, or the step itself sets it
abbrev Bounded : Counted → AnyOp → Content → Content → AnyReply → Type 0
Bounded what op c after r = there what after + one (takes what op (Some r)) ≤ there what c + one (sets what op (Some r))

-- ---- one step

-- a replacement takes away what was there
swapped : (value old new : ℤ) (before after : Option ℤ) (own : Bool) → after ≡ cond own (Some new) before
    → (own ≡ true → contains_value before old ≡ true) → one (contains_value after value) + one (own && int_eq old value)
    ≤ one (contains_value before value) + one (own && int_eq new value)
swapped value old new None after true is has = absurd (cc (has refl))
swapped value old new (Some had) after true is has = let there = has refl in rw is (grind (arith, ints))
swapped value old new before after false is has = rw is (omega arith)

-- and so does a replacement in a map
replaced : (key value changed old new : ℤ) (before : map.FinMap int_cmp ℤ) (took : Bool)
    → has_value before changed old ≡ took
    → Bounded (Entry key value) (Replace changed old new) (table before) (table (inserted_if took before changed new))
    (reply.Flag took)
replaced key value changed old new before true has =
    swapped value old new (map.get before key) (map.get (map.insert before changed new) key) (int_eq changed key)
    (get-insert before changed new key)
    (λ e. ap (λ z. contains_value (map.get before z) old) (sym (same_by_test changed key e)) ∙ has)
replaced key value changed old new before false has = omega arith

bounded : (what : Counted) (c : Content) (op : AnyOp) → IfSome (next c op) (λ p. Bounded what op c p.0 p.1)
bounded (Value v) c op = grind (arith, ints, size_after, size_cons, size_with_value)
bounded (Entry k v) (table m) (Replace q a w) = replaced k v q a w m (has_value m q a) refl
bounded (Entry k v) (table m) op = grind (arith, ints, get-insert, get-remove)
bounded (Entry k v) c op = search rules
bounded (NoEntry k) c op = grind (arith, ints, get-insert, get-remove)
bounded what c op = search rules

-- a pending call may set what it sets with some reply, and tells nothing that it takes away
may_set : (what : Counted) (op : AnyOp) (r : AnyReply) → sets what op (Some r) ≡ true → sets what op None ≡ true
may_set what op r h = search rules

pub none_taken : (what : Counted) (op : AnyOp) → takes what op None ≡ false
none_taken what op = search rules

-- ---- along an order

abbrev set_by : Counted → Call → Bool
set_by what e = sets what e.op (reply_of e.returned)

abbrev taken_by : Counted → Call → Bool
taken_by what e = takes what e.op (reply_of e.returned)

-- a call takes the content away only where it is there, or is set by the call
turn : (what : Counted) (call : Call) (before after : Content) (given : AnyReply)
    → next before call.op ≡ Some (after, given) → IfSome call.returned (λ t. t.reply ≡ given)
    → there what after + one (taken_by what call) ≤ there what before + one (set_by what call)
turn what call before after given does agrees = go call.returned agrees
  where
    here : Bounded what call.op before after given
    here = subst (λ z. IfSome z (λ p. Bounded what call.op before p.0 p.1)) does (bounded what before call.op)

    go : (o : Option Return) → IfSome o (λ t. t.reply ≡ given)
        → there what after + one (takes what call.op (reply_of o))
        ≤ there what before + one (sets what call.op (reply_of o))
    go None h =
        let step = here in
        let told = ap one (none_taken what call.op) in
        let may = one_le (sets what call.op (Some given)) (sets what call.op None) (may_set what call.op given) in
        omega arith
    go (Some t) h = rw h here

conserved : (what : Counted) (es : List Call) (c : Content) → RepliesAlong c es
    → tally (taken_by what) es ≤ there what c + tally (set_by what) es
conserved what [] c h = omega arith
conserved what (e ∷ es) c h = sums _ _ _ _ _ _ (turn what e c h.0 h.1 h.2 h.3) (conserved what es h.0 h.4)
  where
    -- the balances of a call and of the others, added up
    sums : (after took size put gone more : ℕ) → after + took ≤ size + put → gone ≤ after + more
        → took + gone ≤ size + (put + more)
    sums after took size put gone more a b = omega arith

-- ---- from a number on

abbrev pub set_from : Counted → ℕ → Call → Bool
set_from what from e = sets what e.op (reply_of e.returned) && not (ended_before from e.returned)

abbrev pub taken_from : Counted → ℕ → Call → Bool
taken_from what from e = takes what e.op (reply_of e.returned) && not (nat_lt e.number from)

not_ended : (from : ℕ) (o : Option Return) → ((r : Return) → o ≡ Some r → from ≤ r.at)
    → not (ended_before from o) ≡ true
not_ended from None f = refl
not_ended from (Some r) f = let late = f r refl in grind (arith, nat_tests)

begun : (number from : ℕ) → not (nat_lt number from) ≡ true → from ≤ number
begun number from e = grind (arith, nat_tests)

from_start : (what : Counted) (es : List Call) (c : Content) → RepliesAlong c es
    → tally (taken_from what 0) es ≤ there what c + tally (set_from what 0) es
from_start what es c h =
    let a = tally_le (taken_from what 0) (taken_by what) es
    (λ x i e. (and_parts (taken_by what x) (not (nat_lt x.number 0)) e).0) in
    let b = tally_le (set_by what) (set_from what 0) es
    (λ x i e. and_from (set_by what x) (not (ended_before 0 x.returned)) e
    (not_ended 0 x.returned (λ r q. omega arith))) in
    let d = conserved what es c h in
    omega arith

-- ---- contents that an object has once

abbrev single : Content → Bool
single (queue vs) = false
single (stack vs) = false
single (heap vs) = false
single (register x) = true
single (table m) = true
single (mutex b) = true
single (elements s) = false
single (objects.count c) = false
single (owner x) = false

single_empty : (k : Kind) → may_count_from k ≡ true → single (empty k) ≡ true
single_empty k e = search rules

single_next : (c : Content) (op : AnyOp) → IfSome (next c op) (λ p. single c ≡ true → single p.0 ≡ true)
single_next c op = search rules

once : (what : Counted) (c : Content) → single c ≡ true → there what c ≤ 1
once what c e = search rules

-- No call that returned before the first removal that counts is done after it.
from_later : (what : Counted) (from : ℕ) (es : List Call) (c : Content) → single c ≡ true
    → ((e : Call) → In e es → (r : Return) → e.returned ≡ Some r → e.number < r.at)
    → Pairs (λ x y. ReturnsBefore y x → ⊥) es → RepliesAlong c es
    → tally (taken_from what from) es ≤ 1 + tally (set_from what from) es
from_later what from [] c s ends in_time h = omega arith
from_later what from (e ∷ es) c s ends in_time h = elim (true_or_false (taken_from what from e)) [
  | inr miss ↦
      let after = subst (λ z. IfSome z (λ p. single c ≡ true → single p.0 ≡ true)) h.2 (single_next c e.op) s in
      let rest = from_later what from es h.0 after (λ x i. ends x (inr i)) in_time.1 h.4 in
      let here = ap one miss in
      omega arith
  | inl hit ↦
      let low = begun e.number from (and_parts (taken_by what e) (not (nat_lt e.number from)) hit).1 in
      let a = tally_le (taken_from what from) (taken_by what) (e ∷ es)
      (λ x i q. (and_parts (taken_by what x) (not (nat_lt x.number from)) q).0) in
      let b = tally_le (set_by what) (set_from what from) (e ∷ es)
      (λ x i q. and_from (set_by what x) (not (ended_before from x.returned)) q
      (not_ended from x.returned (λ r w. elim i [
        | inl own ↦ reach e.number r.at low (ends e (inl refl) r (ap (λ (z : Call). z.returned) (sym own) ∙ w))
        | inr j ↦ later e.number r.at low (λ l. in_time.0 x j (r, w, l))
      ]))) in
      let d = conserved what (e ∷ es) c h in
      let f = once what c s in
      omega arith
]
  where
    reach : (number at : ℕ) → from ≤ number → number < at → from ≤ at
    reach number at l m = omega arith

    later : (number at : ℕ) → from ≤ number → (at < number → ⊥) → from ≤ at
    later number at l f = grind arith

at_first : (what : Counted) (k : Kind) → there what (empty k) ≤ times_at_first what
at_first what k = grind (arith, map.get-empty {X = ℤ} int_cmp)

-- ---- the bound

-- along the order
along : (kind : Kind) (what : Counted) (from most : ℕ) (es : List Call) → most_before kind what from ≡ Some most
    → ((e : Call) → In e es → (r : Return) → e.returned ≡ Some r → e.number < r.at)
    → Pairs (λ x y. ReturnsBefore y x → ⊥) es
    → RepliesAlong (empty kind) es → tally (taken_from what from) es ≤ most + tally (set_from what from) es
along kind what from most es before ends in_time h = go (from == 0) refl before
  where
    later : (s : Bool) → may_count_from kind ≡ s → cond s (Some 1) None ≡ Some most
        → tally (taken_from what from) es ≤ most + tally (set_from what from) es
    later true q e =
        let a = from_later what from es (empty kind) (single_empty kind q) ends in_time h in
        let b : 1 ≡ most = same_Some 1 most e in
        omega arith
    later false q e = absurd (cc e)

    go : (b : Bool) → (from == 0) ≡ b
        → cond b (Some (times_at_first what)) (cond (may_count_from kind) (Some 1) None) ≡ Some most
        → tally (taken_from what from) es ≤ most + tally (set_from what from) es
    go true q e =
        let a = subst (λ (n : ℕ). tally (taken_from what n) es ≤ there what (empty kind) + tally (set_from what n) es)
        (sym (eqb-true from 0 q)) (from_start what es (empty kind) h) in
        let b = at_first what kind in
        let d = same_Some (times_at_first what) most e in
        omega arith
    go false q e = later (may_count_from kind) refl e

-- if the calls have a valid order, a content was taken away no more often than it was there before and was set
pub count_bounded : (kind : Kind) (calls : List Call) (what : Counted) (from most : ℕ) (order : List ℤ)
    → AllPairs (λ a b. a.number < b.number) calls
    → All (λ e. (r : Return) → e.returned ≡ Some r → e.number < r.at) calls → most_before kind what from ≡ Some most
    → IsValidOrder kind calls order
    → taken_since what from calls ≤ most + set_since what from calls
count_bounded kind calls what from most order rising ends before v =
    let more_sets = count_among (set_from what from) v.entries calls (entries_apart v) (λ e i p. in_calls v e i) in
    let more_takes = count_among (taken_from what from) calls v.entries (calls_apart calls rising)
    (λ e i p. in_entries v e i
    (returned e.op e.returned (and_parts (taken_by what e) (not (nat_lt e.number from)) p).0)) in
    let all_sets = count_tally (set_from what from) calls in
    let all_takes = count_tally (taken_from what from) calls in
    let here = along kind what from most v.entries before
    (λ e i. all_at (λ e. (r : Return) → e.returned ≡ Some r → e.number < r.at) calls ends e (in_calls v e i))
    (in_time_order v) v.replies in
    omega arith
  where
    returned : (op : AnyOp) (o : Option Return) → takes what op (reply_of o) ≡ true → IsSome o
    returned op None e = absurd (false_is_not_true (sym (none_taken what op) ∙ e))
    returned op (Some r) e = refl
