-- A value that definitely was ahead of what a removal found was taken out before it: the order is split at the removal,
-- and counts of its front are compared. A queue and a stack that gave a value have cases of their own (`InFront`).
use Rattle.std.proofs.Common.{◌≡◌, ◌≢◌, ◌⊎◌, inl, inr, ℕ, ℤ, ◌<◌, ◌≤◌, ◌==◌, nat_lt, min, Bool, true, false, not, ◌&&◌}
use Rattle.std.proofs.Common.{◌||◌, cond, List, [], ◌∷◌, ◌++◌, Option, Some, None, All, AllPairs, Contains, IfSome}
use Rattle.std.proofs.Common.{IsSome, count_by, refl, ap, sym, ◌∙◌, subst, arith}
use Rattle.std.proofs.lemmas.Bool.Decides.{nat_tests}
use Rattle.std.proofs.lemmas.Option.{same_Some}
use Rattle.std.specs.Ordering.{int_eq}
use Rattle.std.specs.List.{list_all}
use Rattle.model.specs.declared.Kind.{Kind}
use Rattle.model.specs.declared.Kind.TheVariants as variant
use Rattle.model.specs.declared.AnyOp.{AnyOp}
use Rattle.model.specs.declared.AnyOp.TheVariants.{Dequeue, Pop}
use Rattle.model.specs.declared.AnyReply.{AnyReply}
use Rattle.model.specs.declared.AnyReply.TheVariants.{Value, Swapped, NotSwapped, Flag}
use Rattle.model.specs.Objects.{queue, stack, kind_of, empty}
use Rattle.model.specs.Orders.{Call, Return, ReturnsBefore, RepliesAlong, IsValidOrder}
use Rattle.model.specs.Lists.{In}
use Rattle.model.proofs.Lists.{Pairs, in_append, in_left, in_split, in_from_contains, all_at}
use Rattle.model.proofs.Lists.{pairs_from_all, pairs_weaker}
use Rattle.cuts.specs.Parts.{ended_before}
use Rattle.cuts.specs.Kinds.Containers.{puts_in, is_removal, is_value_ahead}
use Rattle.cuts.specs.Ahead.{found_in, found_by, first_put, ahead_before, are_settled, is_put_ahead, may_precede}
use Rattle.cuts.proofs.Ordered.{calls_apart, in_calls, in_entries, numbers_apart, in_time_order}
use Rattle.cuts.proofs.Conserved.{tally, count_tally, tally_le, count_among}
use Rattle.std.proofs.lemmas.Bool.{and_from, and_parts}
use Rattle.cuts.proofs.Emptied.{pairs_front, pairs_to, pairs_beyond, put_by, may_by, spent}
use Rattle.cuts.proofs.InFront.{every, queue_spent, until_put, fresh_until, in_until, first_least, stack_spent}
use Rattle.cuts.proofs.InFront.{since_put, since_none, since_along, since_tally, in_since}
use Rattle.cuts.proofs.Booleans.{each_passes, false_is_not_true}

-- ---- the calls, and those in an order

ended : (before : ℕ) (o : Option Return) → ended_before before o ≡ true → (r : Return) × (o ≡ Some r) ×
    (r.at < before)
ended before o e = grind (arith, nat_tests)

-- what holds of a put that counts
put_parts : (keeps : ℤ → Bool) (from before : ℕ) (e : Call) → is_put_ahead keeps from before e ≡ true
    → (puts_in keeps e.op ≡ true) × (ended_before before e.returned ≡ true) × (from ≤ e.number)
put_parts keeps from before e p =
    let a = and_parts (puts_in keeps e.op) (ended_before before e.returned && not (nat_lt e.number from)) p in
    let b = and_parts (ended_before before e.returned) (not (nat_lt e.number from)) a.1 in
    (a.0, b.0, begun e.number from b.1)
  where
    begun : (number from : ℕ) → not (nat_lt number from) ≡ true → from ≤ number
    begun number from e = grind (arith, nat_tests)

-- what a removal shows
record Shown (op : AnyOp) (o : Option Return) (at : ℕ) (found : Option ℤ) : Type 0 where
  pub removal : is_removal op ≡ true
  pub reply : AnyReply
  pub returned : o ≡ Some (record { at = at; reply = reply })
  pub value : reply ≡ Value found

-- the parts of two findings that are equal are equal
pub pair_first : (at at' : ℕ) (found found' : Option ℤ)
    → ◌≡◌ {A = Option (ℕ × Option ℤ)} (Some (at, found)) (Some (at', found')) → (at ≡ at') × (found ≡ found')
pair_first at at' found found' same =
    let pair : ℕ × Option ℤ = (at, found) in
    let pair' : ℕ × Option ℤ = (at', found') in
    let pairs = same_Some pair pair' same in
    (ap (λ (z : ℕ × Option ℤ). z.0) pairs, ap (λ (z : ℕ × Option ℤ). z.1) pairs)

shown_by : (op : AnyOp) (o : Option Return) (at : ℕ) (found : Option ℤ) → found_by op o ≡ Some (at, found)
    → Shown op o at found
shown_by op None at found e = absurd (cc e)
shown_by op (Some r) at found e = go (is_removal op) refl e
  where
    in_reply : (reply : AnyReply) → r.reply ≡ reply → is_removal op ≡ true
        → found_in r.at reply ≡ Some (at, found) → Shown op (Some r) at found
    in_reply (Value x) s t q =
        let w = pair_first r.at at x found q in
        record {
          removal = t;
          reply = r.reply;
          returned = ap
              (λ (n : ℕ). Some (record { at = n; reply = r.reply })) w.0;
          value = s ∙ ap Value w.1;
        }
    in_reply (Swapped a c) s t q = absurd (cc q)
    in_reply NotSwapped s t q = absurd (cc q)
    in_reply (Flag b) s t q = absurd (cc q)

    go : (t : Bool) → is_removal op ≡ t → cond t (found_in r.at r.reply) None ≡ Some (at, found)
        → Shown op (Some r) at found
    go true t q = in_reply r.reply refl t q
    go false t q = absurd (cc q)

least_of : (a b : ℕ) → (min a b ≤ a) × (min a b ≤ b)
least_of a b = (omega arith, omega arith)

before_removal : (found : Option ℤ) (op : AnyOp) (number : ℕ) (calls : List Call)
    → ahead_before found op number calls ≤ number
before_removal found op number calls = grind arith

not_put : (keeps : ℤ → Bool) (op : AnyOp) → is_removal op ≡ true → puts_in keeps op ≡ true → ⊥
not_put keeps op t p = grind arith

-- ---- the order, split at the removal

-- the removal in an order, and what is before and after it
record Split (kind : Kind) (calls : List Call) (removal : Call) : Type 0 where
  pub earlier : List Call
  pub later : List Call
  pub replies : RepliesAlong (empty kind) (earlier ++ removal ∷ later)
  pub in_time : Pairs (λ x y. ReturnsBefore y x → ⊥) (earlier ++ removal ∷ later)
  pub apart : Pairs (λ x y. x.number ≢ y.number) (earlier ++ removal ∷ later)
  pub distinct : Pairs (λ x y. x ≢ y) calls
  pub known : (e : Call) → In e earlier → In e calls
  pub whole : (e : Call) → In e calls → IsSome e.returned → In e (earlier ++ removal ∷ later)

split_at : (kind : Kind) (calls : List Call) (order : List ℤ) (removal : Call)
    → AllPairs (λ a b. a.number < b.number) calls → Contains calls removal → IsSome removal.returned
    → IsValidOrder kind calls order → Split kind calls removal
split_at kind calls order removal rising stands ended valid =
    let split = in_split removal valid.entries (in_entries valid removal (in_from_contains calls removal stands)
    ended) in
    record {
      earlier = split.0;
      later = split.1;
      replies = subst (RepliesAlong (empty kind)) split.2 valid.replies;
      in_time = subst (Pairs (λ x y. ReturnsBefore y x → ⊥)) split.2 (in_time_order valid);
      apart = subst (Pairs (λ x y. x.number ≢ y.number)) split.2 (numbers_apart valid);
      distinct = calls_apart calls rising;
      known = λ e i. in_calls valid e (subst (In e) (sym split.2) (in_left e split.0 (removal ∷ split.1) i));
      whole = λ e i q. subst (In e) split.2 (in_entries valid e i q);
    }

-- a put that returned before the removal was invoked is before it
early : (kind : Kind) (calls : List Call) (removal : Call) (split : Split kind calls removal) (keeps : ℤ → Bool)
    (from before : ℕ) → is_removal removal.op ≡ true → before ≤ removal.number
    → (put : Call) → In put calls → is_put_ahead keeps from before put ≡ true → In put split.earlier
early kind calls removal split keeps from before removes invoked put among counts =
    let parts = put_parts keeps from before put counts in
    let back = ended before put.returned parts.1 in
    elim (in_append put split.earlier (removal ∷ split.later)
    (split.whole put among (subst IsSome (sym back.1) refl))) [
      | inl j ↦ j
      | inr j ↦ elim j [
        | inl w ↦ absurd (not_put keeps removal.op removes (ap (λ (z : Call). puts_in keeps z.op) (sym w) ∙ parts.0))
        | inr k ↦ absurd
            (pairs_beyond (λ x y. ReturnsBefore y x → ⊥) split.earlier removal split.later split.in_time put k
            (back.0, back.1, reach back.0.at before removal.number back.2 invoked))
      ]
    ]
  where
    reach : (a before number : ℕ) → a < before → before ≤ number → a < number
    reach a before number l m = omega arith

-- What may take one out before the removal is another call, and was not invoked after its response.
taken_early : (kind : Kind) (calls : List Call) (removal : Call) (split : Split kind calls removal) (keeps : ℤ → Bool)
    (response : Return) → removal.returned ≡ Some response
    → tally (may_by keeps) split.earlier ≤ count_by (may_precede keeps removal.number response.at) calls
taken_early kind calls removal split keeps response returned =
    let late : (e : Call) → In e split.earlier → may_by keeps e ≡ true → may_precede keeps removal.number response.at e
    ≡ true =
    λ e i p.
    let other = pairs_to (λ x y. x.number ≢ y.number) split.earlier removal split.later split.apart e i in
    let in_time = pairs_to (λ x y. ReturnsBefore y x → ⊥) split.earlier removal split.later split.in_time e i in
    and_from (may_by keeps e) (not (e.number == removal.number || nat_lt response.at e.number)) p
    (elsewhere e.number removal.number response.at other (λ w. in_time (response, returned, w))) in
    let front = pairs_weaker (λ x y. x.number ≢ y.number) (λ x y. x ≢ y) split.earlier
    (λ x y i j ne e. ne (ap (λ (z : Call). z.number) e))
    (pairs_front (λ x y. x.number ≢ y.number) split.earlier (removal ∷ split.later) split.apart) in
    let may = tally_le (may_by keeps) (may_precede keeps removal.number response.at) split.earlier late in
    let few = count_among (may_precede keeps removal.number response.at) split.earlier calls front
    (λ e i p. split.known e i) in
    let counted = count_tally (may_precede keeps removal.number response.at) calls in
    omega arith
  where
    elsewhere : (a number at : ℕ) → a ≢ number → (at < a → ⊥) → not (a == number || nat_lt at a) ≡ true
    elsewhere a number at f g = grind (arith, nat_tests)

-- ---- the general case, a queue and a stack

-- in general, what was ahead of the removal was taken out before it, since where it is done nothing ahead of it is left
plain_case : (kind : Kind) (calls : List Call) (removal : Call) (split : Split kind calls removal) (response : Return)
    (found : Option ℤ) (from before : ℕ) → is_removal removal.op ≡ true → removal.returned ≡ Some response
    → response.reply ≡ Value found
    → (removal.op ≡ Dequeue → found ≡ None) → (removal.op ≡ Pop → found ≡ None) → before ≤ removal.number
    → count_by (is_put_ahead (is_value_ahead found removal.op) from before) calls ≤ tally
    (may_by (is_value_ahead found removal.op)) split.earlier
plain_case kind calls removal split response found from before removes returned gave dequeued popped invoked =
    let keeps = is_value_ahead found removal.op in
    let more = count_among (is_put_ahead keeps from before) calls split.earlier split.distinct
    (early kind calls removal split keeps from before removes invoked) in
    let puts = tally_le (is_put_ahead keeps from before) (put_by keeps) split.earlier
    (λ e i p. (put_parts keeps from before e p).0) in
    let here = spent removal response found split.earlier split.later kind removes returned gave dequeued popped
    split.replies in
    let counted = count_tally (is_put_ahead keeps from before) calls in
    omega arith

-- what was put into a queue before the value that it gave was taken out before that
queue_case : (kind : Kind) (calls : List Call) (removal : Call) (split : Split kind calls removal) (response : Return)
    (found : ℤ) (from before : ℕ) → kind ≡ variant.Queue → removal.op ≡ Dequeue → removal.returned ≡ Some response
    → response.reply ≡ Value (Some found)
    → before ≤ removal.number → ((p : Call) → In p calls → puts_in (int_eq found) p.op ≡ true → before ≤ p.number)
    → All (λ e. (r : Return) → e.returned ≡ Some r → e.number < r.at) calls
    → count_by (is_put_ahead every from before) calls ≤ tally (may_by every) split.earlier
queue_case kind calls removal split response found from before is_queue dequeue returned gave invoked first ends =
    let removes : is_removal removal.op ≡ true = ap is_removal dequeue in
    let gives : (reply : AnyReply) → IfSome removal.returned (λ r. r.reply ≡ reply) → reply ≡ Value (Some found) =
    λ reply h. sym (subst (λ z. IfSome z (λ r. r.reply ≡ reply)) returned h) ∙ gave in
    let replies : RepliesAlong (queue []) (split.earlier ++ removal ∷ split.later) = subst
    (λ (k : Kind). RepliesAlong (empty k) (split.earlier ++ removal ∷ split.later)) is_queue split.replies in
    let here = queue_spent found split.earlier removal split.later [] dequeue gives replies in
    let in_time = pairs_front (λ x y. ReturnsBefore y x → ⊥) split.earlier (removal ∷ split.later) split.in_time in
    let ahead : (e : Call) → In e calls → is_put_ahead every from before e ≡ true
    → In e (until_put found split.earlier) =
    λ e i p.
    let q = put_parts every from before e p in
    let t = ended before e.returned q.1 in
    in_until found split.earlier e (early kind calls removal split every from before removes invoked e i p) in_time
    (λ z j w. (t.0, t.1, reach t.0.at before z.number t.2 (first z (split.known z j) w)))
    (λ w. turned e.number w.0.at
    (all_at (λ e. (r : Return) → e.returned ≡ Some r → e.number < r.at) calls ends e i w.0 w.1) w.2) in
    let more = count_among (is_put_ahead every from before) calls (until_put found split.earlier)
    split.distinct ahead in
    let puts = tally_le (is_put_ahead every from before) (put_by every) (until_put found split.earlier)
    (λ e i p. (put_parts every from before e p).0) in
    let counted = count_tally (is_put_ahead every from before) calls in
    let fresh = fresh_until found split.earlier in
    omega arith
  where
    reach : (a before number : ℕ) → a < before → before ≤ number → a < number
    reach a before number l m = omega arith

    turned : (a b : ℕ) → a < b → b < a → ⊥
    turned a b l m = omega arith

-- what was put on a stack after the value that it gave was taken off before that
stack_case : (kind : Kind) (calls : List Call) (removal : Call) (split : Split kind calls removal) (response : Return)
    (found : ℤ) (from before : ℕ) → kind ≡ variant.Stack → removal.op ≡ Pop → removal.returned ≡ Some response
    → response.reply ≡ Value (Some found)
    → before ≤ removal.number → list_all (λ e. not (puts_in (int_eq found) e.op) || ended_before from e.returned)
    calls ≡ true → All (λ e. (r : Return) → e.returned ≡ Some r → e.number < r.at) calls
    → count_by (is_put_ahead every from before) calls ≤ tally (may_by every) split.earlier
stack_case kind calls removal split response found from before is_stack pop returned gave invoked settled ends =
    let removes : is_removal removal.op ≡ true = ap is_removal pop in
    let gives : (reply : AnyReply) → IfSome removal.returned (λ r. r.reply ≡ reply) → reply ≡ Value (Some found) =
    λ reply h. sym (subst (λ z. IfSome z (λ r. r.reply ≡ reply)) returned h) ∙ gave in
    let replies : RepliesAlong (stack []) (split.earlier ++ removal ∷ split.later) = subst
    (λ (k : Kind). RepliesAlong (empty k) (split.earlier ++ removal ∷ split.later)) is_stack split.replies in
    let since = since_along found split.earlier removal split.later [] replies in
    let here = stack_spent found (since_put found split.earlier) removal split.later since.0 pop gives
    (since_none found split.earlier) since.1 in
    let in_time = pairs_front (λ x y. ReturnsBefore y x → ⊥) split.earlier (removal ∷ split.later) split.in_time in
    let above : (e : Call) → In e calls → is_put_ahead every from before e ≡ true
    → In e (since_put found split.earlier) =
    λ e i p.
    let q = put_parts every from before e p in
    in_since found split.earlier e (early kind calls removal split every from before removes invoked e i p) in_time
    (λ z j w.
    let t = ended from z.returned
    (either (puts_in (int_eq found) z.op) (ended_before from z.returned) w
    (each_passes (λ (e : Call). not (puts_in (int_eq found) e.op) || ended_before from e.returned) calls settled
    z (split.known z j))) in
    (t.0, t.1, reach t.0.at from e.number t.2 q.2))
    (λ w. turned e.number w.0.at
    (all_at (λ e. (r : Return) → e.returned ≡ Some r → e.number < r.at) calls ends e i w.0 w.1) w.2) in
    let more = count_among (is_put_ahead every from before) calls (since_put found split.earlier)
    split.distinct above in
    let puts = tally_le (is_put_ahead every from before) (put_by every) (since_put found split.earlier)
    (λ e i p. (put_parts every from before e p).0) in
    let fewer = since_tally (may_by every) found split.earlier in
    let counted = count_tally (is_put_ahead every from before) calls in
    omega arith
  where
    either : (a c : Bool) → a ≡ true → (not a || c) ≡ true → c ≡ true
    either true c e h = h
    either false c e h = absurd (false_is_not_true e)

    reach : (a before number : ℕ) → a < before → before ≤ number → a < number
    reach a before number l m = omega arith

    turned : (a b : ℕ) → a < b → b < a → ⊥
    turned a b l m = omega arith

-- ---- all cases

-- Either the general case, or a queue's or a stack's removal of a value.
removal_cases : (o : Option ℤ) (op : AnyOp) → ((op ≡ Dequeue → o ≡ None) × (op ≡ Pop → o ≡ None)) ⊎
    (((b : ℤ) × (o ≡ Some b) × (op ≡ Dequeue)) ⊎ ((b : ℤ) × (o ≡ Some b) × (op ≡ Pop)))
removal_cases None op = inl (λ e. refl, λ e. refl)
removal_cases (Some b) Dequeue = inr (inl (b, refl, refl))
removal_cases (Some b) Pop = inr (inr (b, refl, refl))
removal_cases (Some b) op = inl (λ e. absurd (cc e), λ e. absurd (cc e))

abbrev Bounded : (kind : Kind) (calls : List Call) (removal : Call) (split : Split kind calls removal) (from : ℕ)
    (op : AnyOp) (found : Option ℤ) → Type 0
Bounded kind calls removal split from op found = count_by
    (is_put_ahead (is_value_ahead found op) from (ahead_before found op removal.number calls)) calls ≤ tally
    (may_by (is_value_ahead found op)) split.earlier

-- a bound that holds of the operation and of the value that was found holds of the removal
moved : (kind : Kind) (calls : List Call) (removal : Call) (split : Split kind calls removal) (from : ℕ)
    (op own : AnyOp) (found : Option ℤ) (value : ℤ) → op ≡ own → found ≡ Some value
    → Bounded kind calls removal split from own (Some value) → Bounded kind calls removal split from op found
moved kind calls removal split from op own found value same is bounded =
    subst (λ (found : Option ℤ). Bounded kind calls removal split from op found) (sym is)
    (subst (λ (op : AnyOp). Bounded kind calls removal split from op (Some value)) (sym same) bounded)

-- What definitely was ahead of what a removal found was taken out before it.
pub ahead_bounded : (kind : Kind) (calls : List Call) (removal : Call) (at from : ℕ) (found : Option ℤ)
    (order : List ℤ) → All (λ e. kind_of e.op ≡ kind) calls → AllPairs (λ a b. a.number < b.number) calls
    → All (λ e. (r : Return) → e.returned ≡ Some r → e.number < r.at) calls → Contains calls removal
    → found_by removal.op removal.returned ≡ Some (at, found) → are_settled found removal.op from calls ≡ true
    → IsValidOrder kind calls order
    → count_by (is_put_ahead (is_value_ahead found removal.op) from
    (ahead_before found removal.op removal.number calls))
    calls ≤ count_by (may_precede (is_value_ahead found removal.op) removal.number at) calls
ahead_bounded kind calls removal at from found order of_kind rising ends stands told settled valid =
    let shows = shown_by removal.op removal.returned at found told in
    let response : Return = record { at = at; reply = shows.reply } in
    let split = split_at kind calls order removal rising stands (subst IsSome (sym shows.returned) refl) valid in
    let of_op : (op : AnyOp) → removal.op ≡ op → kind ≡ kind_of op = λ op e. sym
    (all_at (λ e. kind_of e.op ≡ kind) calls of_kind removal (in_from_contains calls removal stands)) ∙ ap kind_of e in
    let here : Bounded kind calls removal split from removal.op found =
    elim (removal_cases found removal.op) [
      | inl d ↦ plain_case kind calls removal split response found from
          (ahead_before found removal.op removal.number calls) shows.removal
          shows.returned shows.value d.0 d.1 (before_removal found removal.op removal.number calls)
      | inr c ↦ elim c [
        | inl c ↦
            let q = queue_case kind calls removal split response c.0 from (min removal.number (first_put c.0 calls))
            (of_op Dequeue c.2) c.2 shows.returned
            (shows.value ∙ ap Value c.1) (least_of removal.number (first_put c.0 calls)).0
            (λ p i e.
            let below = (least_of removal.number (first_put c.0 calls)).1 in
            let first = first_least c.0 calls (pairs_from_all (λ a b. a.number < b.number) calls rising) p i e in
            omega arith) ends in
            moved kind calls removal split from removal.op Dequeue found c.0 c.2 c.1 q
        | inr c ↦
            let all : are_settled (Some c.0) Pop from calls ≡ true = subst
            (λ (o : Option ℤ). are_settled o Pop from calls ≡ true) c.1
            (subst (λ (op : AnyOp). are_settled found op from calls ≡ true) c.2 settled) in
            let q = stack_case kind calls removal split response c.0 from removal.number (of_op Pop c.2)
            c.2 shows.returned
            (shows.value ∙ ap Value c.1) (omega arith) all ends in
            moved kind calls removal split from removal.op Pop found c.0 c.2 c.1 q
      ]
    ] in
    let taken = taken_early kind calls removal split (is_value_ahead found removal.op) response shows.returned in
    omega arith
