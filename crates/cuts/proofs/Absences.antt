-- Where a value definitely is not in an object before some number, an order is valid without what was done with it
-- before: along the order the part contains all other values, and the balance of this one holds (`Conserved`).
use Rattle.std.proofs.Common.{rules, ◌≡◌, ◌≢◌, ◌⊎◌, inl, inr, ℕ, ℤ, pos, ◌<◌, ◌≤◌, ◌+◌, nat_lt, Bool, true, false, not}
use Rattle.std.proofs.Common.{◌&&◌, ◌||◌, cond, List, [], ◌∷◌, ◌++◌, Option, Some, None, AllPairs, Contains, IfSome}
use Rattle.std.proofs.Common.{IsSome, length, map, filter, refl, ap, sym, ◌∙◌, subst, arith}
use Rattle.std.proofs.lemmas.Bool.Decides.{nat_tests}
use Rattle.std.specs.Ordering.{int_eq}
use Rattle.model.specs.declared.Kind.{Kind}
use Rattle.model.specs.declared.AnyOp.{AnyOp}
use Rattle.model.specs.declared.AnyOp.TheVariants.{Enqueue, Dequeue, Push, Pop, Insert, ExtractMin}
use Rattle.model.specs.declared.AnyReply.{AnyReply}
use Rattle.model.specs.Objects.{Content, queue, stack, heap, empty, with_value, next}
use Rattle.model.specs.Orders.{Call, Return, ReturnsBefore, RepliesAlong, IsValidOrder}
use Rattle.model.specs.Lists.{In}
use Rattle.model.proofs.Lists.{Pairs, in_filter, in_filter_passes, in_filter_from, filter_all, pairs_filter}
use Rattle.model.proofs.Lists.{contains_from_in, all_from_in, all_from_pairs, pairs_map}
use Rattle.cuts.specs.Parts.{reply_of, takes_out, ended_before}
use Rattle.cuts.specs.Kinds.Containers.{puts_in}
use Rattle.cuts.specs.Absent.{is_put_before, is_taken_before, IsAbsent, calls_without}
use Rattle.cuts.proofs.Ordered.{calls_apart, in_calls, in_entries, named_apart, entries_apart, in_time_order}
use Rattle.cuts.proofs.Conserved.{one, tally, count_tally, kept_size, size_empty, turn, Turn, count_among}
use Rattle.cuts.proofs.Contents.{IsRising, filter_in, filter_out, after_in, after_out, with_value_in}
use Rattle.cuts.proofs.Contents.{with_value_out, rising_with_value}
use Rattle.std.proofs.lemmas.Bool.{or_parts, and_parts}
use Rattle.cuts.proofs.Booleans.{some_at, false_is_not_true, true_or_false}

-- ---- contents

abbrev others : ℤ → ℤ → Bool
others v w = not (int_eq v w)

-- what the part contains: all values except v, or what the whole contains
abbrev IsOthers : ℤ → Content → Content → Type 0
IsOthers v (queue vs) d = d ≡ queue (filter (others v) vs)
IsOthers v (stack vs) d = d ≡ stack (filter (others v) vs)
IsOthers v (heap vs) d = (d ≡ heap (filter (others v) vs)) × IsRising vs
IsOthers v c d = d ≡ c

empty_others : (v : ℤ) (k : Kind) → IsOthers v (empty k) (empty k)
empty_others v k = search rules

none_of : (v : ℤ) (vs : List ℤ) → length (filter (int_eq v) vs) ≡ 0 → filter (others v) vs ≡ vs
none_of v [] z = refl
none_of v (w ∷ ws) z = let rest = none_of v ws in grind arith

same_content : (v : ℤ) (c d : Content) → IsOthers v c d → kept_size (int_eq v) c ≡ 0 → d ≡ c
same_content v (queue vs) d s z = s ∙ ap (λ us. queue us) (none_of v vs z)
same_content v (stack vs) d s z = s ∙ ap (λ us. stack us) (none_of v vs z)
same_content v (heap vs) d s z = s.0 ∙ ap (λ us. heap us) (none_of v vs z)
same_content v c d s z = s

-- ---- a step that neither puts in the value nor takes it out

abbrev IsApart : ℤ → AnyOp → AnyReply → Type 0
IsApart v op reply = (puts_in (int_eq v) op ≡ false) × (takes_out (int_eq v) op (Some reply) ≡ false)

abbrev Goes : ℤ → AnyOp → Content → Content → AnyReply → Type 0
Goes v op d after reply = (later : Content) × (next d op ≡ Some (later, reply)) × IsOthers v after later

queue_goes : (v : ℤ) (vs : List ℤ) (op : AnyOp)
    → IfSome (next (queue vs) op) (λ p. IsApart v op p.1 → Goes v op (queue (filter (others v) vs)) p.0 p.1)
queue_goes v vs (Enqueue w) =
    λ a. (queue (filter (others v) vs ++ w ∷ []), refl, ap (λ us. queue us) (after_in (others v) w vs (ap not a.0)))
queue_goes v [] Dequeue = λ a. (queue [], refl, refl)
queue_goes v (w ∷ vs) Dequeue =
    λ a. (
      queue (filter (others v) vs),
      ap (λ us. next (queue us) Dequeue) (filter_in (others v) w vs (ap not a.1)),
      refl,
    )
queue_goes v vs op = tt

stack_goes : (v : ℤ) (vs : List ℤ) (op : AnyOp)
    → IfSome (next (stack vs) op) (λ p. IsApart v op p.1 → Goes v op (stack (filter (others v) vs)) p.0 p.1)
stack_goes v vs (Push w) =
    λ a. (stack (w ∷ filter (others v) vs), refl, ap (λ us. stack us) (sym (filter_in (others v) w vs (ap not a.0))))
stack_goes v [] Pop = λ a. (stack [], refl, refl)
stack_goes v (w ∷ vs) Pop =
    λ a. (stack (filter (others v) vs), ap (λ us. next (stack us) Pop) (filter_in (others v) w vs (ap not a.1)), refl)
stack_goes v vs op = tt

heap_goes : (v : ℤ) (vs : List ℤ) (op : AnyOp) → IsRising vs
    → IfSome (next (heap vs) op) (λ p. IsApart v op p.1 → Goes v op (heap (filter (others v) vs)) p.0 p.1)
heap_goes v vs (Insert w) r = λ a. (
  heap (with_value w (filter (others v) vs)),
  refl,
  (ap (λ us. heap us) (with_value_in (others v) w vs r (ap not a.0)), rising_with_value w vs r),
)
heap_goes v [] ExtractMin r = λ a. (heap [], refl, (refl, tt))
heap_goes v (w ∷ vs) ExtractMin r =
    λ a. (
      heap (filter (others v) vs),
      ap (λ us. next (heap us) ExtractMin) (filter_in (others v) w vs (ap not a.1)),
      (refl, r.1),
    )
heap_goes v vs op r = tt

-- a content that is no list of values goes on as it is
abbrev is_list : Content → Bool
is_list (queue vs) = true
is_list (stack vs) = true
is_list (heap vs) = true
is_list c = false

stays_same : (v : ℤ) (c : Content) (op : AnyOp) → is_list c ≡ false → (p : Content × AnyReply) → next c op ≡ Some p
    → IsOthers v p.0 p.0
stays_same v c op e p does = subst (λ z. IfSome z (λ p. IsOthers v p.0 p.0)) does (own_others v c op e)
  where
    own_others : (v : ℤ) (c : Content) (op : AnyOp) → is_list c ≡ false → IfSome (next c op) (λ p. IsOthers v p.0 p.0)
    own_others v c op e = search rules

abbrev GoesAt : ℤ → AnyOp → Content → Content → Type 0
GoesAt v op c d = IfSome (next c op) (λ p. IsApart v op p.1 → Goes v op d p.0 p.1)

goes : (v : ℤ) (c d : Content) (op : AnyOp) → IsOthers v c d → GoesAt v op c d
goes v (queue vs) d op s = subst (GoesAt v op (queue vs)) (sym s) (queue_goes v vs op)
goes v (stack vs) d op s = subst (GoesAt v op (stack vs)) (sym s) (stack_goes v vs op)
goes v (heap vs) d op s = subst (GoesAt v op (heap vs)) (sym s.0) (heap_goes v vs op s.1)
goes v c d op s = some_at (λ p. IsApart v op p.1 → Goes v op d p.0 p.1) (next c op)
    (λ p does a. (p.0, ap (λ (z : Content). next z op) s ∙ does, stays_same v c op refl p does))

-- ---- a step that puts in the value, or takes it out, and that the part leaves out

abbrev Touches : ℤ → AnyOp → AnyReply → Type 0
Touches v op reply = (puts_in (int_eq v) op ≡ true) ⊎ (takes_out (int_eq v) op (Some reply) ≡ true)

abbrev SkipsAt : ℤ → AnyOp → Content → Content → Type 0
SkipsAt v op c d = IfSome (next c op) (λ p. Touches v op p.1 → IsOthers v p.0 d)

skips : (v : ℤ) (c d : Content) (op : AnyOp) → IsOthers v c d → SkipsAt v op c d
skips v c d op s = grind (arith, after_out, filter_out, with_value_out, rising_with_value)

-- ---- how often the value is put in and taken out early

no_put_takes : (keeps : ℤ → Bool) (op : AnyOp) (r : Option AnyReply) → puts_in keeps op ≡ true
    → takes_out keeps op r ≡ false
no_put_takes keeps op r e = search rules

and_le : (a b : Bool) → one (a && b) ≤ one a
and_le a b = search rules

or_true : (a b : Bool) → (a || b) ≡ true → (a ≡ true) ⊎ (b ≡ true)
or_true a b e = search rules

early_put : (v : ℤ) (number : ℕ) (e : Call) → is_put_before v number e ≡ true
    → (puts_in (int_eq v) e.op ≡ true) × (nat_lt e.number number ≡ true)
early_put v number e h = and_parts (puts_in (int_eq v) e.op) (nat_lt e.number number) h

early_removal : (v : ℤ) (number : ℕ) (e : Call) → is_taken_before v number e ≡ true
    → (takes_out (int_eq v) e.op (reply_of e.returned) ≡ true) × (ended_before number e.returned ≡ true)
early_removal v number e h =
    and_parts (takes_out (int_eq v) e.op (reply_of e.returned)) (ended_before number e.returned) h

-- a call that had returned before the number returned before a call that was invoked at it or later
returned_first : (v : ℤ) (number : ℕ) (y e : Call) → is_taken_before v number y ≡ true
    → nat_lt e.number number ≡ false → ReturnsBefore y e
returned_first v number y e t n = go y.returned refl (early_removal v number y t).1
  where
    less : (at later : ℕ) → nat_lt at number ≡ true → nat_lt later number ≡ false → at < later
    less at later a b = grind (arith, nat_tests)

    go : (o : Option Return) → y.returned ≡ o → ended_before number o ≡ true → ReturnsBefore y e
    go None q t = absurd (false_is_not_true t)
    go (Some r) q t = (r, q, less r.at e.number t n)

tally_none : {X : Type 0} (p : X → Bool) (xs : List X) → ((x : X) → In x xs → p x ≡ false) → tally p xs ≡ 0
tally_none p [] f = refl
tally_none p (x ∷ xs) f =
    let here = f x (inl refl) in
    let rest = tally_none p xs (λ y i. f y (inr i)) in
    grind arith

none_tallied : {X : Type 0} (p : X → Bool) (xs : List X) → tally p xs ≡ 0 → (x : X) → In x xs → p x ≡ false
none_tallied p [] z x i = absurd i
none_tallied p (y ∷ ys) z x i = grind (arith, none_tallied p ys)

-- after a late put the value is not taken early
none_after : (v : ℤ) (number : ℕ) (e : Call) (es : List Call) → nat_lt e.number number ≡ false
    → ((y : Call) → In y es → ReturnsBefore y e → ⊥)
    → tally (is_taken_before v number) es ≡ 0
none_after v number e es n f =
    tally_none (is_taken_before v number) es (λ y i. elim (true_or_false (is_taken_before v number y)) [
      | inl t ↦ absurd (f y i (returned_first v number y e t n))
      | inr no_removal ↦ no_removal
    ])

put_cases : (v : ℤ) (number : ℕ) (e : Call)
    → (one (puts_in (int_eq v) e.op) ≡ one (is_put_before v number e))
    ⊎ ((puts_in (int_eq v) e.op ≡ true) × (nat_lt e.number number ≡ false))
put_cases v number e = grind arith

-- what is taken early is there, or is put in early
owed : (v : ℤ) (number : ℕ) (es : List Call) (c : Content) → RepliesAlong c es → Pairs (λ x y. ReturnsBefore y x → ⊥) es
    → tally (is_taken_before v number) es ≤ kept_size (int_eq v) c + tally (is_put_before v number) es
owed v number [] c h p = omega arith
owed v number (e ∷ es) c h p =
    let t = turn (int_eq v) e c h.0 h.1 h.2 h.3 in
    let rest = owed v number es h.0 h.4 p.1 in
    let fewer = and_le (takes_out (int_eq v) e.op (reply_of e.returned)) (ended_before number e.returned) in
    elim (put_cases v number e) [
      | inl early ↦ omega arith
      | inr late ↦
          let none_here = ap one (no_put_takes (int_eq v) e.op (reply_of e.returned) late.0) in
          let none_later = none_after v number e es late.1 p.0 in
          omega arith
    ]

-- ---- along the order

abbrev stays : ℤ → ℕ → Call → Bool
stays v number e = not (is_put_before v number e || is_taken_before v number e)

filter_here : {X : Type 0} (p : X → Bool) (x : X) (xs : List X) → p x ≡ true → filter p (x ∷ xs) ≡ x ∷ filter p xs
filter_here p x xs e = grind arith

filter_away : {X : Type 0} (p : X → Bool) (x : X) (xs : List X) → p x ≡ false → filter p (x ∷ xs) ≡ filter p xs
filter_away p x xs e = ap (λ b. cond b (x ∷ filter p xs) (filter p xs)) e

-- no more is there and is put in early than is taken early
abbrev IsSpent : ℤ → ℕ → Content → List Call → Type 0
IsSpent v number c es = kept_size (int_eq v) c + tally (is_put_before v number) es ≤ tally (is_taken_before v number) es

-- where nothing is taken early, the value is not there, and all stays
all_stay : (value : ℤ) (number : ℕ) (calls : List Call) (whole part : Content) → IsOthers value whole part
    → RepliesAlong whole calls → IsSpent value number whole calls
    → tally (is_taken_before value number) calls ≡ 0 → RepliesAlong part (filter (stays value number) calls)
all_stay value number calls whole part others along spent none =
    let put : tally (is_put_before value number) calls ≡ 0 = omega arith in
    let same = same_content value whole part others (omega arith) in
    let all = filter_all (stays value number) calls
    (λ e i.
    let no_put = none_tallied (is_put_before value number) calls put e i in
    let no_removal = none_tallied (is_taken_before value number) calls none e i in
    grind arith) in
    subst (λ (z : Content). RepliesAlong z (filter (stays value number) calls)) (sym same)
    (subst (RepliesAlong whole) (sym all) along)

-- how an early call changes what is there
early_spent : (value : ℤ) (number : ℕ) (call : Call) (later : List Call) (content after : Content) (reply : AnyReply)
    → Turn (int_eq value) call content after reply
    → (is_put_before value number call || is_taken_before value number call) ≡ true
    → IsSpent value number content (call ∷ later) → IsSpent value number after later
early_spent value number call later content after reply turned early spent =
    elim (or_true (is_put_before value number call) (is_taken_before value number call) early) [
      | inl put ↦
          let puts = ap one (early_put value number call put).0 in
          let here = ap one put in
          let no_take = ap one (no_put_takes (int_eq value) call.op (Some reply) (early_put value number call put).0) in
          let none_here = and_le (takes_out (int_eq value) call.op (reply_of call.returned))
          (ended_before number call.returned) in
          let none_told = ap one (no_put_takes (int_eq value) call.op (reply_of call.returned)
          (early_put value number call put).0) in
          omega arith
      | inr taken ↦
          let told = ap one (early_removal value number call taken).0 in
          let here = ap one taken in
          let fewer = and_le (puts_in (int_eq value) call.op) (nat_lt call.number number) in
          let none_put = no_put call.op (reply_of call.returned) (early_removal value number call taken).0 in
          omega arith
    ]
  where
    no_put : (op : AnyOp) (r : Option AnyReply) → takes_out (int_eq value) op r ≡ true
        → one (puts_in (int_eq value) op) ≡ 0
    no_put op r k = let never = no_put_takes (int_eq value) op r in grind arith

latter : (a b : Bool) → a ≡ true → (a && b) ≡ false → b ≡ false
latter a b p e = grind arith

-- The whole does a call, and the part contains all values except this one.
module _ (value : ℤ) (number : ℕ) (call : Call) (later : List Call) (whole part after : Content) (reply : AnyReply)
    (shadow : IsOthers value whole part) (does : next whole call.op ≡ Some (after, reply))
    (agrees : IfSome call.returned (λ r. r.reply ≡ reply)) (replies : RepliesAlong after later)
    (in_time : Pairs (λ x y. ReturnsBefore y x → ⊥) (call ∷ later))
    (spent : IsSpent value number whole (call ∷ later)) where
  -- the calls of the part that come after this one
  abbrev Rest : Type 0
  Rest = (d : Content) → IsOthers value after d → IsSpent value number after later
      → RepliesAlong d (filter (stays value number) later)

  abbrev is_early : Bool
  is_early = is_put_before value number call || is_taken_before value number call

  turned : Turn (int_eq value) call whole after reply
  turned = turn (int_eq value) call whole after reply does agrees

  touched : is_early ≡ true → Touches value call.op reply
  touched early = elim (or_true (is_put_before value number call) (is_taken_before value number call) early) [
    | inl put ↦ inl (early_put value number call put).0
    | inr taken ↦ inr (more (takes_out (int_eq value) call.op (reply_of call.returned))
        (takes_out (int_eq value) call.op (Some reply)) (early_removal value number call taken).0 turned.fewer)
  ]
    where
      more : (a b : Bool) → a ≡ true → one a ≤ one b → b ≡ true
      more a b q l = grind arith

  -- the part leaves out an early call on the value
  leave_early : Rest → is_early ≡ true → RepliesAlong part (filter (stays value number) (call ∷ later))
  leave_early rest early =
      let skipped = subst (λ z. IfSome z (λ p. Touches value call.op p.1 → IsOthers value p.0 part)) does
      (skips value whole part call.op shadow) (touched early) in
      subst (RepliesAlong part) (sym (filter_away (stays value number) call later (ap not early)))
      (rest part skipped (early_spent value number call later whole after reply turned early spent))

  -- from a late put on the value is not taken early, and all stays
  late_put : is_taken_before value number call ≡ false → puts_in (int_eq value) call.op ≡ true
      → nat_lt call.number number ≡ false → RepliesAlong part (filter (stays value number) (call ∷ later))
  late_put not_taken put is_late =
      let none_here = ap one not_taken in
      let none_later = none_after value number call later is_late in_time.0 in
      all_stay value number (call ∷ later) whole part shadow (after, reply, does, agrees, replies) spent (omega arith)

  -- no late call takes the value out: all that is there is taken early
  not_taken_late : is_taken_before value number call ≡ false → puts_in (int_eq value) call.op ≡ false
      → takes_out (int_eq value) call.op (Some reply) ≡ true → ⊥
  not_taken_late not_taken not_put taken =
      let balance = turned in
      let some_took = ap one taken in
      let none_put = ap one not_put in
      let none_here = ap one not_taken in
      let owing = owed value number later after replies in_time.1 in
      absurd (omega arith)

  -- the part does a call that is not on the value
  keep_apart : Rest → is_early ≡ false → puts_in (int_eq value) call.op ≡ false
      → takes_out (int_eq value) call.op (Some reply) ≡ false
      → RepliesAlong part (filter (stays value number) (call ∷ later))
  keep_apart rest late not_put not_taken =
      let goes_on = subst (λ z. IfSome z (λ p. IsApart value call.op p.1 → Goes value call.op part p.0 p.1)) does
      (goes value whole part call.op shadow) (not_put, not_taken) in
      let balance = turned in
      let none_took = ap one not_taken in
      let none_put = ap one not_put in
      let none_here =
      ap one (or_parts (is_put_before value number call) (is_taken_before value number call) late).1 in
      let still : IsSpent value number after later = omega arith in
      subst (RepliesAlong part) (sym (filter_here (stays value number) call later (ap not late)))
      (goes_on.0, reply, goes_on.1, agrees, rest goes_on.0 goes_on.2 still)

  go_on : Rest → RepliesAlong part (filter (stays value number) (call ∷ later))
  go_on rest = elim (true_or_false is_early) [
    | inl early ↦ leave_early rest early
    | inr late ↦
        let no_early = or_parts (is_put_before value number call) (is_taken_before value number call) late in
        elim (true_or_false (puts_in (int_eq value) call.op)) [
          | inl put ↦ late_put no_early.1 put
              (latter (puts_in (int_eq value) call.op) (nat_lt call.number number) put no_early.0)
          | inr not_put ↦ elim (true_or_false (takes_out (int_eq value) call.op (Some reply))) [
            | inl taken ↦ absurd (not_taken_late no_early.1 not_put taken)
            | inr not_taken ↦ keep_apart rest late not_put not_taken
          ]
        ]
  ]

-- without the calls on the value the others have their replies, from what is there besides it
without_early : (value : ℤ) (number : ℕ) (calls : List Call) (whole part : Content) → IsOthers value whole part
    → RepliesAlong whole calls → Pairs (λ x y. ReturnsBefore y x → ⊥) calls
    → IsSpent value number whole calls → RepliesAlong part (filter (stays value number) calls)
without_early value number [] whole part shadow along in_time spent = tt
without_early value number (call ∷ calls) whole part shadow along in_time spent =
    go_on value number call calls whole part along.0 along.1 shadow along.2 along.3 along.4 in_time spent
    (λ d still left. without_early value number calls along.0 d still along.4 in_time.1 left)

-- ---- the law

-- if the calls have a valid order, the calls without those of an absent value have one
pub without_valid : (kind : Kind) (calls : List Call) (v : ℤ) (number : ℕ) (order : List ℤ)
    → AllPairs (λ a b. a.number < b.number) calls
    → IsAbsent v number calls → IsValidOrder kind calls order
    → (part : List ℤ) × IsValidOrder kind (calls_without v number calls) part
without_valid kind calls v number order rising absent valid =
    let named : Call → ℤ = λ e. pos e.number in
    let entries = valid.entries in
    let p : Call → Bool = stays v number in
    let puts = count_among (is_put_before v number) entries calls (entries_apart valid)
    (λ e i q. in_calls valid e i) in
    let takes = count_among (is_taken_before v number) calls entries (calls_apart calls rising)
    (λ e i q. in_entries valid e i (returned e.returned (early_removal v number e q).1)) in
    let none_at_first = size_empty (int_eq v) kind in
    let all_puts = count_tally (is_put_before v number) calls in
    let all_taken = count_tally (is_taken_before v number) calls in
    let spent : IsSpent v number (empty kind) entries = omega arith in (
      map named (filter p entries),
      record {
        entries = filter p entries;
        numbers = refl;
        known = all_from_in (Contains (filter p calls)) (filter p entries) (λ e i.
            contains_from_in (filter p calls) e
            (in_filter_from p e calls (in_calls valid e (in_filter p e entries i)) (in_filter_passes p e entries i)));
        once = all_from_pairs (λ x y. x ≢ y) (map named (filter p entries))
            (pairs_map (λ x y. x ≢ y) named (filter p entries)
            (pairs_filter (λ x y. named x ≢ named y) p entries (named_apart valid)));
        whole = all_from_in (λ e. IsSome e.returned → Contains (filter p entries) e) (filter p calls) (λ e i so.
            let here = in_entries valid e (in_filter p e calls i) so in
            contains_from_in (filter p entries) e (in_filter_from p e entries here (in_filter_passes p e calls i)));
        in_order = all_from_pairs (λ x y. ReturnsBefore y x → ⊥) (filter p entries)
            (pairs_filter (λ x y. ReturnsBefore y x → ⊥) p entries (in_time_order valid));
        replies = without_early v number entries (empty kind) (empty kind)
            (empty_others v kind) valid.replies (in_time_order valid) spent;
      },
    )
  where
    returned : (o : Option Return) → ended_before number o ≡ true → IsSome o
    returned None e = absurd (false_is_not_true e)
    returned (Some r) e = refl
