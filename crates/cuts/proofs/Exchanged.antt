-- A part of a valid order in which the pending removals of kept values are those that were invoked first: along the
-- order, where one of them took a kept value, the next by number is done in its place.
use Rattle.std.proofs.Common.{rules, ◌≡◌, ◌≢◌, ◌⊎◌, inl, inr, zero, suc, ℕ, ℤ, ◌<◌, ◌≤◌, ◌+◌, nat_lt, Bool, true, false}
use Rattle.std.proofs.Common.{◌&&◌, List, [], ◌∷◌, length}
use Rattle.std.proofs.Common.{Option, Some, None, IfSome, IsSome, is_some, refl, ap, sym, ◌∙◌, subst, arith}
use Rattle.std.proofs.lemmas.Bool.Decides.{nat_tests}
use Rattle.std.proofs.lemmas.Bool.{ltb-true, ltb-false}
use Rattle.model.specs.declared.Kind.{Kind}
use Rattle.model.specs.declared.AnyOp.{AnyOp}
use Rattle.model.specs.declared.AnyReply.{AnyReply}
use Rattle.model.specs.Objects.{Content, next, kind_of}
use Rattle.model.specs.Orders.{Call, Return, ReturnsBefore, RepliesAlong}
use Rattle.model.specs.Lists.{In}
use Rattle.model.proofs.Lists.{Pairs, pairs_weaker}
use Rattle.cuts.specs.Parts.{reply_of, is_kept_value, takes_out, is_pending_removal, put_count, taken_count}
use Rattle.cuts.specs.Kinds.Containers.{is_removal}
use Rattle.cuts.specs.Kinds.Keeping.{fits}
use Rattle.cuts.proofs.Simulation.{Stepped}
use Rattle.cuts.proofs.Contents.{IsShadow, TookNone, shown, step_at}
use Rattle.cuts.proofs.Conserved.{one, tally, puts, taken, kept_size, turn, conserved, count_among}
use Rattle.cuts.proofs.Sequences.{one_number}
use Rattle.cuts.proofs.Fitting.{reply_shown}
use Rattle.cuts.proofs.Booleans.{false_is_not_true, true_or_false}

-- ---- pending removals by their invocations

abbrev pub is_open : Call → Bool
is_open e = is_pending_removal e.op e.returned

-- how many pending removals were invoked before this number
abbrev pub rank : List Call → ℕ → ℕ
rank calls n = tally (λ e. is_open e && nat_lt e.number n) calls

-- the pending removal before which this many were invoked
record Nth (calls : List Call) (i : ℕ) : Type 0 where
  call : Call
  known : In call calls
  pending : is_open call ≡ true
  at : rank calls call.number ≡ i

none_before : (n : ℕ) (es : List Call) → ((x : Call) → In x es → n < x.number) → rank es n ≡ 0
none_before n [] f = refl
none_before n (e ∷ es) f =
    let rest = none_before n es (λ x i. f x (inr i)) in
    let here = f e (inl refl) in
    grind (arith, nat_tests)

nth : (calls : List Call) → Pairs (λ a b. a.number < b.number) calls → (i : ℕ) → i < tally is_open calls → Nth calls i
nth [] h i lt = absurd (omega arith)
nth (e ∷ es) h i lt = go (nth es h.1) (is_open e) refl i lt
  where
    shift : (b : Bool) (n j : ℕ) → is_open e ≡ b → e.number < n → rank es n ≡ j → rank (e ∷ es) n ≡ one b + j
    shift b n j q t r = grind (arith, nat_tests)

    first : rank (e ∷ es) e.number ≡ zero
    first = let rest = none_before e.number es h.0 in grind (arith, nat_tests)

    go : ((j : ℕ) → j < tally is_open es → Nth es j) → (b : Bool) → is_open e ≡ b → (i : ℕ)
        → i < one b + tally is_open es → Nth (e ∷ es) i
    go again true q zero lt = record { call = e; known = inl refl; pending = q; at = first }
    go again true q (suc j) lt =
        let r = again j (omega arith) in
        let s = shift true r.call.number j q (h.0 r.call r.known) r.at in
        record { call = r.call; known = inr r.known; pending = r.pending; at = omega arith }
    go again false q i lt =
        let r = again i (omega arith) in
        let s = shift false r.call.number i q (h.0 r.call r.known) r.at in
        record { call = r.call; known = inr r.known; pending = r.pending; at = omega arith }

-- one was invoked at this number or later, or all were before it
late : (n : ℕ) (xs : List Call) → ((x : Call) × In x xs × (n ≤ x.number)) ⊎ ((x : Call) → In x xs → x.number < n)
late n [] = inr (λ x i. absurd i)
late n (x ∷ xs) = elim (true_or_false (nat_lt x.number n)) [
  | inl lt ↦ elim (late n xs) [
    | inl w ↦ inl (w.0, inr w.1, w.2)
    | inr all ↦ inr (λ y i. elim i [
      | inl e ↦ subst (λ (z : Call). z.number < n) (sym e) (ltb-true x.number n lt)
      | inr j ↦ all y j
    ])
  ]
  | inr ge ↦ inl (x, inl refl, ltb-false x.number n ge)
]

all_pass : (p : Call → Bool) (xs : List Call) → ((x : Call) → In x xs → p x ≡ true) → tally p xs ≡ length xs
all_pass p [] f = refl
all_pass p (x ∷ xs) f =
    let here = f x (inl refl) in
    let rest = all_pass p xs (λ y i. f y (inr i)) in
    grind arith

apart_calls : (xs : List Call) → Pairs (λ x y. x.number ≢ y.number) xs → Pairs (λ x y. x ≢ y) xs
apart_calls xs h = pairs_weaker (λ x y. x.number ≢ y.number) (λ x y. x ≢ y) xs
    (λ x y i j ne e. ne (ap (λ (z : Call). z.number) e)) h

-- the last of i + 1 pending removals was invoked no earlier than the one before which i were
one_late : (calls xs : List Call) (i : ℕ) (p : Nth calls i) → length xs ≡ i + 1 → Pairs (λ x y. x.number ≢ y.number) xs
    → ((x : Call) → In x xs → is_open x ≡ true) → ((x : Call) → In x xs → In x calls)
    → (x : Call) × In x xs × (p.call.number ≤ x.number)
one_late calls xs i p many apart pending known = elim (late p.call.number xs) [
  | inl w ↦ w
  | inr all ↦
      let test : Call → Bool = λ e. is_open e && nat_lt e.number p.call.number in
      let passes = all_pass test xs (λ x j.
      let earlier = all x j in
      let removes = pending x j in
      grind (arith, nat_tests)) in
      let fewer = count_among test xs calls (apart_calls xs apart) (λ x j q. known x j) in
      let ranked = p.at in
      absurd (omega arith)
]

-- some pending removal is at each place that i + 1 of them show
place : (calls xs : List Call) (i : ℕ) → Pairs (λ a b. a.number < b.number) calls → length xs ≡ i + 1
    → Pairs (λ x y. x.number ≢ y.number) xs
    → ((x : Call) → In x xs → is_open x ≡ true) → ((x : Call) → In x xs → In x calls) → Nth calls i
place calls xs i rising many apart pending known =
    let passes = all_pass is_open xs pending in
    let fewer = count_among is_open xs calls (apart_calls xs apart) (λ x j q. known x j) in
    nth calls rising i (omega arith)

-- ---- facts of removals

open_removal : (e : Call) → is_open e ≡ true → is_removal e.op ≡ true
open_removal e h = grind arith

open_returned : (e : Call) → is_open e ≡ true → is_some e.returned ≡ false
open_returned e h = grind arith

not_returned : (e : Call) (r : Return) → is_open e ≡ true → e.returned ≡ Some r → ⊥
not_returned e r h q = false_is_not_true (sym (open_returned e h) ∙ ap is_some q)

closed_removal : (e : Call) → is_open e ≡ false → is_some e.returned ≡ false → is_removal e.op ≡ false
closed_removal e h p = grind arith

same_removal_op : (a b : AnyOp) → is_removal a ≡ true → is_removal b ≡ true → kind_of a ≡ kind_of b → a ≡ b
same_removal_op a b h k e = search rules

fits_open : (all : Bool) (keeps : ℤ → Bool) (kept : Bool) (op : AnyOp) → is_removal op ≡ true
    → fits all keeps kept op None ≡ true
fits_open all keeps kept op h = search rules

-- ---- along calls

-- what is assumed of the whole: calls of one kind in rising numbers, and a closed projection of them
pub record IsSetting (calls : List Call) (kind : Kind) (all : Bool) (keeps : ℤ → Bool) (kept : ℕ → Bool) : Type 0 where
  pub of_kind : (e : Call) → In e calls → kind_of e.op ≡ kind
  pub rising : Pairs (λ a b. a.number < b.number) calls
  pub every : all ≡ true → (v : ℤ) → keeps v ≡ true
  pub each : (e : Call) → In e calls → fits all keeps (kept e.number) e.op (reply_of e.returned) ≡ true
  pub pending : (e : Call) → In e calls → is_open e ≡ true → kept e.number ≡ false
      → put_count keeps calls ≤ taken_count keeps calls + rank calls e.number

-- i pending removals, xs, took a kept value before the calls es, which contain this at first
pub record IsTurn (calls : List Call) (keeps : ℤ → Bool) (i : ℕ) (xs es : List Call) (c : Content) : Type 0 where
  pub many : length xs ≡ i
  pub pending : (x : Call) → In x xs → is_open x ≡ true
  pub known : (x : Call) → In x xs → In x calls
  pub apart : Pairs (λ x y. x.number ≢ y.number) xs
  pub cross_apart : (x y : Call) → In x xs → In y es → x.number ≢ y.number
  pub cross_time : (x y : Call) → In x xs → In y es → ReturnsBefore y x → ⊥
  pub later_known : (x : Call) → In x es → In x calls
  pub later_apart : Pairs (λ x y. x.number ≢ y.number) es
  pub in_time : Pairs (λ x y. ReturnsBefore y x → ⊥) es
  -- as many kept values are there, or are put in, as are taken out
  pub owed : kept_size keeps c + puts keeps es + i + taken_count keeps calls ≤ put_count keeps calls + taken keeps es

pub record Exchanged (calls : List Call) (kept : ℕ → Bool) (i : ℕ) (d : Content) (es : List Call) : Type 0 where
  pub entries : List Call
  pub replies : RepliesAlong d entries
  pub from : (y : Call) → In y entries
      → (In y es × (is_open y ≡ false)) ⊎ ((is_open y ≡ true) × (i ≤ rank calls y.number))
  pub known : (y : Call) → In y entries → In y calls × (kept y.number ≡ true)
  pub in_time : Pairs (λ x y. ReturnsBefore y x → ⊥) entries
  pub apart : Pairs (λ x y. x.number ≢ y.number) entries
  pub whole : (x : Call) → In x es → kept x.number ≡ true → IsSome x.returned → In x entries

-- the part leaves out a call
leave : (calls : List Call) (kept : ℕ → Bool) (i : ℕ) (content : Content) (call : Call) (later : List Call)
    → (kept call.number ≡ false) ⊎ (is_some call.returned ≡ false) → Exchanged calls kept i content later
    → Exchanged calls kept i content (call ∷ later)
leave calls kept i content call later out rest = record {
  entries = rest.entries;
  replies = rest.replies;
  from = λ y j. elim (rest.from y j) [ inl own ↦ inl (inr own.0, own.1) | inr other ↦ inr other ];
  known = rest.known;
  in_time = rest.in_time;
  apart = rest.apart;
  whole = λ x j k so. elim j [
    | inl q ↦ absurd (elim out [
      | inl not_kept ↦ false_is_not_true (sym not_kept ∙ ap (λ (z : Call). kept z.number) (sym q) ∙ k)
      | inr pending ↦ false_is_not_true (sym pending ∙ ap (λ (z : Call). is_some z.returned) (sym q) ∙ so)
    ])
    | inr l ↦ rest.whole x l k so
  ];
}

-- a call that is no pending removal is done
keep_own : (calls : List Call) (kept : ℕ → Bool) (i : ℕ) (content after : Content) (call : Call) (later : List Call)
    (reply : AnyReply)
    → Pairs (λ a b. a.number < b.number) calls → is_open call ≡ false → kept call.number ≡ true → In call calls
    → ((y : Call) → In y later → call.number ≢ y.number)
    → ((y : Call) → In y later → ReturnsBefore y call → ⊥) → next content call.op ≡ Some (after, reply)
    → IfSome call.returned (λ r. r.reply ≡ reply)
    → Exchanged calls kept i after later → Exchanged calls kept i content (call ∷ later)
keep_own calls kept i content after call later reply rising closed keep here apart time does agrees rest = record {
  entries = call ∷ rest.entries;
  replies = (after, reply, does, agrees, rest.replies);
  from = λ y j. elim j [
    | inl q ↦ inl (inl q, ap (λ (z : Call). is_open z) q ∙ closed)
    | inr l ↦ elim (rest.from y l) [ inl own ↦ inl (inr own.0, own.1) | inr other ↦ inr other ]
  ];
  known = λ y j. elim j [
    | inl q ↦ subst (λ (z : Call). In z calls × (kept z.number ≡ true)) (sym q) (here, keep)
    | inr l ↦ rest.known y l
  ];
  in_time = (
    λ y j. elim (rest.from y j) [
      | inl own ↦ time y own.0
      | inr other ↦ λ rb. not_returned y rb.0 other.0 rb.1
    ],
    rest.in_time,
  );
  apart = (
    λ y j. elim (rest.from y j) [
      | inl own ↦ apart y own.0
      | inr other ↦ λ q. false_is_not_true
          (sym closed ∙ ap (λ (z : Call). is_open z)
          (one_number (λ (z : Call). z.number) call y calls rising here (rest.known y j).0 q) ∙ other.0)
    ],
    rest.apart,
  );
  whole = λ x j kx so. elim j [ inl q ↦ inl q | inr l ↦ inr (rest.whole x l kx so) ];
}

-- in place of a pending removal one is done that was invoked no later than some such one so far
keep_other : (calls : List Call) (kept : ℕ → Bool) (i : ℕ) (content after : Content) (removal late : Call)
    (later : List Call) (reply : AnyReply) (chosen : Nth calls i)
    → Pairs (λ a b. a.number < b.number) calls → is_open removal ≡ true → kept chosen.call.number ≡ true
    → chosen.call.number ≤ late.number
    → ((y : Call) → In y later → ReturnsBefore y late → ⊥) → next content chosen.call.op ≡ Some (after, reply)
    → Exchanged calls kept (i + 1) after later → Exchanged calls kept i content (removal ∷ later)
keep_other calls kept i content after removal late later reply chosen rising pending keep due time does rest = record {
  entries = chosen.call ∷ rest.entries;
  replies = (after, reply, does, agrees chosen.call.returned (open_returned chosen.call chosen.pending), rest.replies);
  from = λ y j. elim j [
    | inl q ↦ inr (ap (λ (z : Call). is_open z) q ∙ chosen.pending, ranked y q)
    | inr l ↦ elim (rest.from y l) [
      | inl own ↦ inl (inr own.0, own.1)
      | inr other ↦ inr (other.0, less (rank calls y.number) other.1)
    ]
  ];
  known = λ y j. elim j [
    | inl q ↦ subst (λ (z : Call). In z calls × (kept z.number ≡ true)) (sym q) (chosen.known, keep)
    | inr l ↦ rest.known y l
  ];
  in_time = (
    λ y j. elim (rest.from y j) [
      | inl own ↦ λ rb. time y own.0 (rb.0, rb.1, before_late rb.0.at rb.2)
      | inr other ↦ λ rb. not_returned y rb.0 other.0 rb.1
    ],
    rest.in_time,
  );
  apart = (
    λ y j. elim (rest.from y j) [
      | inl own ↦ λ q. false_is_not_true
          (sym own.1 ∙ ap (λ (z : Call). is_open z)
          (sym (one_number (λ (z : Call). z.number) chosen.call y calls rising chosen.known (rest.known y j).0 q))
          ∙ chosen.pending)
      | inr other ↦ λ q. more (rank calls y.number) (rank calls chosen.call.number)
          (ap (rank calls) q) chosen.at other.1
    ],
    rest.apart,
  );
  whole = λ z j kz so. elim j [
    | inl q ↦ absurd (false_is_not_true
        (sym (open_returned removal pending) ∙ ap (λ (u : Call). is_some u.returned) (sym q) ∙ so))
    | inr l ↦ inr (rest.whole z l kz so)
  ];
}
  where
    agrees : (o : Option Return) → is_some o ≡ false → IfSome o (λ r. r.reply ≡ reply)
    agrees None h = tt
    agrees (Some r) h = absurd (false_is_not_true (sym h))

    less : (n : ℕ) → i + 1 ≤ n → i ≤ n
    less n l = omega arith

    ranked : (y : Call) → y ≡ chosen.call → i ≤ rank calls y.number
    ranked y q = subst (λ (n : ℕ). i ≤ n) (sym (ap (λ (z : Call). rank calls z.number) q ∙ chosen.at)) (omega arith)

    before_late : (at : ℕ) → at < chosen.call.number → at < late.number
    before_late at l = omega arith

    more : (a b : ℕ) → b ≡ a → b ≡ i → i + 1 ≤ a → ⊥
    more a b q r l = absurd (omega arith)

-- ---- one call of the whole

-- The whole does a call, before which i pending removals, xs, took a kept value.
module _ (calls : List Call) (kind : Kind) (all : Bool) (keeps : ℤ → Bool) (kept : ℕ → Bool)
    (setting : IsSetting calls kind all keeps kept) (call : Call) (later : List Call) (i : ℕ) (xs : List Call)
    (whole part after : Content) (reply : AnyReply) (shadow : IsShadow keeps whole part)
    (does : next whole call.op ≡ Some (after, reply)) (agrees : IfSome call.returned (λ r. r.reply ≡ reply))
    (replies : RepliesAlong after later) (so_far : IsTurn calls keeps i xs (call ∷ later) whole) where
  -- the calls of the part that come after this one
  abbrev Rest : Type 0
  Rest = (j : ℕ) (ys : List Call) (d : Content) → IsShadow keeps after d → IsTurn calls keeps j ys later after
      → Exchanged calls kept j d later

  here : In call calls
  here = so_far.later_known call (inl refl)

  steps : (k told : Bool) → fits all keeps k call.op (shown told reply) ≡ true → TookNone keeps call.op told k reply
      → Stepped (IsShadow keeps) call.op k told reply part after
  steps k told = subst
      (λ z. IfSome z (λ p. fits all keeps k call.op (shown told p.1) ≡ true → TookNone keeps call.op told k p.1
      → Stepped (IsShadow keeps) call.op k told p.1 part p.0))
      does (step_at all keeps setting.every whole part call.op shadow k told)

  -- ---- a call that is no pending removal

  -- a call that is no pending removal takes out what its reply shows
  own_told : is_open call ≡ false
      → one (takes_out keeps call.op (reply_of call.returned)) ≡ one (takes_out keeps call.op (Some reply))
  own_told closed = told call.returned refl agrees
    where
      told : (w : Option Return) → call.returned ≡ w → IfSome w (λ r. r.reply ≡ reply)
          → one (takes_out keeps call.op (reply_of w)) ≡ one (takes_out keeps call.op (Some reply))
      told None q a =
          let none = closed_removal call closed (ap is_some q) in
          ap (λ z. one (z && false)) none ∙ ap (λ z. one (z && is_kept_value keeps (Some reply))) (sym none)
      told (Some w) q a = ap (λ (z : AnyReply). one (takes_out keeps call.op (Some z))) a

  own_none : is_open call ≡ false → TookNone keeps call.op (is_some call.returned) (kept call.number) reply
  own_none closed pending left_out =
      ap (λ z. z && is_kept_value keeps (Some reply)) (closed_removal call closed pending)

  fitting : fits all keeps (kept call.number) call.op (shown (is_some call.returned) reply) ≡ true
  fitting = sym (ap (fits all keeps (kept call.number) call.op) (reply_shown call.returned reply agrees))
      ∙ setting.each call here

  -- a call that is no pending removal leaves the number of those that took a kept value
  same : is_open call ≡ false → IsTurn calls keeps i xs later after
  same closed = record {
    many = so_far.many;
    pending = so_far.pending;
    known = so_far.known;
    apart = so_far.apart;
    cross_apart = λ x y a b. so_far.cross_apart x y a (inr b);
    cross_time = λ x y a b. so_far.cross_time x y a (inr b);
    later_known = λ x a. so_far.later_known x (inr a);
    later_apart = so_far.later_apart.1;
    in_time = so_far.in_time.1;
    owed =
        let told = own_told closed in
        let u = turn keeps call whole after reply does agrees in
        omega arith;
  }

  walk_closed : Rest → is_open call ≡ false → Exchanged calls kept i part (call ∷ later)
  walk_closed rest closed = elim (steps (kept call.number) (is_some call.returned) fitting (own_none closed)) [
    | inl skip ↦ leave calls kept i part call later skip.0 (rest i xs part skip.1 (same closed))
    | inr take ↦ keep_own calls kept i part take.1 call later reply setting.rising closed take.0 here
        so_far.later_apart.0 so_far.in_time.0 take.2 agrees (rest i xs take.1 take.3 (same closed))
  ]

  -- ---- a pending removal

  -- after a pending removal at most one more of them took a kept value
  fewer : is_some call.returned ≡ false → (j : ℕ) (ys : List Call) → length ys ≡ j
      → ((x : Call) → In x ys → is_open x ≡ true)
      → ((x : Call) → In x ys → In x calls) → Pairs (λ x y. x.number ≢ y.number) ys
      → ((x y : Call) → In x ys → In y later → x.number ≢ y.number)
      → ((x y : Call) → In x ys → In y later → ReturnsBefore y x → ⊥)
      → j ≤ i + one (takes_out keeps call.op (Some reply)) → IsTurn calls keeps j ys later after
  fewer none j ys many pending known apart cross_apart cross_time le = record {
    many = many;
    pending = pending;
    known = known;
    apart = apart;
    cross_apart = cross_apart;
    cross_time = cross_time;
    later_known = λ x a. so_far.later_known x (inr a);
    later_apart = so_far.later_apart.1;
    in_time = so_far.in_time.1;
    owed =
        let u = turn keeps call whole after reply does agrees in
        let none_told = u.open_call none in
        omega arith;
  }

  leave_open : Rest → is_open call ≡ true → IsShadow keeps after part → Exchanged calls kept i part (call ∷ later)
  leave_open rest opened still = leave calls kept i part call later (inr (open_returned call opened))
      (rest i xs part still
      (fewer (open_returned call opened) i xs so_far.many so_far.pending so_far.known so_far.apart
      (λ x y a b. so_far.cross_apart x y a (inr b)) (λ x y a b. so_far.cross_time x y a (inr b)) (omega arith)))

  -- A pending removal takes a kept value, so that i + 1 of them did.
  module _ (opened : is_open call ≡ true) (took : takes_out keeps call.op (Some reply) ≡ true) where
    long : length (call ∷ xs) ≡ i + 1
    long = let m = so_far.many in omega arith

    all_open : (x : Call) → In x (call ∷ xs) → is_open x ≡ true
    all_open x j = elim j [ inl w ↦ ap (λ (z : Call). is_open z) w ∙ opened | inr l ↦ so_far.pending x l ]

    all_known : (x : Call) → In x (call ∷ xs) → In x calls
    all_known x j = elim j [
      | inl w ↦ subst (λ (z : Call). In z calls) (sym w) here
      | inr l ↦ so_far.known x l
    ]

    all_apart : Pairs (λ x y. x.number ≢ y.number) (call ∷ xs)
    all_apart = (λ x j w. so_far.cross_apart x call j (inl refl) (sym w), so_far.apart)

    -- no later call returned before one of the i + 1 was invoked
    on_time : (x y : Call) → In x (call ∷ xs) → In y later → ReturnsBefore y x → ⊥
    on_time x y j l = elim j [
      | inl w ↦ subst (λ (z : Call). ReturnsBefore y z → ⊥) (sym w) (so_far.in_time.0 y l)
      | inr k ↦ so_far.cross_time x y k (inr l)
    ]

    -- no later call is one of the i + 1
    not_later : (x y : Call) → In x (call ∷ xs) → In y later → x.number ≢ y.number
    not_later x y j l = elim j [
      | inl w ↦ subst (λ (z : Call). z.number ≢ y.number) (sym w) (so_far.later_apart.0 y l)
      | inr k ↦ so_far.cross_apart x y k (inr l)
    ]

    -- the pending removal before which i were invoked, which is done in place of this one
    chosen : Nth calls i
    chosen = place calls (call ∷ xs) i setting.rising long all_apart all_open all_known

    -- one of the i + 1 was invoked no earlier than the chosen one
    last : (x : Call) × In x (call ∷ xs) × (chosen.call.number ≤ x.number)
    last = one_late calls (call ∷ xs) i chosen long all_apart all_open all_known

    turned : IsTurn calls keeps (i + 1) (call ∷ xs) later after
    turned = fewer (open_returned call opened) (i + 1) (call ∷ xs) long all_open all_known all_apart not_later on_time
        (let counted = ap one took in omega arith)

    same_op : chosen.call.op ≡ call.op
    same_op = same_removal_op chosen.call.op call.op (open_removal chosen.call chosen.pending)
        (open_removal call opened)
        (setting.of_kind chosen.call chosen.known ∙ sym (setting.of_kind call here))

    -- the part keeps the chosen one, since more kept values are taken out than by the calls before it
    chosen_kept : kept chosen.call.number ≡ true
    chosen_kept = elim (true_or_false (kept chosen.call.number)) [
      | inl kept_so ↦ kept_so
      | inr left_out ↦
          let due = setting.pending chosen.call chosen.known chosen.pending left_out in
          let ranked = chosen.at in
          let now = turned in
          let gone = conserved keeps later after replies in
          absurd (omega arith)
    ]

    exchange : Rest → (behind : Content) → next part call.op ≡ Some (behind, reply) → IsShadow keeps after behind
        → Exchanged calls kept i part (call ∷ later)
    exchange rest behind done still =
        keep_other calls kept i part behind call last.0 later reply chosen setting.rising opened chosen_kept last.2
        (λ y j. on_time last.0 y last.1 j) (ap (λ (z : AnyOp). next part z) same_op ∙ done)
        (rest (i + 1) (call ∷ xs) behind still turned)

  walk_open : Rest → (took : Bool) → is_open call ≡ true → takes_out keeps call.op (Some reply) ≡ took
      → Exchanged calls kept i part (call ∷ later)
  walk_open rest true opened took =
      elim (steps true false (fits_open all keeps true call.op (open_removal call opened))
      (λ b k. absurd (false_is_not_true (sym k)))) [
        | inl skip ↦ leave_open rest opened skip.1
        | inr take ↦ exchange opened took rest take.1 take.2 take.3
      ]
  walk_open rest false opened took =
      elim (steps false false (fits_open all keeps false call.op (open_removal call opened)) (λ b k. took)) [
        | inl skip ↦ leave_open rest opened skip.1
        | inr take ↦ absurd (false_is_not_true take.0)
      ]

  walk_call : Rest → (opened : Bool) → is_open call ≡ opened → Exchanged calls kept i part (call ∷ later)
  walk_call rest false closed = walk_closed rest closed
  walk_call rest true opened = walk_open rest (takes_out keeps call.op (Some reply)) opened refl

-- ---- all calls of the whole

-- if calls of the whole have their replies from a content on, calls of the part have theirs from its part of this
-- content on, with pending removals exchanged
pub walk : (calls : List Call) (kind : Kind) (all : Bool) (keeps : ℤ → Bool) (kept : ℕ → Bool)
    → IsSetting calls kind all keeps kept
    → (es : List Call) (i : ℕ) (xs : List Call) (whole part : Content) → IsShadow keeps whole part
    → RepliesAlong whole es → IsTurn calls keeps i xs es whole → Exchanged calls kept i part es
walk calls kind all keeps kept setting [] i xs whole part shadow replies so_far = record {
  entries = [];
  replies = tt;
  from = λ y j. absurd j;
  known = λ y j. absurd j;
  in_time = tt;
  apart = tt;
  whole = λ x j k so. absurd j;
}
walk calls kind all keeps kept setting (e ∷ es) i xs whole part shadow replies so_far =
    walk_call calls kind all keeps kept setting e es i xs whole part replies.0 replies.1 shadow replies.2 replies.3
    replies.4 so_far
    (λ j ys d still turned.
    walk calls kind all keeps kept setting es j ys replies.0 d still replies.4 turned) (is_open e) refl
