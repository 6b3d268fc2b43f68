-- If it is known what an object contains after some call, the rest of a valid order is a valid order of the suffix that
-- begins there. The order is split at that call (`replies_after`), and each fact is shown of the front and of the rest.
use Rattle.std.proofs.lemmas.Bool.Decides.{nat_tests}
use Rattle.std.proofs.Common.{◌≡◌, ◌≢◌, ◌⊎◌, inl, inr, ℕ, ℤ, pos, ◌<◌, Bool, true, false, List, [], ◌∷◌, ◌++◌, Option}
use Rattle.std.proofs.Common.{Some, None, IfSome, IsSome, is_some, map, All, Contains, refl, ap, sym, ◌∙◌, subst, arith}
use Rattle.std.specs.List.{filter_map}
use Rattle.std.proofs.lemmas.Option.{same_Some}
use Rattle.model.proofs.Orders.{same_pos}
use Rattle.model.specs.declared.Kind.{Kind}
use Rattle.model.specs.declared.Kind.TheVariants.{Register}
use Rattle.model.specs.declared.AnyOp.{AnyOp}
use Rattle.model.specs.declared.AnyOp.TheVariants.{Write}
use Rattle.model.specs.declared.AnyReply.{AnyReply}
use Rattle.model.specs.declared.AnyReply.TheVariants.{Value}
use Rattle.model.specs.Objects.{Content, empty, next, kind_of}
use Rattle.model.specs.Orders.{Call, Return, ReturnsBefore, RepliesAlong, IsValidOrder}
use Rattle.model.specs.Lists.{In}
use Rattle.model.proofs.Lists.{Pairs, in_append, in_left, in_right, in_split, in_map, in_map_from, in_from_contains}
use Rattle.model.proofs.Lists.{contains_from_in, all_from_in, all_at, all_from_pairs, pairs_weaker, pairs_map}
use Rattle.model.proofs.Lists.{pairs_append}
use Rattle.cuts.specs.Parts.{reply_of, IsStart, ended_before, call_later, returned_call, call_from, calls_from}
use Rattle.cuts.specs.Kinds.Starts.{key_of, leaves}
use Rattle.cuts.proofs.Ordered.{in_calls, in_entries, numbers_apart, in_time_order}
use Rattle.cuts.proofs.Simulation.{pick, in_pick, pairs_pick, Replied, Choice, choose}
use Rattle.cuts.proofs.Contents.{IsShadow}
use Rattle.cuts.proofs.Fitting.{MayStep, all_step, closed_simulates}
use Rattle.cuts.proofs.Freshness.{on_key, is_free, free_keeps, all_fit, Begins, tells}
use Rattle.cuts.proofs.Sequences.{in_filter_map, in_filter_map_from, PairsAt, pairs_at, pairs_filter_map}
use Rattle.cuts.proofs.Overlaps.{later_replies, IsCutOf, cut_of, in_time_cut, front_call, IsFront}
use Rattle.cuts.proofs.Overlaps.{front_facts, late_facts, first_write, IsWrite, front_replies}

-- ---- replies

record StepThenReplies (e : Call) (later : List Call) : Type 0 where
  before : Content
  after : Content
  reply : AnyReply
  does : next before e.op ≡ Some (after, reply)
  agrees : IfSome e.returned (λ r. r.reply ≡ reply)
  replies : RepliesAlong after later

replies_after : (earlier : List Call) (e : Call) (later : List Call) (c : Content)
    → RepliesAlong c (earlier ++ e ∷ later) → StepThenReplies e later
replies_after [] e later c h = record { before = c; after = h.0; reply = h.1; does = h.2; agrees = h.3; replies = h.4 }
replies_after (x ∷ xs) e later c h = replies_after xs e later h.0 h.4

-- ---- where the suffix begins

-- the entries of the suffix: writes that overlap the first call, then it, if there is one, and later calls
record Joined (kind : Kind) (from at : ℕ) (first : Option (AnyOp × AnyReply))
    (front es entries : List Call) : Type 0 where
  replies : RepliesAlong (empty kind) entries
  own : (p : AnyOp × AnyReply) → first ≡ Some p → In (returned_call from at p) entries
  fronts : (e : Call) → In e front → In e entries
  others : (e : Call) → In e es → In e entries
  from_where : (e : Call) → In e entries
      → ((p : AnyOp × AnyReply) × (first ≡ Some p) × (e ≡ returned_call from at p)) ⊎ (In e front ⊎ In e es)
  pairs : ((e : Call) → In e front → e.number ≢ from) → ((e : Call) → In e es → e.number ≢ from)
      → ((x y : Call) → In x front → In y es → x.number ≢ y.number) → Pairs (λ x y. x.number ≢ y.number) front
      → Pairs (λ x y. x.number ≢ y.number) es → Pairs (λ x y. x.number ≢ y.number) entries
  in_time : ((x : Call) → In x front → at < x.number → ⊥)
      → ((e : Call) (r : Return) → In e es → e.returned ≡ Some r → r.at < from → ⊥)
      → ((x y : Call) → In x front → In y es → ReturnsBefore y x → ⊥) → Pairs (λ x y. ReturnsBefore y x → ⊥) front
      → Pairs (λ x y. ReturnsBefore y x → ⊥) es → Pairs (λ x y. ReturnsBefore y x → ⊥) entries

-- a suffix that begins with no content of its own has the picked calls alone
joined_none : (kind : Kind) (from at : ℕ) (front es : List Call) → ((x : Call) → In x front → ⊥)
    → RepliesAlong (empty kind) es → Joined kind from at None front es es
joined_none kind from at front es none along = record {
  replies = along;
  own = λ p e. absurd (cc e);
  fronts = λ e i. absurd (none e i);
  others = λ e i. i;
  from_where = λ e i. inr (inr i);
  pairs = λ a b c f g. g;
  in_time = λ a b c f g. g;
}

-- a suffix that begins with a call has the writes that may be before it, the call, and the picked calls
joined_some : (kind : Kind) (from at : ℕ) (first : AnyOp × AnyReply) (content : Content) (front es : List Call)
    → next (empty kind) first.0 ≡ Some (content, first.1) → ((x : Call) → In x front → IsWrite x × (kind ≡ Register))
    → (kind ≡ Register → (v : ℤ) × (first ≡ (Write v, Value (Some v)))) → RepliesAlong content es
    → Joined kind from at (Some first) front es (front ++ returned_call from at first ∷ es)
joined_some kind from at first content front es does writes written along = record {
  replies = front_replies kind front from at first content es does writes written along;
  own = λ p e. in_right (returned_call from at p) front (returned_call from at first ∷ es)
      (inl (ap (returned_call from at) (sym (same_Some first p e))));
  fronts = λ e i. in_left e front (returned_call from at first ∷ es) i;
  others = λ e i. in_right e front (returned_call from at first ∷ es) (inr i);
  from_where = λ e i. elim (in_append e front (returned_call from at first ∷ es) i) [
    | inl j ↦ inr (inl j)
    | inr j ↦ elim j [ inl q ↦ inl (first, refl, q) | inr k ↦ inr (inr k) ]
  ];
  pairs = λ a b c f g. pairs_append (λ x y. x.number ≢ y.number) front (returned_call from at first ∷ es) f
      (λ y i e. b y i (sym e), g)
      (λ x y i j. elim j [ inl q ↦ λ e. a x i (e ∙ ap (λ (z : Call). z.number) q) | inr k ↦ c x y i k ]);
  in_time = λ a b c f g. pairs_append (λ x y. ReturnsBefore y x → ⊥) front (returned_call from at first ∷ es) f
      (λ y i r. b y r.0 i r.1 r.2, g)
      (λ x y i j. elim j [
        | inl q ↦ λ r. late x.number r.0 (a x i) (sym (ap (λ (z : Call). z.returned) q) ∙ r.1) r.2
        | inr k ↦ c x y i k
      ]);
}
  where
    late : (number : ℕ) (r : Return) → (at < number → ⊥) → Some (record { at = at; reply = first.1 }) ≡ Some r
        → r.at < number → ⊥
    late number r l e m = l
        (less at r.at number (ap (λ (z : Return). z.at) (same_Some (record { at = at; reply = first.1 }) r e)) m)
      where
        less : (a b c : ℕ) → a ≡ b → b < c → a < c
        less a b c e m = omega arith

-- ---- what becomes of a call

call_from_other : (from at : ℕ) (first : Option (AnyOp × AnyReply)) (call : Call) → call.number ≢ from
    → ended_before from call.returned ≡ false → call_from from at first call ≡ Some (call_later first at call)
call_from_other from at first call other not_over = grind (arith, nat_tests)

call_from_own : (from at : ℕ) (first : Option (AnyOp × AnyReply)) (call : Call) (own : AnyOp × AnyReply)
    → call.number ≡ from → first ≡ Some own → call_from from at first call ≡ Some (returned_call from at own)
call_from_own from at first call own same is = grind (arith, nat_tests)

pub call_from_cases : (from at : ℕ) (first : Option (AnyOp × AnyReply)) (call part : Call)
    → call_from from at first call ≡ Some part
    → ((p : AnyOp × AnyReply) × (first ≡ Some p) × (part ≡ returned_call from at p))
    ⊎ ((call.number ≢ from) × (part ≡ call_later first at call) × (ended_before from call.returned ≡ false))
call_from_cases from at first call part e = grind (arith, nat_tests)

not_ended : (from : ℕ) (o : Option Return) → ((r : Return) → o ≡ Some r → r.at < from → ⊥) → ended_before from o ≡ false
not_ended from None h = refl
not_ended from (Some r) h = let late = h r refl in grind (arith, nat_tests)

front_cut : (from at : ℕ) (first : Option (AnyOp × AnyReply)) (call part : Call)
    → front_call from at first call ≡ Some part → IsCutOf part call
front_cut from at first call part is =
    subst (λ (z : Call). IsCutOf z call) (front_facts from at first call part is).is_later (cut_of first at call)

-- ---- the suffix of a valid order

record Chosen (kind : Kind) (from at : ℕ) (first : Option (AnyOp × AnyReply)) (front es : List Call) : Type 0 where
  flags : List Bool
  entries : List Call
  joined : Joined kind from at first front (pick flags es) entries
  whole : (x : Call) → In x es → IsSome x.returned → In x (pick flags es)

-- some of the calls from a content on are a suffix from what that content shows on
chosen : (kind : Kind) (key : Option ℤ) (from at : ℕ) (first : Option (AnyOp × AnyReply)) (front es : List Call)
    (after : Content)
    → ((x : Call) → In x es → key_of x.op ≡ key)
    → ((x : Call) → In x front → (first ≢ None) × IsWrite x × (kind ≡ Register))
    → ((p : AnyOp × AnyReply) → first ≡ Some p → kind ≡ Register → (v : ℤ) × (p ≡ (Write v, Value (Some v))))
    → Begins (on_key key) kind first after
    → RepliesAlong after es → Chosen kind from at first front es
chosen kind key from at first front es after on writes written begins along = go first refl begins
  where
    may : Replied (MayStep (is_free key) (on_key key) (λ n. true)) after es
    may = all_step (is_free key) (on_key key) es after (λ e i. all_fit e.op key (reply_of e.returned) (on e i)) along

    choice : (d : Content) → IsShadow (on_key key) after d → Choice (λ n. true) d es
    choice d s = choose (IsShadow (on_key key)) (λ n. true) (MayStep (is_free key) (on_key key) (λ n. true))
        (closed_simulates (is_free key) (on_key key) (λ n. true) (free_keeps key)) es after d s may

    go : (f : Option (AnyOp × AnyReply)) → first ≡ f → Begins (on_key key) kind f after → Chosen kind from at f front es
    go None e b =
        let m = choice (empty kind) b in
        record {
          flags = m.flags;
          entries = pick m.flags es;
          joined = joined_none kind from at front (pick m.flags es) (λ x i. (writes x i).0 e) m.replies;
          whole = λ x i so. m.whole x i refl so;
        }
    go (Some p) e b =
        let m = choice b.0 b.2 in
        record {
          flags = m.flags;
          entries = front ++ returned_call from at p ∷ pick m.flags es;
          joined =
              joined_some kind from at p b.0 front (pick m.flags es) b.1 (λ x i. let w = writes x i in (w.1, w.2))
              (written p e) m.replies;
          whole = λ x i so. m.whole x i refl so;
        }

-- All calls have a valid order, and from one of them on it is known what the object contains.
module _ (kind : Kind) (calls : List Call) (call : Call) (response : Return) (first : Option (AnyOp × AnyReply))
    (order : List ℤ) (stands : Contains calls call) (kinds : All (λ f. kind_of f.op ≡ kind) calls)
    (returned : call.returned ≡ Some response) (leaves_first : leaves call.op response.reply ≡ Some first)
    (one_key : All (λ f. key_of f.op ≡ key_of call.op) calls) (valid : IsValidOrder kind calls order) where
  abbrev from : ℕ
  from = call.number

  abbrev at : ℕ
  at = response.at

  abbrev suffix : List Call
  suffix = calls_from from at first calls

  call_in : In call calls
  call_in = in_from_contains calls call stands

  of_kind : (x : Call) → In x calls → kind_of x.op ≡ kind
  of_kind x i = all_at (λ f. kind_of f.op ≡ kind) calls kinds x i

  -- ---- the order, split at the call

  split : (earlier : List Call) × (later : List Call) × (valid.entries ≡ earlier ++ call ∷ later)
  split = in_split call valid.entries (in_entries valid call call_in (ap is_some returned))

  abbrev earlier : List Call
  earlier = split.0

  abbrev later : List Call
  later = split.1

  in_earlier : (y : Call) → In y earlier → In y calls
  in_earlier y i = in_calls valid y (subst (In y) (sym split.2) (in_left y earlier (call ∷ later) i))

  in_later : (y : Call) → In y later → In y calls
  in_later y i = in_calls valid y (subst (In y) (sym split.2) (in_right y earlier (call ∷ later) (inr i)))

  -- no two of the order have one number
  apart : PairsAt (λ x y. x.number ≢ y.number) earlier call later
  apart = pairs_at (λ x y. x.number ≢ y.number) earlier call later
      (subst (Pairs (λ x y. x.number ≢ y.number)) split.2 (numbers_apart valid))

  -- no call of the order returned before an earlier one was invoked
  on_time : PairsAt (λ x y. ReturnsBefore y x → ⊥) earlier call later
  on_time = pairs_at (λ x y. ReturnsBefore y x → ⊥) earlier call later
      (subst (Pairs (λ x y. ReturnsBefore y x → ⊥)) split.2 (in_time_order valid))

  -- what the call does, and the later ones after it
  step : StepThenReplies call later
  step = replies_after earlier call later (empty kind) (subst (RepliesAlong (empty kind)) split.2 valid.replies)

  -- the suffix may begin with what the call leaves
  begins : Begins (on_key (key_of call.op)) kind first step.after
  begins =
      let same : response.reply ≡ step.reply =
      subst (λ (o : Option Return). IfSome o (λ r. r.reply ≡ step.reply)) returned step.agrees in
      let told = subst (λ (o : Option (Content × AnyReply)). IfSome o
      (λ p. IfSome (leaves call.op p.1) (λ f. Begins (on_key (key_of call.op)) (kind_of call.op) f p.0))) step.does
      (tells step.before call.op) in
      subst (λ k. Begins (on_key (key_of call.op)) k first step.after) (of_kind call call_in)
      (subst (λ (o : Option (Option (AnyOp × AnyReply))). IfSome o
      (λ f. Begins (on_key (key_of call.op)) (kind_of call.op) f step.after))
      (ap (leaves call.op) (sym same) ∙ leaves_first) told)

  -- ---- the calls of the suffix that are not its first

  abbrev cut : Call → Call
  cut y = call_later first at y

  -- the writes that earlier calls become
  abbrev front : List Call
  front = filter_map (front_call from at first) earlier

  from_front : (x : Call) → In x front → (y : Call) × In y earlier × IsCutOf x y × IsFront from at first y x
  from_front x i =
      let y = in_filter_map (front_call from at first) x earlier i in
      (y.0, y.1, front_cut from at first y.0 x y.2, front_facts from at first y.0 x y.2)

  from_later : (x : Call) → In x (map cut later) → (y : Call) × In y later × IsCutOf x y × (x ≡ cut y)
  from_later x i =
      let y = in_map cut x later i in
      (y.0, y.1, subst (λ (z : Call). IsCutOf z y.0) (sym y.2) (cut_of first at y.0), y.2)

  -- some of the later calls are a suffix
  choice : Chosen kind from at first front (map cut later)
  choice = chosen kind (key_of call.op) from at first front (map cut later) step.after
      (λ x i.
      let y = from_later x i in
      y.2.key ∙ all_at (λ f. key_of f.op ≡ key_of call.op) calls one_key y.0 (in_later y.0 y.1))
      (λ x i.
      let y = from_front x i in
      let f = y.3 in
      (f.began, (y.0.number, f.when, f.value, f.write), sym (of_kind y.0 (in_earlier y.0 y.1)) ∙ f.kind))
      (λ p q k. first_write call.op response.reply p (leaves_first ∙ ap (λ (z : Option (AnyOp × AnyReply)). Some z) q)
      (of_kind call call_in ∙ k))
      begins (later_replies first at later step.after step.replies)

  -- the later calls that are in the suffix's order
  abbrev picked : List Call
  picked = pick choice.flags (map cut later)

  from_picked : (x : Call) → In x picked → (y : Call) × In y later × IsCutOf x y × (x ≡ cut y)
  from_picked x i = from_later x (in_pick choice.flags (map cut later) x i)

  -- ---- which calls are in the suffix's order

  -- the first call of the suffix is one of its calls
  own_known : (p : AnyOp × AnyReply) → first ≡ Some p → In (returned_call from at p) suffix
  own_known p is = in_filter_map_from (call_from from at first) call (returned_call from at p) calls call_in
      (call_from_own from at first call p refl is)

  front_known : (x : Call) → In x front → In x suffix
  front_known x i =
      let y = from_front x i in
      in_filter_map_from (call_from from at first) y.0 x calls (in_earlier y.0 y.1)
      (call_from_other from at first y.0 (apart.before y.0 y.1) y.3.not_over
      ∙ ap (λ (z : Call). Some z) y.3.is_later)

  picked_known : (x : Call) → In x picked → In x suffix
  picked_known x i =
      let y = from_picked x i in
      in_filter_map_from (call_from from at first) y.0 x calls (in_later y.0 y.1)
      (call_from_other from at first y.0 (λ q. apart.after y.0 y.1 (sym q))
      (not_ended from y.0.returned (λ t q l. on_time.after y.0 y.1 (t, q, l)))
      ∙ ap (λ (z : Call). Some z) (sym y.3))

  -- each call in the order is one of the suffix
  entry_known : (x : Call) → In x choice.entries → In x suffix
  entry_known x i = elim (choice.joined.from_where x i) [
    | inl q ↦ subst (λ (z : Call). In z suffix) (sym q.2) (own_known q.0 q.1)
    | inr k ↦ elim k [ inl w ↦ front_known x w | inr w ↦ picked_known x w ]
  ]

  -- a cut of another call that returned, and had not before the first was invoked, is in the order
  cut_is_entry : (y : Call) → In y calls → y.number ≢ from → ended_before from y.returned ≡ false
      → IsSome (cut y).returned → In (cut y) choice.entries
  cut_is_entry y i other not_over so =
      let late = late_facts from at first y so in
      let there = subst (In y) split.2 (in_entries valid y i (ap is_some late.was)) in
      elim (in_append y earlier (call ∷ later) there) [
        | inl k ↦ elim late.either [
          | inl w ↦ absurd (on_time.before y k (response, returned, w))
          | inr f ↦ choice.joined.fronts (cut y)
              (in_filter_map_from (front_call from at first) y (cut y) earlier k (f not_over))
        ]
        | inr k ↦ elim k [
          | inl w ↦ absurd (other (ap (λ (z : Call). z.number) w))
          | inr w ↦ choice.joined.others (cut y) (choice.whole (cut y) (in_map_from cut y later w) so)
        ]
      ]

  -- each call of the suffix that returned is in the order
  returned_is_entry : (x : Call) → In x suffix → IsSome x.returned → In x choice.entries
  returned_is_entry x i so =
      let y = in_filter_map (call_from from at first) x calls i in
      elim (call_from_cases from at first y.0 x y.2) [
        | inl q ↦ subst (λ (z : Call). In z choice.entries) (sym q.2) (choice.joined.own q.0 q.1)
        | inr q ↦ subst (λ (z : Call). In z choice.entries) (sym q.1)
            (cut_is_entry y.0 y.1 q.0 q.2 (subst (λ (z : Call). IsSome z.returned) q.1 so))
      ]

  -- ---- no number is twice in the suffix's order

  front_numbers : Pairs (λ x y. x.number ≢ y.number) front
  front_numbers = pairs_filter_map (λ x y. x.number ≢ y.number) (λ x y. x.number ≢ y.number)
      (front_call from at first) earlier
      (λ y w x z i k ne f g q.
      ne (sym (front_cut from at first y x f).number ∙ q ∙ (front_cut from at first w z g).number))
      apart.among_earlier

  picked_numbers : Pairs (λ x y. x.number ≢ y.number) picked
  picked_numbers = pairs_pick (λ x y. x.number ≢ y.number) choice.flags (map cut later)
      (pairs_map (λ x y. x.number ≢ y.number) cut later
      (pairs_weaker (λ x y. x.number ≢ y.number) (λ x y. (cut x).number ≢ (cut y).number) later
      (λ x y i k ne q. ne (sym (cut_of first at x).number ∙ q ∙ (cut_of first at y).number)) apart.among_later))

  entry_numbers : Pairs (λ x y. x.number ≢ y.number) choice.entries
  entry_numbers = choice.joined.pairs
      (λ x i q. let y = from_front x i in apart.before y.0 y.1 (sym y.2.number ∙ q))
      (λ x i q. let y = from_picked x i in apart.after y.0 y.1 (sym (sym y.2.number ∙ q)))
      (λ x z i k q.
      let y = from_front x i in
      let w = from_picked z k in
      apart.across y.0 w.0 y.1 w.1 (sym y.2.number ∙ q ∙ w.2.number))
      front_numbers picked_numbers

  -- ---- in the suffix's order no call returned before an earlier one was invoked

  front_on_time : Pairs (λ x y. ReturnsBefore y x → ⊥) front
  front_on_time = pairs_filter_map (λ x y. ReturnsBefore y x → ⊥) (λ x y. ReturnsBefore y x → ⊥)
      (front_call from at first) earlier
      (λ y w x z i k h f g. in_time_cut x z y w (front_cut from at first y x f) (front_cut from at first w z g) h)
      on_time.among_earlier

  picked_on_time : Pairs (λ x y. ReturnsBefore y x → ⊥) picked
  picked_on_time = pairs_pick (λ x y. ReturnsBefore y x → ⊥) choice.flags (map cut later)
      (pairs_map (λ x y. ReturnsBefore y x → ⊥) cut later
      (pairs_weaker (λ x y. ReturnsBefore y x → ⊥) (λ x y. ReturnsBefore (cut y) (cut x) → ⊥) later
      (λ x y i k h. in_time_cut (cut x) (cut y) x y (cut_of first at x) (cut_of first at y) h) on_time.among_later))

  entries_on_time : Pairs (λ x y. ReturnsBefore y x → ⊥) choice.entries
  entries_on_time = choice.joined.in_time
      (λ x i l.
      let y = from_front x i in
      on_time.before y.0 y.1 (response, returned, subst (λ n. at < n) y.2.number l))
      (λ x t i q l.
      let y = from_picked x i in
      let u = y.2.returned t q in
      on_time.after y.0 y.1 (u.0, u.1, subst (λ n. n < from) (sym u.2) l))
      (λ x z i k.
      let y = from_front x i in
      let w = from_picked z k in
      in_time_cut x z y.0 w.0 y.2 w.2 (on_time.across y.0 w.0 y.1 w.1))
      front_on_time picked_on_time

  -- the suffix that begins with the call has a valid order
  suffix_valid : (part : List ℤ) × IsValidOrder kind (calls_from call.number response.at first calls) part
  suffix_valid =
      let number : Call → ℤ = λ x. pos x.number in (
        map number choice.entries,
        record {
          entries = choice.entries;
          numbers = refl;
          known = all_from_in (Contains suffix) choice.entries (λ x i. contains_from_in suffix x (entry_known x i));
          once = all_from_pairs (λ x y. x ≢ y) (map number choice.entries)
              (pairs_map (λ x y. x ≢ y) number choice.entries
              (pairs_weaker (λ x y. x.number ≢ y.number) (λ x y. number x ≢ number y) choice.entries
              (λ x y i k ne q. ne (same_pos x.number y.number q)) entry_numbers));
          whole = all_from_in (λ x. IsSome x.returned → Contains choice.entries x) suffix
              (λ x i so. contains_from_in choice.entries x (returned_is_entry x i so));
          in_order = all_from_pairs (λ x y. ReturnsBefore y x → ⊥) choice.entries entries_on_time;
          replies = choice.joined.replies;
        },
      )

-- if all calls have a valid order, the suffix that begins with the call of this number has one
pub start_valid : (kind : Kind) (calls : List Call) (from at : ℕ) (first : Option (AnyOp × AnyReply)) (order : List ℤ)
    → All (λ e. kind_of e.op ≡ kind) calls → IsStart calls from at first → IsValidOrder kind calls order
    → (part : List ℤ) × IsValidOrder kind (calls_from from at first calls) part
start_valid kind calls from at first order kinds s v =
    let found = suffix_valid kind calls s.call
    (record { at = at; reply = s.reply }) first order s.known kinds s.returned s.told s.one_key v in
    (found.0, subst (λ (n : ℕ). IsValidOrder kind (calls_from n at first calls) found.0) s.number found.1)
