-- Closed projections: the checks of `keeping.rt` establish that the part is closed. What they count over operations is
-- counted over calls, and what they find first is found by induction over the operations.
use Rattle.std.proofs.Common.{rules, ◌≡◌, ◌≢◌, not, inl, inr, zero, ℕ, ℤ, ◌<◌, ◌≤◌, ◌+◌, ◌-◌, ◌==◌, nat_lt, Bool, true}
use Rattle.std.proofs.Common.{false, ◌&&◌, ◌||◌, cond, List, [], ◌∷◌, Option, Some, None, AllPairs, count_by, filter}
use Rattle.std.proofs.Common.{length, get_or, drop, refl, ap, sym, ◌∙◌, subst, arith}
use Rattle.std.specs.List.{filter_map, list_all}
use Rattle.std.proofs.Math.Seq.{drop-cons}
use Rattle.std.proofs.lemmas.Bool.Decides.{nat_tests}
use Rattle.std.proofs.lemmas.Bool.{and_parts}
use Rattle.model.specs.declared.AnyOp.{AnyOp}
use Rattle.model.specs.Objects.{kind_of}
use Rattle.model.specs.Orders.{Call, IsValidOrder}
use Rattle.model.specs.Lists.{In}
use Rattle.model.proofs.Lists.{Pairs, all_at, pairs_from_all}
use Rattle.events.specs.declared.operations.End.{End}
use Rattle.events.specs.declared.operations.End.TheVariants.{Returned, Pending, Failed}
use Rattle.events.specs.declared.operations.Operation.{Operation}
use Rattle.events.specs.Operations.{call_with, call_of, calls_of, return_of, ObjectCalls, IsObjectHistory}
use Rattle.cuts.specs.Parts.{reply_of, takes_out, is_pending_removal, put_count, taken_count, pending_before}
use Rattle.cuts.specs.Parts.{kept_calls, IsClosed}
use Rattle.cuts.specs.Kinds.Keeping.{fits}
use Rattle.cuts.specs.Kinds.Containers.{puts_in}
use Rattle.cuts.specs.declared.keeping.Values.{Values}
use Rattle.cuts.specs.declared.keeping.Values.TheVariants as values
use Rattle.cuts.specs.Cuts.{keeps_all, keeps_value, IsPart, NoneFailed}
use Rattle.cuts.specs.CutOperations.{has_failed, op_fits, is_kept_call, is_put, is_taken, is_open_removal, keeps_first}
use Rattle.cuts.proofs.Conserved.{one, tally, count_tally, and_false}
use Rattle.cuts.proofs.Closed.{projection_valid}
use Rattle.cuts.proofs.Sequences.{in_filter_map_from}
use Rattle.cuts.proofs.CutOperations.{bind, filter_map-filter, map-same, IsCutOperation, cut_history}
use Rattle.cuts.proofs.CutOperations.{cut_calls, cut_lives, did_not_fail, rising_calls, all_calls}
use Rattle.cuts.proofs.Booleans.{false_is_not_true, each_passes, all_pass}
use Rattle.cuts.proofs.CountedCalls.{passes, tally_calls, count_calls}

-- the element itself, if it passes the test
abbrev pub own : {X : Type 0} → (X → Bool) → X → Option X
own p x = cond (p x) (Some x) None

-- those that pass a test, as a map that leaves out the others
pub as_filter : {X : Type 0} (p : X → Bool) (xs : List X) → filter_map (own p) xs ≡ filter p xs
as_filter p xs = filter_map-filter p (λ x. x) xs ∙ map-same (filter p xs)

-- an operation that is kept as it is becomes one with its number, kind and end
pub own_is : (p : Operation → Bool) (o q : Operation) → own p o ≡ Some q → IsCutOperation o q
own_is p o q e = subst (IsCutOperation o) (same (p o) e)
    (record { number = refl; kind = refl; returned = λ at reply e. (reply, e) })
  where
    same : (b : Bool) → cond b (Some o) None ≡ Some q → o ≡ q
    same b e = grind arith

-- an operation that is kept only where it did not fail
own_lives : (p : Operation → Bool) (o q : Operation) → own (λ z. not (has_failed z.«end») && p z) o ≡ Some q
    → q.«end» ≢ Failed
own_lives p o q e = grind (arith, did_not_fail)

pub filter_lives : (p : Operation → Bool) (ops : List Operation)
    → NoneFailed (filter (λ z. not (has_failed z.«end») && p z) ops)
filter_lives p ops = subst NoneFailed (as_filter (λ z. not (has_failed z.«end») && p z) ops)
    (cut_lives (own (λ z. not (has_failed z.«end») && p z)) ops (own_lives p))

pub own_call : (p : Operation → Bool) (o : Operation) → bind (own p o) call_of ≡ cond (p o) (call_of o) None
own_call p o = grind arith

operation_call : (kept : ℕ → Bool) (o : Operation)
    → bind (own (is_kept_call kept) o) call_of ≡ bind (call_of o) (own (λ z. kept z.number))
operation_call kept o = own_call (is_kept_call kept) o ∙ sym (part o.«end»)
  where
    part : (e : End) → bind (call_with o.number o.op e) (own (λ z. kept z.number))
        ≡ cond (not (has_failed e) && kept o.number) (call_with o.number o.op e) None
    part e = grind arith

pub kept_history : (kept : ℕ → Bool) (h : ObjectCalls) → IsObjectHistory h
    → IsObjectHistory (record { object = h.object; kind = h.kind; ops = filter (is_kept_call kept) h.ops })
kept_history kept h is =
    subst (λ (ops : List Operation). IsObjectHistory (record { object = h.object; kind = h.kind; ops = ops }))
    (as_filter (is_kept_call kept) h.ops)
    (cut_history h.object h.kind h.ops (own (is_kept_call kept)) (λ o p i e. own_is (is_kept_call kept) o p e) is)

pub kept_calls_of : (kept : ℕ → Bool) (ops : List Operation)
    → calls_of (filter (is_kept_call kept) ops) ≡ kept_calls kept (calls_of ops)
kept_calls_of kept ops = ap calls_of (sym (as_filter (is_kept_call kept) ops))
    ∙ cut_calls (own (is_kept_call kept)) (own (λ z. kept z.number)) ops (operation_call kept)
    ∙ as_filter (λ e. kept e.number) (calls_of ops)

-- ---- how many

put_counts : (keeps : ℤ → Bool) (ops : List Operation)
    → count_by (λ o. is_put keeps o.op o.«end») ops ≡ put_count keeps (calls_of ops)
put_counts keeps ops = count_calls (λ o. is_put keeps o.op o.«end») (λ e. puts_in keeps e.op) (λ o. go o o.«end») ops
  where
    go : (o : Operation) (e : End)
        → is_put keeps o.op e ≡ passes (λ e. puts_in keeps e.op) (call_with o.number o.op e)
    go o e = search rules

taken_counts : (keeps : ℤ → Bool) (ops : List Operation)
    → count_by (λ o. is_taken keeps o.op o.«end») ops ≡ taken_count keeps (calls_of ops)
taken_counts keeps ops = count_calls (λ o. is_taken keeps o.op o.«end»)
    (λ e. takes_out keeps e.op (reply_of e.returned)) (λ o. go o o.«end») ops
  where
    go : (o : Operation) (e : End)
        → is_taken keeps o.op e ≡ passes (λ e. takes_out keeps e.op (reply_of e.returned)) (call_with o.number o.op e)
    go o e = search (rules, and_false)

-- ---- pending removals

abbrev is_open : Operation → Bool
is_open o = is_open_removal o.op o.«end»

abbrev open_before : ℕ → List Operation → ℕ
open_before n ops = tally (λ o. is_open o && nat_lt o.number n) ops

pending_counts : (n : ℕ) (ops : List Operation) → open_before n ops ≡ pending_before n (calls_of ops)
pending_counts n ops =
    tally_calls (λ o. is_open o && nat_lt o.number n)
    (λ e. is_pending_removal e.op e.returned && nat_lt e.number n) (λ o. go o o.«end») ops
    ∙ count_tally (λ e. is_pending_removal e.op e.returned && nat_lt e.number n) (calls_of ops)
  where
    go : (o : Operation) (e : End) → (is_open_removal o.op e && nat_lt o.number n)
        ≡ passes (λ e. is_pending_removal e.op e.returned && nat_lt e.number n) (call_with o.number o.op e)
    go o e = grind arith

-- one more comes before what is later
open_more : (o x : Operation) (ops : List Operation) (b : Bool) → is_open o ≡ b → o.number < x.number
    → open_before x.number (o ∷ ops) ≡ one b + open_before x.number ops
open_more o x ops b q l = grind (arith, nat_tests)

open_none : (n : ℕ) (ops : List Operation) → ((x : Operation) → In x ops → n ≤ x.number) → open_before n ops ≡ zero
open_none n [] f = refl
open_none n (o ∷ ops) f =
    let rest = open_none n ops (λ x i. f x (inr i)) in
    let here = f o (inl refl) in
    grind (arith, nat_tests)

-- a part that leaves out a pending removal among the first ones does not keep the first ones
pub one_missing : (kept : ℕ → Bool) (most left i : ℕ) (ops : List Operation) (default : Operation) → i < length ops
    → keeps_first kept most ops ≡ keeps_first kept left (drop i ops) → is_open (get_or ops i default) ≡ true
    → zero < left → kept (get_or ops i default).number ≡ false → false ≡ keeps_first kept most ops
one_missing kept most left i ops default inside same o less out =
    let whole = same ∙ ap (keeps_first kept left) (drop-cons ops i default inside) in
    grind (arith, nat_tests)

-- a pending removal that the part leaves out comes after this many
first_kept : (kept : ℕ → Bool) (most : ℕ) (ops : List Operation) → Pairs (λ a b. a.number < b.number) ops
    → keeps_first kept most ops ≡ true
    → (x : Operation) → In x ops → is_open x ≡ true → kept x.number ≡ false → most ≤ open_before x.number ops
first_kept kept most [] h k x i o n = absurd i
first_kept kept most (y ∷ ops) h k x i o n = go (λ m e j. first_kept kept m ops h.1 e x j o n) (is_open y) refl k i
  where
    go : ((m : ℕ) → keeps_first kept m ops ≡ true → In x ops → m ≤ open_before x.number ops) → (b : Bool)
        → is_open y ≡ b
        → cond b ((most == 0 || kept y.number) && keeps_first kept (most - 1) ops) (keeps_first kept most ops) ≡ true
        → In x (y ∷ ops) → most ≤ open_before x.number (y ∷ ops)
    go again b q e (inl w) =
        let left_out = ap (λ (u : Operation). kept u.number) (sym w) ∙ n in
        let opened = ap (λ (u : Operation). is_open u) (sym w) ∙ o in
        grind (arith, nat_tests)
    go again true q e (inr j) =
        let l = again (most - 1) (and_parts (most == 0 || kept y.number) (keeps_first kept (most - 1) ops) e).1 j in
        let m = open_more y x ops true q (h.0 x j) in
        omega arith
    go again false q e (inr j) =
        let l = again most e j in
        let m = open_more y x ops false q (h.0 x j) in
        omega arith

kept_first : (kept : ℕ → Bool) (most : ℕ) (ops : List Operation) → Pairs (λ a b. a.number < b.number) ops
    → ((x : Operation) → In x ops → is_open x ≡ true → kept x.number ≡ false → most ≤ open_before x.number ops)
    → keeps_first kept most ops ≡ true
kept_first kept most [] h f = refl
kept_first kept most (y ∷ ops) h f = go (λ m g. kept_first kept m ops h.1 g) (is_open y) refl
  where
    none_open : open_before y.number (y ∷ ops) ≡ 0
    none_open = open_none y.number (y ∷ ops) (λ x i. elim i [
      | inl w ↦ subst (λ (u : Operation). y.number ≤ u.number) (sym w) (omega arith)
      | inr j ↦ let le = h.0 x j in omega arith
    ])

    go : ((m : ℕ) → ((x : Operation) → In x ops → is_open x ≡ true → kept x.number ≡ false
        → m ≤ open_before x.number ops)
        → keeps_first kept m ops ≡ true) → (b : Bool) → is_open y ≡ b
        → cond b ((most == 0 || kept y.number) && keeps_first kept (most - 1) ops) (keeps_first kept most ops) ≡ true
    go again true q =
        let rest = again (most - 1) (λ x i o n.
        let l = f x (inr i) o n in
        let m = open_more y x ops true q (h.0 x i) in
        omega arith) in
        let first = f y (inl refl) q in
        let none = none_open in
        grind (arith, nat_tests)
    go again false q = again most (λ x i o n.
        let l = f x (inr i) o n in
        let m = open_more y x ops false q (h.0 x i) in
        omega arith)

-- ---- closed parts

all_keeps : (vs : Values) → keeps_all vs ≡ true → (v : ℤ) → keeps_value vs v ≡ true
all_keeps values.All e v = refl
all_keeps (values.Only s) e v = absurd (cc e)

pub closed_calls : (vs : Values) (kept : ℕ → Bool) (ops : List Operation) → AllPairs (λ a b. a.number < b.number) ops
    → keeps_first kept (count_by (λ o. is_put (keeps_value vs) o.op o.«end») ops - count_by
    (λ o. is_taken (keeps_value vs) o.op o.«end») ops) ops
    ≡ true → list_all (λ o. op_fits (keeps_all vs) (keeps_value vs) (kept o.number) o.op o.«end») ops ≡ true
    → IsClosed (keeps_all vs) (keeps_value vs) kept (calls_of ops)
closed_calls vs kept ops rising first h = record {
  every = all_keeps vs;
  each = all_calls (λ number op returned. fits (keeps_all vs) (keeps_value vs) (kept number) op (reply_of returned)
      ≡ true) ops
      (λ o i c e. go o.number o.op o.«end» c e
      (each_passes (λ o. op_fits (keeps_all vs) (keeps_value vs) (kept o.number) o.op o.«end») ops h o i));
  pending = all_calls (λ number op returned. is_pending_removal op returned ≡ true → kept number ≡ false
      → put_count (keeps_value vs) (calls_of ops)
      ≤ taken_count (keeps_value vs) (calls_of ops) + pending_before number (calls_of ops)) ops
      (λ o i c e t n. sums _ _ _ _ _ _ (put_counts (keeps_value vs) ops) (taken_counts (keeps_value vs) ops)
      (pending_counts o.number ops)
      (first_kept kept _ ops (pairs_from_all (λ a b. a.number < b.number) ops rising) first o i
      (was o.number o.op o.«end» c e t) n));
}
  where
    go : (number : ℕ) (op : AnyOp) (e : End) (c : Call) → call_with number op e ≡ Some c
        → op_fits (keeps_all vs) (keeps_value vs) (kept number) op e ≡ true
        → fits (keeps_all vs) (keeps_value vs) (kept number) op (reply_of (return_of e)) ≡ true
    go number op e c q f = grind arith

    was : (number : ℕ) (op : AnyOp) (e : End) (c : Call) → call_with number op e ≡ Some c
        → is_pending_removal op (return_of e) ≡ true → is_open_removal op e ≡ true
    was number op e c q f = grind arith

    -- what holds of the counts of operations holds of those of calls
    sums : (put put' taken taken' before before' : ℕ) → put ≡ put' → taken ≡ taken' → before ≡ before'
        → put - taken ≤ before → put' ≤ taken' + before'
    sums put put' taken taken' before before' a b d l = omega arith

pub closed_fits : (vs : Values) (kept : ℕ → Bool) (ops : List Operation)
    → IsClosed (keeps_all vs) (keeps_value vs) kept (calls_of ops)
    → list_all (λ o. op_fits (keeps_all vs) (keeps_value vs) (kept o.number) o.op o.«end») ops ≡ true
closed_fits vs kept ops h =
    all_pass (λ o. op_fits (keeps_all vs) (keeps_value vs) (kept o.number) o.op o.«end») ops
    (λ o i. go o i o.«end» refl)
  where
    at : (o : Operation) → In o ops → (c : Call) → call_of o ≡ Some c
        → fits (keeps_all vs) (keeps_value vs) (kept c.number) c.op (reply_of c.returned) ≡ true
    at o i c e = all_at (λ e. fits (keeps_all vs) (keeps_value vs) (kept e.number) e.op (reply_of e.returned) ≡ true)
        (calls_of ops) h.each c (in_filter_map_from call_of o c ops i e)

    go : (o : Operation) → In o ops → (e : End) → o.«end» ≡ e
        → op_fits (keeps_all vs) (keeps_value vs) (kept o.number) o.op e ≡ true
    go o i (Returned when r) q =
        at o i (record { number = o.number; op = o.op; returned = Some (record { at = when; reply = r }) })
        (ap (call_with o.number o.op) q)
    go o i Pending q = at o i (record { number = o.number; op = o.op; returned = None })
        (ap (call_with o.number o.op) q)
    go o i Failed q = refl

pub closed_first : (vs : Values) (kept : ℕ → Bool) (ops : List Operation) → AllPairs (λ a b. a.number < b.number) ops
    → IsClosed (keeps_all vs) (keeps_value vs) kept (calls_of ops)
    → keeps_first kept (count_by (λ o. is_put (keeps_value vs) o.op o.«end») ops - count_by
    (λ o. is_taken (keeps_value vs) o.op o.«end») ops) ops ≡ true
closed_first vs kept ops rising h =
    kept_first kept _ ops (pairs_from_all (λ a b. a.number < b.number) ops rising) (λ o i t n. go o i o.«end» refl t n)
  where
    -- what holds of the counts of calls holds of those of operations
    sums : (put put' taken taken' before before' : ℕ) → put ≡ put' → taken ≡ taken' → before ≡ before'
        → put' ≤ taken' + before' → put - taken ≤ before
    sums put put' taken taken' before before' a b d l = omega arith

    most : ℕ
    most = count_by (λ o. is_put (keeps_value vs) o.op o.«end») ops - count_by
        (λ o. is_taken (keeps_value vs) o.op o.«end») ops

    go : (o : Operation) → In o ops → (e : End) → o.«end» ≡ e → is_open_removal o.op e ≡ true → kept o.number ≡ false
        → most ≤ open_before o.number ops
    go o i (Returned when r) q t n = absurd (false_is_not_true t)
    go o i Failed q t n = absurd (false_is_not_true t)
    go o i Pending q t n =
        let c : Call = record { number = o.number; op = o.op; returned = None } in
        let l = all_at (λ e. is_pending_removal e.op e.returned ≡ true → kept e.number ≡ false
        → put_count (keeps_value vs) (calls_of ops)
        ≤ taken_count (keeps_value vs) (calls_of ops) + pending_before e.number (calls_of ops))
        (calls_of ops) h.pending c (in_filter_map_from call_of o c ops i (ap (call_with o.number o.op) q)) in
        sums _ _ _ _ _ _ (put_counts (keeps_value vs) ops) (taken_counts (keeps_value vs) ops)
        (pending_counts o.number ops) (l (ap (λ z. z && true) t) n)

pub kept_shows : (vs : Values) (kept : ℕ → Bool) (h : ObjectCalls) → IsObjectHistory h
    → IsClosed (keeps_all vs) (keeps_value vs) kept (calls_of h.ops)
    → IsPart h (record { object = h.object; kind = h.kind; ops = filter (is_kept_call kept) h.ops })
kept_shows vs kept h is closed = record {
  object = refl;
  none_failed = filter_lives (λ o. kept o.number) h.ops;
  shows = λ none order v.
      let of_kind = all_calls (λ number op returned. kind_of op ≡ h.kind) h.ops
      (λ o i c e. all_at (λ o. kind_of o.op ≡ h.kind) h.ops is.of_kind o i) in
      let r = projection_valid h.kind (calls_of h.ops) (keeps_all vs) (keeps_value vs) kept order of_kind
      (rising_calls h.ops is.rising) closed v in
      none r.0 (subst (λ (cs : List Call). IsValidOrder h.kind cs r.0) (sym (kept_calls_of kept h.ops)) r.1);
}
