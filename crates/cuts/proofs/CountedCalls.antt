-- A count over the operations of an object is the count over its calls. So an object whose operations overdraw a
-- content has no valid order.
use Rattle.std.proofs.Common.{MatchBool, ◌≡◌, ℕ, ◌<◌, ◌≤◌, ◌+◌, ◌-◌, nat_lt, Bool, true, false, not, ◌&&◌}
use Rattle.std.proofs.Common.{List, [], ◌∷◌, Option, Some, None, count_by, refl, ap, sym, ◌∙◌, arith}
use Rattle.std.proofs.lemmas.Bool.Decides.{nat_tests}
use Rattle.std.proofs.lemmas.Option.{same_Some}
use Rattle.std.specs.List.{cons_option}
use Rattle.model.specs.declared.Kind.{Kind}
use Rattle.model.specs.Orders.{Call, HasNoValidOrder}
use Rattle.events.specs.declared.operations.End.{End}
use Rattle.events.specs.declared.operations.End.TheVariants.{Returned, Pending, Failed}
use Rattle.events.specs.declared.operations.Operation.{Operation}
use Rattle.events.specs.Operations.{call_with, call_of, calls_of, ObjectCalls, IsObjectHistory}
use Rattle.cuts.specs.declared.counting.Count.{Count}
use Rattle.cuts.specs.declared.counting.Counted.{Counted}
use Rattle.cuts.specs.Counts.{IsOverdrawn, most_before, set_since, taken_since}
use Rattle.cuts.specs.CutOperations.{is_set, is_gone}
use Rattle.cuts.specs.Kinds.Counting.{sets}
use Rattle.cuts.proofs.Bounds.{set_from, taken_from, none_taken, count_bounded}
use Rattle.cuts.proofs.Conserved.{one, tally, count_tally}
use Rattle.cuts.proofs.CutOperations.{rising_calls, calls_end}

-- whether an operation is a call, and the call passes the test
abbrev pub passes : (Call → Bool) → Option Call → Bool
passes q None = false
passes q (Some c) = q c

pub tally_calls : (p : Operation → Bool) (q : Call → Bool) → ((o : Operation) → p o ≡ passes q (call_of o))
    → (ops : List Operation) → tally p ops ≡ tally q (calls_of ops)
tally_calls p q same [] = refl
tally_calls p q same (o ∷ ops) = ap (λ b. one b + tally p ops) (same o) ∙ go (call_of o) (tally_calls p q same ops)
  where
    go : (z : Option Call) → tally p ops ≡ tally q (calls_of ops)
        → one (passes q z) + tally p ops ≡ tally q (cons_option z (calls_of ops))
    go None h = omega arith
    go (Some c) h = ap (λ (n : ℕ). one (q c) + n) h

-- as many operations pass a test as calls do
pub count_calls : (p : Operation → Bool) (q : Call → Bool) → ((o : Operation) → p o ≡ passes q (call_of o))
    → (ops : List Operation) → count_by p ops ≡ count_by q (calls_of ops)
count_calls p q same ops = sym (count_tally p ops) ∙ tally_calls p q same ops ∙ count_tally q (calls_of ops)

set_count : (what : Counted) (from : ℕ) (ops : List Operation)
    → count_by (λ o. is_set what from o.op o.«end») ops ≡ set_since what from (calls_of ops)
set_count what from ops = count_calls (λ o. is_set what from o.op o.«end») (set_from what from) (λ o. go o o.«end») ops
  where
    and_true : (b : Bool) → b ≡ (b && true)
    and_true true = refl
    and_true false = refl

    go : (o : Operation) (e : End) → is_set what from o.op e ≡ passes (set_from what from) (call_with o.number o.op e)
    go o (Returned at r) = refl
    go o Pending = and_true (sets what o.op None)
    go o Failed = refl

gone_count : (what : Counted) (from : ℕ) (ops : List Operation)
    → count_by (λ o. is_gone what from o.number o.op o.«end») ops ≡ taken_since what from (calls_of ops)
gone_count what from ops =
    count_calls (λ o. is_gone what from o.number o.op o.«end») (taken_from what from) (λ o. go o o.«end») ops
  where
    go : (o : Operation) (e : End)
        → is_gone what from o.number o.op e ≡ passes (taken_from what from) (call_with o.number o.op e)
    go o (Returned at r) = refl
    go o Pending = ap (λ b. b && not (nat_lt o.number from)) (sym (none_taken what o.op))
    go o Failed = refl

-- an object's history of which a content is overdrawn has no valid order
overdrawn_shows : (h : ObjectCalls) (count : Count) → IsObjectHistory h → IsOverdrawn h.kind count (calls_of h.ops)
    → HasNoValidOrder h.kind (calls_of h.ops)
overdrawn_shows h count is o order v =
    over _ _ o.more (count_bounded h.kind (calls_of h.ops) count.counted count.from o.most order
    (rising_calls h.ops is.rising) (calls_end h.object h.kind h.ops is) o.before v)
  where
    over : (a b : ℕ) → a < b → b ≤ a → ⊥
    over a b l m = absurd (omega arith)

-- more of the content was taken away than there can have been: it is overdrawn
overdrawn_from : (kind : Kind) (count : Count) (calls : List Call) (most set taken left : ℕ)
    → Some most ≡ most_before kind count.counted count.from
    → set ≡ set_since count.counted count.from calls → taken ≡ taken_since count.counted count.from calls
    → left ≡ taken - set → nat_lt most left ≡ true → IsOverdrawn kind count calls
overdrawn_from kind count calls most set taken left before e f g lt =
    record {
      most = most;
      before = sym before;
      more = more set taken (set_since count.counted count.from calls)
          (taken_since count.counted count.from calls) e f g lt;
    }
  where
    more : (set taken s t : ℕ) → set ≡ s → taken ≡ t → left ≡ taken - set → nat_lt most left ≡ true → most + s < t
    more set taken s t e f g lt = grind (arith, nat_tests)

-- the comparison of the two counts decides whether the content is overdrawn
pub decided : (h : ObjectCalls) (count : Count) (most set taken left : ℕ)
    → Some most ≡ most_before h.kind count.counted count.from
    → set ≡ count_by (λ o. is_set count.counted count.from o.op o.«end») h.ops
    → taken ≡ count_by (λ o. is_gone count.counted count.from o.number o.op o.«end») h.ops → left ≡ taken - set
    → MatchBool (nat_lt most left) (IsOverdrawn h.kind count (calls_of h.ops))
    (IsOverdrawn h.kind count (calls_of h.ops) → ⊥)
decided h count most set taken left before e f g = go (nat_lt most left) refl
  where
    fewer : (s t m : ℕ) → set ≡ s → taken ≡ t → m ≡ most → nat_lt most left ≡ false → m + s < t → ⊥
    fewer s t m e f d lt more = grind (arith, nat_tests)

    go : (b : Bool) → nat_lt most left ≡ b
        → MatchBool b (IsOverdrawn h.kind count (calls_of h.ops)) (IsOverdrawn h.kind count (calls_of h.ops) → ⊥)
    go true q = overdrawn_from h.kind count (calls_of h.ops) most set taken left before
        (e ∙ set_count count.counted count.from h.ops) (f ∙ gone_count count.counted count.from h.ops) g q
    go false q = λ o. fewer (set_since count.counted count.from (calls_of h.ops))
        (taken_since count.counted count.from (calls_of h.ops)) o.most
        (e ∙ set_count count.counted count.from h.ops) (f ∙ gone_count count.counted count.from h.ops)
        (same_Some o.most most (sym o.before ∙ sym before)) q o.more

-- an object whose operations take a content away too often has no valid order
pub count_exceeded : (h : ObjectCalls) (count : Count) (most set taken left : ℕ) → IsObjectHistory h
    → Some most ≡ most_before h.kind count.counted count.from
    → set ≡ count_by (λ o. is_set count.counted count.from o.op o.«end») h.ops
    → taken ≡ count_by (λ o. is_gone count.counted count.from o.number o.op o.«end») h.ops → left ≡ taken - set
    → nat_lt most left ≡ true → HasNoValidOrder h.kind (calls_of h.ops)
count_exceeded h count most set taken left is before e f g q =
    overdrawn_shows h count is
    (overdrawn_from h.kind count (calls_of h.ops) most set taken left before
    (e ∙ set_count count.counted count.from h.ops)
    (f ∙ gone_count count.counted count.from h.ops) g q)
