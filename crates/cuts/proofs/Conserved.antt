-- Along calls as many kept values are taken out as were put in and are not contained: each step keeps this balance, by
-- cases on the operations, and the calls of an order are counted among those of the history.
use Rattle.std.proofs.Common.{rules, ◌≡◌, ◌≢◌, inl, inr, ℕ, ℤ, ◌<◌, ◌≤◌, ◌+◌, Bool, true, false, ◌&&◌, cond, List, []}
use Rattle.std.proofs.Common.{◌∷◌, ◌++◌, length, Option, Some, None, AllPairs, IfSome, IsSome, is_some, filter}
use Rattle.std.proofs.Common.{count_by, refl, ap, sym, ◌∙◌, subst, arith}
use Rattle.std.proofs.lemmas.List.Recursion.{is_count_by}
use Rattle.model.specs.declared.Kind.{Kind}
use Rattle.model.specs.declared.AnyOp.{AnyOp}
use Rattle.model.specs.declared.AnyReply.{AnyReply}
use Rattle.model.specs.Objects.{Content, queue, stack, heap, empty, with_value, next}
use Rattle.model.specs.Orders.{Call, Return, RepliesAlong, IsValidOrder}
use Rattle.model.specs.Lists.{In}
use Rattle.model.proofs.Lists.{Pairs, in_append, in_left, in_right, in_split}
use Rattle.cuts.specs.Parts.{reply_of, is_kept_value, takes_out, put_count, taken_count}
use Rattle.cuts.specs.Kinds.Containers.{puts_in, is_removal}
use Rattle.cuts.proofs.Ordered.{calls_apart, in_calls, in_entries, entries_apart}
use Rattle.cuts.proofs.Booleans.{false_is_not_true, true_or_false}

-- 1 for true, 0 for false
abbrev pub one : Bool → ℕ
one b = cond b 1 0

-- how many pass, by recursion
abbrev pub tally : {X : Type 0} → (X → Bool) → List X → ℕ
tally p [] = 0
tally p (x ∷ xs) = one (p x) + tally p xs

-- the count by recursion is the count
pub count_tally : {X : Type 0} (p : X → Bool) (xs : List X) → tally p xs ≡ count_by p xs
count_tally p xs = is_count_by (tally p) p refl (λ x xs. go (p x) (tally p xs)) xs
  where
    go : (b : Bool) (t : ℕ) → one b + t ≡ cond b (1 + t) t
    go true t = refl
    go false t = omega arith

-- a test that passes only where another does counts no more
pub one_le : (a b : Bool) → (a ≡ true → b ≡ true) → one a ≤ one b
one_le true b f = let e = ap one (f refl) in omega arith
one_le false b f = omega arith

-- no fewer pass a weaker test
pub tally_le : {X : Type 0} (p q : X → Bool) (xs : List X) → ((x : X) → In x xs → p x ≡ true → q x ≡ true)
    → tally p xs ≤ tally q xs
tally_le p q [] f = omega arith
tally_le p q (x ∷ xs) f =
    let here = one_le (p x) (q x) (f x (inl refl)) in
    let rest = tally_le p q xs (λ y i. f y (inr i)) in
    omega arith

-- how many calls put in a kept value
abbrev pub puts : (ℤ → Bool) → List Call → ℕ
puts keeps es = tally (λ e. puts_in keeps e.op) es

-- how many calls returned a kept value that they took out
abbrev pub taken : (ℤ → Bool) → List Call → ℕ
taken keeps es = tally (λ e. takes_out keeps e.op (reply_of e.returned)) es

-- ---- how many kept values an object contains

-- how many kept values a queue, a stack or a heap contains; 0 for other contents
abbrev pub kept_size : (ℤ → Bool) → Content → ℕ
kept_size keeps (queue vs) = length (filter keeps vs)
kept_size keeps (stack vs) = length (filter keeps vs)
kept_size keeps (heap vs) = length (filter keeps vs)
kept_size keeps c = 0

-- how many kept values are in a list with one more in front
pub size_cons : (keeps : ℤ → Bool) (v : ℤ) (vs : List ℤ)
    → length (filter keeps (v ∷ vs)) ≡ one (keeps v) + length (filter keeps vs)
size_cons keeps v vs = grind arith

-- how many kept values are in a list with one more at the end
pub size_after : (keeps : ℤ → Bool) (v : ℤ) (vs : List ℤ)
    → length (filter keeps (vs ++ v ∷ [])) ≡ one (keeps v) + length (filter keeps vs)
size_after keeps v [] = grind arith
size_after keeps v (w ∷ ws) = let rest = size_after keeps v ws in grind arith

-- how many kept values are in a bag with one more
pub size_with_value : (keeps : ℤ → Bool) (v : ℤ) (vs : List ℤ)
    → length (filter keeps (with_value v vs)) ≡ one (keeps v) + length (filter keeps vs)
size_with_value keeps v [] = grind arith
size_with_value keeps v (w ∷ ws) = let rest = size_with_value keeps v ws in grind arith

-- a step changes it as the operation and its reply say
abbrev Balanced : (ℤ → Bool) → AnyOp → Content → Content → AnyReply → Type 0
Balanced keeps op c after reply =
    kept_size keeps after + one (takes_out keeps op (Some reply)) ≡ kept_size keeps c + one (puts_in keeps op)

balanced : (keeps : ℤ → Bool) (c : Content) (op : AnyOp) → IfSome (next c op) (λ p. Balanced keeps op c p.0 p.1)
balanced keeps c op = grind (arith, size_after, size_cons, size_with_value)

-- ---- along calls

-- a call and those after it, in numbers
pub record Turn (keeps : ℤ → Bool) (call : Call) (before after : Content) (reply : AnyReply) : Type 0 where
  pub balance : kept_size keeps after + one (takes_out keeps call.op (Some reply))
      ≡ kept_size keeps before + one (puts_in keeps call.op)
  pub fewer : one (takes_out keeps call.op (reply_of call.returned)) ≤ one (takes_out keeps call.op (Some reply))
  pub open_call : is_some call.returned ≡ false → one (takes_out keeps call.op (reply_of call.returned)) ≡ 0

-- nothing and false is false
pub and_false : (b : Bool) → (b && false) ≡ false
and_false true = refl
and_false false = refl

-- one call of an order changes the number of kept values by what it puts in and takes out
pub turn : (keeps : ℤ → Bool) (call : Call) (before after : Content) (reply : AnyReply)
    → next before call.op ≡ Some (after, reply)
    → IfSome call.returned (λ r. r.reply ≡ reply) → Turn keeps call before after reply
turn keeps call before after reply does agrees = record {
  balance = subst (λ z. IfSome z (λ p. Balanced keeps call.op before p.0 p.1)) does (balanced keeps before call.op);
  fewer = grind arith;
  open_call = grind arith;
}

-- along an order no more kept values are taken out than are there at first and are put in
pub conserved : (keeps : ℤ → Bool) (es : List Call) (c : Content) → RepliesAlong c es
    → taken keeps es ≤ kept_size keeps c + puts keeps es
conserved keeps [] c h = omega arith
conserved keeps (e ∷ es) c h =
    let t = turn keeps e c h.0 h.1 h.2 h.3 in
    let rest = conserved keeps es h.0 h.4 in
    omega arith

-- ---- the calls, and those in an order

count_split : {X : Type 0} (p : X → Bool) (xs : List X) (x : X) (ys : List X)
    → tally p (xs ++ x ∷ ys) ≡ one (p x) + tally p (xs ++ ys)
count_split p [] x ys = refl
count_split p (z ∷ zs) x ys = let h = count_split p zs x ys in omega arith

without : {X : Type 0} (y x : X) (xs ys : List X) → In y (xs ++ x ∷ ys) → (y ≡ x → ⊥) → In y (xs ++ ys)
without y x xs ys i ne = elim (in_append y xs (x ∷ ys) i) [
  | inl j ↦ in_left y xs ys j
  | inr j ↦ elim j [ inl e ↦ absurd (ne e) | inr k ↦ in_right y xs ys k ]
]

-- no fewer pass among more
pub count_among : {X : Type 0} (p : X → Bool) (xs ys : List X) → Pairs (λ x y. x ≢ y) xs
    → ((x : X) → In x xs → p x ≡ true → In x ys) → tally p xs ≤ tally p ys
count_among p [] ys h f = omega arith
count_among {X} p (x ∷ xs) ys h f = elim (true_or_false (p x)) [
  | inr no_pass ↦
      let rest = count_among p xs ys h.1 (λ y i. f y (inr i)) in
      let here = ap one no_pass in
      omega arith
  | inl pass ↦
      let s = in_split x ys (f x (inl refl) pass) in
      let here = ap one pass in
      let rest = count_among p xs (s.0 ++ s.1) h.1
      (λ y i e. without y x s.0 s.1 (subst (In y) s.2 (f y (inr i) e)) (λ q. h.0 y i (sym q))) in
      let there = ap (tally p) s.2 ∙ count_split p s.0 x s.1 in
      omega arith
]

-- an order puts in no more, and takes out no less by calls that returned
pub record Counted (keeps : ℤ → Bool) (calls entries : List Call) : Type 0 where
  pub put : puts keeps entries ≤ put_count keeps calls
  pub took : taken_count keeps calls ≤ taken keeps entries

-- the calls of a valid order are counted as the calls are
pub counted_entries : (kind : Kind) (calls : List Call) (keeps : ℤ → Bool) (order : List ℤ)
    → AllPairs (λ a b. a.number < b.number) calls
    → (v : IsValidOrder kind calls order) → Counted keeps calls v.entries
counted_entries kind calls keeps order rising v =
    let more_puts = count_among (λ e. puts_in keeps e.op) v.entries calls (entries_apart v) (λ e i p. in_calls v e i) in
    let more_takes = count_among (λ e. takes_out keeps e.op (reply_of e.returned)) calls v.entries
    (calls_apart calls rising) (λ e i p. in_entries v e i (returned (is_removal e.op) e.returned p)) in
    let all_puts = count_tally (λ e. puts_in keeps e.op) calls in
    let all_takes = count_tally (λ e. takes_out keeps e.op (reply_of e.returned)) calls in
    record { put = omega arith; took = omega arith }
  where
    returned : (t : Bool) (o : Option Return) → (t && is_kept_value keeps (reply_of o)) ≡ true → IsSome o
    returned t None e = absurd (false_is_not_true (sym (and_false t) ∙ e))
    returned t (Some r) e = refl

-- an empty object contains no kept values
pub size_empty : (keeps : ℤ → Bool) (k : Kind) → kept_size keeps (empty k) ≡ 0
size_empty keeps k = search rules
