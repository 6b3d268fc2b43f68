-- The counts of what was ahead of a removal, over the operations of an object, are the counts over its calls: by
-- induction over the operations. So the law of `Ahead` holds of them.
use Rattle.std.proofs.Common.{rules, MatchBool, ◌≡◌, ℕ, ℤ, ◌<◌, ◌≤◌, ◌==◌, nat_lt, Bool, true, false}
use Rattle.std.proofs.Common.{not, ◌&&◌, ◌||◌, cond, List, [], ◌∷◌, Option, Some, None, All}
use Rattle.std.proofs.Common.{AllPairs, count_by, refl, ap, sym, ◌∙◌, subst, arith}
use Rattle.std.proofs.lemmas.Bool.Decides.{nat_tests}
use Rattle.std.specs.Ordering.{int_eq}
use Rattle.std.specs.Option.{option_map_or}
use Rattle.std.specs.List.{find, list_all, cons_option}
use Rattle.model.specs.declared.AnyOp.{AnyOp}
use Rattle.model.specs.declared.AnyOp.TheVariants.{Pop}
use Rattle.model.specs.Objects.{kind_of}
use Rattle.model.specs.Orders.{Call, HasNoValidOrder}
use Rattle.model.proofs.Lists.{in_from_contains, contains_from_in, all_at, all_from_in, pairs_from_all}
use Rattle.cuts.specs.Parts.{ended_before}
use Rattle.cuts.specs.Kinds.Containers.{puts_in, is_value_ahead}
use Rattle.events.specs.declared.operations.End.{End}
use Rattle.events.specs.declared.operations.Operation.{Operation}
use Rattle.events.specs.Operations.{call_with, call_of, calls_of, return_of, ObjectCalls, IsObjectHistory}
use Rattle.cuts.specs.CutOperations.{is_put, is_over, op_found, op_first_put, op_ahead_before, op_is_settled}
use Rattle.cuts.specs.CutOperations.{op_are_settled, op_is_put_ahead, op_may_take, op_may_precede, IsRemoval}
use Rattle.cuts.proofs.CutOperations.{rising_calls, calls_end, call_cases}
use Rattle.cuts.proofs.Sequences.{in_filter_map, in_filter_map_from, one_number}
use Rattle.cuts.proofs.CountedCalls.{passes, count_calls}
use Rattle.cuts.specs.Ahead.{found_by, first_put, ahead_before, are_settled, is_put_ahead, may_precede, IsBlocked}
use Rattle.cuts.proofs.Ahead.{pair_first, ahead_bounded}
use Rattle.cuts.proofs.Booleans.{false_is_not_true}

-- ---- operations and calls

is_put_ahead-calls : (keeps : ℤ → Bool) (from before : ℕ) (ops : List Operation)
    → count_by (λ o. op_is_put_ahead keeps from before o.number o.op o.«end») ops ≡ count_by
    (is_put_ahead keeps from before) (calls_of ops)
is_put_ahead-calls keeps from before ops = count_calls
    (λ o. op_is_put_ahead keeps from before o.number o.op o.«end») (is_put_ahead keeps from before)
    (λ o. go o o.«end») ops
  where
    go : (o : Operation) (e : End) → op_is_put_ahead keeps from before o.number o.op e ≡ passes
        (is_put_ahead keeps from before) (call_with o.number o.op e)
    go o e = grind arith

may_precede-calls : (keeps : ℤ → Bool) (number at : ℕ) (ops : List Operation)
    → count_by (op_may_precede keeps number at) ops ≡ count_by (may_precede keeps number at) (calls_of ops)
may_precede-calls keeps number at ops = count_calls (op_may_precede keeps number at) (may_precede keeps number at)
    (λ o. go o o.«end») ops
  where
    go : (o : Operation) (e : End)
        → (op_may_take keeps o.op e && not (o.number == number || nat_lt at o.number)) ≡ passes
        (may_precede keeps number at) (call_with o.number o.op e)
    go o e = search rules

first_put-calls : (b : ℤ) (ops : List Operation) → op_first_put b ops ≡ first_put b (calls_of ops)
first_put-calls b [] = refl
first_put-calls b (o ∷ os) = go o.«end» (first_put-calls b os)
  where
    go : (e : End) → op_first_put b os ≡ first_put b (calls_of os)
        → option_map_or (λ (o : Operation). o.number)
        (cond (is_put (int_eq b) o.op e) (Some o) (find (λ o. is_put (int_eq b) o.op o.«end») os)) 0
        ≡ first_put b (cons_option (call_with o.number o.op e) (calls_of os))
    go e h = grind arith

ahead_before-calls : (found : Option ℤ) (op : AnyOp) (number : ℕ) (ops : List Operation)
    → op_ahead_before found op number ops ≡ ahead_before found op number (calls_of ops)
ahead_before-calls found op number ops = grind (arith, first_put-calls)

found_return : (op : AnyOp) (e : End) → op_found op e ≡ found_by op (return_of e)
found_return op e = grind arith

call_removal : (op : AnyOp) (number : ℕ) (e : End) (x : ℕ × Option ℤ) → op_found op e ≡ Some x
    → call_with number op e ≡ Some (record { number = number; op = op; returned = return_of e })
call_removal op number e x q = grind arith

are_settled-calls : (found : Option ℤ) (op : AnyOp) (from : ℕ) (ops : List Operation)
    → op_are_settled found op from ops ≡ are_settled found op from (calls_of ops)
are_settled-calls None op from ops = refl
are_settled-calls (Some b) Pop from ops = each ops
  where
    with_operation : (o : Operation) (es : List Call) (e : End) (t : Bool)
        → t ≡ list_all (λ e. not (puts_in (int_eq b) e.op) || ended_before from e.returned) es
        → ((not (is_put (int_eq b) o.op e) || is_over from e) && t) ≡ list_all
        (λ e. not (puts_in (int_eq b) e.op) || ended_before from e.returned)
        (cons_option (call_with o.number o.op e) es)
    with_operation o es e t h = grind arith

    each : (ops : List Operation) → list_all (op_is_settled b from) ops ≡ list_all
        (λ e. not (puts_in (int_eq b) e.op) || ended_before from e.returned) (calls_of ops)
    each [] = refl
    each (o ∷ os) = with_operation o (calls_of os) o.«end» (list_all (op_is_settled b from) os) (each os)
are_settled-calls (Some b) op from ops = refl

-- ---- a blocked removal as an operation

-- the removal of a number, as a call
blocked_from : (ops : List Operation) (number from : ℕ) (op : AnyOp) (at : ℕ) (found : Option ℤ)
    (t : IsRemoval ops number op at found) → op_are_settled found op from ops ≡ true
    → count_by (op_may_precede (is_value_ahead found op) number at) ops < count_by
    (λ o. op_is_put_ahead (is_value_ahead found op) from (op_ahead_before found op number ops) o.number
    o.op o.«end») ops → IsBlocked number from (calls_of ops)
blocked_from ops number from op at found t settled l =
    let o = t.operation in
    let told : op_found o.op o.«end» ≡ Some (at, found) = subst
    (λ (z : AnyOp). ◌≡◌ {A = Option (ℕ × Option ℤ)} (op_found z o.«end») (Some (at, found))) (sym t.same) t.told in
    let c : Call = record { number = o.number; op = o.op; returned = return_of o.«end» } in
    let keeps = is_value_ahead found op in
    let here : count_by (may_precede keeps number at) (calls_of ops) < count_by
    (is_put_ahead keeps from (ahead_before found op number (calls_of ops))) (calls_of ops) =
    less _ _ _ _ (may_precede-calls keeps number at ops)
    (is_put_ahead-calls keeps from (op_ahead_before found op number ops) ops
    ∙ ap (λ (z : ℕ). count_by (is_put_ahead keeps from z) (calls_of ops)) (ahead_before-calls found op number ops)) l in
    record {
      removal = c;
      known = contains_from_in (calls_of ops) c
          (in_filter_map_from call_of o c ops (in_from_contains ops o t.known)
          (call_removal o.op o.number o.«end» (at, found) told));
      named = t.named;
      at = at;
      found = found;
      told = sym (found_return o.op o.«end») ∙ told;
      settled = subst (λ (z : AnyOp). are_settled found z from (calls_of ops) ≡ true) (sym t.same)
          (sym (are_settled-calls found op from ops) ∙ settled);
      more = subst
          (λ (z : AnyOp). count_by (may_precede (is_value_ahead found z) number at) (calls_of ops) <
          count_by (is_put_ahead (is_value_ahead found z) from (ahead_before found z number (calls_of ops)))
          (calls_of ops)) (sym t.same) here;
    }
  where
    less : (few few' many many' : ℕ) → few ≡ few' → many ≡ many' → few < many → few' < many'
    less few few' many many' e f l = omega arith

-- the removal of a blocked number, as an operation
pub blocked_operation : (ops : List Operation) (number from : ℕ) (b : IsBlocked number from (calls_of ops))
    → IsRemoval ops number b.removal.op b.at b.found
blocked_operation ops number from b =
    let o = in_filter_map call_of b.removal ops (in_from_contains (calls_of ops) b.removal b.known) in
    let k = call_cases o.0 b.removal o.2 in
    record {
      operation = o.0;
      known = contains_from_in ops o.0 o.1;
      named = sym k.0 ∙ b.named;
      same = sym k.1;
      told = found_return b.removal.op o.0.«end» ∙ ap (found_by b.removal.op) (sym k.2) ∙ b.told;
    }

-- two removals with one number are one
one_removal : (ops : List Operation) (number : ℕ) (op op' : AnyOp) (at at' : ℕ) (found found' : Option ℤ)
    → AllPairs (λ a b. a.number < b.number) ops → IsRemoval ops number op at found
    → IsRemoval ops number op' at' found'
    → (op ≡ op') × (at ≡ at') × (found ≡ found')
one_removal ops number op op' at at' found found' rising one other =
    let own : one.operation ≡ other.operation = one_number (λ (z : Operation). z.number) one.operation other.operation
    ops (pairs_from_all (λ a b. a.number < b.number) ops rising)
    (in_from_contains ops one.operation one.known) (in_from_contains ops other.operation other.known)
    (one.named ∙ sym other.named) in
    let ops_same : op ≡ op' = sym one.same ∙ ap (λ (z : Operation). z.op) own ∙ other.same in
    let told : ◌≡◌ {A = Option (ℕ × Option ℤ)} (Some (at, found)) (Some (at', found')) =
    sym one.told ∙ ap (λ (z : AnyOp). op_found z one.operation.«end») ops_same
    ∙ ap (λ (z : Operation). op_found op' z.«end») own ∙ other.told in
    let parts = pair_first at at' found found' told in
    (ops_same, parts.0, parts.1)

-- ---- the test decides

-- a test that compares the two counts decides
ahead_decided : (h : ObjectCalls) (number from : ℕ) (op : AnyOp) (at : ℕ) (found : Option ℤ)
    (ahead takes : ℕ) → IsObjectHistory h → IsRemoval h.ops number op at found
    → ahead ≡ count_by
    (λ o. op_is_put_ahead (is_value_ahead found op) from (op_ahead_before found op number h.ops) o.number
    o.op o.«end») h.ops → takes ≡ count_by (op_may_precede (is_value_ahead found op) number at) h.ops
    → MatchBool (op_are_settled found op from h.ops && nat_lt takes ahead)
    (IsBlocked number from (calls_of h.ops)) (IsBlocked number from (calls_of h.ops) → ⊥)
ahead_decided h number from op at found ahead takes is t e f = go (op_are_settled found op from h.ops)
    (nat_lt takes ahead) refl refl
  where
    less : (few few' many many' : ℕ) → few ≡ few' → many ≡ many' → nat_lt few many ≡ true → few' < many'
    less few few' many many' e f l = grind (arith, nat_tests)

    not_less : (few few' many many' : ℕ) → few ≡ few' → many ≡ many' → nat_lt few many ≡ false → few' < many' → ⊥
    not_less few few' many many' e f l m = grind (arith, nat_tests)

    go : (y z : Bool) → op_are_settled found op from h.ops ≡ y → nat_lt takes ahead ≡ z
        → MatchBool (y && z) (IsBlocked number from (calls_of h.ops)) (IsBlocked number from (calls_of h.ops) → ⊥)
    go true true p q = blocked_from h.ops number from op at found t p (less _ _ _ _ f e q)
    go true false p q = λ b.
        let u = blocked_operation h.ops number from b in
        let s = one_removal h.ops number op b.removal.op at b.at found b.found is.rising t u in
        let calls = calls_of h.ops in
        let counted_takes : takes ≡ count_by (may_precede (is_value_ahead b.found b.removal.op) number b.at) calls =
        f ∙ may_precede-calls (is_value_ahead found op) number at h.ops
        ∙ ap (λ (z : AnyOp). count_by (may_precede (is_value_ahead found z) number at) calls) s.0
        ∙ ap (λ (z : ℕ). count_by (may_precede (is_value_ahead found b.removal.op) number z) calls) s.1
        ∙ ap (λ (z : Option ℤ). count_by (may_precede (is_value_ahead z b.removal.op) number b.at) calls) s.2 in
        let counted_puts : ahead ≡ count_by
        (is_put_ahead (is_value_ahead b.found b.removal.op) from
        (ahead_before b.found b.removal.op number calls)) calls =
        e ∙ is_put_ahead-calls (is_value_ahead found op) from (op_ahead_before found op number h.ops) h.ops
        ∙ ap (λ (z : ℕ). count_by (is_put_ahead (is_value_ahead found op) from z) calls)
        (ahead_before-calls found op number h.ops)
        ∙ ap (λ (z : AnyOp). count_by
        (is_put_ahead (is_value_ahead found z) from (ahead_before found z number calls)) calls) s.0
        ∙ ap (λ (z : Option ℤ). count_by
        (is_put_ahead (is_value_ahead z b.removal.op) from (ahead_before z b.removal.op number calls))
        calls) s.2 in
        not_less _ _ _ _ counted_takes counted_puts q b.more
    go false z p q = λ b.
        let u = blocked_operation h.ops number from b in
        let s = one_removal h.ops number op b.removal.op at b.at found b.found is.rising t u in
        false_is_not_true (sym p ∙ are_settled-calls found op from h.ops
        ∙ ap (λ (z : AnyOp). are_settled found z from (calls_of h.ops)) s.0
        ∙ ap (λ (z : Option ℤ). are_settled z b.removal.op from (calls_of h.ops)) s.2 ∙ b.settled)

-- an object's history in which a removal is blocked has no valid order
pub blocked_shows : (h : ObjectCalls) (number from : ℕ) → IsObjectHistory h
    → IsBlocked number from (calls_of h.ops) → HasNoValidOrder h.kind (calls_of h.ops)
blocked_shows h number from is b order v =
    let of_kind : All (λ e. kind_of e.op ≡ h.kind) (calls_of h.ops) = all_from_in
    (λ e. kind_of e.op ≡ h.kind) (calls_of h.ops) (λ e i.
    let o = in_filter_map call_of e h.ops i in
    ap kind_of (call_cases o.0 e o.2).1 ∙ all_at (λ o. kind_of o.op ≡ h.kind) h.ops is.of_kind o.0 o.1) in
    let l = ahead_bounded h.kind (calls_of h.ops) b.removal b.at from b.found order of_kind
    (rising_calls h.ops is.rising) (calls_end h.object h.kind h.ops is) b.known b.told b.settled v in
    over _ _ (subst
    (λ (n : ℕ). count_by
    (is_put_ahead (is_value_ahead b.found b.removal.op) from
    (ahead_before b.found b.removal.op n (calls_of h.ops))) (calls_of h.ops)
    ≤ count_by (may_precede (is_value_ahead b.found b.removal.op) n b.at) (calls_of h.ops)) b.named l) b.more
  where
    over : (a c : ℕ) → a ≤ c → c < a → ⊥
    over a c l m = omega arith

-- the same, of operations that are those of the history
pub decided_of : (h : ObjectCalls) (ops : List Operation) (number own from : ℕ) (op : AnyOp) (at : ℕ)
    (found : Option ℤ) (ahead takes : ℕ) → IsObjectHistory h → ops ≡ h.ops → own ≡ number
    → IsRemoval ops number op at found
    → ahead ≡ count_by
    (λ o. op_is_put_ahead (is_value_ahead found op) from (op_ahead_before found op own ops) o.number o.op
    o.«end») ops
    → takes ≡ count_by (op_may_precede (is_value_ahead found op) own at) ops
    → MatchBool (op_are_settled found op from ops && nat_lt takes ahead)
    (IsBlocked number from (calls_of h.ops)) (IsBlocked number from (calls_of h.ops) → ⊥)
decided_of h ops number own from op at found ahead takes is same named t e f =
    let e' = e
    ∙ ap (λ (os : List Operation). count_by
    (λ o. op_is_put_ahead (is_value_ahead found op) from (op_ahead_before found op own os) o.number o.op
    o.«end») os) same
    ∙ ap (λ (k : ℕ). count_by
    (λ o. op_is_put_ahead (is_value_ahead found op) from (op_ahead_before found op k h.ops) o.number
    o.op o.«end») h.ops) named in
    let f' = f
    ∙ ap (λ (os : List Operation). count_by (op_may_precede (is_value_ahead found op) own at) os) same
    ∙ ap (λ (k : ℕ). count_by (op_may_precede (is_value_ahead found op) k at) h.ops) named in
    subst (λ (os : List Operation). MatchBool (op_are_settled found op from os && nat_lt takes ahead)
    (IsBlocked number from (calls_of h.ops)) (IsBlocked number from (calls_of h.ops) → ⊥)) (sym same)
    (ahead_decided h number from op at found ahead takes is
    (subst (λ (os : List Operation). IsRemoval os number op at found) same t) e' f')
