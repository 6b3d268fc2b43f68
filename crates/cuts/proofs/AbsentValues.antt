-- The operations without what was done early with a value that is absent are a part: their calls are those of the law
-- in `Absences`, and a test that compares two counts of operations compares those of their calls.
use Rattle.std.proofs.Common.{rules, ◌≡◌, ℕ, ℤ, nat_le, Bool, true, not, ◌&&◌, ◌||◌, cond, List}
use Rattle.std.proofs.Common.{None, count_by, filter, refl, ap, sym, ◌∙◌, subst, arith}
use Rattle.std.proofs.lemmas.Bool.Decides.{nat_tests}
use Rattle.model.specs.Orders.{Call, IsValidOrder}
use Rattle.events.specs.declared.operations.End.{End}
use Rattle.events.specs.declared.operations.Operation.{Operation}
use Rattle.events.specs.Operations.{call_with, call_of, calls_of, ObjectCalls, IsObjectHistory}
use Rattle.cuts.specs.Absent.{is_put_before, is_taken_before, IsAbsent, calls_without}
use Rattle.cuts.specs.Cuts.{IsPart}
use Rattle.cuts.specs.CutOperations.{has_failed, op_is_put_before, op_is_taken_before, is_cut_out, stays}
use Rattle.cuts.proofs.Absences.{without_valid}
use Rattle.cuts.proofs.CountedCalls.{passes, count_calls}
use Rattle.cuts.proofs.Kept.{own, own_is, own_call, as_filter, filter_lives}
use Rattle.cuts.proofs.CutOperations.{bind, cut_history, cut_calls, rising_calls}

abbrev late_call : ℤ → ℕ → Call → Bool
late_call v before e = not (is_put_before v before e || is_taken_before v before e)

operation_call : (v : ℤ) (before : ℕ) (o : Operation)
    → bind (own (stays v before) o) call_of ≡ bind (call_of o) (own (late_call v before))
operation_call v before o = own_call (stays v before) o ∙ sym (part o.«end»)
  where
    part : (e : End) → bind (call_with o.number o.op e) (own (late_call v before))
        ≡ cond (not (has_failed e)
        && not (op_is_put_before v before o.number o.op e || op_is_taken_before v before o.op e))
        (call_with o.number o.op e) None
    part e = grind arith

pub late_history : (v : ℤ) (before : ℕ) (h : ObjectCalls) → IsObjectHistory h
    → IsObjectHistory (record { object = h.object; kind = h.kind; ops = filter (stays v before) h.ops })
late_history v before h is =
    subst (λ (ops : List Operation). IsObjectHistory (record { object = h.object; kind = h.kind; ops = ops }))
    (as_filter (stays v before) h.ops)
    (cut_history h.object h.kind h.ops (own (stays v before)) (λ o p i e. own_is (stays v before) o p e) is)

pub late_calls_of : (v : ℤ) (before : ℕ) (ops : List Operation)
    → calls_of (filter (stays v before) ops) ≡ calls_without v before (calls_of ops)
late_calls_of v before ops = ap calls_of (sym (as_filter (stays v before) ops))
    ∙ cut_calls (own (stays v before)) (own (late_call v before)) ops (operation_call v before)
    ∙ as_filter (late_call v before) (calls_of ops)

-- ---- how many

put_counts : (v : ℤ) (before : ℕ) (ops : List Operation)
    → count_by (λ o. op_is_put_before v before o.number o.op o.«end») ops
    ≡ count_by (is_put_before v before) (calls_of ops)
put_counts v before ops =
    count_calls (λ o. op_is_put_before v before o.number o.op o.«end») (is_put_before v before) (λ o. go o o.«end») ops
  where
    go : (o : Operation) (e : End)
        → op_is_put_before v before o.number o.op e ≡ passes (is_put_before v before) (call_with o.number o.op e)
    go o e = search rules

taken_counts : (v : ℤ) (before : ℕ) (ops : List Operation)
    → count_by (λ o. op_is_taken_before v before o.op o.«end») ops ≡ count_by (is_taken_before v before) (calls_of ops)
taken_counts v before ops =
    count_calls (λ o. op_is_taken_before v before o.op o.«end») (is_taken_before v before) (λ o. go o o.«end») ops
  where
    go : (o : Operation) (e : End)
        → op_is_taken_before v before o.op e ≡ passes (is_taken_before v before) (call_with o.number o.op e)
    go o e = grind arith

pub absent_from : (v : ℤ) (before : ℕ) (ops : List Operation) (put taken : ℕ)
    → put ≡ count_by (λ o. op_is_put_before v before o.number o.op o.«end») ops
    → taken ≡ count_by (λ o. op_is_taken_before v before o.op o.«end») ops → nat_le put taken ≡ true
    → IsAbsent v before (calls_of ops)
absent_from v before ops put taken e f le = record {
  taken =
      let puts = put_counts v before ops in
      let takes = taken_counts v before ops in
      grind (arith, nat_tests);
}

pub absent_to : (v : ℤ) (before : ℕ) (ops : List Operation) (put taken : ℕ)
    → put ≡ count_by (λ o. op_is_put_before v before o.number o.op o.«end») ops
    → taken ≡ count_by (λ o. op_is_taken_before v before o.op o.«end») ops → IsAbsent v before (calls_of ops)
    → nat_le put taken ≡ true
absent_to v before ops put taken e f h =
    let p = put_counts v before ops in
    let t = taken_counts v before ops in
    let fewer = h.taken in
    grind (arith, nat_tests)

pub late_shows : (v : ℤ) (before : ℕ) (h : ObjectCalls) → IsObjectHistory h → IsAbsent v before (calls_of h.ops)
    → IsPart h (record { object = h.object; kind = h.kind; ops = filter (stays v before) h.ops })
late_shows v before h is absent = record {
  object = refl;
  none_failed = filter_lives (λ o. not (is_cut_out v before o)) h.ops;
  shows = λ none order valid.
      let r = without_valid h.kind (calls_of h.ops) v before order (rising_calls h.ops is.rising) absent valid in
      none r.0 (subst (λ (cs : List Call). IsValidOrder h.kind cs r.0) (sym (late_calls_of v before h.ops)) r.1);
}
