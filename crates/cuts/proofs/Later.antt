-- Suffixes: what `operation_from` makes of the operations gives `calls_from`, and is a part. By cases of how an
-- operation ends, and then by the law of suffixes.
use Rattle.std.proofs.Common.{arith, rules, ◌≡◌, ◌≢◌, inl, inr, ℕ, ℤ, ◌<◌, ◌==◌, nat_lt, Bool, true, false, cond, List}
use Rattle.std.proofs.Common.{Option, Some, None, IfSome, All, Contains, refl, ap, sym, ◌∙◌, subst}
use Rattle.std.specs.Prelude.{option_map}
use Rattle.std.specs.Option.{option_map_or}
use Rattle.std.specs.List.{filter_map}
use Rattle.std.proofs.lemmas.Option.{same_Some}
use Rattle.std.proofs.lemmas.Bool.{eqb-true}
use Rattle.model.specs.declared.AnyOp.{AnyOp}
use Rattle.model.specs.declared.AnyReply.{AnyReply}
use Rattle.model.specs.Objects.{kind_of}
use Rattle.model.specs.Orders.{Call, Return, IsValidOrder}
use Rattle.model.specs.Lists.{In}
use Rattle.model.proofs.Lists.{Pairs, in_from_contains, contains_from_in, all_from_in, all_at, pairs_from_all}
use Rattle.events.specs.declared.operations.End.{End}
use Rattle.events.specs.declared.operations.End.TheVariants.{Returned, Pending, Failed}
use Rattle.events.specs.declared.operations.Operation.{Operation}
use Rattle.events.specs.Operations.{call_with, call_of, calls_of, return_of, ObjectCalls, IsObjectHistory}
use Rattle.cuts.specs.Parts.{IsStart, written_before, call_from, calls_from}
use Rattle.cuts.specs.Kinds.Starts.{leaves, key_of}
use Rattle.cuts.specs.Cuts.{IsPart, IsSuffix}
use Rattle.cuts.specs.CutOperations.{has_failed, IsOnKey, is_over, as_returned, as_write, as_pending}
use Rattle.cuts.specs.CutOperations.{overlapping_operation, operation_later, operation_from}
use Rattle.cuts.proofs.Sequences.{one_number, in_filter_map, in_filter_map_from}
use Rattle.cuts.proofs.Overlaps.{before_facts}
use Rattle.cuts.proofs.Suffixes.{start_valid}
use Rattle.cuts.proofs.CutOperations.{bind, IsCutOperation, cut_history, cut_calls, cut_lives, did_not_fail}
use Rattle.cuts.proofs.CutOperations.{all_calls, call_cases}

-- ---- cut_operations

-- what a reply tells is left by an operation of the same kind
pub leaves_kind : (op : AnyOp) (reply : AnyReply)
    → IfSome (leaves op reply) (λ f. IfSome f (λ p. kind_of p.0 ≡ kind_of op))
leaves_kind op reply = search rules

-- ---- where a suffix begins

-- the operation with which a suffix begins
pub record IsStartOperation (ops : List Operation) (from at : ℕ) (first : Option (AnyOp × AnyReply))
    (reply : AnyReply) : Type 0 where
  pub operation : Operation
  pub known : In operation ops
  pub number : operation.number ≡ from
  pub ended : operation.«end» ≡ Returned at reply
  pub told : leaves operation.op reply ≡ Some first
  pub one_key : All (IsOnKey (key_of operation.op)) ops

returned_end : (e : End) (at : ℕ) (reply : AnyReply) → return_of e ≡ Some (record { at = at; reply = reply })
    → e ≡ Returned at reply
returned_end e at reply q = grind arith

on_key_each : (ops : List Operation) (key : Option ℤ) → All (λ e. key_of e.op ≡ key) (calls_of ops)
    → All (IsOnKey key) ops
on_key_each ops key h = all_from_in (IsOnKey key) ops (λ o i. go o i o.«end» refl)
  where
    at : (o : Operation) → In o ops → (r : Option Return)
        → call_of o ≡ Some (record { number = o.number; op = o.op; returned = r }) → key_of o.op ≡ key
    at o i r e = all_at (λ e. key_of e.op ≡ key) (calls_of ops) h
        (record { number = o.number; op = o.op; returned = r })
        (in_filter_map_from call_of o (record { number = o.number; op = o.op; returned = r }) ops i e)

    go : (o : Operation) → In o ops → (e : End) → o.«end» ≡ e → IsOnKey key o
    go o i (Returned t r) q = inr (at o i (Some (record { at = t; reply = r })) (ap (call_with o.number o.op) q))
    go o i Pending q = inr (at o i None (ap (call_with o.number o.op) q))
    go o i Failed q = inl (ap has_failed q)

-- the call with which a suffix begins is one of the operations
pub start_operation : (ops : List Operation) (from at : ℕ) (first : Option (AnyOp × AnyReply))
    (s : IsStart (calls_of ops) from at first) → IsStartOperation ops from at first s.reply
start_operation ops from at first s =
    let o = in_filter_map call_of s.call ops (in_from_contains (calls_of ops) s.call s.known) in
    let k = call_cases o.0 s.call o.2 in
    record {
      operation = o.0;
      known = o.1;
      number = sym k.0 ∙ s.number;
      ended = returned_end o.0.«end» at s.reply (sym k.2 ∙ s.returned);
      told = ap (λ (op : AnyOp). leaves op s.reply) (sym k.1) ∙ s.told;
      one_key = on_key_each ops (key_of o.0.op)
          (subst (λ (op : AnyOp). All (λ e. key_of e.op ≡ key_of op) (calls_of ops)) k.1 s.one_key);
    }

-- a suffix may begin with an operation that returned, if its reply tells what it left
pub start_from : (ops : List Operation) (o : Operation) (at : ℕ) (reply : AnyReply)
    (first : Option (AnyOp × AnyReply)) → Contains ops o
    → o.«end» ≡ Returned at reply → leaves o.op reply ≡ Some first → All (IsOnKey (key_of o.op)) ops
    → IsStart (calls_of ops) o.number at first
start_from ops o at reply first stands ended told on =
    let c : Call = record { number = o.number; op = o.op; returned = Some (record { at = at; reply = reply }) } in
    record {
      call = c;
      known = contains_from_in (calls_of ops) c
          (in_filter_map_from call_of o c ops (in_from_contains ops o stands) (ap (call_with o.number o.op) ended));
      number = refl;
      reply = reply;
      returned = refl;
      told = told;
      one_key = all_calls (λ number op returned. key_of op ≡ key_of o.op) ops
          (λ w i c e. elim (all_at (IsOnKey (key_of o.op)) ops on w i) [
            | inl f ↦ absurd (gone w.number w.op w.«end» c f e)
            | inr k ↦ k
          ]);
    }
  where
    gone : (number : ℕ) (op : AnyOp) (e : End) (c : Call) → has_failed e ≡ true → call_with number op e ≡ Some c → ⊥
    gone number op (Returned t r) c f q = absurd (cc f)
    gone number op Pending c f q = absurd (cc f)
    gone number op Failed c f q = absurd (cc q)

-- a suffix is named by the number of its first call
pub one_suffix : (from : ℕ) (calls a b : List Call) → Pairs (λ x y. x.number < y.number) calls → IsSuffix from calls a
    → IsSuffix from calls b → a ≡ b
one_suffix from calls a b rising p q =
    let s = p.start in
    let t = q.start in
    let same = one_number (λ (z : Call). z.number) s.call t.call calls rising (in_from_contains calls s.call s.known)
    (in_from_contains calls t.call t.known) (s.number ∙ sym t.number) in
    let ret : ◌≡◌ {A = Return} (record { at = p.at; reply = s.reply }) (record { at = q.at; reply = t.reply })
    = same_Some _ _ (sym s.returned ∙ ap (λ (z : Call). z.returned) same ∙ t.returned) in
    let first : p.first ≡ q.first =
    same_Some _ _ (sym s.told ∙ ap (λ (z : Call). leaves z.op s.reply) same
    ∙ ap (λ (z : Return). leaves t.call.op z.reply) ret ∙ t.told) in
    p.named ∙ ap (λ (z : Return). calls_from from z.at p.first calls) ret
    ∙ ap (λ (z : Option (AnyOp × AnyReply)). calls_from from q.at z calls) first ∙ sym q.named

-- an operation that is not over before the first one
later_is : (first : Option (AnyOp × AnyReply)) (at : ℕ) (o : Operation) → IsCutOperation o (operation_later first at o)
later_is first at o = whole (nat_lt at o.number)
  where
    pending : IsCutOperation o (as_pending o.number o.op)
    pending = record { number = refl; kind = refl; returned = λ when reply e. absurd (cc e) }

    with_value : (t : ℕ) (r : AnyReply) → o.«end» ≡ Returned t r → (v : Option ℤ) → written_before first o.op r ≡ v
        → IsCutOperation o (option_map_or (as_write o.number t) v (as_pending o.number o.op))
    with_value t r q None w = pending
    with_value t r q (Some v) w = record {
      number = refl;
      kind = sym (before_facts first o.op r v w).1;
      returned = λ when reply e. (r, cc (q, e));
    }

    ended : (e : End) → o.«end» ≡ e → IsCutOperation o (overlapping_operation first o.number o.op e)
    ended (Returned t r) q = with_value t r q (written_before first o.op r) refl
    ended e q = pending

    whole : (b : Bool) → IsCutOperation o (cond b o (overlapping_operation first o.number o.op o.«end»))
    whole true = record { number = refl; kind = refl; returned = λ when reply e. (reply, e) }
    whole false = ended o.«end» refl

operation_is : (h : ObjectCalls) (from at : ℕ) (first : Option (AnyOp × AnyReply)) (reply : AnyReply)
    → IsObjectHistory h
    → IsStartOperation h.ops from at first reply → (o p : Operation) → In o h.ops
    → operation_from from at first o ≡ Some p → IsCutOperation o p
operation_is h from at first said is s o p i e = failed (has_failed o.«end») e
  where
    begins : (f : Option (AnyOp × AnyReply)) → first ≡ f → o.number ≡ from
        → option_map (as_returned from at) f ≡ Some p → IsCutOperation o p
    begins None q n e = absurd (cc e)
    begins (Some x) q n e =
        let own = one_number (λ (z : Operation). z.number) o s.operation h.ops
        (pairs_from_all (λ a b. a.number < b.number) h.ops is.rising) i s.known (n ∙ sym s.number) in
        let k = subst (λ (z : Option (Option (AnyOp × AnyReply))). IfSome z
        (λ f. IfSome f (λ p. kind_of p.0 ≡ kind_of s.operation.op)))
        (s.told ∙ ap (λ (z : Option (AnyOp × AnyReply)). Some z) q) (leaves_kind s.operation.op said) in
        let cut_operation : IsCutOperation o (as_returned from at x) = record {
          number = sym n;
          kind = k ∙ ap (λ (z : Operation). kind_of z.op) (sym own);
          returned = λ when reply e. (
            said,
            ap (λ (z : Operation). z.«end») own ∙ s.ended
                ∙ ap (λ (z : ℕ). Returned z said) (let same : at ≡ when = cc e in same),
          );
        } in
        subst (IsCutOperation o) (same_Some (as_returned from at x) p e) cut_operation

    over : (b : Bool) → cond b None (Some (operation_later first at o)) ≡ Some p → IsCutOperation o p
    over true e = absurd (cc e)
    over false e = subst (IsCutOperation o) (same_Some (operation_later first at o) p e) (later_is first at o)

    own_or : (b : Bool) → (o.number == from) ≡ b
        → cond b (option_map (as_returned from at) first)
        (cond (is_over from o.«end») None (Some (operation_later first at o))) ≡ Some p → IsCutOperation o p
    own_or true n e = begins first refl (eqb-true o.number from n) e
    own_or false n e = over (is_over from o.«end») e

    failed : (b : Bool) → cond b None
        (cond (o.number == from) (option_map (as_returned from at) first)
        (cond (is_over from o.«end») None (Some (operation_later first at o)))) ≡ Some p → IsCutOperation o p
    failed true e = absurd (cc e)
    failed false e = own_or (o.number == from) refl e

operation_lives : (from at : ℕ) (first : Option (AnyOp × AnyReply)) (o p : Operation)
    → operation_from from at first o ≡ Some p → p.«end» ≢ Failed
operation_lives from at first o p e = grind (arith, did_not_fail)

-- ---- calls

operation_call : (from at : ℕ) (first : Option (AnyOp × AnyReply)) (o : Operation)
    → bind (operation_from from at first o) call_of ≡ bind (call_of o) (call_from from at first)
operation_call from at first o = grind arith

-- a suffix of an object's operations is an object's history
pub from_history : (h : ObjectCalls) (from at : ℕ) (first : Option (AnyOp × AnyReply)) → IsObjectHistory h
    → IsStart (calls_of h.ops) from at first
    → IsObjectHistory (record {
      object = h.object;
      kind = h.kind;
      ops = filter_map (operation_from from at first) h.ops;
    })
from_history h from at first is s =
    cut_history h.object h.kind h.ops (operation_from from at first)
    (operation_is h from at first s.reply is (start_operation h.ops from at first s)) is

-- the calls of a suffix of the operations are the suffix of the calls
pub from_calls : (from at : ℕ) (first : Option (AnyOp × AnyReply)) (ops : List Operation)
    → calls_of (filter_map (operation_from from at first) ops) ≡ calls_from from at first (calls_of ops)
from_calls from at first ops =
    cut_calls (operation_from from at first) (call_from from at first) ops (operation_call from at first)

-- a suffix is a part
pub from_shows : (h : ObjectCalls) (from at : ℕ) (first : Option (AnyOp × AnyReply)) → IsObjectHistory h
    → IsStart (calls_of h.ops) from at first
    → IsPart h (record { object = h.object; kind = h.kind; ops = filter_map (operation_from from at first) h.ops })
from_shows h from at first is s = record {
  object = refl;
  none_failed = cut_lives (operation_from from at first) h.ops (operation_lives from at first);
  shows = λ none order v.
      let kinds = all_calls (λ number op returned. kind_of op ≡ h.kind) h.ops
      (λ z i c q. all_at (λ o. kind_of o.op ≡ h.kind) h.ops is.of_kind z i) in
      let found = start_valid h.kind (calls_of h.ops) from at first order kinds s v in
      none found.0 (subst (λ (cs : List Call). IsValidOrder h.kind cs found.0)
      (sym (from_calls from at first h.ops)) found.1);
}
