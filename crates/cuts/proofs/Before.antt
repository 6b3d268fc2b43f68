-- Prefixes: what `operation_before` makes of the operations gives `calls_before`, and is a part. By cases of how an
-- operation ends, and then by the law of prefixes.
use Rattle.std.proofs.Common.{arith, ◌≡◌, ◌≢◌, ℕ, nat_lt, Bool, true, false, cond, List, Option, Some, None, refl, sym}
use Rattle.std.proofs.Common.{◌∙◌, subst}
use Rattle.std.specs.List.{filter_map}
use Rattle.std.proofs.lemmas.Option.{same_Some}
use Rattle.model.specs.declared.AnyReply.{AnyReply}
use Rattle.model.specs.Orders.{Call, IsValidOrder}
use Rattle.events.specs.declared.operations.End.{End}
use Rattle.events.specs.declared.operations.End.TheVariants.{Returned, Pending, Failed}
use Rattle.events.specs.declared.operations.Operation.{Operation}
use Rattle.events.specs.Operations.{call_with, call_of, calls_of, ObjectCalls, IsObjectHistory}
use Rattle.cuts.specs.Parts.{call_before, calls_before}
use Rattle.cuts.specs.Cuts.{IsPart}
use Rattle.cuts.specs.CutOperations.{has_failed, end_before, operation_before}
use Rattle.cuts.proofs.CutOperations.{bind, filter_map-filter, IsCutOperation, cut_history, cut_calls}
use Rattle.cuts.proofs.CutOperations.{cut_lives, calls_end}
use Rattle.cuts.proofs.Prefixes.{prefix_valid}

operation_is : (until : ℕ) (o p : Operation) → operation_before until o ≡ Some p → IsCutOperation o p
operation_is until o p e = lives (has_failed o.«end») e
  where
    was : (end : End) (at : ℕ) (reply : AnyReply) → end_before until end ≡ Returned at reply
        → (own : AnyReply) × (end ≡ Returned at own)
    was (Returned when r) at reply e = back (nat_lt when until) e
      where
        back : (b : Bool) → cond b (Returned when r) Pending ≡ Returned at reply
            → (own : AnyReply) × (Returned when r ≡ Returned at own)
        back true e = (reply, e)
        back false e = absurd (cc e)
    was Pending at reply e = absurd (cc e)
    was Failed at reply e = absurd (cc e)

    go : (b : Bool) → cond b (Some (record { number = o.number; op = o.op; «end» = end_before until o.«end» })) None
        ≡ Some p → IsCutOperation o p
    go true e =
        let q = same_Some _ p e in
        subst (IsCutOperation o) q (record { number = refl; kind = refl; returned = was o.«end» })
    go false e = absurd (cc e)

    lives : (b : Bool) → cond b None
        (cond (nat_lt o.number until)
        (Some (record { number = o.number; op = o.op; «end» = end_before until o.«end» })) None) ≡ Some p
        → IsCutOperation o p
    lives true e = absurd (cc e)
    lives false e = go (nat_lt o.number until) e

operation_lives : (until : ℕ) (o p : Operation) → operation_before until o ≡ Some p → p.«end» ≢ Failed
operation_lives until o p e = grind arith

abbrev call_then : ℕ → Call → Option Call
call_then until c = cond (nat_lt c.number until) (Some (call_before until c)) None

operation_call : (until : ℕ) (o : Operation)
    → bind (operation_before until o) call_of ≡ bind (call_of o) (call_then until)
operation_call until o = go o.«end»
  where
    go : (e : End) → bind (operation_before until (record { number = o.number; op = o.op; «end» = e })) call_of
        ≡ bind (call_with o.number o.op e) (call_then until)
    go e = grind arith

pub before_history : (until : ℕ) (h : ObjectCalls) → IsObjectHistory h
    → IsObjectHistory (record { object = h.object; kind = h.kind; ops = filter_map (operation_before until) h.ops })
before_history until h is =
    cut_history h.object h.kind h.ops (operation_before until) (λ o p i e. operation_is until o p e) is

pub before_calls : (until : ℕ) (ops : List Operation)
    → calls_of (filter_map (operation_before until) ops) ≡ calls_before until (calls_of ops)
before_calls until ops =
    cut_calls (operation_before until) (call_then until) ops (operation_call until)
    ∙ filter_map-filter (λ e. nat_lt e.number until) (call_before until) (calls_of ops)

pub before_shows : (until : ℕ) (h : ObjectCalls) → IsObjectHistory h
    → IsPart h (record { object = h.object; kind = h.kind; ops = filter_map (operation_before until) h.ops })
before_shows until h is = record {
  object = refl;
  none_failed = cut_lives (operation_before until) h.ops (operation_lives until);
  shows = λ none order v.
      let r = prefix_valid h.kind (calls_of h.ops) until order (calls_end h.object h.kind h.ops is) v in
      none r.0 (subst (λ (cs : List Call). IsValidOrder h.kind cs r.0) (sym (before_calls until h.ops)) r.1);
}
