-- Calls that become calls of other operations, with the same numbers, have a valid order if they had one, and if each
-- step of the old order gives a step of the new one. By cases on whether a call returned.
use Rattle.std.proofs.Common.{◌≡◌, ◌≢◌, ◌⊎◌, inl, inr, ℕ, Bool, Option, Some, None, IfSome, refl, ap, sym, ◌∙◌, subst}
use Rattle.std.proofs.Common.{arith}
use Rattle.std.specs.Prelude.{option_map}
use Rattle.std.proofs.lemmas.Option.{same_Some}
use Rattle.model.specs.declared.Kind.{Kind}
use Rattle.model.specs.declared.AnyOp.{AnyOp}
use Rattle.model.specs.declared.AnyReply.{AnyReply}
use Rattle.model.specs.Objects.{Content, next, kind_of}
use Rattle.model.specs.Orders.{Call, Return}
use Rattle.events.specs.declared.operations.End.{End}
use Rattle.events.specs.declared.operations.End.TheVariants.{Returned, Pending, Failed}
use Rattle.events.specs.declared.operations.Operation.{Operation}
use Rattle.events.specs.Operations.{call_of}
use Rattle.cuts.specs.Recasts.{recast}
use Rattle.cuts.specs.CutOperations.{as_pending, as_returned, op_recast}
use Rattle.cuts.specs.Parts.{pending_call, returned_call}
use Rattle.cuts.proofs.CutOperations.{bind, IsCutOperationOf}
use Rattle.cuts.proofs.Overlaps.{IsTimed}
use Rattle.cuts.proofs.Mapped.{StepOf, Maps}

-- what an operation that returned becomes, by whether the part chooses it
abbrev pub Done : Type 0
Done = Bool → AnyOp → AnyReply → Option (AnyOp × AnyReply)

-- what a pending operation becomes
abbrev pub Open : Type 0
Open = AnyOp → Option AnyOp

-- ---- steps

-- the part leaves out an operation that returned, or does it with its reply
abbrev pub DoneOf : (Content → Content → Type 0) → Option (AnyOp × AnyReply) → Content → Content → Type 0
DoneOf R None d after = R after d
DoneOf R (Some f) d after = (behind : Content) × (next d f.0 ≡ Some (behind, f.1)) × R after behind

-- the part leaves out a pending operation, or may do it, with any reply
abbrev pub OpenOf : (Content → Content → Type 0) → Option AnyOp → Content → Content → Type 0
OpenOf R None d after = R after d
OpenOf R (Some op) d after =
    R after d ⊎ ((behind : Content) × (reply : AnyReply) × (next d op ≡ Some (behind, reply)) × R after behind)

pub record Steps (R : Content → Content → Type 0) (done : Done) (pending : Open) (op : AnyOp) (d after : Content)
    (reply : AnyReply) : Type 0 where
  pub returned : (kept : Bool) → DoneOf R (done kept op reply) d after
  pub unfinished : OpenOf R (pending op) d after

pub record IsRecast (R : Content → Content → Type 0) (done : Done) (pending : Open) : Type 0 where
  pub step : (c d : Content) (op : AnyOp) → R c d → IfSome (next c op) (λ p. Steps R done pending op d p.0 p.1)

-- what a call becomes by `recast` has the call's number, and returned where the call did, if it returned
pub recast_timed : (done : AnyOp → AnyReply → Option (AnyOp × AnyReply)) (pending : Open) (y x : Call)
    → recast done pending y.number y.op y.returned ≡ Some x → IsTimed x y
recast_timed done pending y x e = go y.returned refl e
  where
    finished : (r : Return) → y.returned ≡ Some r → (o : Option (AnyOp × AnyReply))
        → option_map (returned_call y.number r.at) o ≡ Some x → IsTimed x y
    finished r q None e = absurd (cc e)
    finished r q (Some f) e =
        subst (λ (z : Call). IsTimed z y) (same_Some (returned_call y.number r.at f) x e) (record {
          number = refl;
          returned = λ t w. (r, q, ap (λ (z : Return). z.at) (same_Some (record { at = r.at; reply = f.1 }) t w));
        })

    unfinished : (o : Option AnyOp) → option_map (pending_call y.number) o ≡ Some x → IsTimed x y
    unfinished None e = absurd (cc e)
    unfinished (Some op) e =
        subst (λ (z : Call). IsTimed z y) (same_Some (pending_call y.number op) x e)
        (record { number = refl; returned = λ t w. absurd (cc w) })

    go : (o : Option Return) → y.returned ≡ o → recast done pending y.number y.op o ≡ Some x → IsTimed x y
    go None q e = unfinished (pending y.op) e
    go (Some r) q e = finished r q (done y.op r.reply) e

pub recast_maps : (R : Content → Content → Type 0) (done : Done) (pending : Open) (kept : ℕ → Bool)
    → IsRecast R done pending
    → Maps R (λ e. recast (done (kept e.number)) pending e.number e.op e.returned)
recast_maps R done pending kept is = record {
  own = λ y x e. recast_timed (done (kept y.number)) pending y x e;
  step = λ e c d after reply s does agrees.
      go e after d (subst (λ z. IfSome z (λ p. Steps R done pending e.op d p.0 p.1)) does (is.step c d e.op s))
      e.returned agrees;
}
  where
    finished : (number at : ℕ) (d after : Content) (o : Option (AnyOp × AnyReply)) → DoneOf R o d after
        → StepOf R (option_map (returned_call number at) o) d after
    finished number at d after None s = s
    finished number at d after (Some f) s = inr (s.0, f.1, s.1, refl, s.2)

    unfinished : (number : ℕ) (d after : Content) (o : Option AnyOp) → OpenOf R o d after
        → StepOf R (option_map (pending_call number) o) d after
    unfinished number d after None s = s
    unfinished number d after (Some op) s = elim s [
      | inl skip ↦ inl (refl, skip)
      | inr take ↦ inr (take.0, take.1, take.2, tt, take.3)
    ]

    go : (e : Call) (after d : Content) {reply : AnyReply} → Steps R done pending e.op d after reply
        → (o : Option Return)
        → IfSome o (λ r. r.reply ≡ reply) → StepOf R (recast (done (kept e.number)) pending e.number e.op o) d after
    go e after d s None a = unfinished e.number d after (pending e.op) s.unfinished
    go e after d s (Some r) a = finished e.number r.at d after (done (kept e.number) e.op r.reply)
        (subst (λ (z : AnyReply). DoneOf R (done (kept e.number) e.op z) d after) (sym a) (s.returned (kept e.number)))

-- ---- operations

-- what becomes of each operation is of this kind
pub record IsInto (done : Done) (pending : Open) (into : AnyOp → Kind) : Type 0 where
  pub returned : (kept : Bool) (op : AnyOp) (reply : AnyReply)
      → IfSome (done kept op reply) (λ f. kind_of f.0 ≡ into op)
  pub unfinished : (op : AnyOp) → IfSome (pending op) (λ f. kind_of f ≡ into op)

pub recast_operation : (done : Done) (pending : Open) (into : AnyOp → Kind) → IsInto done pending into
    → (kept : Bool) (o p : Operation)
    → op_recast (done kept) pending o.number o.op o.«end» ≡ Some p → IsCutOperationOf (into o.op) o p
recast_operation done pending into is kept o p e = go o.«end» refl e
  where
    finished : (at : ℕ) (r : AnyReply) → o.«end» ≡ Returned at r → (f : Option (AnyOp × AnyReply))
        → IfSome f (λ f. kind_of f.0 ≡ into o.op)
        → option_map (as_returned o.number at) f ≡ Some p → IsCutOperationOf (into o.op) o p
    finished at r q None l e = absurd (cc e)
    finished at r q (Some f) l e = subst (IsCutOperationOf (into o.op) o) (same_Some (as_returned o.number at f) p e)
        (record {
          number = refl;
          kind = l;
          returned = λ when reply w. (r, q ∙ ap (λ (z : ℕ). Returned z r) (let same : at ≡ when = cc w in same));
        })

    unfinished : (f : Option AnyOp) → IfSome f (λ f. kind_of f ≡ into o.op)
        → option_map (as_pending o.number) f ≡ Some p → IsCutOperationOf (into o.op) o p
    unfinished None l e = absurd (cc e)
    unfinished (Some op) l e =
        subst (IsCutOperationOf (into o.op) o) (same_Some (as_pending o.number op) p e)
        (record { number = refl; kind = l; returned = λ when reply w. absurd (cc w) })

    go : (h : End) → o.«end» ≡ h → op_recast (done kept) pending o.number o.op h ≡ Some p
        → IsCutOperationOf (into o.op) o p
    go (Returned at r) q e = finished at r q (done kept o.op r) (is.returned kept o.op r) e
    go Pending q e = unfinished (pending o.op) (is.unfinished o.op) e
    go Failed q e = absurd (cc e)

pub recast_lives : (done : Done) (pending : Open) (kept : Bool) (o p : Operation)
    → op_recast (done kept) pending o.number o.op o.«end» ≡ Some p → p.«end» ≢ Failed
recast_lives done pending kept o p e = grind arith

pub recast_call : (done : Done) (pending : Open) (kept : ℕ → Bool) (o : Operation)
    → bind (op_recast (done (kept o.number)) pending o.number o.op o.«end») call_of
    ≡ bind (call_of o) (λ e. recast (done (kept e.number)) pending e.number e.op e.returned)
recast_call done pending kept o = grind arith
