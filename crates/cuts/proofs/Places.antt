-- The part at a cell has a valid order where the object has one: while the cell contains what is kept, the part
-- contains the same. Each call's step is that of its touch; a call with no touch leaves the cell as it was.
use Rattle.std.proofs.Common.{rules, arith, ◌≡◌, inl, inr, ℕ, ℤ, Bool, false, List, Option, Some, None, IfSome}
use Rattle.std.proofs.Common.{refl, ap, sym, ◌∙◌, subst}
use Rattle.std.specs.Prelude.{option_map}
use Rattle.std.specs.List.{filter_map}
use Rattle.std.specs.Ordering.{int_cmp}
use Rattle.std.specs.FinMap as map
use Rattle.model.specs.declared.Kind.{Kind}
use Rattle.model.specs.declared.Kind.TheVariants as kind
use Rattle.model.specs.declared.AnyOp.{AnyOp}
use Rattle.model.specs.declared.AnyReply.{AnyReply}
use Rattle.model.specs.Objects.{Content, register, table, empty, next, kind_of, kind_with}
use Rattle.model.specs.Orders.{Call, IsValidOrder}
use Rattle.model.proofs.Lists.{all_at}
use Rattle.model.proofs.Objects.{kind_of_empty}
use Rattle.events.specs.declared.operations.Operation.{Operation}
use Rattle.events.specs.Operations.{calls_of, ObjectCalls, IsObjectHistory}
use Rattle.cuts.specs.declared.kinds.CellId.{CellId}
use Rattle.cuts.specs.declared.kinds.CellId.TheVariants.{OfRegister, OfKey}
use Rattle.cuts.specs.declared.touches.Need.{Need}
use Rattle.cuts.specs.declared.touches.Leave.{Leave}
use Rattle.cuts.specs.declared.touches.Touch.{Touch}
use Rattle.cuts.specs.Kinds.{keeps_none, kind_with_cell, kind_at_cell, own_call, touch_at}
use Rattle.cuts.specs.Kinds.Register.{setting, replacing}
use Rattle.cuts.specs.Cells.{keeps_content, change, cut_touch, touched_call, touched_op}
use Rattle.cuts.specs.Cells.{done_at, opened_at, call_at, calls_at}
use Rattle.cuts.specs.Cuts.{IsPart}
use Rattle.cuts.specs.CutOperations.{operation_at}
use Rattle.cuts.proofs.CutOperations.{IsCutOperationOf, cut_into, cut_calls, cut_lives}
use Rattle.cuts.proofs.Recasts.{IsInto, DoneOf, OpenOf, Steps, recast_maps, recast_operation, recast_call, recast_lives}
use Rattle.cuts.proofs.Mapped.{mapped_valid}
use Rattle.cuts.proofs.OwnKind.{same_kind}
use Rattle.cuts.proofs.Booleans.{some_at}
use Rattle.cuts.proofs.RegisterTouches.{in_register, register_touches, register_touch_kind}
use Rattle.cuts.proofs.MapTouches.{in_map, map_touches, map_touch_kind}
use Rattle.cuts.proofs.Touched.{Did, MayDo, OwnDid, IsSeen, DoneTo, OpenTo, touch_returned, touch_pending}

-- ---- the cells

abbrev content_at : CellId → Content → Option ℤ
content_at OfRegister c = in_register c
content_at (OfKey key) c = in_map key c

touches_at : (place : CellId) (c : Content) (op : AnyOp) → kind_with c ≡ kind_with_cell place
    → IfSome (next c op) (λ p. Did (touch_at place op (Some p.1)) (content_at place c) (content_at place p.0)
    × OwnDid (own_call place op p.1) (touch_at place op (Some p.1)) (content_at place c)
    × MayDo (touch_at place op None) (content_at place c) (content_at place p.0))
touches_at OfRegister (register x) op e = register_touches x op
touches_at (OfKey key) (table m) op e = map_touches key m op
touches_at place c op e = absurd (cc e)

touch_kind : (place : CellId) (op : AnyOp) (reply : Option AnyReply)
    → IfSome (touch_at place op reply) (λ t. kind_of op ≡ kind_with_cell place)
touch_kind OfRegister op reply = register_touch_kind op reply
touch_kind (OfKey key) op reply = map_touch_kind key op reply

-- a part of an object that has the cell is a register
part_of_kind : (place : CellId) (k : Kind) → k ≡ kind_with_cell place → kind_at_cell place k ≡ kind.Register
part_of_kind OfRegister k e = e
part_of_kind (OfKey key) k e = refl

no_content : (place : CellId) → content_at place (empty (kind_with_cell place)) ≡ None
no_content OfRegister = refl
no_content (OfKey key) = map.get-empty int_cmp key

-- ---- steps

module _ (place : CellId) (keeps : ℤ → Bool) (other : ℤ) where
  abbrev kept_here : Option ℤ → Bool
  kept_here = keeps_content (keeps_none place) keeps

  -- the part is a register that contains what the cell does, if that is kept; of another kind it has no calls
  abbrev IsAt : Content → Content → Type 0
  IsAt c d = kind_with c ≡ kind_with_cell place → (y : Option ℤ) × (d ≡ register y)
      × IsSeen kept_here (content_at place c) y

  begins : (k : Kind) → IsAt (empty k) (empty (kind_at_cell place k))
  begins k e =
      let own : k ≡ kind_with_cell place = sym (kind_of_empty k) ∙ e in (
        None,
        ap empty (part_of_kind place k own),
        λ q. sym (ap (λ (z : Kind). content_at place (empty z)) own ∙ no_content place),
      )

  done_of : (f : Option (AnyOp × AnyReply)) (d after : Content) (y : Option ℤ) → d ≡ register y
      → DoneTo kept_here f y (content_at place after) → DoneOf IsAt f d after
  done_of None d after y e h = λ q. (y, e, h)
  done_of (Some f) d after y e h =
      (register h.0, ap (λ (z : Content). next z f.0) e ∙ h.1, λ q. (h.0, refl, h.2))

  open_of : (o : Option AnyOp) (d after : Content) (y : Option ℤ) → d ≡ register y
      → OpenTo kept_here o y (content_at place after) → OpenOf IsAt o d after
  open_of None d after y e h = λ q. (y, e, h)
  open_of (Some op) d after y e h = elim h [
    | inl skip ↦ inl (λ q. (y, e, skip))
    | inr take ↦
        inr (register take.0, take.1, ap (λ (z : Content). next z op) e ∙ take.2, λ q. (take.0, refl, take.3))
  ]

  module _ (c d : Content) (op : AnyOp) (r : IsAt c d) (after : Content) (reply : AnyReply)
      (does : next c op ≡ Some (after, reply)) where
    same : (kind_of op ≡ kind_with c) × (kind_with after ≡ kind_with c)
    same = subst (λ z. IfSome z (λ p. (kind_of op ≡ kind_with c) × (kind_with p.0 ≡ kind_with c))) does (same_kind c op)

    touched : kind_with c ≡ kind_with_cell place
        → Did (touch_at place op (Some reply)) (content_at place c) (content_at place after)
        × OwnDid (own_call place op reply) (touch_at place op (Some reply)) (content_at place c)
        × MayDo (touch_at place op None) (content_at place c) (content_at place after)
    touched e = subst
        (λ z. IfSome z (λ p. Did (touch_at place op (Some p.1)) (content_at place c) (content_at place p.0)
        × OwnDid (own_call place op p.1) (touch_at place op (Some p.1)) (content_at place c)
        × MayDo (touch_at place op None) (content_at place c) (content_at place p.0))) does (touches_at place c op e)

    returned : (kept : Bool) → DoneOf IsAt (done_at place keeps other kept op reply) d after
    returned kept = go (touch_at place op (Some reply)) (touch_kind place op (Some reply)) (λ e. (touched e).0)
        (λ e. (touched e).1)
      where
        go : (o : Option Touch) → IfSome o (λ t. kind_of op ≡ kind_with_cell place)
            → (kind_with c ≡ kind_with_cell place → Did o (content_at place c) (content_at place after))
            → (kind_with c ≡ kind_with_cell place → OwnDid (own_call place op reply) o (content_at place c))
            → DoneOf IsAt (touched_call kept_here other kept (own_call place op reply) o) d after
        go None k did own = λ q.
            let e = sym same.1 ∙ q in
            let s = r e in (
              s.0,
              s.1,
              touch_returned kept_here other (content_at place c) s.0 s.2 (own_call place op reply) kept None
                  (content_at place after) (did e) tt,
            )
        go (Some t) k did own =
            let e = sym same.0 ∙ k in
            let s = r e in
            done_of _ d after s.0 s.1
            (touch_returned kept_here other (content_at place c) s.0 s.2 (own_call place op reply) kept (Some t)
            (content_at place after) (did e) (own e))

    unfinished : OpenOf IsAt (opened_at place keeps other op) d after
    unfinished = go (touch_at place op None) (touch_kind place op None) (λ e. (touched e).2)
      where
        go : (o : Option Touch) → IfSome o (λ t. kind_of op ≡ kind_with_cell place)
            → (kind_with c ≡ kind_with_cell place → MayDo o (content_at place c) (content_at place after))
            → OpenOf IsAt (touched_op kept_here other o) d after
        go None k did = λ q.
            let e = sym same.1 ∙ q in
            let s = r e in
            (s.0, s.1, touch_pending kept_here other (content_at place c) s.0 s.2 None (content_at place after) (did e))
        go (Some t) k did =
            let e = sym same.0 ∙ k in
            let s = r e in
            open_of _ d after s.0 s.1
            (touch_pending kept_here other (content_at place c) s.0 s.2 (Some t) (content_at place after) (did e))

  step : (c d : Content) (op : AnyOp) → IsAt c d
      → IfSome (next c op) (λ p. Steps IsAt (done_at place keeps other) (opened_at place keeps other) op d p.0 p.1)
  step c d op r =
      some_at (λ p. Steps IsAt (done_at place keeps other) (opened_at place keeps other) op d p.0 p.1) (next c op)
      (λ p e. record { returned = returned c d op r p.0 p.1 e; unfinished = unfinished c d op r p.0 p.1 e })

-- ---- what becomes of an operation is one of a register

abbrev IsOfRegister : AnyOp × AnyReply → Type 0
IsOfRegister f = kind_of f.0 ≡ kind.Register

setting_kind : (c : Option ℤ) → IsOfRegister (setting c)
setting_kind c = search rules

replacing_kind : (a c : Option ℤ) → IsOfRegister (replacing a c)
replacing_kind a c = search rules

change_kind : (keeps : Option ℤ → Bool) (own : Option (AnyOp × AnyReply)) (need : Need) (c : Option ℤ)
    → IfSome own IsOfRegister → IsOfRegister (change keeps own need c)
change_kind keeps own need c k = grind (arith, setting_kind, replacing_kind)

-- what a touch of the part becomes is a call of a register
cut_kind : (keeps : Option ℤ → Bool) (other : ℤ) (kept : Bool) (own : Option (AnyOp × AnyReply)) (need : Need)
    (leave : Leave) → IfSome own IsOfRegister → IfSome (cut_touch keeps other kept own need leave) IsOfRegister
cut_kind keeps other kept own need leave of_register = grind (arith, change_kind, setting_kind)

pub into_part : (place : CellId) (keeps : ℤ → Bool) (other : ℤ)
    → IsInto (done_at place keeps other) (opened_at place keeps other) (λ op. kind_at_cell place (kind_of op))
into_part place keeps other = record {
  returned = λ kept op reply.
      returned kept op reply (touch_at place op (Some reply)) (touch_kind place op (Some reply));
  unfinished = λ op. unfinished op (touch_at place op None) (touch_kind place op None);
}
  where
    own_kind : (q : CellId) (op : AnyOp) (reply : AnyReply) → kind_of op ≡ kind_with_cell q
        → IfSome (own_call q op reply) IsOfRegister
    own_kind OfRegister op reply e = e
    own_kind (OfKey key) op reply e = tt

    of_part : (op : AnyOp) → kind_of op ≡ kind_with_cell place → (f : Option (AnyOp × AnyReply)) → IfSome f IsOfRegister
        → IfSome f (λ f. kind_of f.0 ≡ kind_at_cell place (kind_of op))
    of_part op e None k = tt
    of_part op e (Some f) k = k ∙ sym (part_of_kind place (kind_of op) e)

    returned : (kept : Bool) (op : AnyOp) (reply : AnyReply) (o : Option Touch)
        → IfSome o (λ t. kind_of op ≡ kind_with_cell place)
        → IfSome (touched_call (kept_here place keeps other) other kept (own_call place op reply) o)
        (λ f. kind_of f.0 ≡ kind_at_cell place (kind_of op))
    returned kept op reply None k = tt
    returned kept op reply (Some t) k = of_part op k _
        (cut_kind (kept_here place keeps other) other kept (own_call place op reply) t.need t.leave
        (own_kind place op reply k))

    first : (op : AnyOp) (f : Option (AnyOp × AnyReply)) → IfSome f (λ f. kind_of f.0 ≡ kind_at_cell place (kind_of op))
        → IfSome (option_map (λ (f : AnyOp × AnyReply). f.0) f) (λ p. kind_of p ≡ kind_at_cell place (kind_of op))
    first op None k = tt
    first op (Some f) k = k

    unfinished : (op : AnyOp) (o : Option Touch) → IfSome o (λ t. kind_of op ≡ kind_with_cell place)
        → IfSome (touched_op (kept_here place keeps other) other o) (λ p. kind_of p ≡ kind_at_cell place (kind_of op))
    unfinished op None k = tt
    unfinished op (Some t) k = first op (cut_touch (kept_here place keeps other) other false None t.need t.leave)
        (of_part op k _ (cut_kind (kept_here place keeps other) other false None t.need t.leave tt))

-- ---- calls and operations

-- if the calls have a valid order, the part at one cell has one
pub part_valid : (place : CellId) (own : Kind) (calls : List Call) (keeps : ℤ → Bool) (other : ℤ) (kept : ℕ → Bool)
    (order : List ℤ) → IsValidOrder own calls order
    → (part : List ℤ) × IsValidOrder (kind_at_cell place own) (calls_at place keeps other kept calls) part
part_valid place own calls keeps other kept order v =
    mapped_valid (IsAt place keeps other) (call_at place keeps other kept) calls own (kind_at_cell place own)
    (recast_maps (IsAt place keeps other) (done_at place keeps other) (opened_at place keeps other) kept
    (record { step = step place keeps other })) (begins place keeps other own) order v

pub part_history : (place : CellId) (keeps : ℤ → Bool) (other : ℤ) (kept : ℕ → Bool) (h : ObjectCalls)
    → IsObjectHistory h
    → IsObjectHistory (record {
      object = h.object;
      kind = kind_at_cell place h.kind;
      ops = filter_map (operation_at place keeps other kept) h.ops;
    })
part_history place keeps other kept h is =
    cut_into h.object h.kind (kind_at_cell place h.kind) h.ops (operation_at place keeps other kept)
    (λ o p i e. subst (λ (k : Kind). IsCutOperationOf (kind_at_cell place k) o p)
    (all_at (λ (o : Operation). kind_of o.op ≡ h.kind) h.ops is.of_kind o i)
    (recast_operation (done_at place keeps other) (opened_at place keeps other) (λ op. kind_at_cell place (kind_of op))
    (into_part place keeps other) (kept o.number) o p e)) is

pub part_calls_of : (place : CellId) (keeps : ℤ → Bool) (other : ℤ) (kept : ℕ → Bool) (ops : List Operation)
    → calls_of (filter_map (operation_at place keeps other kept) ops) ≡ calls_at place keeps other kept (calls_of ops)
part_calls_of place keeps other kept ops =
    cut_calls (operation_at place keeps other kept) (call_at place keeps other kept) ops
    (recast_call (done_at place keeps other) (opened_at place keeps other) kept)

pub part_shows : (place : CellId) (keeps : ℤ → Bool) (other : ℤ) (kept : ℕ → Bool) (h : ObjectCalls)
    → IsPart h (record {
      object = h.object;
      kind = kind_at_cell place h.kind;
      ops = filter_map (operation_at place keeps other kept) h.ops;
    })
part_shows place keeps other kept h = record {
  object = refl;
  none_failed = cut_lives (operation_at place keeps other kept) h.ops
      (λ o p e. recast_lives (done_at place keeps other) (opened_at place keeps other) (kept o.number) o p e);
  shows = λ none order v.
      let r = part_valid place h.kind (calls_of h.ops) keeps other kept order v in
      none r.0 (subst (λ (cs : List Call). IsValidOrder (kind_at_cell place h.kind) cs r.0)
      (sym (part_calls_of place keeps other kept h.ops)) r.1);
}
