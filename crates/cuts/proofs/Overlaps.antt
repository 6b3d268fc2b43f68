-- Calls that overlap the first one of a suffix: those that certainly left a value in a register become writes of it,
-- which would have left the same, by cases of the operations. The others become pending.
use Rattle.std.proofs.Common.{rules, ◌≡◌, ◌≢◌, ◌⊎◌, inl, inr, ℕ, ℤ, ◌<◌, nat_lt, Bool, true, false, cond, List, [], ◌∷◌}
use Rattle.std.proofs.Common.{◌++◌, Option, Some, None, IfSome, IsSome, map, refl, ap, sym, ◌∙◌, subst, arith}
use Rattle.std.specs.Prelude.{option_map}
use Rattle.std.specs.Option.{option_map_or}
use Rattle.std.proofs.lemmas.Option.{same_Some}
use Rattle.std.proofs.lemmas.Bool.{ltb-true}
use Rattle.model.specs.declared.Kind.{Kind}
use Rattle.model.specs.declared.Kind.TheVariants.{Register}
use Rattle.model.specs.declared.AnyOp.{AnyOp}
use Rattle.model.specs.declared.AnyOp.TheVariants.{Write, Read, Cas, Create}
use Rattle.model.specs.declared.AnyReply.{AnyReply}
use Rattle.model.specs.declared.AnyReply.TheVariants.{Value, Swapped, Flag}
use Rattle.model.specs.Objects.{Content, register, empty, next, kind_of}
use Rattle.model.specs.Orders.{Call, Return, ReturnsBefore, RepliesAlong}
use Rattle.model.specs.Lists.{In}
use Rattle.model.proofs.Orders.{returned_some}
use Rattle.cuts.specs.Parts.{ended_before, written_before, write_call, pending_call, overlapping, call_later}
use Rattle.cuts.specs.Parts.{returned_call}
use Rattle.cuts.specs.Kinds.Starts.{key_of, leaves, written}

-- ---- what was written

-- an operation of which a written value is known is one of a register, and has the key of a write
pub before_facts : (first : Option (AnyOp × AnyReply)) (op : AnyOp) (reply : AnyReply) (v : ℤ)
    → written_before first op reply ≡ Some v → (key_of (Write v) ≡ key_of op) × (kind_of op ≡ Register)
before_facts first op reply v e = grind arith

-- a write would have left the same
wrote : (c : Content) (op : AnyOp)
    → IfSome (next c op) (λ p. (v : ℤ) → written op p.1 ≡ Some v → next c (Write v) ≡ Some (p.0, Value (Some v)))
wrote c op = search rules

-- ---- along calls

abbrev Done : Content → Content → Call → Type 0
Done c after e = (reply : AnyReply) × (next c e.op ≡ Some (after, reply)) × IfSome e.returned (λ r. r.reply ≡ reply)

step_later : (first : Option (AnyOp × AnyReply)) (at : ℕ) (e : Call) (c after : Content) → Done c after e
    → Done c after (call_later first at e)
step_later first at e c after h = whole (nat_lt at e.number)
  where
    with_value : (f : Option (AnyOp × AnyReply)) (r : Return) → r.reply ≡ h.0 → (o : Option ℤ)
        → written_before f e.op r.reply ≡ o
        → Done c after (option_map_or (write_call e.number r.at) o (pending_call e.number e.op))
    with_value None r a (Some v) q = absurd (cc q)
    with_value f r a None q = (h.0, h.1, tt)
    with_value (Some p) r a (Some v) q = (
      Value (Some v),
      subst (λ (z : Option (Content × AnyReply)). IfSome z
          (λ p. (v : ℤ) → written e.op p.1 ≡ Some v → next c (Write v) ≡ Some (p.0, Value (Some v)))) h.1
          (wrote c e.op) v (ap (written e.op) (sym a) ∙ q),
      refl,
    )

    returned : (o : Option Return) → IfSome o (λ r. r.reply ≡ h.0) → Done c after (overlapping first e.number e.op o)
    returned None a = (h.0, h.1, tt)
    returned (Some r) a = with_value first r a (written_before first e.op r.reply) refl

    whole : (b : Bool) → Done c after (cond b e (overlapping first e.number e.op e.returned))
    whole true = h
    whole false = returned e.returned h.2

-- calls that have their replies from a content on still have them as calls of a suffix
pub later_replies : (first : Option (AnyOp × AnyReply)) (at : ℕ) (es : List Call) (c : Content) → RepliesAlong c es
    → RepliesAlong c (map (call_later first at) es)
later_replies first at [] c h = tt
later_replies first at (e ∷ es) c h =
    let d = step_later first at e c h.0 (h.1, h.2, h.3) in
    (h.0, d.0, d.1, d.2, later_replies first at es h.0 h.4)

-- ---- what becomes of one call

-- the first is invoked and returns where the second does, if it returns
pub record IsTimed (x y : Call) : Type 0 where
  pub number : x.number ≡ y.number
  pub returned : (t : Return) → x.returned ≡ Some t → (u : Return) × (y.returned ≡ Some u) × (u.at ≡ t.at)

-- the first has the number and the key of the second, and returns where the second does, if it returns
pub record IsCutOf (x y : Call) : Type 0 where
  pub number : x.number ≡ y.number
  pub key : key_of x.op ≡ key_of y.op
  pub returned : (t : Return) → x.returned ≡ Some t → (u : Return) × (y.returned ≡ Some u) × (u.at ≡ t.at)

-- a call of a suffix is a cut of the call that it comes from
pub cut_of : (first : Option (AnyOp × AnyReply)) (at : ℕ) (y : Call) → IsCutOf (call_later first at y) y
cut_of first at y = whole (nat_lt at y.number)
  where
    pending : IsCutOf (pending_call y.number y.op) y
    pending = record { number = refl; key = refl; returned = λ t e. absurd (cc e) }

    with_value : (r : Return) → y.returned ≡ Some r → (o : Option ℤ) → written_before first y.op r.reply ≡ o
        → IsCutOf (option_map_or (write_call y.number r.at) o (pending_call y.number y.op)) y
    with_value r e None q = pending
    with_value r e (Some v) q = record {
      number = refl;
      key = (before_facts first y.op r.reply v q).0;
      returned = λ t w. (
        r,
        e,
        ap (λ (z : Return). z.at) (same_Some (record { at = r.at; reply = Value (Some v) }) t w),
      );
    }

    returned : (o : Option Return) → y.returned ≡ o → IsCutOf (overlapping first y.number y.op o) y
    returned None e = pending
    returned (Some r) e = with_value r e (written_before first y.op r.reply) refl

    whole : (b : Bool) → IsCutOf (cond b y (overlapping first y.number y.op y.returned)) y
    whole true = record { number = refl; key = refl; returned = λ t e. (t, e, refl) }
    whole false = returned y.returned refl

-- If one call did not return before another was invoked, no call with the one's times returned before one with the
-- other's.
pub in_time : (part part' call call' : Call) → IsTimed part call → IsTimed part' call'
    → (ReturnsBefore call' call → ⊥) → ReturnsBefore part' part → ⊥
in_time part part' call call' timed timed' not_before before =
    let back = timed'.returned before.0 before.1 in
    let number = timed.number in
    let at = back.2 in
    let less = before.2 in
    not_before (back.0, back.1, omega arith)

-- and no cut of the one returned before a cut of the other
pub in_time_cut : (part part' call call' : Call) → IsCutOf part call → IsCutOf part' call'
    → (ReturnsBefore call' call → ⊥) → ReturnsBefore part' part → ⊥
in_time_cut part part' call call' cut cut' not_before before =
    in_time part part' call call' (record { number = cut.number; returned = cut.returned })
    (record { number = cut'.number; returned = cut'.returned }) not_before before

-- ---- writes that may be before the first call

-- the write that a call with this return becomes, if it becomes one
abbrev pub front_written : Option (AnyOp × AnyReply) → ℕ → AnyOp → Option Return → Option Call
front_written first number op None = None
front_written first number op (Some r) = option_map (write_call number r.at) (written_before first op r.reply)

-- the write that a call becomes that overlaps the first one, if it becomes one
abbrev pub front_call : ℕ → ℕ → Option (AnyOp × AnyReply) → Call → Option Call
front_call from at first y =
    cond (ended_before from y.returned) None
    (cond (nat_lt at y.number) None (front_written first y.number y.op y.returned))

-- the call y, which overlaps the first one, becomes the write x
pub record IsFront (from at : ℕ) (first : Option (AnyOp × AnyReply)) (y x : Call) : Type 0 where
  pub not_over : ended_before from y.returned ≡ false
  pub is_later : call_later first at y ≡ x
  pub began : first ≢ None
  pub kind : kind_of y.op ≡ Register
  pub when : ℕ
  pub value : ℤ
  pub write : x ≡ write_call y.number when value

-- a call for which `front_call` gives a write becomes this write in the suffix
pub front_facts : (from at : ℕ) (first : Option (AnyOp × AnyReply)) (y x : Call) → front_call from at first y ≡ Some x
    → IsFront from at first y x
front_facts from at first y x e = over (ended_before from y.returned) refl e
  where
    began : (f : Option (AnyOp × AnyReply)) (r : Return) (v : ℤ) → written_before f y.op r.reply ≡ Some v → f ≢ None
    began None r v q n = absurd (cc q)
    began (Some p) r v q n = absurd (cc n)

    with_value : (r : Return) → y.returned ≡ Some r → ended_before from y.returned ≡ false
        → nat_lt at y.number ≡ false → (o : Option ℤ)
        → written_before first y.op r.reply ≡ o → option_map (write_call y.number r.at) o ≡ Some x
        → IsFront from at first y x
    with_value r q n l None w e = absurd (cc e)
    with_value r q n l (Some v) w e =
        let here = same_Some (write_call y.number r.at v) x e in
        record {
          not_over = n;
          is_later = ap (λ b. cond b y (overlapping first y.number y.op y.returned)) l
              ∙ ap (overlapping first y.number y.op) q
              ∙ ap (λ (o : Option ℤ). option_map_or (write_call y.number r.at) o (pending_call y.number y.op)) w ∙ here;
          began = began first r v w;
          kind = (before_facts first y.op r.reply v w).1;
          when = r.at;
          value = v;
          write = sym here;
        }

    returned : (o : Option Return) → y.returned ≡ o → ended_before from y.returned ≡ false
        → nat_lt at y.number ≡ false → front_written first y.number y.op o ≡ Some x → IsFront from at first y x
    returned None q n l e = absurd (cc e)
    returned (Some r) q n l e = with_value r q n l (written_before first y.op r.reply) refl e

    late : (b : Bool) → nat_lt at y.number ≡ b → ended_before from y.returned ≡ false
        → cond b None (front_written first y.number y.op y.returned) ≡ Some x → IsFront from at first y x
    late true l n e = absurd (cc e)
    late false l n e = returned y.returned refl n l e

    over : (b : Bool) → ended_before from y.returned ≡ b
        → cond b None (cond (nat_lt at y.number) None (front_written first y.number y.op y.returned)) ≡ Some x
        → IsFront from at first y x
    over true n e = absurd (cc e)
    over false n e = late (nat_lt at y.number) refl n e

-- A call of the suffix that returned was invoked later than the first one returned, or may be before it.
pub record Late (from at : ℕ) (first : Option (AnyOp × AnyReply)) (y : Call) : Type 0 where
  pub return : Return
  pub was : y.returned ≡ Some return
  pub either : (at < y.number)
      ⊎ (ended_before from y.returned ≡ false → front_call from at first y ≡ Some (call_later first at y))

-- what `Late` says holds of each call of the suffix that returned
pub late_facts : (from at : ℕ) (first : Option (AnyOp × AnyReply)) (y : Call)
    → IsSome (call_later first at y).returned → Late from at first y
late_facts from at first y so = whole (nat_lt at y.number) refl so
  where
    with_value : (r : Return) → y.returned ≡ Some r → nat_lt at y.number ≡ false → (o : Option ℤ)
        → written_before first y.op r.reply ≡ o
        → IsSome (option_map_or (write_call y.number r.at) o (pending_call y.number y.op)).returned
        → Late from at first y
    with_value r q l None w so = absurd (cc so)
    with_value r q l (Some v) w so = record {
      return = r;
      was = q;
      either = inr (λ n.
          ap (λ b. cond b None (cond (nat_lt at y.number) None (front_written first y.number y.op y.returned))) n
          ∙ ap (λ b. cond b None (front_written first y.number y.op y.returned)) l
          ∙ ap (front_written first y.number y.op) q ∙ ap (option_map (write_call y.number r.at)) w
          ∙ ap (λ (z : Call). Some z)
          (sym (ap (λ b. cond b y (overlapping first y.number y.op y.returned)) l
          ∙ ap (overlapping first y.number y.op) q
          ∙ ap (λ (o : Option ℤ). option_map_or (write_call y.number r.at) o (pending_call y.number y.op)) w)));
    }

    returned : (o : Option Return) → y.returned ≡ o → nat_lt at y.number ≡ false
        → IsSome (overlapping first y.number y.op o).returned → Late from at first y
    returned None q l so = absurd (cc so)
    returned (Some r) q l so = with_value r q l (written_before first y.op r.reply) refl so

    whole : (b : Bool) → nat_lt at y.number ≡ b
        → IsSome (cond b y (overlapping first y.number y.op y.returned)).returned → Late from at first y
    whole true l so =
        let r = returned_some y.returned so in record { return = r.0; was = r.1; either = inl (ltb-true at y.number l) }
    whole false l so = returned y.returned refl l so

-- ---- their replies

-- what a call on a register leaves is what a write leaves
pub first_write : (op : AnyOp) (reply : AnyReply) (p : AnyOp × AnyReply) → leaves op reply ≡ Some (Some p)
    → kind_of op ≡ Register → (v : ℤ) × (p ≡ (Write v, Value (Some v)))
first_write (Write w) reply p e k = (w, sym (same_Some (Write w, Value (Some w)) p (same_Some _ _ e)))
first_write Read (Value (Some w)) p e k = (w, sym (same_Some (Write w, Value (Some w)) p (same_Some _ _ e)))
first_write (Cas a b) (Swapped c d) p e k = (b, sym (same_Some (Write b, Value (Some b)) p (same_Some _ _ e)))
first_write (Create w) (Flag true) p e k = (w, sym (same_Some (Write w, Value (Some w)) p (same_Some _ _ e)))
first_write op reply p e k = search rules

-- the call is a write that returned
abbrev pub IsWrite : Call → Type 0
IsWrite x = (number at : ℕ) × (v : ℤ) × (x ≡ write_call number at v)

-- writes, and then one more, whatever the register contained
writes_before : (ws : List Call) (c : Option ℤ) (from at : ℕ) (v : ℤ) (es : List Call)
    → ((x : Call) → In x ws → IsWrite x)
    → RepliesAlong (register (Some v)) es
    → RepliesAlong (register c) (ws ++ returned_call from at (Write v, Value (Some v)) ∷ es)
writes_before [] c from at v es f h = (register (Some v), Value (Some v), refl, refl, h)
writes_before (x ∷ xs) c from at v es f h =
    let w = f x (inl refl) in
    subst (λ (z : Call). RepliesAlong (register c) (z ∷ xs ++ returned_call from at (Write v, Value (Some v)) ∷ es))
    (sym w.3)
    (register (Some w.2), Value (Some w.2), refl, refl, writes_before xs (Some w.2) from at v es (λ y i. f y (inr i)) h)

-- calls have their replies in a suffix, with writes before its first call
pub front_replies : (kind : Kind) (front : List Call) (from at : ℕ) (p : AnyOp × AnyReply) (d : Content)
    (es : List Call)
    → next (empty kind) p.0 ≡ Some (d, p.1) → ((x : Call) → In x front → IsWrite x × (kind ≡ Register))
    → (kind ≡ Register → (v : ℤ) × (p ≡ (Write v, Value (Some v)))) → RepliesAlong d es
    → RepliesAlong (empty kind) (front ++ returned_call from at p ∷ es)
front_replies kind [] from at p d es does f g h = (d, p.1, does, refl, h)
front_replies kind (x ∷ xs) from at p d es does f g h =
    let k = (f x (inl refl)).1 in
    let w = g k in
    let there : next (register None) (Write w.0) ≡ Some (d, p.1) =
    sym (ap (λ z. next (empty z) p.0) k ∙ ap (λ (q : AnyOp × AnyReply). next (register None) q.0) w.1) ∙ does in
    let same : register (Some w.0) ≡ d =
    ap (λ (z : Content × AnyReply). z.0) (same_Some (register (Some w.0), Value (Some w.0)) (d, p.1) there) in
    subst (λ z. RepliesAlong (empty z) ((x ∷ xs) ++ returned_call from at p ∷ es)) (sym k)
    (subst (λ (q : AnyOp × AnyReply). RepliesAlong (register None) ((x ∷ xs) ++ returned_call from at q ∷ es)) (sym w.1)
    (writes_before (x ∷ xs) None from at w.0 es (λ y i. (f y i).0) (subst (λ c. RepliesAlong c es) (sym same) h)))
