-- The law of touches. The part contains what the cell contains, if that is kept. This stays so when the cell does a
-- touch and the part does what the touch becomes. By cases on what the touch leaves and needs, and on what is kept.
use Rattle.std.proofs.Common.{◌≡◌, ◌≢◌, ◌⊎◌, inl, inr, ℤ, Bool, true, false, cond, Option, Some, None}
use Rattle.std.proofs.Common.{refl, ap, sym, ◌∙◌, subst}
use Rattle.std.specs.Prelude.{option_map}
use Rattle.model.specs.declared.AnyOp.{AnyOp}
use Rattle.model.specs.declared.AnyReply.{AnyReply}
use Rattle.model.specs.declared.AnyReply.TheVariants.{Value}
use Rattle.model.specs.Objects.{register, next}
use Rattle.cuts.specs.declared.touches.Need.{Need}
use Rattle.cuts.specs.declared.touches.Need.TheVariants.{Any, Is, IsNot}
use Rattle.cuts.specs.declared.touches.Leave.{Leave}
use Rattle.cuts.specs.declared.touches.Leave.TheVariants as leave
use Rattle.cuts.specs.declared.touches.Touch.{Touch}
use Rattle.cuts.specs.Kinds.Register.{setting, replacing, finding}
use Rattle.cuts.specs.Cells.{change, cut_touch, touched_call, touched_op}
use Rattle.cuts.proofs.Booleans.{false_is_not_true}
use Rattle.cuts.proofs.RegisterCalls.{sets, replaces}

-- ---- what a touch is

-- the cell contains what the touch needs
abbrev pub Meets : Need → Option ℤ → Type 0
Meets Any x = Unit {0}
Meets (Is c) x = x ≡ c
Meets (IsNot c) x = x ≢ c

-- what the cell contains afterwards
abbrev pub left : Leave → Option ℤ → Option ℤ
left leave.AsItWas x = x
left (leave.Content c) x = c

-- a call did this to the cell; nothing: it left the cell as it was
abbrev pub Did : Option Touch → Option ℤ → Option ℤ → Type 0
Did None x z = z ≡ x
Did (Some t) x z = Meets t.need x × (z ≡ left t.leave x)

-- a pending call did this to the cell, or left it as it was
abbrev pub MayDo : Option Touch → Option ℤ → Option ℤ → Type 0
MayDo o x z = (z ≡ x) ⊎ Did o x z

-- the call itself is possible where the cell contains what it needs, and leaves the same
abbrev OwnLeaves : Option (AnyOp × AnyReply) → Need → Leave → Option ℤ → Type 0
OwnLeaves (Some f) Any (leave.Content c) x = (y : Option ℤ) → next (register y) f.0 ≡ Some (register c, f.1)
OwnLeaves (Some f) (Is b) (leave.Content c) x = next (register x) f.0 ≡ Some (register c, f.1)
OwnLeaves own need l x = Unit {0}

-- the call itself, if the part may keep it as it is, does to a register what its touch does to the cell
abbrev pub OwnDid : Option (AnyOp × AnyReply) → Option Touch → Option ℤ → Type 0
OwnDid own None x = Unit {0}
OwnDid own (Some t) x = OwnLeaves own t.need t.leave x

-- ---- what becomes of it

-- the part contains what the cell contains, if that is kept
abbrev pub IsSeen : (Option ℤ → Bool) → Option ℤ → Option ℤ → Type 0
IsSeen keeps x y = keeps x ≡ true → y ≡ x

-- what an operation that returned became, where the cell then contains z
abbrev pub DoneTo : (Option ℤ → Bool) → Option (AnyOp × AnyReply) → Option ℤ → Option ℤ → Type 0
DoneTo keeps None y z = IsSeen keeps z y
DoneTo keeps (Some f) y z = (w : Option ℤ) × (next (register y) f.0 ≡ Some (register w, f.1)) × IsSeen keeps z w

-- what a pending operation became
abbrev pub OpenTo : (Option ℤ → Bool) → Option AnyOp → Option ℤ → Option ℤ → Type 0
OpenTo keeps None y z = IsSeen keeps z y
OpenTo keeps (Some op) y z = IsSeen keeps z y
    ⊎ ((w : Option ℤ) × (reply : AnyReply) × (next (register y) op ≡ Some (register w, reply)) × IsSeen keeps z w)

module _ (keeps : Option ℤ → Bool) (other : ℤ) (x y : Option ℤ) (s : IsSeen keeps x y) where
  -- a call that leaves this
  abbrev Gives : AnyOp × AnyReply → Option ℤ → Type 0
  Gives f c = next (register y) f.0 ≡ Some (register c, f.1)

  -- where the cell contains what is kept, the part does so
  found : (a : Option ℤ) → x ≡ a → keeps a ≡ true → y ≡ a
  found a e k = s (ap keeps e ∙ k) ∙ e

  unkept : (c w : Option ℤ) → keeps c ≡ false → IsSeen keeps c w
  unkept c w f = λ k. absurd (false_is_not_true (sym f ∙ k))

  gives : (own : Option (AnyOp × AnyReply)) (need : Need) (c : Option ℤ) → Meets need x
      → OwnLeaves own need (leave.Content c) x → Gives (change keeps own need c) c
  gives (Some f) Any c m o = o y
  gives None Any c m o = sets y c
  gives (Some f) (Is a) c m o = go (keeps a) refl
    where
      go : (b : Bool) → keeps a ≡ b → Gives (cond b f (setting c)) c
      go true k = subst (λ (z : Option ℤ). next (register z) f.0 ≡ Some (register c, f.1))
          (m ∙ sym (found a m k)) o
      go false k = sets y c
  gives None (Is a) c m o = go (keeps a) refl
    where
      go : (b : Bool) → keeps a ≡ b → Gives (cond b (replacing a c) (setting c)) c
      go true k = subst
          (λ (z : Option ℤ). next (register z) (replacing a c).0 ≡ Some (register c, (replacing a c).1))
          (sym (found a m k)) (replaces a c)
      go false k = sets y c
  gives (Some f) (IsNot a) c m o = sets y c
  gives None (IsNot a) c m o = sets y c

  cut : (own : Option (AnyOp × AnyReply)) (kept : Bool) (need : Need) (l : Leave) (z : Option ℤ) → Meets need x
      → z ≡ left l x → OwnLeaves own need l x → DoneTo keeps (cut_touch keeps other kept own need l) y z
  cut own kept need (leave.Content c) z m e o = go (keeps c) kept refl
    where
      go : (b kept : Bool) → keeps c ≡ b
          → DoneTo keeps (cond b (Some (change keeps own need c))
          (cond kept (Some (change keeps None need (Some other))) None)) y z
      go true kept k = (c, gives own need c m o, λ q. sym e)
      go false true k = (
        Some other,
        gives None need (Some other) m (nothing need),
        subst (λ (w : Option ℤ). IsSeen keeps w (Some other)) (sym e) (unkept c (Some other) k),
      )
        where
          nothing : (n : Need) → OwnLeaves None n (leave.Content (Some other)) x
          nothing Any = tt
          nothing (Is a) = tt
          nothing (IsNot a) = tt
      go false false k = subst (λ (w : Option ℤ). IsSeen keeps w y) (sym e) (unkept c y k)
  cut own kept (Is a) leave.AsItWas z m e o = go kept (keeps a) refl
    where
      go : (kept b : Bool) → keeps a ≡ b
          → DoneTo keeps (cond kept (cond b (Some (finding a)) (Some (setting (Some other)))) None) y z
      go true true k = (
        y,
        ap (λ (w : Option ℤ). Some (register y, Value w)) (found a m k),
        subst (λ (w : Option ℤ). IsSeen keeps w y) (sym e) s,
      )
      go true false k = (
        Some other,
        sets y (Some other),
        subst (λ (w : Option ℤ). IsSeen keeps w (Some other)) (sym (e ∙ m)) (unkept a (Some other) k),
      )
      go false b k = subst (λ (w : Option ℤ). IsSeen keeps w y) (sym e) s
  cut own kept Any leave.AsItWas z m e o = subst (λ (w : Option ℤ). IsSeen keeps w y) (sym e) s
  cut own kept (IsNot a) leave.AsItWas z m e o = subst (λ (w : Option ℤ). IsSeen keeps w y) (sym e) s

  pub touch_returned : (own : Option (AnyOp × AnyReply)) (kept : Bool) (o : Option Touch) (z : Option ℤ)
      → Did o x z → OwnDid own o x → DoneTo keeps (touched_call keeps other kept own o) y z
  touch_returned own kept None z d p = subst (λ (w : Option ℤ). IsSeen keeps w y) (sym d) s
  touch_returned own kept (Some t) z d p = cut own kept t.need t.leave z d.0 d.1 p

  pub touch_pending : (o : Option Touch) (z : Option ℤ) → MayDo o x z → OpenTo keeps (touched_op keeps other o) y z
  touch_pending o z d = elim d [
    | inl same ↦ skip (touched_op keeps other o) (subst (λ (w : Option ℤ). IsSeen keeps w y) (sym same) s)
    | inr did ↦ take (touched_call keeps other false None o) (touch_returned None false o z did (nothing o))
  ]
    where
      skip : (p : Option AnyOp) → IsSeen keeps z y → OpenTo keeps p y z
      skip None h = h
      skip (Some op) h = inl h

      take : (p : Option (AnyOp × AnyReply)) → DoneTo keeps p y z
          → OpenTo keeps (option_map (λ (f : AnyOp × AnyReply). f.0) p) y z
      take None h = h
      take (Some f) h = inr (h.0, f.1, h.1, h.2)

      nothing_of : (n : Need) (l : Leave) → OwnLeaves None n l x
      nothing_of Any l = tt
      nothing_of (Is a) l = tt
      nothing_of (IsNot a) l = tt

      nothing : (o : Option Touch) → OwnDid None o x
      nothing None = tt
      nothing (Some t) = nothing_of t.need t.leave
