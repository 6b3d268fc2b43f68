-- A value that is put in before a removal that finds nothing, or finds the least value of a heap, is taken out before
-- it: the balance of `Conserved` holds along the calls before it, and where they end the object contains none of these
-- values.
use Rattle.std.proofs.Common.{rules, ◌≡◌, inl, inr, ℤ, ◌≤◌, ◌≤ℤ◌, ◌+◌, int_lt, Bool, true, false, List, [], ◌∷◌, ◌++◌}
use Rattle.std.proofs.Common.{length, Option, Some, None, IfSome, filter, refl, sym, ◌∙◌, subst, arith}
use Rattle.std.proofs.lemmas.Int.{ints}
use Rattle.std.proofs.lemmas.Option.{same_Some}
use Rattle.model.specs.declared.Kind.{Kind}
use Rattle.model.specs.declared.AnyOp.{AnyOp}
use Rattle.model.specs.declared.AnyOp.TheVariants.{Dequeue, Pop, Insert, ExtractMin}
use Rattle.model.specs.declared.AnyReply.{AnyReply}
use Rattle.model.specs.declared.AnyReply.TheVariants.{Value}
use Rattle.model.specs.Objects.{Content, heap, empty, next}
use Rattle.model.specs.Orders.{Call, Return, RepliesAlong}
use Rattle.model.specs.Lists.{In}
use Rattle.model.proofs.Lists.{Pairs, in_left, in_middle}
use Rattle.cuts.specs.Parts.{reply_of, takes_out}
use Rattle.cuts.specs.Kinds.Containers.{puts_in, is_removal, is_value_ahead}
use Rattle.cuts.specs.Ahead.{may_take}
use Rattle.cuts.proofs.Contents.{IsRising, rising_with_value}
use Rattle.cuts.proofs.Conserved.{one, tally, kept_size, size_empty, turn}

-- ---- lists

pub pairs_front : {X : Type 0} (R : X → X → Type 0) (xs ys : List X) → Pairs R (xs ++ ys) → Pairs R xs
pairs_front R [] ys h = tt
pairs_front R (x ∷ xs) ys h = (λ y i. h.0 y (in_left y xs ys i), pairs_front R xs ys h.1)

pub pairs_to : {X : Type 0} (R : X → X → Type 0) (xs : List X) (n : X) (ys : List X)
    → Pairs R (xs ++ n ∷ ys) → (x : X) → In x xs → R x n
pairs_to R [] n ys h x i = absurd i
pairs_to R (z ∷ zs) n ys h x i = elim i
    [ inl e ↦ subst (λ z. R z n) (sym e) (h.0 n (in_middle n zs ys)) | inr j ↦ pairs_to R zs n ys h.1 x j ]

pub pairs_beyond : {X : Type 0} (R : X → X → Type 0) (xs : List X) (n : X) (ys : List X)
    → Pairs R (xs ++ n ∷ ys) → (y : X) → In y ys → R n y
pairs_beyond R [] n ys h y i = h.0 y i
pairs_beyond R (z ∷ zs) n ys h y i = pairs_beyond R zs n ys h.1 y i

-- ---- a step

-- whether a call puts in a kept value
abbrev pub put_by : (ℤ → Bool) → Call → Bool
put_by keeps e = puts_in keeps e.op

-- whether a call took out a kept value, or may have
abbrev pub may_by : (ℤ → Bool) → Call → Bool
may_by keeps e = may_take keeps e.op (reply_of e.returned)

-- a call that takes one out is one that may
pub may_le : (keeps : ℤ → Bool) (op : AnyOp) (o : Option Return) (reply : AnyReply)
    → IfSome o (λ r. r.reply ≡ reply) → one (takes_out keeps op (Some reply)) ≤ one (may_take keeps op (reply_of o))
may_le keeps op o reply h = grind arith

-- a heap's values rise
abbrev IsSound : Content → Type 0
IsSound (heap vs) = IsRising vs
IsSound c = Unit {0}

sound_empty : (k : Kind) → IsSound (empty k)
sound_empty k = search rules

sound_next : (c : Content) (op : AnyOp) → IsSound c → IfSome (next c op) (λ p. IsSound p.0)
sound_next (heap vs) (Insert v) s = rising_with_value v vs s
sound_next c op s = search rules

-- ---- the content that the removal finds

record Reached (keeps : ℤ → Bool) (earlier : List Call) (removal : Call) (later : List Call) (first : Content)
    : Type 0 where
  pub content : Content
  pub sound : IsSound content
  pub along : RepliesAlong content (removal ∷ later)
  pub counted : kept_size keeps first + tally (put_by keeps) earlier
      ≤ kept_size keeps content + tally (may_by keeps) earlier

-- the calls before a removal lead to the content that it finds
reached : (keeps : ℤ → Bool) (earlier : List Call) (removal : Call) (later : List Call) (first : Content)
    → IsSound first → RepliesAlong first (earlier ++ removal ∷ later) → Reached keeps earlier removal later first
reached keeps [] removal later first sound along =
    record { content = first; sound = sound; along = along; counted = omega arith }
reached keeps (call ∷ earlier) removal later first sound along =
    let turned = turn keeps call first along.0 along.1 along.2 along.3 in
    let more = may_le keeps call.op call.returned along.1 along.3 in
    let rest = reached keeps earlier removal later along.0 (subst (λ z. IfSome z (λ p. IsSound p.0)) along.2
    (sound_next first call.op sound)) along.4 in
    record { content = rest.content; sound = rest.sound; along = rest.along; counted = omega arith }

-- no value of a rising list is less than its first
none_lesser : (b : ℤ) (vs : List ℤ) → ((v : ℤ) → In v vs → int_lt v b ≡ false)
    → length (filter (λ v. int_lt v b) vs) ≡ 0
none_lesser b [] f = refl
none_lesser b (v ∷ vs) f =
    let here = f v (inl refl) in
    let rest = none_lesser b vs (λ w i. f w (inr i)) in
    grind arith

not_lesser : (v w : ℤ) → v ≤ℤ w → int_lt w v ≡ false
not_lesser v w l = grind (arith, ints)

not_self : (v : ℤ) → int_lt v v ≡ false
not_self v = grind (arith, ints)

least_first : (v b : ℤ) (vs : List ℤ) → IsRising (v ∷ vs) → v ≡ b → length (filter (λ w. int_lt w b) (v ∷ vs)) ≡ 0
least_first v b vs s e = subst (λ (z : ℤ). length (filter (λ w. int_lt w z) (v ∷ vs)) ≡ 0) e
    (none_lesser v (v ∷ vs)
    (λ w i. elim i
    [ inl q ↦ subst (λ (z : ℤ). int_lt z v ≡ false) (sym q) (not_self v) | inr j ↦ not_lesser v w (s.0 w j) ]))

pub same_value : (x y : Option ℤ) → Value x ≡ Value y → x ≡ y
same_value x y e = cc

-- where a removal finds nothing, the object is empty, and where a heap's finds a value, it contains no lesser one
emptied : (c : Content) (op : AnyOp) (o : Option ℤ) → IsSound c → (op ≡ Dequeue → o ≡ None)
    → (op ≡ Pop → o ≡ None) → is_removal op ≡ true
    → IfSome (next c op) (λ p. p.1 ≡ Value o → kept_size (is_value_ahead o op) c ≡ 0)
emptied (heap (v ∷ vs)) ExtractMin (Some b) s d u t = λ e. least_first v b vs s
    (same_Some v b (same_value (Some v) (Some b) e))
emptied c op o s d u t = search rules

-- what is put in before the removal is taken out before it
pub spent : (removal : Call) (response : Return) (found : Option ℤ) (earlier later : List Call) (kind : Kind)
    → is_removal removal.op ≡ true
    → removal.returned ≡ Some response → response.reply ≡ Value found → (removal.op ≡ Dequeue → found ≡ None)
    → (removal.op ≡ Pop → found ≡ None) → RepliesAlong (empty kind) (earlier ++ removal ∷ later)
    → tally (put_by (is_value_ahead found removal.op)) earlier ≤ tally
    (may_by (is_value_ahead found removal.op)) earlier
spent removal response found earlier later kind removes back value dequeued popped along =
    let keeps = is_value_ahead found removal.op in
    let at = reached keeps earlier removal later (empty kind) (sound_empty kind) along in
    let gave : response.reply ≡ at.along.1 = subst (λ z. IfSome z (λ r. r.reply ≡ at.along.1)) back at.along.3 in
    let none = subst (λ z. IfSome z (λ p. p.1 ≡ Value found → kept_size keeps at.content ≡ 0)) at.along.2
    (emptied at.content removal.op found at.sound dequeued popped removes) (sym gave ∙ value) in
    let nothing = size_empty keeps kind in
    omega arith
