-- A value in front of another one in a queue, or on top of it in a stack, is taken out before it. By induction over the
-- calls: each puts a value in after it, or takes out one that is in front of it.
use Rattle.std.proofs.Common.{◌≡◌, inl, inr, ℕ, ℤ, ◌<◌, ◌≤◌, ◌+◌, Bool, true, false, ◌||◌, cond, List, [], ◌∷◌, ◌++◌}
use Rattle.std.proofs.Common.{Some, IfSome, refl, ap, sym, ◌∙◌, subst, arith}
use Rattle.std.proofs.lemmas.Int.{ints}
use Rattle.std.specs.Ordering.{int_eq}
use Rattle.model.specs.declared.AnyOp.{AnyOp}
use Rattle.model.specs.declared.AnyOp.TheVariants.{Enqueue, Dequeue, Push, Pop}
use Rattle.model.specs.declared.AnyReply.{AnyReply}
use Rattle.model.specs.declared.AnyReply.TheVariants.{Value}
use Rattle.model.specs.Objects.{Content, queue, stack, next}
use Rattle.model.specs.Orders.{Call, ReturnsBefore, RepliesAlong}
use Rattle.model.specs.Lists.{In}
use Rattle.model.proofs.Lists.{Pairs}
use Rattle.cuts.specs.Parts.{takes_out}
use Rattle.cuts.specs.Kinds.Containers.{puts_in}
use Rattle.cuts.specs.Ahead.{first_put}
use Rattle.cuts.proofs.Conserved.{one, tally}
use Rattle.cuts.proofs.Emptied.{put_by, may_by, may_le}
use Rattle.cuts.proofs.Booleans.{false_is_not_true}

-- ---- a queue, where the removal finds a value

abbrev pub every : ℤ → Bool
every v = true

-- how many values are in front of the first b, where m values come after the list
abbrev in_front : ℤ → List ℤ → ℕ → ℕ
in_front b [] m = m
in_front b (v ∷ vs) m = cond (int_eq b v) 0 (1 + in_front b vs m)

-- how many values an operation puts in before the first b, where m come later
abbrev fresh_by : ℤ → AnyOp → ℕ → ℕ
fresh_by b op m = cond (puts_in (int_eq b) op) 0 (one (puts_in every op) + m)

abbrev fresh : ℤ → List Call → ℕ
fresh b [] = 0
fresh b (e ∷ es) = fresh_by b e.op (fresh b es)

in_front_after : (b v : ℤ) (vs : List ℤ) (m : ℕ) → in_front b vs (cond (int_eq b v) 0 (1 + m)) ≡ in_front b
    (vs ++ v ∷ []) m
in_front_after b v [] m = refl
in_front_after b v (w ∷ ws) m = ap (λ (z : ℕ). cond (int_eq b w) 0 (1 + z)) (in_front_after b v ws m)

abbrev Moves : ℤ → List ℤ → AnyOp → ℕ → Content → AnyReply → Type 0
Moves b vs op m after reply = (ws : List ℤ) × (after ≡ queue ws) ×
    (in_front b vs (fresh_by b op m) ≤ in_front b ws m + one (takes_out every op (Some reply)))

same_le : (a b : ℕ) → a ≡ b → a ≤ b + 0
same_le a b e = omega arith

queue_moves : (b : ℤ) (vs : List ℤ) (op : AnyOp) (m : ℕ)
    → IfSome (next (queue vs) op) (λ p. Moves b vs op m p.0 p.1)
queue_moves b vs (Enqueue v) m = (vs ++ v ∷ [], refl, same_le _ _ (in_front_after b v vs m))
queue_moves b [] Dequeue m = ([], refl, omega arith)
queue_moves b (v ∷ vs) Dequeue m = (vs, refl, grind arith)
queue_moves b vs op m = tt

found_first : (b : ℤ) (vs : List ℤ) → IfSome (next (queue vs) Dequeue)
    (λ p. p.1 ≡ Value (Some b) → in_front b vs 0 ≡ 0)
found_first b vs = grind (arith, ints)

-- what is in front of the value that a removal finds is taken out before it
pub queue_spent : (found : ℤ) (earlier : List Call) (removal : Call) (later : List Call) (values : List ℤ)
    → removal.op ≡ Dequeue
    → ((reply : AnyReply) → IfSome removal.returned (λ r. r.reply ≡ reply) → reply ≡ Value (Some found))
    → RepliesAlong (queue values) (earlier ++ removal ∷ later)
    → in_front found values (fresh found earlier) ≤ tally (may_by every) earlier
queue_spent found [] removal later values dequeues gives along =
    let does : next (queue values) Dequeue ≡ Some (along.0, along.1) =
    ap (next (queue values)) (sym dequeues) ∙ along.2 in
    let front = subst (λ z. IfSome z (λ p. p.1 ≡ Value (Some found) → in_front found values 0 ≡ 0)) does
    (found_first found values) (gives along.1 along.3) in
    omega arith
queue_spent found (call ∷ earlier) removal later values dequeues gives along =
    let step = subst (λ z. IfSome z (λ p. Moves found values call.op (fresh found earlier) p.0 p.1)) along.2
    (queue_moves found values call.op (fresh found earlier)) in
    let more = may_le every call.op call.returned along.1 along.3 in
    let rest = queue_spent found earlier removal later step.0 dequeues gives
    (subst (λ (c : Content). RepliesAlong c (earlier ++ removal ∷ later)) step.1 along.4) in
    let moved = step.2 in
    omega arith

-- the calls before the first that puts in b
abbrev pub until_put : ℤ → List Call → List Call
until_put b [] = []
until_put b (e ∷ es) = cond (puts_in (int_eq b) e.op) [] (e ∷ until_put b es)

pub fresh_until : (b : ℤ) (es : List Call) → tally (put_by every) (until_put b es) ≡ fresh b es
fresh_until b [] = refl
fresh_until b (e ∷ es) = let rest = fresh_until b es in grind arith

pub in_until : (b : ℤ) (es : List Call) (x : Call) → In x es → Pairs (λ x y. ReturnsBefore y x → ⊥) es
    → ((p : Call) → In p es → puts_in (int_eq b) p.op ≡ true → ReturnsBefore x p)
    → (ReturnsBefore x x → ⊥) → In x (until_put b es)
in_until b [] x i h f own = absurd i
in_until b (e ∷ es) x i h f own = go (puts_in (int_eq b) e.op) refl
    (λ j. in_until b es x j h.1 (λ p k. f p (inr k)) own)
  where
    go : (t : Bool) → puts_in (int_eq b) e.op ≡ t → (In x es → In x (until_put b es))
        → In x (cond t [] (e ∷ until_put b es))
    go true q rest = elim i [
      | inl s ↦ own (subst (λ (z : Call). ReturnsBefore x z) (sym s) (f e (inl refl) q))
      | inr j ↦ h.0 x j (f e (inl refl) q)
    ]
    go false q rest = elim i [ inl s ↦ inl s | inr j ↦ inr (rest j) ]

-- no call that puts in b has a lesser number than the first
pub first_least : (b : ℤ) (calls : List Call) → Pairs (λ x y. x.number < y.number) calls → (p : Call)
    → In p calls → puts_in (int_eq b) p.op ≡ true → first_put b calls ≤ p.number
first_least b [] h p i q = absurd i
first_least b (e ∷ es) h p i q =
    let rest = λ (j : In p es). first_least b es h.1 p j q in
    let later = λ (j : In p es). h.0 p j in
    grind arith

-- ---- a stack, where the removal finds a value

abbrev Sinks : ℤ → List ℤ → AnyOp → Content → AnyReply → Type 0
Sinks b vs op after reply = (ws : List ℤ) × (after ≡ stack ws) ×
    (puts_in (int_eq b) op ≡ false → in_front b vs 0 + one (puts_in every op) ≤ in_front b ws 0 + one
    (takes_out every op (Some reply)))

stack_moves : (b : ℤ) (vs : List ℤ) (op : AnyOp) → IfSome (next (stack vs) op) (λ p. Sinks b vs op p.0 p.1)
stack_moves b vs (Push v) = (v ∷ vs, refl, λ e. grind arith)
stack_moves b [] Pop = ([], refl, λ e. omega arith)
stack_moves b (v ∷ vs) Pop = (vs, refl, λ e. grind arith)
stack_moves b vs op = tt

found_on_top : (b : ℤ) (vs : List ℤ) → IfSome (next (stack vs) Pop)
    (λ p. p.1 ≡ Value (Some b) → in_front b vs 0 ≡ 0)
found_on_top b vs = grind (arith, ints)

-- where none of the calls puts in b, what they put in is taken out
pub stack_spent : (found : ℤ) (earlier : List Call) (removal : Call) (later : List Call) (values : List ℤ)
    → removal.op ≡ Pop
    → ((reply : AnyReply) → IfSome removal.returned (λ r. r.reply ≡ reply) → reply ≡ Value (Some found))
    → ((e : Call) → In e earlier → puts_in (int_eq found) e.op ≡ false)
    → RepliesAlong (stack values) (earlier ++ removal ∷ later)
    → in_front found values 0 + tally (put_by every) earlier ≤ tally (may_by every) earlier
stack_spent found [] removal later values pops gives none along =
    let does : next (stack values) Pop ≡ Some (along.0, along.1) = ap (next (stack values)) (sym pops) ∙ along.2 in
    let front = subst (λ z. IfSome z (λ p. p.1 ≡ Value (Some found) → in_front found values 0 ≡ 0)) does
    (found_on_top found values) (gives along.1 along.3) in
    omega arith
stack_spent found (call ∷ earlier) removal later values pops gives none along =
    let step = subst (λ z. IfSome z (λ p. Sinks found values call.op p.0 p.1)) along.2
    (stack_moves found values call.op) in
    let more = may_le every call.op call.returned along.1 along.3 in
    let rest = stack_spent found earlier removal later step.0 pops gives (λ x i. none x (inr i))
    (subst (λ (c : Content). RepliesAlong c (earlier ++ removal ∷ later)) step.1 along.4) in
    sums _ _ _ _ _ _ _ (step.2 (none call (inl refl))) more rest
  where
    -- the balances of a call and of the others, added up
    sums : (front put after took may puts mays : ℕ) → front + put ≤ after + took → took ≤ may
        → after + puts ≤ mays → front + (put + puts) ≤ may + mays
    sums front put after took may puts mays a b d = omega arith

abbrev any_put : ℤ → List Call → Bool
any_put b [] = false
any_put b (e ∷ es) = puts_in (int_eq b) e.op || any_put b es

-- the calls after the last that puts in b
abbrev pub since_put : ℤ → List Call → List Call
since_put b [] = []
since_put b (e ∷ es) = cond (any_put b (e ∷ es)) (since_put b es) (e ∷ es)

some_put : (b : ℤ) (es : List Call) → any_put b es ≡ true → (p : Call) × In p es × (puts_in (int_eq b) p.op ≡ true)
some_put b [] q = absurd (false_is_not_true q)
some_put b (e ∷ es) q = go (puts_in (int_eq b) e.op) refl q (λ k. some_put b es k)
  where
    go : (t : Bool) → puts_in (int_eq b) e.op ≡ t → (t || any_put b es) ≡ true
        → (any_put b es ≡ true → (p : Call) × In p es × (puts_in (int_eq b) p.op ≡ true))
        → (p : Call) × In p (e ∷ es) × (puts_in (int_eq b) p.op ≡ true)
    go true k h f = (e, inl refl, k)
    go false k h f = let r = f h in (r.0, inr r.1, r.2)

no_put : (b : ℤ) (es : List Call) → any_put b es ≡ false → (p : Call) → In p es → puts_in (int_eq b) p.op ≡ false
no_put b [] q p i = absurd i
no_put b (e ∷ es) q p i = go (puts_in (int_eq b) e.op) refl q (λ k j. no_put b es k p j)
  where
    go : (t : Bool) → puts_in (int_eq b) e.op ≡ t → (t || any_put b es) ≡ false
        → (any_put b es ≡ false → In p es → puts_in (int_eq b) p.op ≡ false) → puts_in (int_eq b) p.op ≡ false
    go true k h f = absurd (false_is_not_true (sym h))
    go false k h f = elim i [ inl s ↦ ap (λ (z : Call). puts_in (int_eq b) z.op) s ∙ k | inr j ↦ f h j ]

pub since_none : (b : ℤ) (es : List Call) (p : Call) → In p (since_put b es) → puts_in (int_eq b) p.op ≡ false
since_none b [] p i = absurd i
since_none b (e ∷ es) p i = go (any_put b (e ∷ es)) refl i (λ j. since_none b es p j)
  where
    go : (t : Bool) → any_put b (e ∷ es) ≡ t → In p (cond t (since_put b es) (e ∷ es))
        → (In p (since_put b es) → puts_in (int_eq b) p.op ≡ false) → puts_in (int_eq b) p.op ≡ false
    go true k j f = f j
    go false k j f = no_put b (e ∷ es) k p j

-- the content after the last that puts in b
pub since_along : (found : ℤ) (earlier : List Call) (removal : Call) (later : List Call) (values : List ℤ)
    → RepliesAlong (stack values) (earlier ++ removal ∷ later)
    → (ws : List ℤ) × RepliesAlong (stack ws) (since_put found earlier ++ removal ∷ later)
since_along found [] removal later values along = (values, along)
since_along found (call ∷ earlier) removal later values along =
    let step = subst (λ z. IfSome z (λ p. Sinks found values call.op p.0 p.1)) along.2
    (stack_moves found values call.op) in
    go (any_put found (call ∷ earlier))
    (since_along found earlier removal later step.0
    (subst (λ (c : Content). RepliesAlong c (earlier ++ removal ∷ later)) step.1 along.4))
  where
    go : (t : Bool) → (ws : List ℤ) × RepliesAlong (stack ws) (since_put found earlier ++ removal ∷ later)
        → (ws : List ℤ) × RepliesAlong (stack ws) (cond t (since_put found earlier) (call ∷ earlier) ++ removal ∷ later)
    go true r = r
    go false r = (values, along)

pub since_tally : (q : Call → Bool) (b : ℤ) (es : List Call) → tally q (since_put b es) ≤ tally q es
since_tally q b [] = omega arith
since_tally q b (e ∷ es) = go (any_put b (e ∷ es)) (since_tally q b es)
  where
    go : (t : Bool) → tally q (since_put b es) ≤ tally q es → tally q (cond t (since_put b es) (e ∷ es)) ≤
        one (q e) + tally q es
    go true h = omega arith
    go false h = omega arith

pub in_since : (b : ℤ) (es : List Call) (x : Call) → In x es → Pairs (λ x y. ReturnsBefore y x → ⊥) es
    → ((p : Call) → In p es → puts_in (int_eq b) p.op ≡ true → ReturnsBefore p x)
    → (ReturnsBefore x x → ⊥) → In x (since_put b es)
in_since b [] x i h f own = absurd i
in_since b (e ∷ es) x i h f own = go (any_put b (e ∷ es)) refl (λ j. in_since b es x j h.1 (λ p k. f p (inr k)) own)
  where
    go : (t : Bool) → any_put b (e ∷ es) ≡ t → (In x es → In x (since_put b es))
        → In x (cond t (since_put b es) (e ∷ es))
    go true q rest = elim i [
      | inl s ↦
          let p = some_put b (e ∷ es) q in
          absurd (elim p.1 [
            | inl w ↦ own (subst (λ (z : Call). ReturnsBefore z x) (w ∙ sym s) (f p.0 p.1 p.2))
            | inr j ↦ h.0 p.0 j (subst (λ (z : Call). ReturnsBefore p.0 z) s (f p.0 p.1 p.2))
          ])
      | inr j ↦ rest j
    ]
    go false q rest = i
