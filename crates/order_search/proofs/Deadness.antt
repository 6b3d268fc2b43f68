-- Beginnings of orders, what completes them, and beginnings that nothing completes. There are n calls, by place.
-- A beginning is the list of its places, the last one first.
use Rattle.std.proofs.Common.{◌≡◌, ◌≢◌, ℕ, ◌<◌, inl, inr, List, [], ◌∷◌, Option, Some, None, IfSome, refl}
use Rattle.std.proofs.Common.{ap, sym, ◌∙◌, subst}
use Rattle.std.proofs.lemmas.Option.{same_Some}
use Rattle.model.specs.declared.AnyReply.{AnyReply}
use Rattle.model.specs.Objects.{Content, next}
use Rattle.model.specs.Orders.{Call, Return, ReturnsBefore, RepliesAlong}
use Rattle.model.specs.Lists.{In}
use Rattle.model.proofs.Lists.{Pairs}
use Rattle.order_search.specs.Continuations.{IsLeft, IsCandidate, Continues, IsDead, IsDeadAt, Describes, IsDeadPair}

-- what the call does is determined
pub dead_child : {n : ℕ} {call : ℕ → Call} {done : List ℕ} {c after : Content} {k : ℕ} {reply : AnyReply}
    → next c (call k).op ≡ Some (after, reply) → IsDead n call (k ∷ done) after → IsDeadAt n call done c k
dead_child {after = after} {reply = reply} e d rest h =
    d rest (rw (ap (λ (x : Content × AnyReply). x.0)
    (same_Some (h.2, h.3.reply) (after, reply) (sym h.3.does ∙ e))) at h.4)

-- where some call that returned is left, and each place is dead
pub dead_all : {n : ℕ} {call : ℕ → Call} {done : List ℕ} {c : Content} {j : ℕ} {r : Return} → IsLeft n done j
    → (call j).returned ≡ Some r → ((k : ℕ) → IsDeadAt n call done c k) → IsDead n call done c
dead_all l e d [] h = h _ _ l e
dead_all l e d (k ∷ rest) h = d k rest h

-- only which places are in the beginning counts
record SamePlaces (n : ℕ) (p q : List ℕ) : Type 0 where
  pub forth : (k : ℕ) → k < n → In k p → In k q
  pub back : (k : ℕ) → k < n → In k q → In k p

-- what goes on after some places goes on after the same places in another order
continues_same : (n : ℕ) (call : ℕ → Call) (one other : List ℕ) (c : Content) (rest : List ℕ) → SamePlaces n one other
    → Continues n call one c rest → Continues n call other c rest
continues_same n call one other c [] s h = λ j r l e. h j r (l.0, λ i. l.1 (s.forth j l.0 i)) e
continues_same n call one other c (k ∷ rest) s h = (
  (h.0.0, λ i. h.0.1 (s.back k h.0.0 i)),
  λ j l ne b. h.1 j (l.0, λ i. l.1 (s.forth j l.0 i)) ne b,
  h.2,
  h.3,
  continues_same n call (k ∷ one) (k ∷ other) h.2 rest
      (record {
        forth = λ j l i. elim i [ inl e ↦ inl e | inr m ↦ inr (s.forth j l m) ];
        back = λ j l i. elim i [ inl e ↦ inl e | inr m ↦ inr (s.back j l m) ];
      })
      h.4,
)

-- An order in calls, each two of them apart, none after one that it precedes, that leaves out no returned call, and
-- whose replies are right, completes.
pub goes_on_from : (n : ℕ) (call : ℕ → Call) (done : List ℕ) (c : Content) (es : List Call) →
    ((j k : ℕ) → j < n → k < n → call j ≡ call k → j ≡ k) →
    ((e : Call) → In e es → (k : ℕ) × (k < n) × (call k ≡ e)) →
    ((k : ℕ) → k < n → In (call k) es → In k done → ⊥) →
    ((k : ℕ) (r : Return) → IsLeft n done k → (call k).returned ≡ Some r → In (call k) es) →
    Pairs (λ a b. a ≢ b) es → Pairs (λ a b. ReturnsBefore b a → ⊥) es → RepliesAlong c es →
    (rest : List ℕ) × Continues n call done c rest
goes_on_from n call done c [] inj known new whole apart order replies = ([], λ j r l e. whole j r l e)
goes_on_from n call done c (e ∷ es) inj known new whole apart order replies =
    let at = known e (inl refl) in
    let k = at.0 in
    let is : call k ≡ e = at.2 in
    let left : IsLeft n done k = (at.1, new k at.1 (inl is)) in
    let does : next c (call k).op ≡ Some (replies.0, replies.1) = ap (λ (x : Call). next c x.op) is ∙ replies.2 in
    let agrees : (r : Return) → (call k).returned ≡ Some r → r.reply ≡ replies.1 =
    λ r q. agree e.returned r replies.1 (ap (λ (x : Call). x.returned) (sym is) ∙ q) replies.3 in
    let candidate : IsCandidate n call done k = λ j l ne b. elim (whole j b.0 l b.1) [
      | inl q ↦ ne (inj j k l.0 at.1 (q ∙ sym is))
      | inr i ↦ order.0 (call j) i (subst (λ (x : Call). ReturnsBefore (call j) x) is b)
    ] in
    let rest = goes_on_from n call (k ∷ done) replies.0 es inj (λ d i. known d (inr i))
    (λ j l i p. elim p [
      | inl q ↦ apart.0 (call j) i (sym is ∙ ap call (sym q))
      | inr m ↦ new j l (inr i) m
    ])
    (λ j r l q. elim (whole j r (l.0, λ m. l.1 (inr m)) q) [
      | inl s ↦ absurd (l.1 (inl (inj j k l.0 at.1 (s ∙ sym is))))
      | inr i ↦ i
    ])
    apart.1 order.1 replies.4 in
    (k ∷ rest.0, (left, candidate, replies.0, record { reply = replies.1; does = does; agrees = agrees }, rest.1))
  where
    agree : (o : Option Return) (r : Return) (reply : AnyReply) → o ≡ Some r → IfSome o (λ s. s.reply ≡ reply)
        → r.reply ≡ reply
    agree (Some s) r reply q h = ap (λ (x : Return). x.reply) (sym (same_Some s r q)) ∙ h
    agree None r reply q h = absurd (cc q)

-- two beginnings that are described alike
pub dead_again : {n : ℕ} {call : ℕ → Call} {high : ℕ} {not_done done : List ℕ} {c : Content}
    → IsDeadPair n call high not_done c → Describes n high not_done done → IsDead n call done c
dead_again {n} {call} {high} {not_done} {done} {c} h e rest g =
    let d = h.describes in
    h.dead rest (continues_same n call done h.done c rest (record {
      forth = λ k l i. d.cover k l (e.bound k i) (λ u. e.apart k u i);
      back = λ k l i. e.cover k l (d.bound k i) (λ u. d.apart k u i);
    }) g)
