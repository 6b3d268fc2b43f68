-- A part of the calls that an order has can be done in turn, if each call of the whole gives a step of the part
-- (`choose`). By induction along the order, which picks the calls that the part keeps.
use Rattle.std.proofs.Common.{◌≡◌, ◌⊎◌, inl, inr, ℕ, Bool, true, false, cond, List, [], ◌∷◌, Some, IfSome, IsSome}
use Rattle.std.proofs.Common.{is_some, ap, sym, ◌∙◌}
use Rattle.model.specs.declared.AnyOp.{AnyOp}
use Rattle.model.specs.declared.AnyReply.{AnyReply}
use Rattle.model.specs.Objects.{Content, next}
use Rattle.model.specs.Orders.{Call, RepliesAlong}
use Rattle.model.specs.Lists.{In}
use Rattle.model.proofs.Lists.{Pairs}
use Rattle.cuts.proofs.Booleans.{false_is_not_true}

-- the elements at the places of `true`
abbrev pub pick : {X : Type 0} → List Bool → List X → List X
pick [] xs = []
pick (b ∷ bs) [] = []
pick (b ∷ bs) (x ∷ xs) = cond b (x ∷ pick bs xs) (pick bs xs)

-- each element that was picked is one of the list
pub in_pick : {X : Type 0} (bs : List Bool) (xs : List X) (x : X) → In x (pick bs xs) → In x xs
in_pick [] xs x i = absurd i
in_pick (b ∷ bs) [] x i = absurd i
in_pick (true ∷ bs) (y ∷ ys) x i = elim i [ inl e ↦ inl e | inr j ↦ inr (in_pick bs ys x j) ]
in_pick (false ∷ bs) (y ∷ ys) x i = inr (in_pick bs ys x i)

-- what holds of each two elements in order holds of each two that were picked
pub pairs_pick : {X : Type 0} (R : X → X → Type 0) (bs : List Bool) (xs : List X) → Pairs R xs → Pairs R (pick bs xs)
pairs_pick R [] xs h = tt
pairs_pick R (b ∷ bs) [] h = tt
pairs_pick R (true ∷ bs) (y ∷ ys) h = (λ x i. h.0 x (in_pick bs ys x i), pairs_pick R bs ys h.1)
pairs_pick R (false ∷ bs) (y ∷ ys) h = pairs_pick R bs ys h.1

-- What becomes of an operation that the whole did with this reply, where the part contains d: the part leaves it out,
-- unless it is kept and returned; or the part keeps it, with the same reply.
abbrev pub Stepped : (Content → Content → Type 0) → AnyOp → Bool → Bool → AnyReply → Content → Content → Type 0
Stepped R op kept returned reply d after =
    (((kept ≡ false) ⊎ (returned ≡ false)) × R after d)
    ⊎ ((kept ≡ true) × (behind : Content) × (next d op ≡ Some (behind, reply)) × R after behind)

-- each call can be done, with a reply of which this holds
abbrev pub Replied : (Call → AnyReply → Type 0) → Content → List Call → Type 0
Replied Q c [] = Unit {0}
Replied Q c (e ∷ es) = (after : Content) × (reply : AnyReply) × (next c e.op ≡ Some (after, reply))
    × IfSome e.returned (λ r. r.reply ≡ reply) × Q e reply × Replied Q after es

pub record Simulates (R : Content → Content → Type 0) (kept : ℕ → Bool) (Q : Call → AnyReply → Type 0) : Type 0 where
  pub step : (call : Call) (whole part after : Content) (reply : AnyReply) → R whole part
      → next whole call.op ≡ Some (after, reply) → Q call reply
      → Stepped R call.op (kept call.number) (is_some call.returned) reply part after

pub record Choice (kept : ℕ → Bool) (d : Content) (es : List Call) : Type 0 where
  pub flags : List Bool
  pub replies : RepliesAlong d (pick flags es)
  pub from : (e : Call) → In e (pick flags es) → kept e.number ≡ true
  pub whole : (e : Call) → In e es → kept e.number ≡ true → IsSome e.returned → In e (pick flags es)

pub choose : (R : Content → Content → Type 0) (kept : ℕ → Bool) (Q : Call → AnyReply → Type 0) → Simulates R kept Q
    → (es : List Call) (c d : Content) → R c d → Replied Q c es → Choice kept d es
choose R kept Q s [] c d r h = record { flags = []; replies = tt; from = λ e i. absurd i; whole = λ e i k so. absurd i }
choose R kept Q s (e ∷ es) c d r h =
    elim (s.step e c d h.0 h.1 r h.2 h.4) [
      | inl skip ↦
          let m = choose R kept Q s es h.0 d skip.1 h.5 in
          record {
            flags = false ∷ m.flags;
            replies = m.replies;
            from = m.from;
            whole = λ x i k so. elim i [
              | inl q ↦ absurd (elim skip.0 [
                | inl out ↦ false_is_not_true (sym out ∙ ap (λ (z : Call). kept z.number) (sym q) ∙ k)
                | inr open_call ↦ false_is_not_true (sym open_call ∙ ap (λ (z : Call). is_some z.returned) (sym q) ∙ so)
              ])
              | inr j ↦ m.whole x j k so
            ];
          }
      | inr take ↦
          let m = choose R kept Q s es h.0 take.1 take.3 h.5 in
          record {
            flags = true ∷ m.flags;
            replies = (take.1, h.1, take.2, h.3, m.replies);
            from = λ x i. elim i [ inl q ↦ ap (λ (z : Call). kept z.number) q ∙ take.0 | inr j ↦ m.from x j ];
            whole = λ x i k so. elim i [ inl q ↦ inl q | inr j ↦ inr (m.whole x j k so) ];
          }
    ]
