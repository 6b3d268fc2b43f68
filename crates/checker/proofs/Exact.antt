-- A valid order has no fault: it is right so far at its end (`SoFar`), which excludes each fault.
use Rattle.std.proofs.Common.{◌≡◌, ◌≢◌, ℤ, pos, ◌<◌, ◌==◌, cond, inl, inr, List, [], ◌∷◌, map, Option, Some, None}
use Rattle.std.proofs.Common.{IfSome, IsSome, Contains, refl, ap, sym, ◌∙◌, subst, arith}
use Rattle.std.specs.List.{find}
use Rattle.std.proofs.lemmas.Bool.{eq-eqb, ne_eqb}
use Rattle.std.proofs.lemmas.Option.{same_Some}
use Rattle.model.specs.declared.Kind.{Kind}
use Rattle.model.specs.declared.AnyReply.{AnyReply}
use Rattle.model.specs.Objects.{Content, empty}
use Rattle.model.specs.Orders.{Call, Return, ReturnsBefore, RepliesAlong, IsValidOrder}
use Rattle.model.specs.Lists.{In}
use Rattle.model.proofs.Lists.{Pairs, in_map, in_map_from, in_from_contains, contains_from_in, all_at, pairs_from_all}
use Rattle.checker.specs.declared.refusal.OrderFault.{OrderFault}
use Rattle.checker.specs.declared.refusal.OrderFault.TheVariants.{Omitted}
use Rattle.checker.specs.Faults.{call_with_number, IsFirstFault}
use Rattle.checker.proofs.Walking.{SoFar, InOrder, ReplyIs, Along, no_fault}

-- the calls in the order of their numbers
abbrev pub Rising : List Call → Type 0
Rising calls = Pairs (λ a b. a.number < b.number) calls

-- a call is named by its number
pub names_itself : (calls : List Call) (c : Call) → Rising calls → In c calls
    → call_with_number calls (pos c.number) ≡ Some c
names_itself [] c u i = absurd i
names_itself (d ∷ calls) c u i = elim i [
  | inl e ↦ ap (λ b. cond b (Some d) (find (λ x. x.number == c.number) calls))
      (eq-eqb d.number c.number (sym (ap (λ (x : Call). x.number) e))) ∙ ap Some (sym e)
  | inr j ↦ let g = u.0 c j in ap (λ b. cond b (Some d) (find (λ x. x.number == c.number) calls))
      (ne_eqb d.number c.number (λ q. let q' : d.number ≡ c.number = q in omega arith)) ∙ names_itself calls c u.1 j
]

named_entry : (calls es : List Call) → ((c : Call) → In c es → call_with_number calls (pos c.number) ≡ Some c) → (z : ℤ)
    → In z (map (λ (c : Call). pos c.number) es) → (c : Call) × In c es × (call_with_number calls z ≡ Some c)
named_entry calls es h z i =
    let r = in_map (λ (c : Call). pos c.number) z es i in (r.0, r.1, ap (call_with_number calls) r.2 ∙ h r.0 r.1)

order_along : (calls es : List Call) → ((c : Call) → In c es → call_with_number calls (pos c.number) ≡ Some c)
    → Pairs (λ (a b : Call). ReturnsBefore b a → ⊥) es → Pairs (InOrder calls) (map (λ (c : Call). pos c.number) es)
order_along calls [] h p = tt
order_along calls (e ∷ es) h p = (
  λ z i a b q r before.
      let f = named_entry calls es (λ c j. h c (inr j)) z i in
      let x : a ≡ e = same_Some a e (sym q ∙ h e (inl refl)) in
      let y : b ≡ f.0 = same_Some b f.0 (sym r ∙ f.2) in
      p.0 f.0 f.1 (subst (λ w. ReturnsBefore w e) y (subst (ReturnsBefore b) x before)),
  order_along calls es (λ c j. h c (inr j)) p.1,
)

said : (e : Call) (o : Option Return) (reply : AnyReply) → e.returned ≡ o → IfSome o (λ r. r.reply ≡ reply)
    → ReplyIs e reply
said e None reply q k r p = let n : None ≡ Some r = sym q ∙ p in absurd (cc n)
said e (Some s) reply q k r p = ap (λ (x : Return). x.reply) (same_Some r s (sym p ∙ q)) ∙ k

replies_along : (calls : List Call) (c : Content) (es : List Call)
    → ((c : Call) → In c es → call_with_number calls (pos c.number) ≡ Some c)
    → RepliesAlong c es → (d : Content) × Along calls c (map (λ (c : Call). pos c.number) es) d
replies_along calls c [] h r = (c, refl)
replies_along calls c (e ∷ es) h r =
    let rest = replies_along calls r.0 es (λ d j. h d (inr j)) r.4 in (
      rest.0,
      (
        e,
        r.0,
        h e (inl refl),
        record { reply = r.1; possible = r.2; replied = said e e.returned r.1 refl r.3 },
        rest.1,
      ),
    )

pub valid_so_far : (kind : Kind) (calls : List Call) (order : List ℤ) → Rising calls → IsValidOrder kind calls order
    → (d : Content) × SoFar kind calls order d
valid_so_far kind calls order u v =
    let own : (c : Call) → In c v.entries → call_with_number calls (pos c.number) ≡ Some c =
    λ c i. names_itself calls c u (in_from_contains calls c (all_at (Contains calls) v.entries v.known c i)) in
    let is = v.numbers in
    let along = replies_along calls (empty kind) v.entries own v.replies in (
      along.0,
      record {
        known = λ z i. let f = named_entry calls v.entries own z (subst (In z) is i) in (f.0, f.2);
        once = pairs_from_all (λ a b. a ≢ b) order v.once;
        in_order = rw is (order_along calls v.entries own
            (pairs_from_all (λ (a b : Call). ReturnsBefore b a → ⊥) v.entries v.in_order));
        replies = rw is along.1;
      },
    )

-- An order with a first fault is not valid.
pub fault_refutes : (kind : Kind) (calls : List Call) (order : List ℤ) (f : OrderFault) → Rising calls
    → IsFirstFault kind calls order f → IsValidOrder kind calls order → ⊥
fault_refutes kind calls order (Omitted n) u h v =
    let stands = in_from_contains v.entries h.call
    (all_at (λ c. IsSome c.returned → Contains v.entries c) calls v.whole h.call
    (in_from_contains calls h.call h.known) h.returned) in
    let there : In (pos n) order = rw (v.numbers, ← h.number)
    (in_map_from (λ (c : Call). pos c.number) h.call v.entries stands) in
    h.left_out (contains_from_in order (pos n) there)
fault_refutes kind calls order f u h v =
    let s = valid_so_far kind calls order u v in no_fault kind calls order s.0 s.1 h.place f h.stands
