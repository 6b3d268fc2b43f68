-- Finding the operation with a number among operations whose numbers rise: these are sorted by the comparison with it,
-- so what stands where the search ends names the call, or there is none.
use Rattle.std.proofs.Common.{◌≡◌, ◌≢◌, ℕ, ℤ, pos, ◌<◌, ◌≤◌, ◌<ℤ◌, ◌⊎◌, inl, inr, List, [], ◌∷◌, length, Option}
use Rattle.std.proofs.Common.{Some, None, AllPairs, get_or, refl, ap, sym, ◌∙◌, arith}
use Rattle.std.proofs.lemmas.Int.{ints}
use Rattle.std.specs.List.{cons_option}
use Rattle.std.specs.List.Sorted.{IsNonDecreasingBy, IsPartitionPoint}
use Rattle.std.specs.Ordering.{int_cmp, ordering_index, MatchOrdering}
use Rattle.std.specs.Cmp.{int_ranked}
use Rattle.std.specs.declared.cmp.Ordering.{Ordering}
use Rattle.std.specs.declared.cmp.Ordering.TheVariants.{Less, Equal, Greater}
use Rattle.std.proofs.lemmas.List.{get_or_default}
use Rattle.std.proofs.lemmas.Bool.{cases_order}
use Rattle.model.specs.Orders.{Call}
use Rattle.model.specs.Lists.{In}
use Rattle.model.proofs.Lists.{Pairs, pairs_from_all}
use Rattle.events.specs.declared.operations.Operation.{Operation}
use Rattle.events.specs.declared.operations.End.TheVariants.{Returned, Failed}
use Rattle.model.specs.declared.AnyOp.TheVariants.{Enqueue}
use Rattle.model.specs.declared.AnyReply.TheVariants.{Value}
use Rattle.events.specs.Operations.{call_of, calls_of}
use Rattle.checker.specs.Faults.{call_with_number}
use Rattle.checker.proofs.Walking.{found_number, found_known}
use Rattle.checker.proofs.Exact.{Rising, names_itself}
use Rattle.checker.proofs.Steps.{AtHand, call_parts, call_from, place_of_call, call_at_place, numbers_apart}
use Rattle.model.proofs.Orders.{same_pos}

-- the greater of two numbers compares no less with a third
index_rises : (a b : ℕ) (z : ℤ) → a ≤ b → ordering_index (int_cmp (pos a) z) ≤ ordering_index (int_cmp (pos b) z)
index_rises a b z l = grind (arith, ints)

-- Operations whose numbers rise can be searched by number.
pub search_rises : (ops : List Operation) (entry : ℤ) → AllPairs (λ a b. a.number < b.number) ops
    → IsNonDecreasingBy (λ o. ordering_index (int_cmp (pos o.number) entry)) ops
search_rises ops entry rising i j d l m = elim (cases_order i j) [
  | inl s ↦ rw s (omega arith)
  | inr r ↦ elim r [
    | inl t ↦ let g = rising i j d t m in index_rises (get_or ops i d).number (get_or ops j d).number entry
        (omega arith)
    | inr t ↦ absurd (omega arith)
  ]
]

-- the calls of operations whose numbers rise
pub rising_calls : (ops : List Operation) → Pairs (λ a b. a.number < b.number) ops → Rising (calls_of ops)
rising_calls [] h = tt
rising_calls (o ∷ ops) h = go (call_of o) refl (rising_calls ops h.1)
  where
    above : (c : Call) → call_of o ≡ Some c → (e : Call) → In e (calls_of ops) → c.number < e.number
    above c q e i = below (operation_of ops e i)
      where
        below : ((p : Operation) × In p ops × (p.number ≡ e.number)) → c.number < e.number
        below p =
            let g = h.0 p.0 p.1 in
            let n = (call_parts o c q).0 in
            let m = p.2 in
            omega arith

        operation_of : (os : List Operation) (e : Call) → In e (calls_of os)
            → (p : Operation) × In p os × (p.number ≡ e.number)
        operation_of [] e i = absurd i
        operation_of (p ∷ os) e i = pick (call_of p) refl i (operation_of os e)
          where
            pick : (r : Option Call) → call_of p ≡ r → In e (cons_option r (calls_of os))
                → (In e (calls_of os) → (p : Operation) × In p os × (p.number ≡ e.number))
                → (x : Operation) × In x (p ∷ os) × (x.number ≡ e.number)
            pick None q j f = let x = f j in (x.0, inr x.1, x.2)
            pick (Some d) q j f = elim j [
              | inl s ↦ (p, inl refl, (call_parts p d q).0 ∙ ap (λ (x : Call). x.number) (sym s))
              | inr k ↦ let x = f k in (x.0, inr x.1, x.2)
            ]

    go : (r : Option Call) → call_of o ≡ r → Rising (calls_of ops) → Rising (cons_option r (calls_of ops))
    go None q rest = rest
    go (Some c) q rest = (above c q, rest)

-- an operation, for a default that nothing reads
abbrev pub placeholder_operation : Operation
placeholder_operation = record { number = 0; op = Enqueue (pos 0); «end» = Returned 0 (Value None) }

-- a number that no call's operation has names no call
pub not_named : (ops : List Operation) (entry : ℤ) (default : Operation)
    → ((k : ℕ) (c : Call) → k < length ops → pos (get_or ops k default).number ≡ entry
    → call_of (get_or ops k default) ≡ Some c → ⊥) → call_with_number (calls_of ops) entry ≡ None
not_named ops entry default h = go (call_with_number (calls_of ops) entry) refl
  where
    go : (r : Option Call) → call_with_number (calls_of ops) entry ≡ r → r ≡ None
    go None q = refl
    go (Some c) q =
        let p = place_of_call ops c (found_known (calls_of ops) entry c q) in
        let n : pos (get_or ops p.0 default).number ≡ entry =
        ap pos (call_parts (get_or ops p.0 default) c (p.2 default)).0 ∙ sym (found_number (calls_of ops) entry c q) in
        absurd (h p.0 c p.1 n (p.2 default))

-- what the search found names the call
pub found_by_number : (ops : List Operation) (entry : ℤ) (place : ℕ) (default : Operation)
    → AllPairs (λ a b. a.number < b.number) ops → place < length ops
    → pos (get_or ops place default).number ≡ entry → (get_or ops place default).«end» ≢ Failed
    → (call : Call) × AtHand ops entry place call
found_by_number ops entry place default rising inside is done =
    let made : Operation = get_or ops place default in
    let call = call_from made done in
    let number : pos call.0.number ≡ entry = ap pos (sym (call_parts made call.0 call.1).0) ∙ is in
    let own = names_itself (calls_of ops) call.0
    (rising_calls ops (pairs_from_all (λ a b. a.number < b.number) ops rising))
    (call_at_place ops place default call.0 inside call.1) in (
      call.0,
      record {
        within = inside;
        found = ap (call_with_number (calls_of ops)) (sym number) ∙ own;
        is = λ e. ap call_of (get_or_default ops place e default inside) ∙ call.1;
      },
    )

pub found_here : (ops : List Operation) (entry : ℤ) (place : ℕ) (default : Operation)
    → AllPairs (λ a b. a.number < b.number) ops → place < length ops
    → int_cmp (pos (get_or ops place default).number) entry ≡ Equal → (get_or ops place default).«end» ≢ Failed
    → (c : Call) × AtHand ops entry place c
found_here ops entry place default rising inside eq done =
    found_by_number ops entry place default rising inside
    (int_ranked (pos (get_or ops place default).number) entry Equal (sym eq)) done

-- what failed names no call
pub failed_here : (ops : List Operation) (entry : ℤ) (place : ℕ) (default : Operation)
    → AllPairs (λ a b. a.number < b.number) ops → place < length ops
    → int_cmp (pos (get_or ops place default).number) entry ≡ Equal → call_of (get_or ops place default) ≡ None
    → call_with_number (calls_of ops) entry ≡ None
failed_here ops entry place default rising inside eq none = not_named ops entry default (λ j c m n q.
    let here : pos (get_or ops place default).number ≡ entry =
    int_ranked (pos (get_or ops place default).number) entry Equal (sym eq) in
    let same : (get_or ops place default).number ≡ (get_or ops j default).number =
    same_pos (get_or ops place default).number (get_or ops j default).number (here ∙ sym n) in
    elim (cases_order place j) [
      | inl s ↦ let t : None ≡ Some c = sym none ∙ (ap (λ i. call_of (get_or ops i default)) s ∙ q) in absurd (cc t)
      | inr r ↦ numbers_apart ops place j default default rising inside m
          (λ s. elim r [ inl a ↦ omega arith | inr a ↦ omega arith ]) same
    ])

-- a search that found nothing says that no operation has the number
pub none_here : (ops : List Operation) (entry : ℤ) (i : ℕ) (default : Operation)
    → IsPartitionPoint (λ o. int_cmp (pos o.number) entry ≡ Less) (λ o. int_cmp (pos o.number) entry ≡ Greater) ops i
    → call_with_number (calls_of ops) entry ≡ None
none_here ops entry i default h =
    not_named ops entry default (λ k c l n q. apart k (int_ranked (pos (get_or ops k default).number) entry) l n
    (cases_order k i))
  where
    apart : (k : ℕ) → ((r : Ordering) → r ≡ int_cmp (pos (get_or ops k default).number) entry
        → MatchOrdering r (pos (get_or ops k default).number <ℤ entry) (pos (get_or ops k default).number ≡ entry)
        (entry <ℤ pos (get_or ops k default).number)) → k < length ops
        → pos (get_or ops k default).number ≡ entry → (k ≡ i) ⊎ ((k < i) ⊎ (i < k)) → ⊥
    apart k rank l n (inl s) = let g = rank Greater (sym (h.1 k default (omega arith) l)) in omega (arith, ints)
    apart k rank l n (inr (inl t)) = let g = rank Less (sym (h.0 k default (omega arith) t)) in omega (arith, ints)
    apart k rank l n (inr (inr t)) = let g = rank Greater (sym (h.1 k default (omega arith) l)) in omega (arith, ints)
