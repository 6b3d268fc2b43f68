-- The operations that did not fail are the calls of the history, as many and in the same order (`calls-filter`). So how
-- many of them returned is counted alike for both, in any order (`count-owed`).
use Rattle.std.proofs.Common.{◌≡◌, ℕ, suc, zero, ◌+◌, ◌<◌, ◌≤◌, ◌≢◌, ◌&&◌, Bool, true, false, cond, List, [], ◌∷◌, Some}
use Rattle.std.proofs.Common.{IsSome, is_some, length, map, filter, count_by, take, get_or, add-one, inl, All, Any}
use Rattle.std.proofs.Common.{refl, ap, sym, ◌∙◌, subst, arith}
use Rattle.std.specs.List.{cons_option}
use Rattle.std.specs.List.Sorted.{IsPermutation}
use Rattle.std.proofs.lemmas.Option.{same_Some}
use Rattle.std.proofs.lemmas.List.Sorted.{length_permutation, All-permutation, sum_by-IsPermutation}
use Rattle.std.proofs.lemmas.List.{length-map, take_all}
use Rattle.std.proofs.lemmas.List.Sums.{length-filter, count_by_more_yes, count_by_more_no}
use Rattle.model.specs.declared.AnyOp.{AnyOp}
use Rattle.model.specs.declared.AnyOp.TheVariants.{Dequeue}
use Rattle.model.specs.Objects.{kind_of}
use Rattle.model.specs.Orders.{Call, Return}
use Rattle.model.specs.Lists.{In}
use Rattle.model.proofs.Lists.{in_filter, in_filter_passes, in_filter_from, in_map, in_map_from}
use Rattle.model.proofs.Lists.{contains_from_in, filter-filter, filter_same, all_from_in, all_at}
use Rattle.events.specs.declared.operations.End.{End}
use Rattle.events.specs.declared.operations.End.TheVariants.{Returned, Pending}
use Rattle.events.specs.declared.operations.Operation.{Operation}
use Rattle.events.specs.Operations.{call_with, call_of, calls_of, return_of, EndsAfter, IsObjectHistory, ObjectCalls}
use Rattle.order_search.specs.Arranged.{as_call, call_at, owes, count_below, AreFloors, IsArranged}
use Rattle.order_search.specs.Outcomes.{max_places}

-- whether an operation may have happened
abbrev pub happens : Operation → Bool
happens o = is_some (call_of o)

-- the calls are the operations that did not fail
pub calls-filter : (ops : List Operation) → calls_of ops ≡ map as_call (filter happens ops)
calls-filter [] = refl
calls-filter (o ∷ ops) = go o.«end» (calls-filter ops)
  where
    go : (e : End) → calls_of ops ≡ map as_call (filter happens ops)
        → cons_option (call_with o.number o.op e) (calls_of ops)
        ≡ map as_call (cond (is_some (call_with o.number o.op e))
        (record { number = o.number; op = o.op; «end» = e } ∷ filter happens ops) (filter happens ops))
    go (Returned at r) h = rw h
    go e h = rw h

length-calls : (ops : List Operation) → length (filter happens ops) ≡ length (calls_of ops)
length-calls ops = sym (ap length (calls-filter ops) ∙ length-map (filter happens ops) as_call)

-- there are as many calls as operations that did not fail
pub count-calls : (ops : List Operation) → count_by happens ops ≡ length (calls_of ops)
count-calls ops = sym (length-filter happens ops) ∙ length-calls ops

returns_after : (number : ℕ) (ops : List Operation) (e : End) (r : Return) → EndsAfter number ops e
    → return_of e ≡ Some r → number < r.at
returns_after number ops (Returned at reply) r h q =
    subst (λ (x : Return). number < x.at) (same_Some (record { at = at; reply = reply }) r q) h.0
returns_after number ops e r h q = absurd (cc q)

-- what holds of each operation holds of those that may have happened, in any order
all_items : (P : Operation → Type 0) (ops items : List Operation) → IsPermutation (filter happens ops) items
    → All P ops → All P items
all_items P ops items p h =
    All-permutation P (filter happens ops) items p
    (all_from_in P (filter happens ops) (λ x i. all_at P ops h x (in_filter happens x ops i)))

-- a search has as many operations as there are calls
pub length-items : (ops items : List Operation) → IsPermutation (filter happens ops) items
    → length items ≡ length (calls_of ops)
length-items ops items p = length_permutation (filter happens ops) items p ∙ length-calls ops

-- the operations that did not fail, in any order and with their floors, are arranged for a search
pub arranged : (h : ObjectCalls) (items : List Operation) (floors return_floors : List ℕ) (pending : ℕ)
    → IsObjectHistory h → length (calls_of h.ops) ≤ max_places
    → IsPermutation (filter happens h.ops) items → AreFloors true items floors → AreFloors false items return_floors
    → pending ≤ length items
    → ((k : ℕ) → k < pending → IsSome (call_at items k).returned) → IsArranged h.kind items floors return_floors pending
arranged h items floors return_floors pending is few p f g within returned = record {
  few = let e = length-items h.ops items p in omega arith;
  floors_right = f;
  return_floors_right = g;
  within = within;
  returned = returned;
  of_kind = λ k l. all_items (λ o. kind_of o.op ≡ h.kind) h.ops items p is.of_kind k _ l;
  ends = λ k r l q. all_items (λ o. (r : Return) → return_of o.«end» ≡ Some r → o.number < r.at) h.ops items p
      (λ k d l r q. returns_after _ h.ops _ r (is.ends k d l) q) k _ l r q;
}

-- ---- how many returned

-- whether an operation returned
abbrev pub returns : Operation → Bool
returns o = is_some (return_of o.«end»)

-- what `call_at` reads after the end
abbrev pub none : Operation
none = record { number = 0; op = Dequeue; «end» = Pending }

count_first : (items : List Operation) (k : ℕ) → k ≤ length items
    → count_below (owes (call_at items) []) k ≡ count_by returns (take k items)
count_first items zero l = refl
count_first items (suc k) l =
    rw (← add-one k) (go (returns (get_or items k none)) refl (count_first items k (omega arith)))
  where
    go : (b : Bool) → returns (get_or items k none) ≡ b
        → count_below (owes (call_at items) []) k ≡ count_by returns (take k items)
        → cond (b && true) (suc (count_below (owes (call_at items) []) k)) (count_below (owes (call_at items) []) k)
        ≡ count_by returns (take (k + 1) items)
    go true e h = let q = count_by_more_yes returns items k none (omega arith) e in omega arith
    go false e h = let q = count_by_more_no returns items k none (omega arith) e in omega arith

count_kept : (ops : List Operation) → count_by returns (filter happens ops) ≡ count_by returns ops
count_kept ops = sym (length-filter returns (filter happens ops))
    ∙ ap length (filter-filter returns happens ops
    ∙ filter_same (λ o. happens o && returns o) returns ops (λ o i. both o.number o.op o.«end»))
    ∙ length-filter returns ops
  where
    both : (number : ℕ) (op : AnyOp) (e : End)
        → (is_some (call_with number op e) && is_some (return_of e)) ≡ is_some (return_of e)
    both number op (Returned at r) = refl
    both number op e = refl

-- in whatever order they stand
pub count-owed : (ops items : List Operation) (left : ℕ) → IsPermutation (filter happens ops) items
    → left ≡ count_by returns ops → left ≡ count_below (owes (call_at items) []) (length items)
count-owed ops items left p e =
    e ∙ sym (count_kept ops) ∙ sym (sum_by-IsPermutation (λ o. cond (returns o) 1 0) (filter happens ops) items p)
    ∙ sym (count_first items (length items) (omega arith)
    ∙ ap (count_by returns) (take_all (length items) items (omega arith)))

-- where some operation returned, some call did
pub some_returned : (ops : List Operation) → count_by returns ops ≢ 0 → Any (λ c. IsSome c.returned) (calls_of ops)
some_returned ops ne = go (filter returns ops) refl
  where
    happened : (number : ℕ) (op : AnyOp) (e : End) → is_some (return_of e) ≡ true
        → is_some (call_with number op e) ≡ true
    happened number op (Returned at r) q = refl
    happened number op e q = absurd (cc q)

    found : (o : Operation) → In o (filter returns ops) → Any (λ c. IsSome c.returned) (calls_of ops)
    found o i =
        let here = in_filter returns o ops i in
        let yes = in_filter_passes returns o ops i in
        let call : In (as_call o) (calls_of ops) = rw (calls-filter ops) (in_map_from as_call o (filter happens ops)
        (in_filter_from happens o ops here (happened o.number o.op o.«end» yes))) in
        let k = contains_from_in (calls_of ops) (as_call o) call in
        (k.0, as_call o, k.1, k.2, yes)

    go : (os : List Operation) → filter returns ops ≡ os → Any (λ c. IsSome c.returned) (calls_of ops)
    go [] e = absurd (ne (sym (length-filter returns ops) ∙ ap length e))
    go (o ∷ os) e = found o (rw e (inl refl))

-- if no operation returned, no call did
pub none_returned : (ops : List Operation) → count_by returns ops ≡ 0 → (c : Call) (r : Return) → In c (calls_of ops)
    → c.returned ≡ Some r → ⊥
none_returned ops e c r i q =
    let m = in_map as_call c (filter happens ops) (rw calls-filter at i) in
    let yes : returns m.0 ≡ true = ap (λ (x : Call). is_some x.returned) (sym m.2) ∙ ap is_some q in
    nothing m.0 (filter returns ops) (length-filter returns ops ∙ e)
    (in_filter_from returns m.0 ops (in_filter happens m.0 ops m.1) yes)
  where
    nothing : (o : Operation) (os : List Operation) → length os ≡ 0 → In o os → ⊥
    nothing o [] e i = i
    nothing o (x ∷ os) e i = absurd (omega arith)
