-- An order of one kind's calls is valid for the kind's own specification exactly if it is valid in the contents of all
-- kinds: by induction along the order, since their steps agree (`step_among`). So the laws of locality hold at the
-- kinds.
use Rattle.std.proofs.Common.{◌≡◌, ◌↔◌, ℕ, ℤ, Bool, true, false, List, [], ◌∷◌, Option, Some, None, if◌then◌else◌, All}
use Rattle.std.proofs.Common.{refl, ap, sym, ◌∙◌}
use Rattle.std.proofs.lemmas.Option.{same_Some}
use Rattle.model.specs.declared.Kind.{Kind}
use Rattle.model.specs.declared.Kind.TheVariants as kind
use Rattle.model.specs.declared.AnyOp.{AnyOp}
use Rattle.model.specs.declared.AnyOp.TheVariants as op
use Rattle.model.specs.declared.AnyReply.{AnyReply}
use Rattle.model.specs.declared.AnyReply.TheVariants.{Swapped, NotSwapped}
use Rattle.model.specs.Objects.{Content, queue, stack, heap, register, table, mutex, elements, count, owner}
use Rattle.model.specs.Objects.{contains_value, next_register, next, empty, specification, any, stepped}
use Rattle.model.specs.Linearizable.{IsLinearizable}
use Rattle.model.specs.Orders.{Numbered, events, Call, ProcessCall, calls_in, calls_on, IsHistory, RepliesBy}
use Rattle.model.specs.Orders.{IsValidOrderOf}
use Rattle.model.proofs.Lists.{all_at, all_from_in}
use Rattle.locality.specs.Locality.{HasValidOrder, HasValidOrderOf}
use Rattle.locality.proofs.Linearization.{linearizable_from_orders}
use Rattle.locality.proofs.NamedObjects.{linearizable_from_called_objects}
use Rattle.locality.proofs.ValidOrders.{each_object_has_an_order}

-- what an object of this kind contains, as one of all kinds
abbrev pub among : (k : Kind) → (specification k).Content → Content
among kind.Queue c = queue c
among kind.Stack c = stack c
among kind.Heap c = heap c
among kind.Register c = register c
among kind.Map c = table c
among kind.Mutex c = mutex c
among kind.Set c = elements c
among kind.Counter c = count c
among kind.Lock c = owner c

empty_among : (k : Kind) → empty k ≡ among k (specification k).empty
empty_among kind.Queue = refl
empty_among k = refl

abbrev swap_by : Option ℤ → ℤ → ℤ → Bool → Option (Option ℤ × AnyReply)
swap_by v a b it = if it then Some (Some b, Swapped a b) else Some (v, NotSwapped)

stepped_swap : (v : Option ℤ) (a b : ℤ) (it : Bool)
    → (if it then Some (register (Some b), Swapped a b) else Some (register v, NotSwapped))
    ≡ stepped register (swap_by v a b it)
stepped_swap v a b true = refl
stepped_swap v a b false = refl

register_among : (v : Option ℤ) (o : AnyOp) → next (register v) o ≡ stepped register (next_register v o)
register_among v (op.Cas a b) = stepped_swap v a b (contains_value v a)
register_among v o = refl

-- its steps are those of all kinds
step_among : (k : Kind) (c : (specification k).Content) (o : AnyOp)
    → next (among k c) o ≡ stepped (among k) ((specification k).next c o)
step_among kind.Register c o = register_among c o
step_among k c o = refl

own_step : (k : Kind) (made : Option ((specification k).Content × AnyReply)) (after : Content) (reply : AnyReply)
    → stepped (among k) made ≡ Some (after, reply)
    → (own : (specification k).Content) × (made ≡ Some (own, reply)) × (after ≡ among k own)
own_step k None after reply e = absurd (cc e)
own_step k (Some p) after reply e =
    let pair : (among k p.0, p.1) ≡ (after, reply) = same_Some (among k p.0, p.1) (after, reply) e in (
      p.0,
      ap (λ (r : AnyReply). Some (p.0, r)) (ap (λ (z : Content × AnyReply). z.1) pair),
      sym (ap (λ (z : Content × AnyReply). z.0) pair),
    )

replies_among : (k : Kind) (es : List Call) (c : (specification k).Content) → RepliesBy (specification k).next c es
    → RepliesBy next (among k c) es
replies_among k [] c h = tt
replies_among k (e ∷ es) c h =
    (among k h.0, h.1, step_among k c e.op ∙ ap (stepped (among k)) h.2, h.3, replies_among k es h.0 h.4)

replies_alone : (k : Kind) (es : List Call) (c : (specification k).Content) → RepliesBy next (among k c) es
    → RepliesBy (specification k).next c es
replies_alone k [] c h = tt
replies_alone k (e ∷ es) c h =
    let s = own_step k ((specification k).next c e.op) h.0 h.1 (sym (step_among k c e.op) ∙ h.2) in
    (s.0, h.1, s.1, h.3, replies_alone k es s.0 (rw s.2 at h.4))

valid_among : (k : Kind) (calls : List Call) (order : List ℤ) → IsValidOrderOf (specification k) calls order
    → IsValidOrderOf (any k) calls order
valid_among k calls order v = record {
  entries = v.entries;
  numbers = v.numbers;
  known = v.known;
  once = v.once;
  whole = v.whole;
  in_order = v.in_order;
  replies = rw (empty_among k) (replies_among k v.entries (specification k).empty v.replies);
}

valid_alone : (k : Kind) (calls : List Call) (order : List ℤ) → IsValidOrderOf (any k) calls order
    → IsValidOrderOf (specification k) calls order
valid_alone k calls order v = record {
  entries = v.entries;
  numbers = v.numbers;
  known = v.known;
  once = v.once;
  whole = v.whole;
  in_order = v.in_order;
  replies = replies_alone k v.entries (specification k).empty (rw (empty_among k) at v.replies);
}

-- an order is valid for a kind's own specification exactly if it is so among the contents of all kinds
pub valid_alone_iff_among_all : (k : Kind) (calls : List Call) (order : List ℤ)
    → (IsValidOrderOf (specification k) calls order ↔ IsValidOrderOf (any k) calls order)
valid_alone_iff_among_all k calls order = (valid_among k calls order, valid_alone k calls order)

order_alone : (kinds : ℕ → Kind) (h : List Numbered) (x : ℕ) → HasValidOrder kinds h x
    → HasValidOrderOf (λ y. specification (kinds y)) h x
order_alone kinds h x v = (v.0, valid_alone (kinds x) (calls_on x h) v.0 v.1)

-- a history is linearizable if the calls of each object have a valid order
pub locality_of_kinds : (kinds : ℕ → Kind) (h : List Numbered) → IsHistory h → ((x : ℕ) → HasValidOrder kinds h x)
    → IsLinearizable kinds (events h)
locality_of_kinds kinds h hist valid =
    linearizable_from_orders (λ x. specification (kinds x)) h hist (λ x. order_alone kinds h x (valid x))

-- a history is linearizable if the calls of each object that it names have a valid order
pub named_kinds : (kinds : ℕ → Kind) (h : List Numbered) → IsHistory h
    → All (λ e. HasValidOrder kinds h e.object) (calls_in h) → IsLinearizable kinds (events h)
named_kinds kinds h hist valid = linearizable_from_called_objects (λ x. specification (kinds x)) h hist
    (all_from_in (λ (e : ProcessCall). HasValidOrderOf (λ y. specification (kinds y)) h e.object) (calls_in h)
    (λ e i. order_alone kinds h e.object
    (all_at (λ (f : ProcessCall). HasValidOrder kinds h f.object) (calls_in h) valid e i)))

-- if a history is linearizable, the calls of each object have a valid order
pub orders_of_kinds : (kinds : ℕ → Kind) (h : List Numbered) → IsHistory h → IsLinearizable kinds (events h) → (x : ℕ)
    → HasValidOrder kinds h x
orders_of_kinds kinds h hist lin x =
    let own : HasValidOrderOf (λ y. specification (kinds y)) h x = each_object_has_an_order
    (λ y. specification (kinds y)) h hist lin x in
    (own.0, valid_among (kinds x) (calls_on x h) own.0 own.1)
