-- An order is right so far (`SoFar`) if its entries are known, stand once, are in order, and are steps along the order.
-- One more entry keeps this, and each kind of fault contradicts one of its parts: so no place before it has a fault.
use Rattle.std.proofs.Common.{◌≡◌, ◌≢◌, ℕ, ℤ, pos, negsuc, ◌≤ℤ◌, zero, suc, ◌<◌, inl, inr, List, [], ◌∷◌, ◌++◌, take}
use Rattle.std.proofs.Common.{Option, Some, option_map, Contains, slice_get, refl, ap, sym, ◌∙◌, subst, arith}
use Rattle.std.proofs.lemmas.Int.{ints}
use Rattle.std.specs.List.{filter_map}
use Rattle.std.proofs.lemmas.Option.{same_Some}
use Rattle.std.proofs.lemmas.List.{take-take}
use Rattle.std.proofs.lemmas.Bool.Decides.{nat_tests}
use Rattle.model.specs.declared.Kind.{Kind}
use Rattle.model.specs.declared.AnyReply.{AnyReply}
use Rattle.model.specs.Objects.{Content, empty, next}
use Rattle.model.specs.Orders.{Call, Return, ReturnsBefore}
use Rattle.checker.specs.declared.refusal.OrderFault.{OrderFault}
use Rattle.checker.specs.declared.refusal.OrderFault.TheVariants.{UnknownOperation, Repeated, TooLate, NotPossible}
use Rattle.checker.specs.declared.refusal.OrderFault.TheVariants.{WrongReply, Omitted}
use Rattle.checker.specs.Faults.{call_with_number, after_call, content_after, IsGreatest, HasNumberAt, content_at}
use Rattle.checker.specs.Faults.{IsFaultAt}
use Rattle.model.specs.Lists.{In}
use Rattle.model.proofs.Lists.{Pairs, in_append, pairs_append, in_from_contains, in_from_slice}

-- ---- what holds of each two entries

-- what holds of each two holds of what is at a place and each before it
pub pairs_at : {X : Type 0} (R : X → X → Type 0) (xs : List X) (place : ℕ) (earlier there : X) → Pairs R xs
    → slice_get xs place ≡ Some there → In earlier (take place xs) → R earlier there
pairs_at R [] place earlier there each at i = absurd (cc at)
pairs_at R (x ∷ xs) zero earlier there each at i = absurd i
pairs_at {X} R (x ∷ xs) (suc place) earlier there each at i = elim i [
  | inl e ↦ subst (λ w. R w there) (sym e) (each.0 there (in_from_slice xs place there at))
  | inr k ↦ pairs_at R xs place earlier there each.1 at k
]

pub pairs_push : {X : Type 0} (R : X → X → Type 0) (xs : List X) (z : X) → Pairs R xs → ((y : X) → In y xs → R y z)
    → Pairs R (xs ++ z ∷ [])
pairs_push R xs z h f = pairs_append R xs (z ∷ []) h (λ y i. absurd i, tt) (λ x y i j. elim j [
  | inl e ↦ subst (R x) (sym e) (f x i)
  | inr k ↦ absurd k
])

-- ---- orders without a fault so far

-- the calls with these numbers
abbrev pub named : List Call → List ℤ → List Call
named calls o = filter_map (call_with_number calls) o

-- the second call does not precede the first
abbrev pub InOrder : List Call → ℤ → ℤ → Type 0
InOrder calls y z = (a b : Call) → call_with_number calls y ≡ Some a → call_with_number calls z ≡ Some b
    → ReturnsBefore b a → ⊥

-- what the call returned, if it did, is this reply
abbrev pub ReplyIs : Call → AnyReply → Type 0
ReplyIs e reply = (r : Return) → e.returned ≡ Some r → r.reply ≡ reply

-- the call is possible, and what it returned is the reply that it has
pub record IsStep (content : Content) (call : Call) (after : Content) : Type 0 where
  pub reply : AnyReply
  pub possible : next content call.op ≡ Some (after, reply)
  pub replied : ReplyIs call reply

-- along the order from one content to another each entry is a step
abbrev pub Along : List Call → Content → List ℤ → Content → Type 0
Along calls content [] last = content ≡ last
Along calls content (entry ∷ order) last =
    (call : Call) × (after : Content) × (call_with_number calls entry ≡ Some call) × IsStep content call after
    × Along calls after order last

-- no place is faulty, and this is the content then
pub record SoFar (kind : Kind) (calls : List Call) (order : List ℤ) (content : Content) : Type 0 where
  pub known : (z : ℤ) → In z order → (c : Call) × (call_with_number calls z ≡ Some c)
  pub once : Pairs (λ a b. a ≢ b) order
  pub in_order : Pairs (InOrder calls) order
  pub replies : Along calls (empty kind) order content

-- ---- calls and steps along an order

-- a call that is found has the number, and is one of the calls
pub found_number : (calls : List Call) (z : ℤ) (c : Call) → call_with_number calls z ≡ Some c → z ≡ pos c.number
found_number calls (negsuc n) c h = absurd (cc h)
found_number [] (pos n) c h = absurd (cc h)
found_number (d ∷ calls) (pos n) c h = let rest = found_number calls (pos n) c in grind (arith, nat_tests)

-- a call that was found by its number is one of the calls
pub found_known : (calls : List Call) (z : ℤ) (c : Call) → call_with_number calls z ≡ Some c → In c calls
found_known calls (negsuc n) c h = absurd (cc h)
found_known [] (pos n) c h = absurd (cc h)
found_known (d ∷ calls) (pos n) c h = let rest = found_known calls (pos n) c in grind (arith, nat_tests)

-- a step leaves the content that follows the call
pub after_step : (calls : List Call) (content after : Content) (entry : ℤ) (call : Call)
    → call_with_number calls entry ≡ Some call
    → IsStep content call after → after_call (call_with_number calls entry) content ≡ Some after
after_step calls content after entry call found step =
    ap (λ (o : Option Call). after_call o content) found
    ∙ ap (λ (o : Option (Content × AnyReply)). option_map (λ s. s.0) o) step.possible

-- The content after an order is the last one of a walk along it.
pub along_content : (calls : List Call) (content : Content) (order : List ℤ) (last : Content)
    → Along calls content order last → content_after calls (Some content) order ≡ Some last
along_content calls content [] last h = ap Some h
along_content calls content (entry ∷ order) last h =
    ap (λ (x : Option Content). content_after calls x order) (after_step calls content h.1 entry h.0 h.2 h.3)
    ∙ along_content calls h.1 order last h.4

-- an order that is right so far is right at each place: in the content there the entry is a step
pub along_at : (calls : List Call) (content : Content) (order : List ℤ) (last : Content) (place : ℕ) (entry : ℤ)
    (call : Call) (there : Content) → Along calls content order last
    → slice_get order place ≡ Some entry → call_with_number calls entry ≡ Some call
    → content_after calls (Some content) (take place order) ≡ Some there
    → (after : Content) × IsStep there call after
along_at calls content [] last place entry call there along here found q = absurd (cc here)
along_at calls content (first ∷ order) last zero entry call there along here found q =
    let same : along.0 ≡ call =
    same_Some along.0 call (sym along.2 ∙ (ap (call_with_number calls) (same_Some first entry here) ∙ found)) in
    (along.1, rw (same, same_Some content there q) at along.3)
along_at calls content (first ∷ order) last (suc place) entry call there along here found q =
    along_at calls along.1 order last place entry call there along.4 here found
    (sym (ap (λ (x : Option Content). content_after calls x (take place order))
    (after_step calls content along.1 first along.0 along.2 along.3)) ∙ q)

-- the order goes on with an entry that is a step
pub along_push : (calls : List Call) (content : Content) (order : List ℤ) (last : Content) (entry : ℤ) (call : Call)
    (after : Content) → Along calls content order last
    → call_with_number calls entry ≡ Some call → IsStep last call after
    → Along calls content (order ++ entry ∷ []) after
along_push calls content [] last entry call after along found step =
    (call, after, found, subst (λ x. IsStep x call after) (sym along) step, refl)
along_push calls content (first ∷ order) last entry call after along found step =
    (along.0, along.1, along.2, along.3, along_push calls along.1 order last entry call after along.4 found step)

-- ---- numbers and beginnings of lists

past : (a t : ℕ) → pos a ≤ℤ pos t → t < a → ⊥
past a t l k = omega (arith, ints)

past_by : (by a t : ℕ) → pos by ≡ pos a → t < by → t < a
past_by by a t e l = omega (arith, ints)

in_take : {X : Type 0} (y : X) (j : ℕ) (xs : List X) → In y (take j xs) → In y xs
in_take y zero xs i = absurd i
in_take y (suc j) [] i = i
in_take y (suc j) (x ∷ xs) i = elim i [ inl e ↦ inl e | inr k ↦ inr (in_take y j xs k) ]

get_front : {X : Type 0} (xs : List X) (i j : ℕ) → j < i → slice_get (take i xs) j ≡ slice_get xs j
get_front xs zero j l = absurd (omega arith)
get_front [] (suc i) j l = refl
get_front (x ∷ xs) (suc i) zero l = refl
get_front (x ∷ xs) (suc i) (suc j) l = get_front xs i j (omega arith)

-- ---- one entry more

-- with one more entry that is a step an order has no fault so far
pub more : (kind : Kind) (calls : List Call) (order : List ℤ) (content after : Content) (entry : ℤ) (call : Call)
    → SoFar kind calls order content → call_with_number calls entry ≡ Some call → (In entry order → ⊥)
    → ((r : Return) → call.returned ≡ Some r → (y : ℤ) → In y order → y ≤ℤ pos r.at) → IsStep content call after
    → SoFar kind calls (order ++ entry ∷ []) after
more kind calls order content after entry call so_far found fresh early step = record {
  known = λ y i. elim (in_append y order (entry ∷ []) i) [
    | inl j ↦ so_far.known y j
    | inr j ↦ elim j [ inl e ↦ (call, ap (call_with_number calls) e ∙ found) | inr k ↦ absurd k ]
  ];
  once = pairs_push (λ a b. a ≢ b) order entry so_far.once (λ y i e. fresh (subst (λ w. In w order) e i));
  in_order = pairs_push (InOrder calls) order entry so_far.in_order (λ y i a b p q before.
      let same : b ≡ call = same_Some b call (sym q ∙ found) in
      let l = early before.0 (sym (ap (λ (x : Call). x.returned) same) ∙ before.1) y i in
      let n : y ≡ pos a.number = found_number calls y a p in
      let k = before.2 in
      past a.number before.0.at (subst (λ w. w ≤ℤ pos before.0.at) n l) k);
  replies = along_push calls (empty kind) order content entry call after so_far.replies found step;
}

-- ---- no place has a fault

-- where no place is faulty there is no fault
pub no_fault : (kind : Kind) (calls : List Call) (order : List ℤ) (content : Content) → SoFar kind calls order content
    → (place : ℕ) (f : OrderFault) → IsFaultAt kind calls order place f → ⊥
no_fault kind calls order content so_far place (UnknownOperation entry) h =
    let c = so_far.known entry (in_from_slice order place entry h.0) in absurd (cc (c.1, h.1))
no_fault kind calls order content so_far place (Repeated entry) h =
    pairs_at (λ a b. a ≢ b) order place entry entry so_far.once h.0 (in_from_contains (take place order) entry h.1) refl
no_fault kind calls order content so_far place (TooLate entry by) h =
    let i = in_from_contains (take place order) (pos by) h.5.stands in
    let a = so_far.known (pos by) (in_take (pos by) place order i) in
    let n : pos by ≡ pos a.0.number = found_number calls (pos by) a.0 a.1 in
    let l = h.4 in
    pairs_at (InOrder calls) order place (pos by) entry so_far.in_order h.2.here i a.0 h.0 a.1 h.2.named
    (h.1, h.3, past_by by a.0.number h.1.at n l)
no_fault kind calls order content so_far place (NotPossible entry) h =
    let a = along_at calls (empty kind) order content place entry h.0 h.1 so_far.replies h.2.here h.2.named h.3 in
    let can = a.1.possible in
    absurd (cc (can, h.4))
no_fault kind calls order content so_far place (WrongReply entry gives) h =
    let a = along_at calls (empty kind) order content place entry h.0 h.2 so_far.replies h.4.here h.4.named h.6 in
    let same : a.1.reply ≡ gives =
    ap (λ (x : Content × AnyReply). x.1) (same_Some (a.0, a.1.reply) (h.3, gives) (sym a.1.possible ∙ h.7)) in
    h.8 (a.1.replied h.1 h.5 ∙ same)
no_fault kind calls order content so_far place (Omitted n) h = h

-- ---- no place before one has a fault

-- The call that an order names at a place before place i is named there by its first i entries.
names_front : (calls : List Call) (order : List ℤ) (i place : ℕ) (entry : ℤ) (call : Call) → place < i
    → HasNumberAt calls order place entry call → HasNumberAt calls (take i order) place entry call
names_front calls order i place entry call before h =
    record { here = get_front order i place before ∙ h.here; named = h.named }

-- The content at a place before place i is the same in the first i entries.
content_front : (kind : Kind) (calls : List Call) (order : List ℤ) (i place : ℕ) (content : Content) → place < i
    → content_at kind calls order place ≡ Some content → content_at kind calls (take i order) place ≡ Some content
content_front kind calls order i place content before h =
    ap (content_after calls (Some (empty kind))) (take-take place i order (omega arith)) ∙ h

-- A fault at a place before place i is also a fault of the first i entries.
pub fault_in_front : (kind : Kind) (calls : List Call) (order : List ℤ) (i place : ℕ) (fault : OrderFault) → place < i
    → IsFaultAt kind calls order place fault → IsFaultAt kind calls (take i order) place fault
fault_in_front kind calls order i place (UnknownOperation entry) before h = (get_front order i place before ∙ h.0, h.1)
fault_in_front kind calls order i place (Repeated entry) before h = (
  get_front order i place before ∙ h.0,
  subst (λ ys. Contains ys entry) (sym (take-take place i order (omega arith))) h.1,
)
fault_in_front kind calls order i place (TooLate entry by) before h = (
  h.0,
  h.1,
  names_front calls order i place entry h.0 before h.2,
  h.3,
  h.4,
  subst (IsGreatest (pos by)) (sym (take-take place i order (omega arith))) h.5,
)
fault_in_front kind calls order i place (NotPossible entry) before h = (
  h.0,
  h.1,
  names_front calls order i place entry h.0 before h.2,
  content_front kind calls order i place h.1 before h.3,
  h.4,
)
fault_in_front kind calls order i place (WrongReply entry gives) before h = (
  h.0,
  h.1,
  h.2,
  h.3,
  names_front calls order i place entry h.0 before h.4,
  h.5,
  content_front kind calls order i place h.2 before h.6,
  h.7,
  h.8,
)
fault_in_front kind calls order i place (Omitted n) before h = h

-- None of the entries before place i has a fault, if these are right so far.
pub none_before : (kind : Kind) (calls : List Call) (order : List ℤ) (content : Content) (i : ℕ)
    → SoFar kind calls (take i order) content → (place : ℕ) (fault : OrderFault) → place < i
    → IsFaultAt kind calls order place fault → ⊥
none_before kind calls order content i so_far place fault before h =
    no_fault kind calls (take i order) content so_far place fault
    (fault_in_front kind calls order i place fault before h)
