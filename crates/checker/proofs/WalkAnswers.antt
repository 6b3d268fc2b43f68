-- The walk answers a valid order, made of the calls that it names, or its first fault. No fault is before the place,
-- and each of a lesser rank at the place contradicts what the walk knows there.
use Rattle.std.proofs.Common.{◌≡◌, ◌≢◌, ℕ, ℤ, pos, ◌≤ℤ◌, ◌<◌, ◌≤◌, inl, inr, List, [], ◌∷◌, map, take, Option, Some}
use Rattle.std.proofs.Common.{None, IfSome, IsSome, Contains, slice_get, refl, ap, sym, ◌∙◌, arith}
use Rattle.std.proofs.lemmas.Int.{ints}
use Rattle.std.specs.List.{cons_option}
use Rattle.std.proofs.lemmas.Option.{same_Some}
use Rattle.model.specs.declared.Kind.{Kind}
use Rattle.model.specs.declared.AnyReply.{AnyReply}
use Rattle.model.specs.Objects.{Content, empty, next}
use Rattle.model.specs.Orders.{Call, Return, ReturnsBefore, RepliesAlong, IsValidOrder}
use Rattle.model.specs.Lists.{In}
use Rattle.model.proofs.Lists.{Pairs, in_from_contains, contains_from_in, all_from_in, all_from_pairs}
use Rattle.checker.specs.declared.refusal.OrderFault.{OrderFault}
use Rattle.checker.specs.declared.refusal.OrderFault.TheVariants.{UnknownOperation, Repeated, TooLate, NotPossible}
use Rattle.checker.specs.declared.refusal.OrderFault.TheVariants.{WrongReply}
use Rattle.checker.specs.Faults.{call_with_number, IsGreatest, IsFaultAt, rank, IsFirstAtPlace}
use Rattle.checker.proofs.Walking.{named, InOrder, ReplyIs, Along, SoFar, found_number, found_known, along_content}
use Rattle.checker.proofs.Walking.{none_before}

-- ---- an order without a fault is valid

-- the calls that an order names
in_named : (calls : List Call) (order : List ℤ) (call : Call) → In call (named calls order)
    → (entry : ℤ) × In entry order × (call_with_number calls entry ≡ Some call)
in_named calls [] call i = absurd i
in_named calls (entry ∷ order) call i = go (call_with_number calls entry) refl i (in_named calls order call)
  where
    go : (r : Option Call) → call_with_number calls entry ≡ r → In call (cons_option r (named calls order))
        → (In call (named calls order) → (entry : ℤ) × In entry order × (call_with_number calls entry ≡ Some call))
        → (y : ℤ) × In y (entry ∷ order) × (call_with_number calls y ≡ Some call)
    go None q j f = let y = f j in (y.0, inr y.1, y.2)
    go (Some found) q j f = elim j [
      | inl e ↦ (entry, inl refl, q ∙ ap Some (sym e))
      | inr k ↦ let y = f k in (y.0, inr y.1, y.2)
    ]

named_in : (calls : List Call) (order : List ℤ) (entry : ℤ) (call : Call) → In entry order
    → call_with_number calls entry ≡ Some call → In call (named calls order)
named_in calls [] entry call i q = absurd i
named_in calls (first ∷ order) entry call i q = elim i [
  | inl e ↦ rw (← e, q) (inl refl)
  | inr j ↦ behind (call_with_number calls first) (named_in calls order entry call j q)
]
  where
    behind : (r : Option Call) → In call (named calls order) → In call (cons_option r (named calls order))
    behind None k = k
    behind (Some found) k = inr k

numbers_named : (calls : List Call) (order : List ℤ)
    → ((entry : ℤ) → In entry order → (c : Call) × (call_with_number calls entry ≡ Some c))
    → order ≡ map (λ (c : Call). pos c.number) (named calls order)
numbers_named calls [] h = refl
numbers_named calls (entry ∷ order) h =
    let c = h entry (inl refl) in
    let rest = numbers_named calls order (λ y i. h y (inr i)) in
    let here : entry ≡ pos c.0.number = found_number calls entry c.0 c.1 in
    rw c.1 (cc (here, rest))

order_named : (calls : List Call) (order : List ℤ) → Pairs (InOrder calls) order
    → Pairs (λ (a b : Call). ReturnsBefore b a → ⊥) (named calls order)
order_named calls [] h = tt
order_named calls (entry ∷ order) h = go (call_with_number calls entry) refl (order_named calls order h.1)
  where
    go : (r : Option Call) → call_with_number calls entry ≡ r
        → Pairs (λ (a b : Call). ReturnsBefore b a → ⊥) (named calls order)
        → Pairs (λ (a b : Call). ReturnsBefore b a → ⊥) (cons_option r (named calls order))
    go None q rest = rest
    go (Some c) q rest = (λ d i before. let y = in_named calls order d i in h.0 y.0 y.1 c d q y.2 before, rest)

-- a recorded reply that is the one given
said : (e : Call) (r : Option Return) (reply : AnyReply) → e.returned ≡ r → ReplyIs e reply
    → IfSome r (λ r. r.reply ≡ reply)
said e None reply q k = tt
said e (Some r) reply q k = k r q

replies_named : (calls : List Call) (content : Content) (order : List ℤ) (last : Content)
    → Along calls content order last → RepliesAlong content (named calls order)
replies_named calls content [] last h = tt
replies_named calls content (entry ∷ order) last h =
    let call : Call = h.0 in
    let step = h.3 in
    let rest : RepliesAlong content (call ∷ named calls order) = (
      h.1,
      step.reply,
      step.possible,
      said call call.returned step.reply refl step.replied,
      replies_named calls h.1 order last h.4,
    ) in
    rw h.2 rest

-- an order without a faulty place, in which each call that returned stands, is valid
pub valid_from : (kind : Kind) (calls : List Call) (order : List ℤ) (content : Content) → SoFar kind calls order content
    → ((c : Call) → In c calls → IsSome c.returned → (z : ℤ) × In z order × (call_with_number calls z ≡ Some c))
    → IsValidOrder kind calls order
valid_from kind calls order content so_far whole = record {
  entries = named calls order;
  numbers = numbers_named calls order so_far.known;
  known = all_from_in (Contains calls) (named calls order)
      (λ c i. let z = in_named calls order c i in contains_from_in calls c (found_known calls z.0 c z.2));
  once = all_from_pairs (λ a b. a ≢ b) order so_far.once;
  whole = all_from_in (λ c. IsSome c.returned → Contains (named calls order) c) calls
      (λ c i r. let z = whole c i r in contains_from_in (named calls order) c (named_in calls order z.0 c z.1 z.2));
  in_order = all_from_pairs (λ (a b : Call). ReturnsBefore b a → ⊥) (named calls order)
      (order_named calls order so_far.in_order);
  replies = replies_named calls (empty kind) order content so_far.replies;
}

-- ---- what the walk knows at an entry

-- The front of an order up to place i is right, and the entry there names the call and has not stood.
pub record Reaches (kind : Kind) (calls : List Call) (order : List ℤ) (i : ℕ) (entry : ℤ) (call : Call)
    (content : Content) : Type 0 where
  pub so_far : SoFar kind calls (take i order) content
  pub here : slice_get order i ≡ Some entry
  pub named : call_with_number calls entry ≡ Some call
  pub fresh : In entry (take i order) → ⊥

-- the call is not late
abbrev pub IsInTime : List ℤ → ℕ → Call → Type 0
IsInTime order i call = (r : Return) → call.returned ≡ Some r → (y : ℤ) → In y (take i order) → y ≤ℤ pos r.at

-- This is the entry at place i of an order of calls.
module _ (kind : Kind) (calls : List Call) (order : List ℤ) (i : ℕ) (entry : ℤ) where
  -- ---- an entry without a call

  -- an entry that names no call is unknown
  pub unknown_first : (content : Content) → SoFar kind calls (take i order) content → slice_get order i ≡ Some entry
      → call_with_number calls entry ≡ None → IsFirstAtPlace kind calls order (UnknownOperation entry)
  unknown_first content so_far at none =
      record {
        place = i;
        stands = (at, none);
        earlier = λ j f l h. none_before kind calls order content i so_far j f l h;
        first = least;
      }
    where
      least : (f : OrderFault) → IsFaultAt kind calls order i f → 1 ≤ rank f
      least f h = grind arith

  -- ---- no fault of a lesser rank

  -- an entry that names a call is not unknown
  no_unknown : (other : ℤ) (call : Call) → slice_get order i ≡ Some entry → call_with_number calls entry ≡ Some call
      → IsFaultAt kind calls order i (UnknownOperation other) → ⊥
  no_unknown other call at found h =
      let same : entry ≡ other = same_Some entry other (sym at ∙ h.0) in
      let none : call_with_number calls entry ≡ None = ap (call_with_number calls) same ∙ h.1 in
      absurd (cc (found, none))

  -- an entry that is not among the earlier ones is not repeated
  no_repeat : (other : ℤ) → slice_get order i ≡ Some entry → (In entry (take i order) → ⊥)
      → IsFaultAt kind calls order i (Repeated other) → ⊥
  no_repeat other at fresh h =
      let same : entry ≡ other = same_Some entry other (sym at ∙ h.0) in
      fresh (rw same (in_from_contains (take i order) other h.1))

  same_call : (other : ℤ) (call called : Call) → slice_get order i ≡ Some entry
      → call_with_number calls entry ≡ Some call → slice_get order i ≡ Some other
      → call_with_number calls other ≡ Some called → call ≡ called
  same_call other call called at found at' found' =
      same_Some call called
      (sym found ∙ (ap (call_with_number calls) (same_Some entry other (sym at ∙ at')) ∙ found'))

  -- a call that is in time is not too late
  no_late : (other : ℤ) (by : ℕ) (call : Call) → slice_get order i ≡ Some entry
      → call_with_number calls entry ≡ Some call → IsInTime order i call
      → IsFaultAt kind calls order i (TooLate other by) → ⊥
  no_late other by call at found early h =
      let same : call ≡ h.0 = same_call other call h.0 at found h.2.here h.2.named in
      let upto : pos by ≤ℤ pos h.1.at =
      early h.1 (ap (λ (x : Call). x.returned) same ∙ h.3) (pos by)
      (in_from_contains (take i order) (pos by) h.5.stands) in
      let before : h.1.at < by = h.4 in
      omega (arith, ints)

  -- a call that the content allows is not impossible
  no_impossible : (other : ℤ) (call : Call) (content after : Content) (reply : AnyReply)
      → SoFar kind calls (take i order) content → slice_get order i ≡ Some entry
      → call_with_number calls entry ≡ Some call → next content call.op ≡ Some (after, reply)
      → IsFaultAt kind calls order i (NotPossible other) → ⊥
  no_impossible other call content after reply so_far at found can h =
      let same : call ≡ h.0 = same_call other call h.0 at found h.2.here h.2.named in
      let there : content ≡ h.1 =
      same_Some content h.1
      (sym (along_content calls (empty kind) (take i order) content so_far.replies) ∙ h.3) in
      let never : next content call.op ≡ None =
      ap (λ (x : Call). next content x.op) same ∙ (ap (λ (x : Content). next x h.0.op) there ∙ h.4) in
      absurd (cc (can, never))

  -- ---- the first fault, by its rank

  -- an entry that stood before is repeated
  pub repeated_first : (call : Call) (content : Content) → SoFar kind calls (take i order) content
      → slice_get order i ≡ Some entry → call_with_number calls entry ≡ Some call → In entry (take i order)
      → IsFirstAtPlace kind calls order (Repeated entry)
  repeated_first call content so_far at found twice =
      record {
        place = i;
        stands = (at, contains_from_in (take i order) entry twice);
        earlier = λ j f l h. none_before kind calls order content i so_far j f l h;
        first = least;
      }
    where
      least : (f : OrderFault) → IsFaultAt kind calls order i f → 2 ≤ rank f
      least (UnknownOperation y) h = absurd (no_unknown y call at found h)
      least f h = omega arith

  -- a call that returned before an earlier entry was invoked is too late
  pub late_first : (call : Call) (content : Content) (response : Return) (by : ℕ)
      → Reaches kind calls order i entry call content → call.returned ≡ Some response → response.at < by
      → IsGreatest (pos by) (take i order) → IsFirstAtPlace kind calls order (TooLate entry by)
  late_first call content response by s back late top =
      record {
        place = i;
        stands = (call, response, record { here = s.here; named = s.named }, back, late, top);
        earlier = λ j f l h. none_before kind calls order content i s.so_far j f l h;
        first = least;
      }
    where
      least : (f : OrderFault) → IsFaultAt kind calls order i f → 3 ≤ rank f
      least (UnknownOperation y) h = absurd (no_unknown y call s.here s.named h)
      least (Repeated y) h = absurd (no_repeat y s.here s.fresh h)
      least f h = omega arith

  -- a call in time that the content does not allow is not possible
  pub impossible_first : (call : Call) (content : Content) → Reaches kind calls order i entry call content
      → IsInTime order i call → next content call.op ≡ None → IsFirstAtPlace kind calls order (NotPossible entry)
  impossible_first call content s early never =
      record {
        place = i;
        stands = (
          call,
          content,
          record { here = s.here; named = s.named },
          along_content calls (empty kind) (take i order) content s.so_far.replies,
          never,
        );
        earlier = λ j f l h. none_before kind calls order content i s.so_far j f l h;
        first = least;
      }
    where
      least : (f : OrderFault) → IsFaultAt kind calls order i f → 4 ≤ rank f
      least (UnknownOperation y) h = absurd (no_unknown y call s.here s.named h)
      least (Repeated y) h = absurd (no_repeat y s.here s.fresh h)
      least (TooLate y by) h = absurd (no_late y by call s.here s.named early h)
      least f h = omega arith

  -- a call that is possible and in time, and that returned another reply, has a wrong one
  pub wrong_first : (call : Call) (content after : Content) (response : Return) (gives : AnyReply)
      → Reaches kind calls order i entry call content → IsInTime order i call → call.returned ≡ Some response
      → next content call.op ≡ Some (after, gives) → response.reply ≢ gives
      → IsFirstAtPlace kind calls order (WrongReply entry gives)
  wrong_first call content after response gives s early back can ne = record {
    place = i;
    stands = (
      call,
      response,
      content,
      after,
      record { here = s.here; named = s.named },
      back,
      along_content calls (empty kind) (take i order) content s.so_far.replies,
      can,
      ne,
    );
    earlier = λ j f l h. none_before kind calls order content i s.so_far j f l h;
    first = least;
  }
    where
      least : (f : OrderFault) → IsFaultAt kind calls order i f → 5 ≤ rank f
      least (UnknownOperation y) h = absurd (no_unknown y call s.here s.named h)
      least (Repeated y) h = absurd (no_repeat y s.here s.fresh h)
      least (TooLate y by) h = absurd (no_late y by call s.here s.named early h)
      least (NotPossible y) h = absurd (no_impossible y call content after gives s.so_far s.here s.named can h)
      least f h = omega arith
