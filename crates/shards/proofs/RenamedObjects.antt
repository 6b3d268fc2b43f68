-- Objects may have other names: where no two objects that events name get the same one, they denote a linearizable
-- history exactly where the renamed events do. An object has the same calls and the same kind under its new name, and
-- so the same valid orders; the rest is locality and its converse.
use Rattle.std.proofs.Common.{arith, ◌≡◌, ◌↔◌, ℕ, ℤ, ◌==◌, ◌<◌, Bool, inl, inr, List, [], ◌∷◌}
use Rattle.std.proofs.Common.{◌++◌, filter, find, reverse, Some, Contains, refl, ap, sym, ◌∙◌}
use Rattle.std.proofs.lemmas.Bool.{eqb-true, eq-eqb}
use Rattle.std.proofs.lemmas.Bool.Decides.{nat_tests}
use Rattle.std.proofs.lemmas.List.Elements.{Contains-append_left}
use Rattle.std.proofs.lemmas.List.Sorted.{Contains-permutation, IsPermutation-reverse, IsPermutation-sym}
use Rattle.model.specs.declared.Kind.{Kind}
use Rattle.model.specs.declared.AnyOp.{AnyOp}
use Rattle.model.specs.Objects.{any}
use Rattle.model.specs.Orders.{Call, ProcessCall, calls_in, calls_on, IsValidOrderOf}
use Rattle.model.specs.Lists.{In}
use Rattle.model.proofs.Lists.{in_filter, in_filter_from, in_filter_passes, in_map, in_map_from, in_split}
use Rattle.model.proofs.Lists.{all_from_in, all_from_pairs, pairs_from_all, pairs_map, contains_from_in}
use Rattle.locality.specs.Locality.{HasValidOrder}
use Rattle.locality.proofs.OneKind.{named_kinds, orders_of_kinds}
use Rattle.events.specs.declared.event.Action.{Action}
use Rattle.events.specs.declared.event.Action.TheVariants.{Invoke, Ok}
use Rattle.events.specs.declared.event.Event.{Event}
use Rattle.events.specs.Events.{denoted, kind_of_object, last_event, next_event, Follows, IsNamed}
use Rattle.events.specs.Events.{IsOutstandingCall, IsProper}
use Rattle.events.specs.Operations.{calls_of, end_at, operations_on}
use Rattle.events.proofs.ProcessRuns.{State, idle, busy, closed, state_by, MayDo, Runs, runs_from_start}
use Rattle.events.proofs.Calls.{proper_calls}
use Rattle.events.proofs.WellFormed.{denoted_is_history}
use Rattle.shards.specs.Shards.{renamed, renamed_event, DenoteLinearizable}
use Rattle.shards.proofs.Proper.{proper_of_kinds, proper_from}

-- ---- the objects of events

-- what is found in a list is in it
found_in : (p : Event → Bool) (d : Event) (es : List Event) → find p es ≡ Some d → In d es
found_in p d [] q = absurd cc
found_in p d (e ∷ es) q = grind (arith, found_in p d es)

-- the last event of a process is one of the events
last_in : (p : ℕ) (d : Event) (es : List Event) → last_event p es ≡ Some d → Contains es d
last_in p d es q = Contains-permutation (reverse es) es d (IsPermutation-sym es (reverse es) (IsPermutation-reverse es))
    (contains_from_in (reverse es) d (found_in (λ e. e.process == p) d (reverse es) q))

-- the object of each event of a proper list is named
pub named_in : (es : List Event) → IsProper es → (e : Event) → In e es → IsNamed es e.object
named_in es proper e i =
    let s = in_split e es i in go s.0 s.1 s.2 e.action refl (proper.each s.0 s.1 e s.2)
  where
    outstanding : (earlier later : List Event) (op : AnyOp) → es ≡ earlier ++ e ∷ later
        → IsOutstandingCall (last_event e.process earlier) e.object op → IsNamed es e.object
    outstanding earlier later op is o = record {
      event = o.0;
      op = op;
      stands = rw is (Contains-append_left earlier (e ∷ later) o.0 (last_in e.process o.0 earlier o.1));
      on_object = o.2;
      invokes = o.3;
    }

    go : (earlier later : List Event) → es ≡ earlier ++ e ∷ later → (a : Action) → e.action ≡ a
        → Follows earlier e.process e.object a → IsNamed es e.object
    go earlier later is (Invoke op) q f =
        record { event = e; op = op; stands = contains_from_in es e i; on_object = refl; invokes = q }
    go earlier later is (Ok r) q f = outstanding earlier later f.0 is f.1
    go earlier later is a q f = outstanding earlier later f.0 is f.1

-- ---- the calls and the kind of an object

-- among these events no other object has the new name of this one
abbrev IsApart : (ℕ → ℕ) → ℕ → List Event → Type 0
IsApart name x es = (e : Event) → In e es → name e.object ≡ name x → e.object ≡ x

same_test : (name : ℕ → ℕ) (y x : ℕ) → (name y ≡ name x → y ≡ x) → (name y == name x) ≡ (y == x)
same_test name y x apart = grind (arith, nat_tests)

ends_same : (name : ℕ → ℕ) (p : ℕ) (es : List Event)
    → end_at (next_event p (renamed name es)) ≡ end_at (next_event p es)
ends_same name p [] = refl
ends_same name p (e ∷ es) = grind (arith, ends_same name p es)

operations_same : (name : ℕ → ℕ) (x : ℕ) (es : List Event) → IsApart name x es
    → operations_on (name x) (renamed name es) ≡ operations_on x es
operations_same name x [] apart = refl
operations_same name x (e ∷ es) apart =
    rw (
      same_test name e.object x (apart e (inl refl)),
      ends_same name e.process es,
      operations_same name x es (λ d i. apart d (inr i)),
    ) refl

kind_same : (name : ℕ → ℕ) (x : ℕ) (es : List Event) → IsApart name x es
    → kind_of_object (renamed name es) (name x) ≡ kind_of_object es x
kind_same name x [] apart = refl
kind_same name x (e ∷ es) apart =
    rw (same_test name e.object x (apart e (inl refl)), kind_same name x es (λ d i. apart d (inr i))) refl

-- ---- renamed events are proper

abbrev state_named : (ℕ → ℕ) → State → State
state_named name idle = idle
state_named name (busy x op) = busy (name x) op
state_named name closed = closed

state_by_name : (name : ℕ → ℕ) (x : ℕ) (a : Action) → state_named name (state_by x a) ≡ state_by (name x) a
state_by_name name x a = grind arith

may_by_name : (name : ℕ → ℕ) (s : State) (x : ℕ) (a : Action) → MayDo s x a → MayDo (state_named name s) (name x) a
may_by_name name s x a h = grind arith

runs_renamed : (name : ℕ → ℕ) (p : ℕ) (s : State) (es : List Event) → Runs p s es
    → Runs p (state_named name s) (renamed name es)
runs_renamed name p s [] runs = tt
runs_renamed name p s (e ∷ es) runs =
    let x = e.object in
    let a = e.action in
    let now = runs_renamed name p (state_by x a) es in
    let later = runs_renamed name p s es in
    grind (arith, now, later, may_by_name name s x a, state_by_name name x a)

-- no two objects that the events name get the same name
abbrev pub HaveOwnNames : (ℕ → ℕ) → List Event → Type 0
HaveOwnNames name es = (x y : ℕ) → IsNamed es x → IsNamed es y → name x ≡ name y → x ≡ y

module _ (name : ℕ → ℕ) (es : List Event) (proper : IsProper es) (own : HaveOwnNames name es) where
  apart_at : (e : Event) → In e es → IsApart name e.object es
  apart_at e i d j = own d.object e.object (named_in es proper d j) (named_in es proper e i)

  pub renamed_proper : IsProper (renamed name es)
  renamed_proper = proper_from (kind_of_object (renamed name es)) (renamed name es)
      (all_from_pairs (λ a b. a.number < b.number) (renamed name es)
      (pairs_map (λ a b. a.number < b.number) (renamed_event name) es
      (pairs_from_all (λ a b. a.number < b.number) es proper.rising)))
      (λ p. runs_renamed name p idle es (runs_from_start es p proper))
      (λ f op i q.
      let e = in_map (renamed_event name) f es i in
      proper_of_kinds es proper e.0 op e.1 (sym (ap (λ (x : Event). x.action) e.2) ∙ q)
      ∙ (sym (kind_same name e.0.object es (apart_at e.0 e.1))
      ∙ ap (λ (x : Event). kind_of_object (renamed name es) x.object) (sym e.2)))

-- ---- orders

abbrev pub Ordered : Kind → List Call → Type 0
Ordered kind calls = (order : List ℤ) × IsValidOrderOf (any kind) calls order

abbrev pub OrderedAt : List Event → ℕ → Type 0
OrderedAt es x = Ordered (kind_of_object es x) (calls_on x (denoted es))

-- an order of the same calls, for the same kind
pub ordered_same : (es fs : List Event) (x y : ℕ) → kind_of_object es x ≡ kind_of_object fs y
    → calls_on x (denoted es) ≡ calls_on y (denoted fs) → OrderedAt es x → OrderedAt fs y
ordered_same es fs x y kind calls o = rw (← kind, ← calls) o

-- an object without an event has no operation
none_on : (x : ℕ) (es : List Event) → filter (λ e. e.object == x) es ≡ [] → operations_on x es ≡ []
none_on x [] none = refl
none_on x (e ∷ es) none = grind (arith, none_on x es)

module _ (es : List Event) (proper : IsProper es) where
  -- an object with a call has an event
  called_in : (c : ProcessCall) → In c (calls_in (denoted es)) → (e : Event) × In e es × (e.object ≡ c.object)
  called_in c i = go (filter on es) refl
    where
      on : Event → Bool
      on e = e.object == c.object

      called : ProcessCall → Bool
      called d = d.object == c.object

      go : (own : List Event) → filter on es ≡ own → (e : Event) × In e es × (e.object ≡ c.object)
      go [] none =
          let among = in_filter_from called c (calls_in (denoted es)) i (eq-eqb c.object c.object refl) in
          let call : In c.call (calls_on c.object (denoted es)) =
          in_map_from (λ (d : ProcessCall). d.call) c (filter called (calls_in (denoted es))) among in
          absurd (rw (← proper_calls es proper c.object, none_on c.object es none) at call)
      go (e ∷ own) q =
          let j : In e (filter on es) = rw q (inl refl) in
          (e, in_filter on e es j, eqb-true e.object c.object (in_filter_passes on e es j))

  -- a history is linearizable if each object with an event has a valid order
  pub linearizable_by : ((e : Event) → In e es → OrderedAt es e.object) → DenoteLinearizable es
  linearizable_by each = named_kinds (kind_of_object es) (denoted es) (denoted_is_history es proper)
      (all_from_in (λ (c : ProcessCall). HasValidOrder (kind_of_object es) (denoted es) c.object)
      (calls_in (denoted es)) (λ c i. let e = called_in c i in rw e.2 at (each e.0 e.1)))

  -- the order of each object of a linearizable history
  pub orders_of : DenoteLinearizable es → (x : ℕ) → OrderedAt es x
  orders_of l = orders_of_kinds (kind_of_object es) (denoted es) (denoted_is_history es proper) l

module _ (name : ℕ → ℕ) (es : List Event) (proper : IsProper es) (own : HaveOwnNames name es) where
  abbrev others : List Event
  others = renamed name es

  others_proper : IsProper others
  others_proper = renamed_proper name es proper own

  kinds_at : (e : Event) → In e es → kind_of_object others (name e.object) ≡ kind_of_object es e.object
  kinds_at e i = kind_same name e.object es (apart_at name es proper own e i)

  calls_at : (e : Event) → In e es → calls_on (name e.object) (denoted others) ≡ calls_on e.object (denoted es)
  calls_at e i =
      sym (proper_calls others others_proper (name e.object))
      ∙ (ap calls_of (operations_same name e.object es (apart_at name es proper own e i))
      ∙ proper_calls es proper e.object)

  pub renamed_linearizable : DenoteLinearizable es → DenoteLinearizable others
  renamed_linearizable l = linearizable_by others others_proper (λ f i.
      let e = in_map (renamed_event name) f es i in
      rw e.2 (ordered_same es others e.0.object (name e.0.object) (sym (kinds_at e.0 e.1)) (sym (calls_at e.0 e.1))
      (orders_of es proper l e.0.object)))

  pub linearizable_renamed : DenoteLinearizable others → DenoteLinearizable es
  linearizable_renamed l = linearizable_by es proper (λ e i.
      ordered_same others es (name e.object) e.object (kinds_at e i) (calls_at e i)
      (orders_of others others_proper l (name e.object)))

pub decided_by_renamed : (name : ℕ → ℕ) (es : List Event) → IsProper es → HaveOwnNames name es
    → (DenoteLinearizable es ↔ DenoteLinearizable (renamed name es))
decided_by_renamed name es proper own =
    (renamed_linearizable name es proper own, linearizable_renamed name es proper own)
