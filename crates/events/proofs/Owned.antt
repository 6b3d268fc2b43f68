-- The events on some objects alone: they tell as much of those objects' operations as all events do.
use Rattle.std.proofs.Common.{◌≡◌, ℕ, ◌==◌, ◌%◌, Bool, true, false, cond, List, [], ◌∷◌, ◌++◌, filter, Option, Some}
use Rattle.std.proofs.Common.{refl, ap, sym, ◌∙◌, subst}
use Rattle.std.proofs.lemmas.Bool.{eq-eqb, ne_eqb}
use Rattle.model.specs.declared.AnyOp.{AnyOp}
use Rattle.events.specs.declared.event.Action.{Action}
use Rattle.events.specs.declared.event.Action.TheVariants.{Invoke, Ok, Fail, Info}
use Rattle.events.specs.declared.event.Event.{Event}
use Rattle.events.specs.declared.operations.Operation.{Operation}
use Rattle.events.specs.Events.{next_event, IsProper}
use Rattle.events.specs.Operations.{end_at, begun, operations_on, operations_in, IsGatheredObject}
use Rattle.events.proofs.ProcessRuns.{idle, busy, state_by, MayDo, Runs, runs_from_start}
use Rattle.events.proofs.Calls.{AllRun, all_run_later}

-- the events on own objects
abbrev pub owned : (ℕ → Bool) → List Event → List Event
owned own es = filter (λ e. own e.object) es

-- an event on an own object is kept
pub owned_here : (own : ℕ → Bool) (e : Event) (es : List Event) → own e.object ≡ true
    → owned own (e ∷ es) ≡ e ∷ owned own es
owned_here own e es q = ap (λ b. cond b (e ∷ owned own es) (owned own es)) q

-- an event on another object is left out
pub owned_other : (own : ℕ → Bool) (e : Event) (es : List Event) → own e.object ≡ false
    → owned own (e ∷ es) ≡ owned own es
owned_other own e es q = ap (λ b. cond b (e ∷ owned own es) (owned own es)) q

-- a busy process does nothing on another object
same_object : (x y : ℕ) (op : AnyOp) (a : Action) → MayDo (busy x op) y a → y ≡ x
same_object x y op (Invoke o) h = absurd h
same_object x y op (Ok r) h = h.0
same_object x y op Fail h = h
same_object x y op Info h = h

-- The next event of a process that is busy on an own object is its next one among the own events.
next_owned : (own : ℕ → Bool) (p x : ℕ) (op : AnyOp) (es : List Event) → own x ≡ true → Runs p (busy x op) es
    → next_event p (owned own es) ≡ next_event p es
next_owned own p x op [] is h = refl
next_owned own p x op (e ∷ es) is h = go (e.process == p) refl (next_owned own p x op es is)
  where
    go : (b : Bool) → (e.process == p) ≡ b → (Runs p (busy x op) es → next_event p (owned own es) ≡ next_event p es)
        → next_event p (owned own (e ∷ es)) ≡ next_event p (e ∷ es)
    go true q f =
        let here : own e.object ≡ true = ap own (same_object x e.object op e.action (h.0 q).0) ∙ is in
        ap (next_event p) (owned_here own e es here)
        ∙ (ap (λ (t : Bool). cond t (Some e) (next_event p (owned own es))) q
        ∙ sym (ap (λ (t : Bool). cond t (Some e) (next_event p es)) q))
    go false q f = last (own e.object) ∙ sym (ap (λ (t : Bool). cond t (Some e) (next_event p es)) q)
      where
        last : (c : Bool) → next_event p (cond c (e ∷ owned own es) (owned own es)) ≡ next_event p es
        last true = ap (λ (t : Bool). cond t (Some e) (next_event p (owned own es))) q ∙ f (h.1 q)
        last false = f (h.1 q)

-- an own event begins the same operation
begun_same : (own : ℕ → Bool) (n p x : ℕ) (a : Action) (es : List Event) → own x ≡ true
    → ((op : AnyOp) → a ≡ Invoke op → Runs p (busy x op) es)
    → begun n a (end_at (next_event p (owned own es))) ≡ begun n a (end_at (next_event p es))
begun_same own n p x (Invoke op) es is h =
    ap (λ (o : Option Event). begun n (Invoke op) (end_at o)) (next_owned own p x op es is (h op refl))
begun_same own n p x (Ok r) es is h = refl
begun_same own n p x Fail es is h = refl
begun_same own n p x Info es is h = refl

runs_next : (e : Event) (es : List Event) → AllRun (e ∷ es) → (op : AnyOp) → e.action ≡ Invoke op
    → Runs e.process (busy e.object op) es
runs_next e es h op q =
    let r = h e.process in subst (λ a. Runs e.process (state_by e.object a) es) q
    (r.1.0 (eq-eqb e.process e.process refl)).1

-- the operations on an own object are the same among the own events
pub operations_owned : (own : ℕ → Bool) (x : ℕ) (es : List Event) → own x ≡ true → AllRun es
    → operations_on x (owned own es) ≡ operations_on x es
operations_owned own x [] is h = refl
operations_owned own x (e ∷ es) is h = go (own e.object) refl (operations_owned own x es is (all_run_later e es h))
  where
    go : (b : Bool) → own e.object ≡ b → operations_on x (owned own es) ≡ operations_on x es
        → operations_on x (cond b (e ∷ owned own es) (owned own es)) ≡ operations_on x (e ∷ es)
    go true q s =
        ap (λ ops. cond (e.object == x) (begun e.number e.action (end_at (next_event e.process (owned own es)))) []
        ++ ops) s
        ∙ ap (λ (o : List Operation). cond (e.object == x) o [] ++ operations_on x es)
        (begun_same own e.number e.process e.object e.action es q (runs_next e es h))
    go false q s =
        let ne : (e.object == x) ≡ false =
        ne_eqb e.object x (λ i. let t : own e.object ≡ true = ap own i ∙ is in absurd (cc (q, t))) in
        s ∙ sym (ap (λ b. cond b (begun e.number e.action (end_at (next_event e.process es))) []
        ++ operations_on x es) ne)

-- among the own events no operation is on another object
pub no_operations : (own : ℕ → Bool) (x : ℕ) (es : List Event) → own x ≡ false → operations_on x (owned own es) ≡ []
no_operations own x [] is = refl
no_operations own x (e ∷ es) is = go (own e.object) refl (no_operations own x es is)
  where
    go : (b : Bool) → own e.object ≡ b → operations_on x (owned own es) ≡ []
        → operations_on x (cond b (e ∷ owned own es) (owned own es)) ≡ []
    go true q s =
        let ne : (e.object == x) ≡ false =
        ne_eqb e.object x (λ i. let t : own x ≡ true = ap own (sym i) ∙ q in absurd (cc (is, t))) in
        ap (λ b. cond b (begun e.number e.action (end_at (next_event e.process (owned own es)))) []
        ++ operations_on x (owned own es)) ne ∙ s
    go false q s = s

-- the objects of a part
abbrev pub in_part : ℕ → ℕ → ℕ → Bool
in_part part parts x = x % parts == part

-- what was gathered of the events on them is what all events have
pub gathered_in : (part parts x : ℕ) (es : List Event) (kept : Option (List Operation)) → IsProper es
    → IsGatheredObject kept (operations_on x (owned (in_part part parts) es))
    → IsGatheredObject kept (operations_in part parts x es)
gathered_in part parts x es kept proper h = go (in_part part parts x) refl
  where
    go : (b : Bool) → in_part part parts x ≡ b → IsGatheredObject kept (cond b (operations_on x es) [])
    go true q = subst (IsGatheredObject kept)
        (operations_owned (in_part part parts) x es q (λ p. (idle, runs_from_start es p proper))) h
    go false q = subst (IsGatheredObject kept) (no_operations (in_part part parts) x es q) h
