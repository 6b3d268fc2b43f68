-- The operations of an object among proper events are its calls in what these denote: by induction along the events,
-- with the state of each process. In the lemmas n is the number of an event, p its process, y its object and a its
-- action; es are the events after it, and x is the object whose calls are meant.
use Rattle.std.proofs.Common.{◌≡◌, ℕ, ◌==◌, ◌&&◌, Bool, true, false, cond, List, [], ◌∷◌, ◌++◌, map, filter, Option}
use Rattle.std.proofs.Common.{Some, None, refl, ap, sym, ◌∙◌, subst}
use Rattle.std.specs.List.{cons_option}
use Rattle.std.specs.Option.{option_or}
use Rattle.std.proofs.lemmas.Bool.{and_from, eqb-true, eqb-false, eq-eqb, ne_eqb}
use Rattle.std.proofs.lemmas.List.Elements.{filter_map-append}
use Rattle.model.specs.declared.AnyOp.{AnyOp}
use Rattle.model.specs.Orders.{Numbered, Return, Call, ProcessCall, response_of, calls_in, calls_on}
use Rattle.events.specs.declared.event.Action.{Action}
use Rattle.events.specs.declared.event.Action.TheVariants.{Invoke, Ok, Fail, Info}
use Rattle.events.specs.declared.event.Event.{Event}
use Rattle.events.specs.Events.{next_event, is_fail, fails, denoted_by, denoted, IsProper}
use Rattle.events.specs.Operations.{end_by, end_at, begun, operations_on, return_of, call_with, call_of, calls_of}
use Rattle.events.proofs.ProcessRuns.{State, idle, busy, closed, state_by, MayDo, Runs, runs_from_start}
use Rattle.events.proofs.WellFormed.{event_at}

-- ---- responses

-- what is before the responses of a process does not matter to it
skips : (p x : ℕ) (e : Event) (failed : Bool) (rest : List Numbered) → (e.process == p) ≡ false
    → response_of p x (denoted_by e.number e.process e.object e.action failed ++ rest) ≡ response_of p x rest
skips p x e failed rest q = go e.action failed
  where
    other : (p == e.process) ≡ false
    other = ne_eqb p e.process (λ s. eqb-false e.process p q (sym s))

    go : (a : Action) (b : Bool)
        → response_of p x (denoted_by e.number e.process e.object a b ++ rest) ≡ response_of p x rest
    go (Invoke op) true = refl
    go (Invoke op) false = refl
    go (Ok r) b = ap (λ t. option_or (cond (t && (x == e.object)) (Some (record { at = e.number; reply = r })) None)
        (response_of p x rest)) other
    go Fail b = refl
    go Info b = refl

closed_silent : (p x : ℕ) (es : List Event) → Runs p closed es → response_of p x (denoted es) ≡ None
closed_silent p x [] h = refl
closed_silent p x (e ∷ es) h = go (e.process == p) refl (closed_silent p x es)
  where
    go : (b : Bool) → (e.process == p) ≡ b → (Runs p closed es → response_of p x (denoted es) ≡ None)
        → response_of p x (denoted (e ∷ es)) ≡ None
    go true q f = absurd (h.0 q).0
    go false q f = skips p x e (fails (next_event e.process es)) (denoted es) q ∙ f (h.1 q)

-- what a busy process does next ends its operation
abbrev Answered : ℕ → ℕ → List Event → Type 0
Answered p x es = fails (next_event p es) ≡ false → response_of p x (denoted es) ≡ return_of (end_at (next_event p es))

-- the next event of a process is the first one, if it is its own
next_own : (n p y : ℕ) (a : Action) (es : List Event) → next_event p (event_at n p y a ∷ es) ≡ Some (event_at n p y a)
next_own n p y a es = ap (λ b. cond b (Some (event_at n p y a)) (next_event p es)) (eq-eqb p p refl)

-- The first event ends the operation of a busy process, if it is an event of this process.
answered_own : (n p y : ℕ) (a : Action) (es : List Event) (x : ℕ) (op : AnyOp) → MayDo (busy x op) y a
    → Runs p (state_by y a) es → Answered p x (event_at n p y a ∷ es)
answered_own n p y (Invoke o) es x op may rest = absurd may
answered_own n p y (Ok r) es x op may rest = λ h.
    let is : ((p == p) && (x == y)) ≡ true = and_from (p == p) (x == y) (eq-eqb p p refl) (eq-eqb x y (sym may.0)) in
    ap (λ t. option_or (cond t (Some (record { at = n; reply = r })) None) (response_of p x (denoted es))) is
    ∙ sym (ap (λ (o : Option Event). return_of (end_at o)) (next_own n p y (Ok r) es))
answered_own n p y Fail es x op may rest = λ h.
    let failed : fails (next_event p (event_at n p y Fail ∷ es)) ≡ true = ap fails (next_own n p y Fail es) in
    absurd (cc (h, failed))
answered_own n p y Info es x op may rest =
    λ h. closed_silent p x es rest ∙ sym (ap (λ (o : Option Event). return_of (end_at o)) (next_own n p y Info es))

answered : (p x : ℕ) (op : AnyOp) (es : List Event) → Runs p (busy x op) es → Answered p x es
answered p x op [] h = λ f. refl
answered p x op (e ∷ es) h = go (e.process == p) refl (answered p x op es)
  where
    go : (b : Bool) → (e.process == p) ≡ b → (Runs p (busy x op) es → Answered p x es) → Answered p x (e ∷ es)
    go true q f =
        let own : e.process ≡ p = eqb-true e.process p q in
        subst (λ n. Runs n (state_by e.object e.action) es → Answered n x (e ∷ es)) own
        (answered_own e.number e.process e.object e.action es x op (h.0 q).0) (h.0 q).1
    go false q f = λ not.
        let same : next_event p (e ∷ es) ≡ next_event p es = ap (λ b. cond b (Some e) (next_event p es)) q in
        skips p x e (fails (next_event e.process es)) (denoted es) q
        ∙ (f (h.1 q) (sym (ap fails same) ∙ not) ∙ sym (ap (λ (o : Option Event). return_of (end_at o)) same))

-- ---- the calls

-- each process is at something
abbrev pub AllRun : List Event → Type 0
AllRun es = (p : ℕ) → (s : State) × Runs p s es

pub all_run_later : (e : Event) (es : List Event) → AllRun (e ∷ es) → AllRun es
all_run_later e es h p = let r = h p in go (e.process == p) refl r.0 r.1
  where
    go : (b : Bool) → (e.process == p) ≡ b → (s : State) → Runs p s (e ∷ es) → (s : State) × Runs p s es
    go true q s r = (state_by e.object e.action, (r.0 q).1)
    go false q s r = (s, r.1 q)

-- a failed operation is no call, and another is one with its response
call_failed : (n : ℕ) (op : AnyOp) (next : Option Event) → fails next ≡ true → call_with n op (end_at next) ≡ None
call_failed n op None q = absurd (cc q)
call_failed n op (Some e) q = go e.action q
  where
    go : (a : Action) → is_fail a ≡ true → call_with n op (end_by e.number a) ≡ None
    go (Invoke o) q = absurd (cc q)
    go (Ok r) q = absurd (cc q)
    go Fail q = refl
    go Info q = absurd (cc q)

call_kept : (n : ℕ) (op : AnyOp) (next : Option Event) → fails next ≡ false
    → call_with n op (end_at next) ≡ Some (record { number = n; op = op; returned = return_of (end_at next) })
call_kept n op None q = refl
call_kept n op (Some e) q = go e.action q
  where
    go : (a : Action) → is_fail a ≡ false
        → call_with n op (end_by e.number a)
        ≡ Some (record { number = n; op = op; returned = return_of (end_by e.number a) })
    go (Invoke o) q = refl
    go (Ok r) q = refl
    go Fail q = absurd (cc q)
    go Info q = refl

-- one event's part of the calls
abbrev calls_first : ℕ → Event → Option Event → List Call
calls_first x e next = calls_of (cond (e.object == x) (begun e.number e.action (end_at next)) [])

-- an invocation that does not fail is a call, if it is on the object
invocation_calls : (n p y : ℕ) (op : AnyOp) (x : ℕ) (es : List Event) → Runs p (busy y op) es
    → calls_first x (event_at n p y (Invoke op)) (next_event p es) ++ calls_on x (denoted es)
    ≡ calls_on x (denoted (event_at n p y (Invoke op) ∷ es))
invocation_calls n p y op x es runs = go (fails (next_event p es)) refl
  where
    failed_here : fails (next_event p es) ≡ true → (here : Bool)
        → calls_of (cond here (record { number = n; op = op; «end» = end_at (next_event p es) } ∷ []) [])
        ++ calls_on x (denoted es) ≡ calls_on x (denoted es)
    failed_here q true = ap (λ (c : Option Call). cons_option c [] ++ calls_on x (denoted es))
        (call_failed n op (next_event p es) q)
    failed_here q false = refl

    own_call : fails (next_event p es) ≡ false
        → call_with n op (end_at (next_event p es))
        ≡ Some (record { number = n; op = op; returned = response_of p y (denoted es) })
    own_call q = call_kept n op (next_event p es) q
        ∙ ap (λ (r : Option Return). Some (record { number = n; op = op; returned = r }))
        (sym (answered p y op es runs q))

    kept_here : fails (next_event p es) ≡ false → (here : Bool)
        → calls_of (cond here (record { number = n; op = op; «end» = end_at (next_event p es) } ∷ []) [])
        ++ calls_on x (denoted es)
        ≡ map (λ (c : ProcessCall). c.call)
        (cond here (record {
          process = p;
          object = y;
          call = record { number = n; op = op; returned = response_of p y (denoted es) };
        }
        ∷ filter (λ c. c.object == x) (calls_in (denoted es))) (filter (λ c. c.object == x) (calls_in (denoted es))))
    kept_here q true = ap (λ (c : Option Call). cons_option c [] ++ calls_on x (denoted es)) (own_call q)
    kept_here q false = refl

    go : (failed : Bool) → fails (next_event p es) ≡ failed
        → calls_first x (event_at n p y (Invoke op)) (next_event p es) ++ calls_on x (denoted es)
        ≡ map (λ (c : ProcessCall). c.call)
        (filter (λ c. c.object == x) (calls_in (denoted_by n p y (Invoke op) failed ++ denoted es)))
    go true q = failed_here q (y == x)
    go false q = kept_here q (y == x)

-- an event that is no invocation is no call
no_calls : (x : ℕ) (e : Event) (next : Option Event) → begun e.number e.action (end_at next) ≡ []
    → calls_first x e next ≡ []
no_calls x e next none = go (e.object == x)
  where
    go : (here : Bool) → calls_of (cond here (begun e.number e.action (end_at next)) []) ≡ []
    go true = ap calls_of none
    go false = refl

-- the first event's part of the calls is what its action makes it
first_calls : (n p y : ℕ) (a : Action) (x : ℕ) (es : List Event) → AllRun (event_at n p y a ∷ es)
    → calls_first x (event_at n p y a) (next_event p es) ++ calls_on x (denoted es)
    ≡ calls_on x (denoted (event_at n p y a ∷ es))
first_calls n p y (Invoke op) x es h = let r = h p in go r.0 r.1
  where
    go : (s : State) → Runs p s (event_at n p y (Invoke op) ∷ es)
        → calls_first x (event_at n p y (Invoke op)) (next_event p es) ++ calls_on x (denoted es)
        ≡ calls_on x (denoted (event_at n p y (Invoke op) ∷ es))
    go s r = invocation_calls n p y op x es (r.0 (eq-eqb p p refl)).1
first_calls n p y (Ok r) x es h =
    ap (λ t. t ++ calls_on x (denoted es)) (no_calls x (event_at n p y (Ok r)) (next_event p es) refl)
first_calls n p y Fail x es h =
    ap (λ t. t ++ calls_on x (denoted es)) (no_calls x (event_at n p y Fail) (next_event p es) refl)
first_calls n p y Info x es h =
    ap (λ t. t ++ calls_on x (denoted es)) (no_calls x (event_at n p y Info) (next_event p es) refl)

pub calls_are : (x : ℕ) (es : List Event) → AllRun es → calls_of (operations_on x es) ≡ calls_on x (denoted es)
calls_are x [] h = refl
calls_are x (e ∷ es) h =
    filter_map-append call_of (cond (e.object == x) (begun e.number e.action (end_at (next_event e.process es))) [])
    (operations_on x es)
    ∙ (ap (λ t. calls_first x e (next_event e.process es) ++ t) (calls_are x es (all_run_later e es h))
    ∙ first_calls e.number e.process e.object e.action x es h)

-- The calls of the operations on an object are the calls on it in what proper events denote.
pub proper_calls : (es : List Event) → IsProper es → (x : ℕ) → calls_of (operations_on x es) ≡ calls_on x (denoted es)
proper_calls es h x = calls_are x es (λ p. (idle, runs_from_start es p h))
