-- The events of a proper list that are on some objects alone are proper. Numbers rise, invocations are of the kind of
-- their object, and each process runs as before, but is idle while its operation is on another object. In the lemmas p
-- is a process, s its state, x an object, a an action, and es are events.
use Rattle.std.proofs.lemmas.Bool.Decides.{nat_tests}
use Rattle.std.proofs.Common.{arith, ◌≡◌, ℕ, ◌==◌, ◌<◌, Bool, true, false, cond, inl, inr, List, [], ◌∷◌, ◌++◌, Option}
use Rattle.std.proofs.Common.{Some, None, AllPairs, refl, ap, sym, ◌∙◌, subst, append_assoc}
use Rattle.std.proofs.lemmas.List.{append-nil}
use Rattle.std.proofs.lemmas.Bool.{eq-eqb}
use Rattle.model.specs.declared.Kind.{Kind}
use Rattle.model.specs.declared.AnyOp.{AnyOp}
use Rattle.model.specs.Objects.{kind_of}
use Rattle.model.specs.Lists.{In}
use Rattle.model.proofs.Lists.{in_filter, in_left, in_middle, in_split, contains_from_in, in_from_contains}
use Rattle.model.proofs.Lists.{pairs_filter, all_from_pairs, pairs_from_all}
use Rattle.events.specs.declared.event.Action.{Action}
use Rattle.events.specs.declared.event.Action.TheVariants.{Invoke, Ok, Fail, Info}
use Rattle.events.specs.declared.event.Event.{Event}
use Rattle.events.specs.Events.{last_event, kind_of_object, IsIdle, IsOfKindAt, IsOutstandingCall, Follows, IsProper}
use Rattle.events.proofs.ProcessRuns.{State, idle, busy, closed, state_by, state_after, MayDo, Runs, last_push}
use Rattle.events.proofs.ProcessRuns.{runs_from_start}
use Rattle.shards.specs.Shards.{events_on}

-- ---- the kinds of invocations

-- each invocation is of the kind of its object
abbrev pub AreOfKinds : (ℕ → Kind) → List Event → Type 0
AreOfKinds kinds es = (e : Event) (op : AnyOp) → In e es → e.action ≡ Invoke op → kind_of op ≡ kinds e.object

-- an invocation has the kind of its object where those before it on this object have its own
kind_there : (earlier later : List Event) (e : Event) (op : AnyOp) → e.action ≡ Invoke op
    → ((d : Event) (o : AnyOp) → In d earlier → d.object ≡ e.object → d.action ≡ Invoke o → kind_of o ≡ kind_of op)
    → kind_of_object (earlier ++ e ∷ later) e.object ≡ kind_of op
kind_there [] later e op q same = grind arith
kind_there (d ∷ earlier) later e op q same =
    let rest = kind_there earlier later e op q (λ c o i. same c o (inr i)) in
    let own = λ (o : AnyOp). same d o (inl refl) in
    grind (arith, nat_tests)

-- in a proper list of events each object is used by operations of its kind alone
pub proper_of_kinds : (es : List Event) → IsProper es → AreOfKinds (kind_of_object es) es
proper_of_kinds es proper e op i q =
    let parts = in_split e es i in
    let follows : Follows parts.0 e.process e.object (Invoke op) =
    subst (Follows parts.0 e.process e.object) q (proper.each parts.0 parts.1 e parts.2) in
    rw parts.2 (sym (kind_there parts.0 parts.1 e op q (λ d o j. follows.1 d o (contains_from_in parts.0 d j))))

-- ---- from runs to a proper list

idle_after : (last : Option Event) → state_after last ≡ idle → IsIdle last
idle_after last q = grind arith

outstanding : (last : Option Event) (x : ℕ) (op : AnyOp) → state_after last ≡ busy x op → IsOutstandingCall last x op
outstanding None x op q = absurd cc
outstanding (Some e) x op q = (e, refl, grind arith, grind arith)

-- an event fits where its process may do so, and the invocations on its object are of one kind
follows : (earlier : List Event) (p : ℕ) (s : State) (x : ℕ) (a : Action) → state_after (last_event p earlier) ≡ s
    → MayDo s x a → ((op : AnyOp) → a ≡ Invoke op → IsOfKindAt earlier x op) → Follows earlier p x a
follows earlier p idle x (Invoke op) q may kinds = (idle_after (last_event p earlier) q, kinds op refl)
follows earlier p (busy y op) x (Ok r) q may kinds = (op, outstanding (last_event p earlier) x op (rw may.0 q), may.1)
follows earlier p (busy y op) x Fail q may kinds = (op, outstanding (last_event p earlier) x op (rw may q))
follows earlier p (busy y op) x Info q may kinds = (op, outstanding (last_event p earlier) x op (rw may q))
follows earlier p s x a q may h = absurd may

-- what a process that runs may do when it comes to an event of its own
reaches : (p : ℕ) (done earlier later : List Event) (e : Event)
    → Runs p (state_after (last_event p done)) (earlier ++ e ∷ later) → (e.process == p) ≡ true
    → MayDo (state_after (last_event p (done ++ earlier))) e.object e.action
reaches p done [] later e runs q = rw (append-nil done) (runs.0 q).0
reaches p done (d ∷ earlier) later e runs q =
    rw (← append_assoc done (d ∷ []) earlier)
    (reaches p (done ++ d ∷ []) earlier later e (rw (last_push p done d) (go (d.process == p) refl)) q)
  where
    go : (b : Bool) → (d.process == p) ≡ b
        → Runs p (state_after (cond b (Some d) (last_event p done))) (earlier ++ e ∷ later)
    go true r = (runs.0 r).1
    go false r = runs.1 r

-- events are proper if numbers rise, each process takes its turns, and each object is used by one kind
pub proper_from : (kinds : ℕ → Kind) (es : List Event) → AllPairs (λ a b. a.number < b.number) es
    → ((p : ℕ) → Runs p idle es) → AreOfKinds kinds es → IsProper es
proper_from kinds es rising runs of_kinds = record { rising = rising; each = each }
  where
    each : (earlier later : List Event) (e : Event) → es ≡ earlier ++ e ∷ later
        → Follows earlier e.process e.object e.action
    each earlier later e is =
        let state = state_after (last_event e.process earlier) in
        let own = eq-eqb e.process e.process refl in
        follows earlier e.process state e.object e.action refl
        (reaches e.process [] earlier later e (subst (Runs e.process idle) is (runs e.process)) own)
        one_kind
      where
        one_kind : (op : AnyOp) → e.action ≡ Invoke op → IsOfKindAt earlier e.object op
        one_kind op q d o contains on_object invokes =
            let before = in_left d earlier (e ∷ later) (in_from_contains earlier d contains) in
            of_kinds d o (rw is before) invokes
            ∙ (ap kinds on_object ∙ sym (of_kinds e op (rw is (in_middle e earlier later)) q))

-- ---- events on some objects alone

-- what a process is doing, as far as the events on these objects show
abbrev seen : (ℕ → Bool) → State → State
seen has idle = idle
seen has (busy x op) = cond (has x) (busy x op) idle
seen has closed = closed

seen_by : (has : ℕ → Bool) (x : ℕ) (a : Action) → has x ≡ true → seen has (state_by x a) ≡ state_by x a
seen_by has x a q = grind arith

may_seen : (has : ℕ → Bool) (s : State) (x : ℕ) (a : Action) → has x ≡ true → MayDo s x a → MayDo (seen has s) x a
may_seen has s x a q may = grind arith

closed_does_nothing : (p : ℕ) (s : State) (es : List Event) → Runs p closed es → Runs p s es
closed_does_nothing p s [] runs = tt
closed_does_nothing p s (e ∷ es) runs = (λ q. absurd (runs.0 q).0, λ q. closed_does_nothing p s es (runs.1 q))

-- an event that is not seen leaves a process as it is seen
unseen : (has : ℕ → Bool) (p : ℕ) (s : State) (x : ℕ) (a : Action) (es : List Event) → has x ≡ false → MayDo s x a
    → Runs p (seen has (state_by x a)) es → Runs p (seen has s) es
unseen has p s x a es q may runs = grind (arith, closed_does_nothing p idle es)

runs_on : (has : ℕ → Bool) (p : ℕ) (s : State) (es : List Event) → Runs p s es → Runs p (seen has s) (events_on has es)
runs_on has p s [] runs = tt
runs_on has p s (e ∷ es) runs =
    let x = e.object in
    let a = e.action in
    let rest = events_on has es in
    let now = runs_on has p (state_by x a) es in
    let later = runs_on has p s es in
    grind (arith, now, later, may_seen has s x a, seen_by has x a, unseen has p s x a rest)

-- the events on some of the objects are proper
pub proper_on : (has : ℕ → Bool) (es : List Event) → IsProper es → IsProper (events_on has es)
proper_on has es proper = proper_from (kind_of_object es) (events_on has es)
    (all_from_pairs (λ a b. a.number < b.number) (events_on has es) (pairs_filter (λ a b. a.number < b.number)
    (λ e. has e.object) es (pairs_from_all (λ a b. a.number < b.number) es proper.rising)))
    (λ p. runs_on has p idle es (runs_from_start es p proper))
    (λ e op i q. proper_of_kinds es proper e op (in_filter (λ (d : Event). has d.object) e es i) q)
