-- Proper events denote a well-formed history (`denoted_is_history`): of each process it has an invocation, then its
-- response, in turn. By induction along the events, for each process by itself. In the lemmas n is the number of an
-- event, p its process, x its object and a its action; es are the events after it, and s is the process's state.
use Rattle.std.proofs.Common.{◌≡◌, ℕ, ◌==◌, ◌<◌, Bool, true, false, cond, IsTrue, ◌⊎◌, inl, inr, List, []}
use Rattle.std.proofs.Common.{◌∷◌, ◌++◌, Some, refl, ap, sym, ◌∙◌, subst, arith}
use Rattle.std.proofs.lemmas.Bool.{and_from, eqb-true, eq-eqb}
use Rattle.std.proofs.lemmas.List.{map-append}
use Rattle.std.proofs.lemmas.List.Elements.{filter-append}
use Rattle.model.specs.declared.AnyOp.{AnyOp}
use Rattle.model.specs.declared.AnyReply.{AnyReply}
use Rattle.model.specs.Histories as model
use Rattle.model.specs.Histories.{Inv, Res, by_process, matches, IsSequential}
use Rattle.model.specs.Orders.{Numbered, events, IsHistory}
use Rattle.model.specs.Lists.{In}
use Rattle.model.proofs.Lists.{Pairs, in_append, pairs_from_all, all_from_pairs}
use Rattle.events.specs.declared.event.Action.{Action}
use Rattle.events.specs.declared.event.Action.TheVariants.{Invoke, Ok, Fail, Info}
use Rattle.events.specs.declared.event.Event.{Event}
use Rattle.events.specs.Events.{next_event, is_fail, fails, denoted_by, denoted, IsProper}
use Rattle.events.proofs.ProcessRuns.{State, idle, busy, closed, state_by, MayDo, Runs, runs_from_start}

-- the events of process p in what these events denote
abbrev pub own : ℕ → List Event → List model.Event
own p es = by_process p (events (denoted es))

-- what one event leaves there
abbrev pub own_first : ℕ → Event → Bool → List model.Event
own_first p e failed = by_process p (events (denoted_by e.number e.process e.object e.action failed))

own_cons : (p : ℕ) (e : Event) (es : List Event)
    → own p (e ∷ es) ≡ own_first p e (fails (next_event e.process es)) ++ own p es
own_cons p e es =
    let first = denoted_by e.number e.process e.object e.action (fails (next_event e.process es)) in
    ap (by_process p) (map-append (λ (m : Numbered). m.event) first (denoted es))
    ∙ filter-append (λ (x : model.Event). model.process_of x == p) (events first) (events (denoted es))

-- another process's event leaves nothing
own_other : (p : ℕ) (e : Event) (failed : Bool) → (e.process == p) ≡ false → own_first p e failed ≡ []
own_other p e failed q = go e.action failed
  where
    go : (a : Action) (b : Bool) → by_process p (events (denoted_by e.number e.process e.object a b)) ≡ []
    go (Invoke op) true = refl
    go (Invoke op) false = ap (λ t. cond t (Inv e.process e.object op ∷ []) []) q
    go (Ok r) b = ap (λ t. cond t (Res e.process e.object r ∷ []) []) q
    go Fail b = refl
    go Info b = refl

-- what a busy process leaves: its response first, or nothing, unless its operation fails
abbrev pub Answers : ℕ → ℕ → List model.Event → Type 0
Answers p x s = (s ≡ []) ⊎ ((r : AnyReply) × (rest : List model.Event) × (s ≡ Res p x r ∷ rest) × IsSequential rest)

-- what a busy process leaves, told whether its operation fails
abbrev pub LeavesBusy : ℕ → ℕ → Bool → List model.Event → Type 0
LeavesBusy p x true s = IsSequential s
LeavesBusy p x false s = Answers p x s

-- What the events leave of process p may come after this state of p: in turn if p is idle, an answer first if it is
-- busy, and nothing if it is closed.
abbrev pub Leaves : ℕ → State → List Event → Type 0
Leaves p idle es = IsSequential (own p es)
Leaves p (busy x op) es = LeavesBusy p x (fails (next_event p es)) (own p es)
Leaves p closed es = own p es ≡ []

-- An invocation that does not fail and what answers it are sequential.
invoked : (p x : ℕ) (op : AnyOp) (s : List model.Event) → Answers p x s → IsSequential (Inv p x op ∷ s)
invoked p x op s (inl e) = subst (λ t. IsSequential (Inv p x op ∷ t)) (sym e) refl
invoked p x op s (inr a) = subst (λ t. IsSequential (Inv p x op ∷ t)) (sym a.2) (own_match, a.3)
  where
    own_match : IsTrue (matches (Inv p x op) (Res p x a.0))
    own_match = and_from (p == p) (x == x) (eq-eqb p p refl) (eq-eqb x x refl)

-- ---- from one event on

-- the event with this number, process, object and action
abbrev pub event_at : ℕ → ℕ → ℕ → Action → Event
event_at n p x a = record { number = n; process = p; object = x; action = a }

-- If the first event is of p, the outstanding operation of p fails exactly if that event is a Fail.
next_is_own : (n p x : ℕ) (a : Action) (es : List Event) → fails (next_event p (event_at n p x a ∷ es)) ≡ is_fail a
next_is_own n p x a es = ap (λ b. fails (cond b (Some (event_at n p x a)) (next_event p es))) (eq-eqb p p refl)

own_invocation : (n p x : ℕ) (op : AnyOp) → own_first p (event_at n p x (Invoke op)) false ≡ Inv p x op ∷ []
own_invocation n p x op = ap (λ b. cond b (Inv p x op ∷ []) []) (eq-eqb p p refl)

-- a process's own part of a first event that is its return is that response
own_response : (n p x : ℕ) (r : AnyReply) (failed : Bool) → own_first p (event_at n p x (Ok r)) failed ≡ Res p x r ∷ []
own_response n p x r failed = ap (λ b. cond b (Res p x r ∷ []) []) (eq-eqb p p refl)

-- What p leaves from its invocation on is sequential, if what it leaves after that may come while it is busy.
leaves_invoked : (n p x : ℕ) (op : AnyOp) (es : List Event) → Leaves p (busy x op) es
    → IsSequential (own p (event_at n p x (Invoke op) ∷ es))
leaves_invoked n p x op es rest =
    subst IsSequential (sym (own_cons p (event_at n p x (Invoke op)) es)) (go (fails (next_event p es)) rest)
  where
    go : (b : Bool) → LeavesBusy p x b (own p es)
        → IsSequential (own_first p (event_at n p x (Invoke op)) b ++ own p es)
    go true h = h
    go false h = subst (λ t. IsSequential (t ++ own p es)) (sym (own_invocation n p x op)) (invoked p x op (own p es) h)

-- What p leaves from its own event on may come after a state, if p may do this event in the state and what it leaves
-- after the event may come after the next state.
leaves_own : (n p x : ℕ) (a : Action) (es : List Event) (s : State) → MayDo s x a → Leaves p (state_by x a) es
    → Leaves p s (event_at n p x a ∷ es)
leaves_own n p x (Invoke op) es idle may rest = leaves_invoked n p x op es rest
leaves_own n p x (Ok r) es idle may rest = absurd may
leaves_own n p x Fail es idle may rest = absurd may
leaves_own n p x Info es idle may rest = absurd may
leaves_own n p x (Invoke o) es (busy y op) may rest = absurd may
leaves_own n p x (Ok r) es (busy y op) may rest =
    let e = event_at n p x (Ok r) in
    let failed = fails (next_event p es) in
    let is : own p (e ∷ es) ≡ Res p x r ∷ own p es =
    own_cons p e es ∙ ap (λ t. t ++ own p es) (own_response n p x r failed) in
    subst (λ b. LeavesBusy p y b (own p (e ∷ es))) (sym (next_is_own n p x (Ok r) es))
    (inr (r, own p es, subst (λ z. own p (e ∷ es) ≡ Res p z r ∷ own p es) may.0 is, rest))
leaves_own n p x Fail es (busy y op) may rest =
    let e = event_at n p x Fail in
    subst (λ b. LeavesBusy p y b (own p (e ∷ es))) (sym (next_is_own n p x Fail es))
    (subst IsSequential (sym (own_cons p e es)) rest)
leaves_own n p x Info es (busy y op) may rest =
    let e = event_at n p x Info in
    subst (λ b. LeavesBusy p y b (own p (e ∷ es))) (sym (next_is_own n p x Info es)) (inl (own_cons p e es ∙ rest))
leaves_own n p x a es closed may rest = absurd may

-- What p leaves may come after a state of p also with an event of another process in front.
leaves_other : (p : ℕ) (e : Event) (es : List Event) (s : State) → (e.process == p) ≡ false → Leaves p s es
    → Leaves p s (e ∷ es)
leaves_other p e es s q rest = go s rest
  where
    same : own p (e ∷ es) ≡ own p es
    same = own_cons p e es ∙ ap (λ t. t ++ own p es) (own_other p e (fails (next_event e.process es)) q)

    next_same : fails (next_event p (e ∷ es)) ≡ fails (next_event p es)
    next_same = ap (λ b. fails (cond b (Some e) (next_event p es))) q

    go : (s : State) → Leaves p s es → Leaves p s (e ∷ es)
    go idle h = subst IsSequential (sym same) h
    go (busy x op) h = subst (λ t. LeavesBusy p x (fails (next_event p (e ∷ es))) t) (sym same)
        (subst (λ b. LeavesBusy p x b (own p es)) (sym next_same) h)
    go closed h = same ∙ h

-- What events leave of a process that runs through them from a state may come after this state.
leaves : (p : ℕ) (es : List Event) (s : State) → Runs p s es → Leaves p s es
leaves p [] idle h = tt
leaves p [] (busy x op) h = inl refl
leaves p [] closed h = refl
leaves p (e ∷ es) s h = go (e.process == p) refl (λ t. leaves p es t)
  where
    go : (b : Bool) → (e.process == p) ≡ b → ((t : State) → Runs p t es → Leaves p t es) → Leaves p s (e ∷ es)
    go true q later =
        let own_event : e.process ≡ p = eqb-true e.process p q in
        subst (λ n. Leaves n (state_by e.object e.action) es → Leaves n s (e ∷ es)) own_event
        (leaves_own e.number e.process e.object e.action es s (h.0 q).0) (later (state_by e.object e.action) (h.0 q).1)
    go false q later = leaves_other p e es s q (later s (h.1 q))

-- ---- numbers

-- each number denoted is that of an event
denoted_number : (es : List Event) (m : Numbered) → In m (denoted es) → (e : Event) × In e es × (e.number ≡ m.number)
denoted_number [] m i = absurd i
denoted_number (e ∷ es) m i =
    elim (in_append m (denoted_by e.number e.process e.object e.action (fails (next_event e.process es)))
    (denoted es) i) [
      | inl j ↦ (e, inl refl, here e.action (fails (next_event e.process es)) j)
      | inr j ↦ let d = denoted_number es m j in (d.0, inr d.1, d.2)
    ]
  where
    here : (a : Action) (b : Bool) → In m (denoted_by e.number e.process e.object a b) → e.number ≡ m.number
    here (Invoke op) true j = absurd j
    here (Invoke op) false j = elim j [ inl q ↦ ap (λ (x : Numbered). x.number) (sym q) | inr k ↦ absurd k ]
    here (Ok r) b j = elim j [ inl q ↦ ap (λ (x : Numbered). x.number) (sym q) | inr k ↦ absurd k ]
    here Fail b j = absurd j
    here Info b j = absurd j

denoted_rising : (es : List Event) → Pairs (λ a b. a.number < b.number) es
    → Pairs (λ a b. a.number < b.number) (denoted es)
denoted_rising [] h = tt
denoted_rising (e ∷ es) h = go e.action (fails (next_event e.process es)) (denoted_rising es h.1)
  where
    above : (m : Numbered) → In m (denoted es) → e.number < m.number
    above m i =
        let d = denoted_number es m i in
        let later = h.0 d.0 d.1 in
        let same = d.2 in
        omega arith

    go : (a : Action) (b : Bool) → Pairs (λ a b. a.number < b.number) (denoted es)
        → Pairs (λ a b. a.number < b.number) (denoted_by e.number e.process e.object a b ++ denoted es)
    go (Invoke op) true rest = rest
    go (Invoke op) false rest = (above, rest)
    go (Ok r) b rest = (above, rest)
    go Fail b rest = rest
    go Info b rest = rest

-- what proper events denote is a history
pub denoted_is_history : (es : List Event) → IsProper es → IsHistory (denoted es)
denoted_is_history es h = record {
  rising = all_from_pairs (λ a b. a.number < b.number) (denoted es)
      (denoted_rising es (pairs_from_all (λ a b. a.number < b.number) es h.rising));
  well_formed = λ p. leaves p es idle (runs_from_start es p h);
}
