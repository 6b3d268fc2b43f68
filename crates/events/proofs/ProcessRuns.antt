-- Each process of a proper list of events is a run: idle, busy with an operation, idle again, .., and closed.
use Rattle.std.proofs.Common.{◌≡◌, ℕ, ◌==◌, true, false, cond, List, [], ◌∷◌, ◌++◌, find, Option, Some, None, refl}
use Rattle.std.proofs.Common.{ap, sym, ◌∙◌, subst, append_assoc}
use Rattle.std.proofs.lemmas.List.{reverse-append}
use Rattle.std.proofs.lemmas.Bool.{eqb-true}
use Rattle.model.specs.declared.AnyOp.{AnyOp}
use Rattle.events.specs.declared.event.Action.{Action}
use Rattle.events.specs.declared.event.Action.TheVariants.{Invoke, Ok, Fail, Info}
use Rattle.events.specs.declared.event.Event.{Event}
use Rattle.events.specs.Events.{last_event, IsIdleAfter, IsIdle, IsOutstandingCall, HasShape, Follows, IsProper}

-- what a process is doing
pub data State : Type 0 where
  idle : State
  busy : ℕ → AnyOp → State
  closed : State

-- what a process is doing after an event with this action on object x
abbrev pub state_by : ℕ → Action → State
state_by x (Invoke op) = busy x op
state_by x (Ok r) = idle
state_by x Fail = idle
state_by x Info = closed

-- what it is doing after its last event
abbrev pub state_after : Option Event → State
state_after None = idle
state_after (Some e) = state_by e.object e.action

-- what it may do next
abbrev pub MayDo : State → ℕ → Action → Type 0
MayDo idle x (Invoke op) = Unit {0}
MayDo idle x (Ok r) = ⊥
MayDo idle x Fail = ⊥
MayDo idle x Info = ⊥
MayDo (busy y op) x (Invoke o) = ⊥
MayDo (busy y op) x (Ok r) = (x ≡ y) × HasShape op r
MayDo (busy y op) x Fail = x ≡ y
MayDo (busy y op) x Info = x ≡ y
MayDo closed x a = ⊥

-- from this state on the process does what it may
abbrev pub Runs : ℕ → State → List Event → Type 0
Runs p s [] = Unit {0}
Runs p s (e ∷ es) = ((e.process == p) ≡ true → MayDo s e.object e.action × Runs p (state_by e.object e.action) es)
    × ((e.process == p) ≡ false → Runs p s es)

-- the last event of a longer list
pub last_push : (p : ℕ) (earlier : List Event) (e : Event)
    → last_event p (earlier ++ e ∷ []) ≡ cond (e.process == p) (Some e) (last_event p earlier)
last_push p earlier e = ap (find (λ (x : Event). x.process == p)) (reverse-append earlier (e ∷ []))

may_invoke : (last : Option Event) (x : ℕ) (op : AnyOp) → IsIdle last → MayDo (state_after last) x (Invoke op)
may_invoke None x op h = tt
may_invoke (Some e) x op h = go e.action h
  where
    go : (a : Action) → IsIdleAfter a → MayDo (state_by e.object a) x (Invoke op)
    go (Invoke o) i = absurd i
    go (Ok r) i = tt
    go Fail i = tt
    go Info i = absurd i

busy_with : (last : Option Event) (x : ℕ) (op : AnyOp) → IsOutstandingCall last x op → state_after last ≡ busy x op
busy_with last x op h = ap state_after h.1 ∙ (ap (λ a. state_by h.0.object a) h.3 ∙ ap (λ y. busy y op) h.2)

may_do : (earlier : List Event) (p x : ℕ) (a : Action) → Follows earlier p x a
    → MayDo (state_after (last_event p earlier)) x a
may_do earlier p x (Invoke op) h = may_invoke (last_event p earlier) x op h.0
may_do earlier p x (Ok r) h =
    subst (λ s. MayDo s x (Ok r)) (sym (busy_with (last_event p earlier) x h.0 h.1)) (refl, h.2)
may_do earlier p x Fail h = subst (λ s. MayDo s x Fail) (sym (busy_with (last_event p earlier) x h.0 h.1)) refl
may_do earlier p x Info h = subst (λ s. MayDo s x Info) (sym (busy_with (last_event p earlier) x h.0 h.1)) refl

runs_after : (p : ℕ) (earlier es all : List Event) → all ≡ earlier ++ es → IsProper all
    → Runs p (state_after (last_event p earlier)) es
runs_after p earlier [] all is proper = tt
runs_after p earlier (e ∷ es) all is proper =
    let rest = runs_after p (earlier ++ e ∷ []) es all (is ∙ sym (append_assoc earlier (e ∷ []) es)) proper in (
      λ q.
          let own : e.process ≡ p = eqb-true e.process p q in
          let after : last_event p (earlier ++ e ∷ []) ≡ Some e =
          last_push p earlier e ∙ ap (λ b. cond b (Some e) (last_event p earlier)) q in (
            subst (λ n. MayDo (state_after (last_event n earlier)) e.object e.action) own
                (may_do earlier e.process e.object e.action (proper.each earlier es e is)),
            subst (λ l. Runs p (state_after l) es) after rest,
          ),
      λ q.
          let after : last_event p (earlier ++ e ∷ []) ≡ last_event p earlier =
          last_push p earlier e ∙ ap (λ b. cond b (Some e) (last_event p earlier)) q in
          subst (λ l. Runs p (state_after l) es) after rest,
    )

-- each process of proper events runs, idle at first
pub runs_from_start : (es : List Event) (p : ℕ) → IsProper es → Runs p idle es
runs_from_start es p proper = runs_after p [] es es refl proper
