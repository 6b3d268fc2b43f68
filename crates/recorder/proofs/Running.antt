-- A list of events in which each process does only what it may, and each object is used by one kind, is proper: by
-- induction along the events, from the state of each process.
use Rattle.std.proofs.Common.{◌≡◌, ℕ, ◌<◌, ◌==◌, Bool, true, false, cond, List, [], ◌∷◌, ◌++◌, filter, Option, Some}
use Rattle.std.proofs.Common.{None, refl, ap, sym, ◌∙◌, subst, append_assoc}
use Rattle.std.proofs.lemmas.List.{append-nil}
use Rattle.std.proofs.lemmas.Bool.{eq-eqb}
use Rattle.model.specs.declared.AnyOp.{AnyOp}
use Rattle.model.specs.declared.Kind.{Kind}
use Rattle.model.specs.Objects.{kind_of}
use Rattle.model.specs.Lists.{In}
use Rattle.model.proofs.Lists.{Pairs, in_left, in_middle, in_from_contains, all_from_pairs}
use Rattle.events.specs.declared.event.Action.{Action}
use Rattle.events.specs.declared.event.Action.TheVariants.{Invoke, Ok, Fail, Info}
use Rattle.events.specs.declared.event.Event.{Event}
use Rattle.events.specs.Events.{last_event, IsIdle, IsIdleAfter, IsOfKindAt, Follows, IsProper}
use Rattle.events.proofs.ProcessRuns.{State, idle, state_by, state_after, MayDo, Runs, last_push}

-- the process runs on after more events
runs_after : (p : ℕ) (front earlier es : List Event) → Runs p (state_after (last_event p front)) (earlier ++ es)
    → Runs p (state_after (last_event p (front ++ earlier))) es
runs_after p front [] es h =
    subst (λ (xs : List Event). Runs p (state_after (last_event p xs)) es) (sym (append-nil front)) h
runs_after p front (e ∷ earlier) es h =
    subst (λ (xs : List Event). Runs p (state_after (last_event p xs)) es) (append_assoc front (e ∷ []) earlier)
    (runs_after p (front ++ e ∷ []) earlier es (next (e.process == p) refl))
  where
    next : (b : Bool) → (e.process == p) ≡ b → Runs p (state_after (last_event p (front ++ e ∷ []))) (earlier ++ es)
    next true q = subst (λ l. Runs p (state_after l) (earlier ++ es))
        (sym (last_push p front e ∙ ap (λ b. cond b (Some e) (last_event p front)) q)) (h.0 q).1
    next false q = subst (λ l. Runs p (state_after l) (earlier ++ es))
        (sym (last_push p front e ∙ ap (λ b. cond b (Some e) (last_event p front)) q)) (h.1 q)

-- what a process may do follows
idle_if : (last : Option Event) (x : ℕ) (op : AnyOp) → MayDo (state_after last) x (Invoke op) → IsIdle last
idle_if None x op m = tt
idle_if (Some e) x op m = go e.action m
  where
    go : (a : Action) → MayDo (state_by e.object a) x (Invoke op) → IsIdleAfter a
    go (Invoke o) n = absurd n
    go (Ok r) n = tt
    go Fail n = tt
    go Info n = absurd n

follows : (earlier : List Event) (p x : ℕ) (a : Action) → ((op : AnyOp) → a ≡ Invoke op → IsOfKindAt earlier x op)
    → MayDo (state_after (last_event p earlier)) x a → Follows earlier p x a
follows earlier p x (Invoke op) kinds m = (idle_if (last_event p earlier) x op m, kinds op refl)
follows earlier p x (Ok r) kinds m = go (last_event p earlier) refl m
  where
    go : (last : Option Event) → last_event p earlier ≡ last → MayDo (state_after last) x (Ok r)
        → Follows earlier p x (Ok r)
    go None l n = absurd n
    go (Some e) l n = at e.action refl n
      where
        at : (a : Action) → e.action ≡ a → MayDo (state_by e.object a) x (Ok r) → Follows earlier p x (Ok r)
        at (Invoke op) is k = (op, (e, l, sym k.0, is), k.1)
        at (Ok s) is k = absurd k
        at Fail is k = absurd k
        at Info is k = absurd k
follows earlier p x Fail kinds m = go (last_event p earlier) refl m
  where
    go : (last : Option Event) → last_event p earlier ≡ last → MayDo (state_after last) x Fail
        → Follows earlier p x Fail
    go None l n = absurd n
    go (Some e) l n = at e.action refl n
      where
        at : (a : Action) → e.action ≡ a → MayDo (state_by e.object a) x Fail → Follows earlier p x Fail
        at (Invoke op) is k = (op, (e, l, sym k, is))
        at (Ok s) is k = absurd k
        at Fail is k = absurd k
        at Info is k = absurd k
follows earlier p x Info kinds m = go (last_event p earlier) refl m
  where
    go : (last : Option Event) → last_event p earlier ≡ last → MayDo (state_after last) x Info
        → Follows earlier p x Info
    go None l n = absurd n
    go (Some e) l n = at e.action refl n
      where
        at : (a : Action) → e.action ≡ a → MayDo (state_by e.object a) x Info → Follows earlier p x Info
        at (Invoke op) is k = (op, (e, l, sym k, is))
        at (Ok s) is k = absurd k
        at Fail is k = absurd k
        at Info is k = absurd k

-- a process does what its own events say
pub runs_part : (p : ℕ) (s : State) (es : List Event) → Runs p s (filter (λ e. e.process == p) es) → Runs p s es
runs_part p s [] h = tt
runs_part p s (e ∷ es) h = (
  λ q. let (may, later) = (own q).0 q in (may, runs_part p (state_by e.object e.action) es later),
  λ q. runs_part p s es (other q),
)
  where
    own : (e.process == p) ≡ true → Runs p s (e ∷ filter (λ (x : Event). x.process == p) es)
    own q = subst (Runs p s)
        (ap (λ b. cond b (e ∷ filter (λ (x : Event). x.process == p) es)
        (filter (λ (x : Event). x.process == p) es)) q) h

    other : (e.process == p) ≡ false → Runs p s (filter (λ (x : Event). x.process == p) es)
    other q = subst (Runs p s)
        (ap (λ b. cond b (e ∷ filter (λ (x : Event). x.process == p) es)
        (filter (λ (x : Event). x.process == p) es)) q) h

-- the object of each invocation has its kind
pub proper_from : (kinds : ℕ → Kind) (es : List Event) → Pairs (λ a b. a.number < b.number) es
    → ((p : ℕ) → Runs p idle es)
    → ((e : Event) (op : AnyOp) → In e es → e.action ≡ Invoke op → kind_of op ≡ kinds e.object) → IsProper es
proper_from kinds es up runs of_kind = record {
  rising = all_from_pairs (λ a b. a.number < b.number) es up;
  each = λ earlier later e is.
      let here : Runs e.process (state_after (last_event e.process earlier)) (e ∷ later) =
      runs_after e.process [] earlier (e ∷ later) (subst (Runs e.process idle) is (runs e.process)) in
      follows earlier e.process e.object e.action (of_one_kind earlier later e is)
      (here.0 (eq-eqb e.process e.process refl)).0;
}
  where
    of_one_kind : (earlier later : List Event) (e : Event) → es ≡ earlier ++ e ∷ later → (op : AnyOp)
        → e.action ≡ Invoke op → IsOfKindAt earlier e.object op
    of_one_kind earlier later e is op a f o stands same b =
        let i : In f es = subst (In f) (sym is) (in_left f earlier (e ∷ later) (in_from_contains earlier f stands)) in
        let j : In e es = subst (In e) (sym is) (in_middle e earlier later) in
        of_kind f o i b ∙ (ap kinds same ∙ sym (of_kind e op j a))
