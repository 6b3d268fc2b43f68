-- Operations gathered by object, from the last event back to the first: after each event the lists have the
-- operations that begin from there on (`ahead_begun`, `ahead_other`). By cases on what the event is.
use Rattle.std.proofs.Common.{◌≡◌, ◌≢◌, ℕ, pos, ◌==◌, ◌+◌, ◌-◌, ◌<◌, ◌≤◌, Bool, true, false, cond, List, [], ◌∷◌}
use Rattle.std.proofs.Common.{◌++◌, length, drop, reverse}
use Rattle.std.proofs.Common.{unwrap_or, Option, Some, None, get_or, refl, ap, sym, ◌∙◌, subst, arith}
use Rattle.std.proofs.lemmas.List.{reverse-append, drop_more}
use Rattle.std.proofs.lemmas.Bool.{eqb-true, eqb-false}
use Rattle.model.specs.declared.AnyOp.{AnyOp}
use Rattle.model.specs.declared.AnyOp.TheVariants.{Enqueue}
use Rattle.events.specs.declared.event.Action.{Action}
use Rattle.events.specs.declared.event.Action.TheVariants.{Invoke, Ok, Fail, Info}
use Rattle.events.specs.declared.event.Event.{Event}
use Rattle.events.specs.declared.operations.End.{End}
use Rattle.events.specs.declared.operations.End.TheVariants.{Pending}
use Rattle.events.specs.declared.operations.Operation.{Operation}
use Rattle.events.specs.Events.{next_event}
use Rattle.events.specs.Operations.{end_by, end_at, begun, operations_on, IsGatheredObject}

-- What is known before the event at place k: how the next event of each process ends an operation, and the operations
-- of each object.
pub record IsAhead (ends : ℕ → End) (kept : ℕ → Option (List Operation)) (later : List Event) : Type 0 where
  pub ahead : (p : ℕ) → ends p ≡ end_at (next_event p later)
  pub gathered : (x : ℕ) → IsGatheredObject (kept x) (operations_on x later)

pub nothing_ahead : (ends : ℕ → End) (kept : ℕ → Option (List Operation)) → ((p : ℕ) → ends p ≡ Pending)
    → ((x : ℕ) → kept x ≡ None) → IsAhead ends kept []
nothing_ahead ends kept n k = record { ahead = n; gathered = λ x. subst (λ o. IsGatheredObject o []) (sym (k x)) refl }

-- one event more
abbrev pub WithEnd : (ends ends' : ℕ → End) → Event → Type 0
WithEnd ends ends' e = (p : ℕ) → ends' p ≡ cond (e.process == p) (end_by e.number e.action) (ends p)

ends_more : (ends ends' : ℕ → End) (e : Event) (later : List Event) → ((p : ℕ) → ends p ≡ end_at (next_event p later))
    → WithEnd ends ends' e → (p : ℕ) → ends' p ≡ end_at (next_event p (e ∷ later))
ends_more ends ends' e later h step p = step p ∙ go (e.process == p)
  where
    go : (b : Bool) → cond b (end_by e.number e.action) (ends p) ≡ end_at (cond b (Some e) (next_event p later))
    go true = refl
    go false = h p

-- an event that begins no operation
pub ahead_other : (ends ends' : ℕ → End) (kept : ℕ → Option (List Operation)) (e : Event) (later : List Event)
    → IsAhead ends kept later
    → ((how : End) → begun e.number e.action how ≡ []) → WithEnd ends ends' e → IsAhead ends' kept (e ∷ later)
ahead_other ends ends' kept e later h none step = record {
  ahead = ends_more ends ends' e later h.ahead step;
  gathered = λ x. subst (λ t. IsGatheredObject (kept x) (t ++ operations_on x later)) (sym (nothing (e.object == x)))
      (h.gathered x);
}
  where
    nothing : (b : Bool) → cond b (begun e.number e.action (end_at (next_event e.process later))) [] ≡ []
    nothing true = none (end_at (next_event e.process later))
    nothing false = refl

-- an event that begins one
pub ahead_begun : (ends ends' : ℕ → End) (kept kept' : ℕ → Option (List Operation)) (e : Event) (op : AnyOp)
    (o : Operation) (later : List Event)
    → IsAhead ends kept later → e.action ≡ Invoke op → o ≡ record { number = e.number; op = op; «end» = ends e.process }
    → kept' e.object ≡ Some (unwrap_or (kept e.object) [] ++ o ∷ []) → ((x : ℕ) → x ≢ e.object → kept' x ≡ kept x)
    → WithEnd ends ends' e → IsAhead ends' kept' (e ∷ later)
ahead_begun ends ends' kept kept' e op o later h invokes is own_kept others_kept step = record {
  ahead = ends_more ends ends' e later h.ahead step;
  gathered = λ x. go x (e.object == x) refl;
}
  where
    begins : begun e.number e.action (end_at (next_event e.process later)) ≡ o ∷ []
    begins = ap (λ a. begun e.number a (end_at (next_event e.process later))) invokes
        ∙ ap (λ (x : Operation). x ∷ [])
        (ap (λ (n : End). record { number = e.number; op = op; «end» = n }) (sym (h.ahead e.process)) ∙ sym is)

    pushed_operation : (k : Option (List Operation)) (ops : List Operation) → IsGatheredObject k ops
        → IsGatheredObject (Some (unwrap_or k [] ++ o ∷ [])) (o ∷ ops)
    pushed_operation None ops g = (ap (λ xs. reverse (o ∷ xs)) (sym g), λ q. cc q)
    pushed_operation (Some xs) ops g = (ap (λ ys. ys ++ o ∷ []) g.0 ∙ sym (reverse-append (o ∷ []) ops), λ q. cc q)

    go : (x : ℕ) (b : Bool) → (e.object == x) ≡ b
        → IsGatheredObject (kept' x) (cond b (begun e.number e.action (end_at (next_event e.process later))) []
        ++ operations_on x later)
    go x true q = subst (λ t. IsGatheredObject (kept' x) (t ++ operations_on x later)) (sym begins)
        (subst (λ n. IsGatheredObject (kept' n) (o ∷ operations_on n later)) (eqb-true e.object x q)
        (subst (λ k. IsGatheredObject k (o ∷ operations_on e.object later)) (sym own_kept)
        (pushed_operation (kept e.object) (operations_on e.object later) (h.gathered e.object))))
    go x false q = subst (λ k. IsGatheredObject k (operations_on x later))
        (sym (others_kept x (λ s. eqb-false e.object x q (sym s)))) (h.gathered x)

-- an event, for a default that nothing reads
abbrev pub placeholder_event : Event
placeholder_event = record { number = 0; process = 0; object = 0; action = Invoke (Enqueue (pos 0)) }

-- one place back
pub drop_back : {X : Type 0} (es : List X) (k : ℕ) (d : X) → 0 < k → k ≤ length es
    → drop (k - 1) es ≡ get_or es (k - 1) d ∷ drop k es
drop_back es k d some fits =
    let l : k - 1 < length es = omega arith in
    let same : k - 1 + 1 ≡ k = omega arith in
    drop_more es (k - 1) d l ∙ ap (λ i. get_or es (k - 1) d ∷ drop i es) same

pub begins_nothing : (n : ℕ) (a : Action) (how : End) → ((op : AnyOp) → a ≡ Invoke op → ⊥) → begun n a how ≡ []
begins_nothing n (Invoke op) how h = absurd (h op refl)
begins_nothing n (Ok r) how h = refl
begins_nothing n Fail how h = refl
begins_nothing n Info how h = refl
