-- In a record's journals calls and returns come in turn (`turns_in`), and the operations on an object are of one kind
-- (`one_kind`): the events of a record are proper, so each process does only what it may.
use Rattle.std.proofs.Common.{arith, ◌≡◌, ℕ, ◌==◌, inl, inr, List, [], ◌∷◌, ◌++◌, filter, refl, ap, sym, ◌∙◌, subst}
use Rattle.std.proofs.Common.{append_assoc}
use Rattle.std.proofs.lemmas.Bool.{eq-eqb}
use Rattle.model.specs.declared.AnyOp.{AnyOp}
use Rattle.model.specs.Objects.{kind_of}
use Rattle.model.specs.Lists.{In}
use Rattle.model.proofs.Lists.{in_append, in_split, in_middle, contains_from_in}
use Rattle.desk_model.specs.declared.Answer.TheVariants.{Reply, Refused}
use Rattle.desk_model.specs.declared.JournalEvent.TheVariants.{Invoked, Returned}
use Rattle.desk_model.specs.World.{AnyAnswer, AnyEvent}
use Rattle.events.specs.declared.event.Action.TheVariants.{Invoke}
use Rattle.events.specs.declared.event.Event.{Event}
use Rattle.events.specs.Events.{Follows, IsProper}
use Rattle.events.proofs.ProcessRuns.{State, idle, MayDo, Runs, runs_from_start}
use Rattle.recorder.specs.Histories.{AreEventsOf, action_of, events_of_journal}
use Rattle.recorder.proofs.Journals.{InTurn, none, last, call}

-- a process does in its own events what it does among all
own_runs : (p : ℕ) (s : State) (es : List Event) → Runs p s es → Runs p s (filter (λ e. e.process == p) es)
own_runs p s [] h = tt
own_runs p s (e ∷ es) h = let rest = λ (t : State) (k : Runs p t es). own_runs p t es k in grind (arith, rest)

pub no_return : (x : ℕ) (a : AnyAnswer) → MayDo idle x (action_of a) → ⊥
no_return x a m = grind arith

turns : (c x : ℕ) (js : List AnyEvent) → Runs c idle (events_of_journal c x js) → InTurn js
turns c x [] h = none
turns c x (Invoked t y op ∷ []) h = last t y op
turns c x (Invoked t y op ∷ Returned u (Reply r) ∷ js) h =
    let behind = ((h.0 (eq-eqb c c refl)).1).0 (eq-eqb c c refl) in
    call t y op u (Reply r) js (behind.0).1 (turns c y js behind.1)
turns c x (Invoked t y op ∷ Returned u Refused ∷ js) h =
    let behind = ((h.0 (eq-eqb c c refl)).1).0 (eq-eqb c c refl) in
    call t y op u Refused js tt (turns c y js behind.1)
turns c x (Invoked t y op ∷ Invoked u z o ∷ js) h = absurd (((h.0 (eq-eqb c c refl)).1).0 (eq-eqb c c refl)).0
turns c x (Returned u a ∷ js) h = absurd (no_return x a (h.0 (eq-eqb c c refl)).0)

module _ (journals : ℕ → List AnyEvent) (es : List Event) (are : AreEventsOf journals es) (proper : IsProper es) where
  pub turns_in : (c : ℕ) → InTurn (journals c)
  turns_in c = turns c 0 (journals c)
      (subst (Runs c idle) (are.each c) (own_runs c idle es (runs_from_start es c proper)))

  -- two invocations on one object, the one before the other
  kinds_before : (earlier later : List Event) (first second : Event) (one other : AnyOp)
      → es ≡ earlier ++ second ∷ later → In first earlier → first.object ≡ second.object
      → first.action ≡ Invoke one → second.action ≡ Invoke other → kind_of one ≡ kind_of other
  kinds_before earlier later first second one other is i on invokes also =
      let h : Follows earlier second.process second.object (Invoke other) =
      subst (Follows earlier second.process second.object) also (proper.each earlier later second is) in
      h.1 first one (contains_from_in earlier first i) on invokes

  -- operations that are invoked on one object are of one kind
  pub one_kind : (first second : Event) (one other : AnyOp) → In first es → In second es → first.object ≡ second.object
      → first.action ≡ Invoke one → second.action ≡ Invoke other → kind_of one ≡ kind_of other
  one_kind first second one other i j on invokes also =
      let r = in_split second es j in
      elim (in_append first r.0 (second ∷ r.1) (subst (In first) r.2 i)) [
        | inl before ↦ kinds_before r.0 r.1 first second one other r.2 before on invokes also
        | inr rest ↦ elim rest [
          | inl same ↦ (let act : Invoke one ≡ Invoke other = sym invokes ∙ ap (λ (x : Event). x.action) same ∙ also in
              let op : one ≡ other = cc (act) in ap kind_of op)
          | inr after ↦
              let s = in_split first r.1 after in
              let whole = r.2
              ∙ (ap (λ xs. r.0 ++ second ∷ xs) s.2 ∙ sym (append_assoc r.0 (second ∷ s.0) (first ∷ s.1))) in
              sym (kinds_before (r.0 ++ second ∷ s.0) s.1 second first other one whole (in_middle second r.0 s.0)
              (sym on) also invokes)
        ]
      ]
