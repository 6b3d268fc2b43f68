-- The certificates of a sound record are valid orders of its history: the log of each object is one, by the invariant
-- of the desk, and its calls are those of the object (`kind_named`).
use Rattle.std.proofs.Common.{◌≡◌, ℕ, ◌<◌, ◌==◌, Bool, true, false, cond, inl, inr, List, [], ◌∷◌, map, refl, ap}
use Rattle.std.proofs.Common.{sym, ◌∙◌, subst}
use Rattle.std.proofs.lemmas.Bool.{eqb-true, eq-eqb}
use Rattle.model.specs.declared.Kind.{Kind}
use Rattle.model.specs.declared.AnyOp.{AnyOp}
use Rattle.model.specs.Objects.{kind_of}
use Rattle.model.specs.Histories.{process_of}
use Rattle.model.specs.Orders.{Numbered, IsValidOrder, calls_on}
use Rattle.model.specs.Lists.{In}
use Rattle.model.proofs.Lists.{in_map, in_map_from, in_from_contains, contains_from_in, all_at, all_from_in}
use Rattle.model.proofs.Lists.{pairs_from_all}
use Rattle.desk_model.specs.World as world
use Rattle.desk_model.specs.World.{AnyEntry, AnyEvent}
use Rattle.desk_model.specs.declared.JournalEvent.TheVariants.{Invoked}
use Rattle.desk_model.specs.Records.{order_of, IsSoundRecord}
use Rattle.events.specs.declared.event.Action.{Action}
use Rattle.events.specs.declared.event.Action.TheVariants.{Invoke, Ok, Fail, Info}
use Rattle.events.specs.declared.event.Event.{Event}
use Rattle.events.specs.Events.{IsProper, IsNamed, kind_of_object, kind_by, denoted}
use Rattle.events.proofs.WellFormed.{denoted_is_history}
use Rattle.recorder.specs.Histories.{AreEventsOf}
use Rattle.recorder.proofs.Same.{same_by_parts}
use Rattle.recorder.proofs.Journals.{invocation_of}
use Rattle.recorder.proofs.Making.{turns_in, events_in, are_events, is_proper, among}
use Rattle.certificate.specs.declared.Certificate.{Certificate}
use Rattle.checker.specs.Refusals.{AreValid}
use Rattle.transcript.specs.Accounts.{AreCertificatesOf}
use Rattle.transcript.proofs.Naming.{own_event, named_in, named_by}
use Rattle.transcript.proofs.Denoting.{part_denotes, denotes_once}

-- the kind of a named object, where each invocation is of its object's kind
kind_named : (kinds : ℕ → Kind) (es : List Event)
    → ((e : Event) (op : AnyOp) → In e es → e.action ≡ Invoke op → kind_of op ≡ kinds e.object)
    → (x : ℕ) (f : Event) (o : AnyOp) → In f es → f.object ≡ x → f.action ≡ Invoke o → kind_of_object es x ≡ kinds x
kind_named kinds [] of_kind x f o i on is = absurd i
kind_named kinds (e ∷ es) of_kind x f o i on is =
    go (e.object == x) refl e.action refl (λ j. kind_named kinds es (λ g p k. of_kind g p (inr k)) x f o j on is)
  where
    at_head : (a : Action) → e.action ≡ a → ((op : AnyOp) → a ≡ Invoke op → ⊥) → In f es
    at_head a q other = elim i [
      | inl s ↦ absurd (other o (sym q ∙ (ap (λ (g : Event). g.action) (sym s) ∙ is)))
      | inr j ↦ j
    ]

    go : (b : Bool) → (e.object == x) ≡ b → (a : Action) → e.action ≡ a → (In f es → kind_of_object es x ≡ kinds x)
        → cond b (kind_by a (kind_of_object es x)) (kind_of_object es x) ≡ kinds x
    go true q (Invoke op) s later = of_kind e op (inl refl) s ∙ ap kinds (eqb-true e.object x q)
    go true q (Ok r) s later = later (at_head (Ok r) s (λ op t. absurd (cc (t))))
    go true q Fail s later = later (at_head Fail s (λ op t. absurd (cc (t))))
    go true q Info s later = later (at_head Info s (λ op t. absurd (cc (t))))
    go false q a s later = elim i [
      | inl t ↦ absurd (cc (q, eq-eqb e.object x (ap (λ (g : Event). g.object) (sym t) ∙ on)))
      | inr j ↦ later j
    ]

module _ (kinds : List Kind) (quota : ℕ) (journals : ℕ → List AnyEvent) (logs : ℕ → List AnyEntry)
    (s : IsSoundRecord kinds quota journals logs) (es : List Event) (are : AreEventsOf journals es) where
  same : events_in kinds quota journals logs s ≡ es
  same =
      let own = are_events kinds quota journals logs s in
      same_by_parts (λ (e : Event). e.number) (λ (e : Event). e.process) (events_in kinds quota journals logs s) es
      (pairs_from_all (λ (a b : Event). a.number < b.number) (events_in kinds quota journals logs s) own.rising)
      (pairs_from_all (λ (a b : Event). a.number < b.number) es are.rising) (λ c. own.each c ∙ sym (are.each c))

  pub proper : IsProper es
  proper = subst IsProper same (is_proper kinds quota journals logs s)

  -- what the events denote is the record's history
  pub history_is : denoted es ≡ s.history
  history_is = same_by_parts (λ (m : Numbered). m.number) (λ (m : Numbered). process_of m.event) (denoted es) s.history
      (pairs_from_all (λ (a b : Numbered). a.number < b.number) (denoted es) (denoted_is_history es proper).rising)
      (pairs_from_all (λ (a b : Numbered). a.number < b.number) s.history s.denoted.rising)
      (λ c. denotes_once c (journals c) _ _
      (part_denotes c (journals c) es (are.each c) (turns_in kinds quota journals logs s c)) (s.denoted.each c))

  kind_is : (x : ℕ) → IsNamed es x → kind_of_object es x ≡ world.kind_at kinds x
  kind_is x n = kind_named (world.kind_at kinds) es
      (λ e op i q. (among kinds quota journals logs s e.process (Invoked e.number e.object op)
      (invocation_of e.process 0 (journals e.process) e op (own_event journals es are e i) q)).1)
      x n.event n.op (in_from_contains es n.event n.stands) n.on_object n.invokes

  valid_at : (x : ℕ) → IsNamed es x → IsValidOrder (kind_of_object es x) (calls_on x (denoted es)) (order_of (logs x))
  valid_at x n = subst (λ (k : Kind). IsValidOrder k (calls_on x (denoted es)) (order_of (logs x))) (sym (kind_is x n))
      (subst (λ (h : List Numbered). IsValidOrder (world.kind_at kinds x) (calls_on x h) (order_of (logs x)))
      (sym history_is) (s.valid x))

  -- the certificates of a record are valid for its history
  pub are_valid : (cs : List Certificate) → AreCertificatesOf journals logs cs → AreValid es cs
  are_valid cs h = record {
    each = λ x n.
        let at = in_map (λ (c : Certificate). c.object) x cs
        (in_from_contains (map (λ (c : Certificate). c.object) cs) x
        ((h.named x).1 (named_in journals es are x n))) in
        let c = at.0 in
        let on : c.object ≡ x = sym at.2 in
        let order : c.order.items ≡ order_of (logs x) =
        all_at (λ (d : Certificate). d.order.items ≡ order_of (logs d.object)) cs h.orders c at.1
        ∙ ap (λ y. order_of (logs y)) on in (
          record { certificate = c; stands = contains_from_in cs c at.1; for_object = on },
          subst (IsValidOrder (kind_of_object es x) (calls_on x (denoted es))) (sym order) (valid_at x n),
        );
    none_besides = all_from_in (λ (c : Certificate). IsNamed es c.object) cs
        (λ c i. named_by journals es are c.object
        ((h.named c.object).0 (contains_from_in (map (λ (d : Certificate). d.object) cs) c.object
        (in_map_from (λ (d : Certificate). d.object) c cs i))));
  }
