-- The events of journals denote the history of the journals: by induction along each journal (`denotes_events`), which
-- denotes one history at most (`denotes_once`).
use Rattle.std.proofs.Common.{arith, ◌≡◌, ℕ, ◌==◌, Bool, true, false, cond, List, [], ◌∷◌, ◌++◌, filter, Some, refl, ap}
use Rattle.std.proofs.Common.{sym, ◌∙◌, subst}
use Rattle.std.proofs.lemmas.List.Elements.{filter-append}
use Rattle.std.proofs.lemmas.Bool.{eqb-true, eq-eqb}
use Rattle.model.specs.Histories.{Inv, Res, process_of}
use Rattle.model.specs.Orders.{Numbered}
use Rattle.model.specs.Lists.{In}
use Rattle.model.proofs.Lists.{filter_all, filter_none}
use Rattle.locality.proofs.ProcessHistories.{part}
use Rattle.desk_model.specs.declared.Answer.TheVariants.{Reply, Refused}
use Rattle.desk_model.specs.declared.JournalEvent.TheVariants.{Invoked, Returned}
use Rattle.desk_model.specs.World.{AnyAnswer, AnyEvent}
use Rattle.desk_model.specs.Records.{Denotes}
use Rattle.events.specs.declared.event.Action.{Action}
use Rattle.events.specs.declared.event.Action.TheVariants.{Invoke, Ok, Fail}
use Rattle.events.specs.declared.event.Event.{Event}
use Rattle.events.specs.Events.{next_event, is_fail, fails, denoted_by, denoted}
use Rattle.recorder.specs.Histories.{events_of_journal}
use Rattle.recorder.proofs.Journals.{InTurn, none, last, call}

-- the next event of a process is its own part's first
next_part : (p : ℕ) (es : List Event) → next_event p (filter (λ e. e.process == p) es) ≡ next_event p es
next_part p [] = refl
next_part p (e ∷ es) = let rest = next_part p es in grind arith

-- what an event of a process denotes is of this process
of_process : (number process object : ℕ) (action : Action) (failed : Bool) (m : Numbered)
    → In m (denoted_by number process object action failed) → process_of m.event ≡ process
of_process number process object action failed m i = grind arith

-- what an event denotes, with those after it
abbrev first_in : Event → List Event → List Numbered
first_in e es = denoted_by e.number e.process e.object e.action (fails (next_event e.process es))

-- the part of a process is what its own events denote
part_denoted : (c : ℕ) (es : List Event) → part c (denoted es) ≡ denoted (filter (λ e. e.process == c) es)
part_denoted c [] = refl
part_denoted c (e ∷ es) = filter-append (λ (m : Numbered). process_of m.event == c) (first_in e es) (denoted es)
    ∙ go (e.process == c) refl (part_denoted c es)
  where
    go : (b : Bool) → (e.process == c) ≡ b → part c (denoted es) ≡ denoted (filter (λ (x : Event). x.process == c) es)
        → part c (first_in e es) ++ part c (denoted es)
        ≡ denoted (cond b (e ∷ filter (λ (x : Event). x.process == c) es) (filter (λ (x : Event). x.process == c) es))
    go true q later =
        let own : e.process ≡ c = eqb-true e.process c q in
        let here : part c (first_in e es) ≡ first_in e es =
        filter_all (λ (m : Numbered). process_of m.event == c) (first_in e es) (λ m i. eq-eqb (process_of m.event) c
        (of_process e.number e.process e.object e.action (fails (next_event e.process es)) m i ∙ own)) in
        let next : next_event e.process es ≡ next_event e.process (filter (λ (x : Event). x.process == c) es) =
        rw own (sym (next_part c es)) in ap (λ xs. xs ++ part c (denoted es)) here
        ∙ λ j. denoted_by e.number e.process e.object e.action (fails (next j)) ++ later j
    go false q later =
        let here : part c (first_in e es) ≡ [] = filter_none (λ (m : Numbered). process_of m.event == c) (first_in e es)
        (λ m i. ap (λ p. p == c)
        (of_process e.number e.process e.object e.action (fails (next_event e.process es)) m i) ∙ q) in
        ap (λ xs. xs ++ part c (denoted es)) here ∙ later

-- the next event is the client's own
next_own : (c : ℕ) (e : Event) (es : List Event) → e.process ≡ c → fails (next_event c (e ∷ es)) ≡ is_fail e.action
next_own c e es own = ap (λ b. fails (cond b (Some e) (next_event c es))) (eq-eqb e.process c own)

-- a journal's events denote what the journal does
denotes_events : (c x : ℕ) (js : List AnyEvent) → InTurn js → Denotes c js (denoted (events_of_journal c x js))
denotes_events c x l none = refl
denotes_events c x l (last t y op) = refl
denotes_events c x l (call t y op u a js fits rest) = go a (denotes_events c y js rest)
  where
    go : (a : AnyAnswer) → Denotes c js (denoted (events_of_journal c y js))
        → Denotes c (Invoked t y op ∷ Returned u a ∷ js)
        (denoted (events_of_journal c x (Invoked t y op ∷ Returned u a ∷ js)))
    go (Reply r) h =
        let back : Event = record { number = u; process = c; object = y; action = Ok r } in (
          denoted (events_of_journal c y js),
          ap
              (λ b. denoted_by t c y (Invoke op) b
              ++ (record { number = u; event = Res c y r } ∷ denoted (events_of_journal c y js)))
              (next_own c back (events_of_journal c y js) refl),
          h,
        )
    go Refused h =
        let back : Event = record { number = u; process = c; object = y; action = Fail } in
        subst (Denotes c js) (sym
        (ap (λ b. denoted_by t c y (Invoke op) b ++ denoted (events_of_journal c y js))
        (next_own c back (events_of_journal c y js) refl))) h

-- a journal denotes one list of events
pub denotes_once : (c : ℕ) (js : List AnyEvent) (h k : List Numbered) → Denotes c js h → Denotes c js k → h ≡ k
denotes_once c [] h k d e = d ∙ sym e
denotes_once c (Invoked t x op ∷ []) h k d e = d ∙ sym e
denotes_once c (Invoked t x op ∷ Returned u (Reply r) ∷ js) h k d e =
    d.1 ∙ (ap (λ ms. record { number = t; event = Inv c x op } ∷ record { number = u; event = Res c x r } ∷ ms)
    (denotes_once c js d.0 e.0 d.2 e.2) ∙ sym e.1)
denotes_once c (Invoked t x op ∷ Returned u Refused ∷ js) h k d e = denotes_once c js h k d e
denotes_once c js h k d e = absurd d

-- the part of a client in what the events denote
pub part_denotes : (c : ℕ) (js : List AnyEvent) (es : List Event)
    → filter (λ e. e.process == c) es ≡ events_of_journal c 0 js → InTurn js → Denotes c js (part c (denoted es))
part_denotes c js es own turn =
    subst (Denotes c js) (sym (part_denoted c es ∙ ap denoted own)) (denotes_events c 0 js turn)
