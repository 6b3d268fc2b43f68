-- Numbers do not matter to what events denote: the same events with other numbers are proper where their numbers rise,
-- and denote the same history without its numbers. Each lemma goes along both lists, an event at a time.
use Rattle.std.proofs.Common.{arith, ◌≡◌, ℕ, ◌==◌, Bool, true, false, cond, inl, inr, List, [], ◌∷◌, ◌++◌, map}
use Rattle.std.proofs.Common.{refl, ap, sym, ◌∙◌, subst}
use Rattle.std.specs.List.{AllZip}
use Rattle.std.proofs.lemmas.List.{map-append}
use Rattle.model.specs.declared.Kind.{Kind}
use Rattle.model.specs.Objects.{specification}
use Rattle.model.specs.Histories as model
use Rattle.model.specs.Histories.{by_object}
use Rattle.model.specs.Linearizable.{InSpecification, IsLinearizable}
use Rattle.model.specs.Orders.{Numbered, events}
use Rattle.model.specs.Lists.{In}
use Rattle.events.specs.declared.event.Action.{Action}
use Rattle.events.specs.declared.event.Event.{Event}
use Rattle.events.specs.Events.{next_event, fails, denoted_by, denoted, kind_by, kind_of_object, IsProper}
use Rattle.events.proofs.ProcessRuns.{State, idle, state_by, MayDo, Runs, runs_from_start}
use Rattle.shards.specs.Shards.{said, AreRenumbered, DenoteLinearizable}
use Rattle.shards.proofs.Proper.{proper_of_kinds, proper_from}

-- the events of two lists say the same, one by one
abbrev pub AreSame : List Event → List Event → Type 0
AreSame es fs = AllZip (λ e f. said e ≡ said f) es fs

-- events that say the same, one by one, are the same apart from their numbers
pub same_from : (es fs : List Event) → map said es ≡ map said fs → AreSame es fs
same_from [] [] q = tt
same_from (e ∷ es) (f ∷ fs) q =
    let first : said e ≡ said f = cc in
    let others : map said es ≡ map said fs = cc in
    (first, same_from es fs others)
same_from es fs q = absurd (cc q)

pub in_same : (es fs : List Event) → AreSame es fs → (f : Event) → In f fs → (e : Event) × In e es × (said e ≡ said f)
in_same [] [] same f i = absurd i
in_same (d ∷ es) (g ∷ fs) same f i = elim i [
  | inl q ↦ (d, inl refl, same.0 ∙ ap said (sym q))
  | inr j ↦ let e = in_same es fs same.1 f j in (e.0, inr e.1, e.2)
]
in_same es fs same f i = absurd same

-- ---- a proper list

runs_same : (p : ℕ) (es fs : List Event) → AreSame es fs → (s : State) → Runs p s es → Runs p s fs
runs_same p [] [] same s runs = tt
runs_same p (e ∷ es) (f ∷ fs) same s runs =
    let later : (t : State) → Runs p t es → Runs p t fs = runs_same p es fs same.1 in
    subst
    (λ t. ((t.0 == p) ≡ true → MayDo s t.1 t.2 × Runs p (state_by t.1 t.2) fs) × ((t.0 == p) ≡ false → Runs p s fs))
    same.0 (λ q. ((runs.0 q).0, later (state_by e.object e.action) (runs.0 q).1), λ q. later s (runs.1 q))
runs_same p es fs same s h = absurd same

-- proper events with other rising numbers are proper
pub proper_renumbered : (es others : List Event) → IsProper es → AreRenumbered es others → IsProper others
proper_renumbered es others proper renumbered =
    let same = same_from es others (sym renumbered.same) in
    proper_from (kind_of_object es) others renumbered.rising
    (λ p. runs_same p es others same idle (runs_from_start es p proper))
    (λ f op i q.
    let e = in_same es others same f i in
    proper_of_kinds es proper e.0 op e.1 (ap (λ t. t.2) e.2 ∙ q) ∙ ap (λ t. kind_of_object es t.1) e.2)

-- ---- what it denotes

-- each object has the same kind
kinds_same : (x : ℕ) (es fs : List Event) → AreSame es fs → kind_of_object es x ≡ kind_of_object fs x
kinds_same x [] [] same = refl
kinds_same x (e ∷ es) (f ∷ fs) same =
    ap (λ k. cond (e.object == x) (kind_by e.action k) k) (kinds_same x es fs same.1)
    ∙ ap (λ t. cond (t.1 == x) (kind_by t.2 (kind_of_object fs x)) (kind_of_object fs x)) same.0
kinds_same x es fs same = absurd same

-- each operation that is outstanding fails in both or in neither
fails_same : (p : ℕ) (es fs : List Event) → AreSame es fs → fails (next_event p es) ≡ fails (next_event p fs)
fails_same p [] [] same = refl
fails_same p (e ∷ es) (f ∷ fs) same =
    let rest = fails_same p es fs same.1 in
    let process = ap (λ t. t.0) same.0 in
    let action = ap (λ t. t.2) same.0 in
    grind arith
fails_same p es fs same = absurd same

-- the event that is denoted does not depend on the number
unnumbered : (n m p x : ℕ) (a : Action) (failed : Bool)
    → events (denoted_by n p x a failed) ≡ events (denoted_by m p x a failed)
unnumbered n m p x a failed = grind arith

-- what one event denotes, before what those after it denote
first_of_history : (e : Event) (es : List Event) → events (denoted (e ∷ es))
    ≡ events (denoted_by e.number e.process e.object e.action (fails (next_event e.process es))) ++ events (denoted es)
first_of_history e es = map-append (λ (m : Numbered). m.event)
    (denoted_by e.number e.process e.object e.action (fails (next_event e.process es))) (denoted es)

history_same : (es fs : List Event) → AreSame es fs → events (denoted es) ≡ events (denoted fs)
history_same [] [] same = refl
history_same (e ∷ es) (f ∷ fs) same =
    let others : List model.Event = events (denoted fs) in
    rw (first_of_history e es, first_of_history f fs, history_same es fs same.1, fails_same e.process es fs same.1)
    (ap (λ t. events (denoted_by e.number t.0 t.1 t.2 (fails (next_event t.0 fs))) ++ others) same.0
    ∙ rw (unnumbered e.number f.number f.process f.object f.action (fails (next_event f.process fs))))
history_same es fs same = absurd same

-- where each object has the same kind, the same histories are linearizable
with_kinds : (kinds others : ℕ → Kind) (h : List model.Event) → ((x : ℕ) → kinds x ≡ others x) → IsLinearizable kinds h
    → IsLinearizable others h
with_kinds kinds others h same l = record {
  completion = l.completion;
  completes = l.completes;
  sequence = l.sequence;
  sequential = l.sequential;
  legal = λ x. subst (λ k. InSpecification (specification k) (by_object x l.sequence)) (same x) (l.legal x);
  equivalent = l.equivalent;
  order = l.order;
}

-- events that are the same apart from their numbers denote a linearizable history if the others do
pub linearizable_same : (es fs : List Event) → AreSame es fs → DenoteLinearizable es → DenoteLinearizable fs
linearizable_same es fs same l = subst (IsLinearizable (kind_of_object fs)) (history_same es fs same)
    (with_kinds (kind_of_object es) (kind_of_object fs) (events (denoted es)) (λ x. kinds_same x es fs same) l)
