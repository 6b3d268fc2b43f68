-- The lines of all journals, sorted by ticket, are the events of the record: those of one client rise (`lines_at`),
-- and no ticket is of two clients, so each comes once and the sorted list rises (`sorted_rises`).
use Rattle.std.proofs.lemmas.Bool.Decides.{nat_tests}
use Rattle.std.proofs.lemmas.List.{append-nil, get_or-map, length-map}
use Rattle.std.proofs.Common.{◌≡◌, ◌≢◌, ℕ, zero, suc, ◌+◌, ◌<◌, ◌≤◌, ◌==◌, eqb, Bool, false, inl, inr, List}
use Rattle.std.proofs.Common.{[], ◌∷◌, length, map, filter, get_or, Option, Some, None, AllPairs, refl, ap, sym}
use Rattle.std.proofs.Common.{◌∙◌, subst, arith}
use Rattle.std.specs.List.Sorted.{IsPermutation, IsNonDecreasingBy}
use Rattle.std.specs.List.{IsDistinct}
use Rattle.std.proofs.lemmas.List.Elements.{filter-append}
use Rattle.std.proofs.lemmas.List.Sorted.{IsPermutation-map, IsPermutation-sym, Contains-permutation}
use Rattle.std.proofs.lemmas.Map.Keys.{IsDistinct-from_apart, IsDistinct-IsPermutation, apart_from_distinct}
use Rattle.std.proofs.lemmas.Bool.{eqb-true, eq-eqb, ne_eqb}
use Rattle.model.specs.Lists.{In}
use Rattle.model.proofs.Lists.{in_left, in_right, Pairs, in_append, in_filter, in_filter_passes, in_filter_from}
use Rattle.model.proofs.Lists.{in_map_from, in_from_contains, contains_from_in, pairs_append, pairs_filter}
use Rattle.model.proofs.Lists.{pairs_weaker, pairs_from_all, pairs_from_map, pairs_map, all_from_pairs, filter_all}
use Rattle.model.proofs.Lists.{filter_none}
use Rattle.desk_model.specs.declared.JournalEvent.TheVariants.{Invoked, Returned}
use Rattle.desk_model.specs.World.{AnyEvent}
use Rattle.events.specs.declared.event.Event.{Event}
use Rattle.events.specs.Events.{IsProper}
use Rattle.events.proofs.Parts.{same_event}
use Rattle.events.proofs.ProcessRuns.{State, idle, MayDo, Runs, runs_from_start}
use Rattle.recorder.specs.Histories.{events_of_journal, events_of, AreEventsOf}
use Rattle.recorder.proofs.Same.{same_rising, same_by_parts}
use Rattle.transcript.proofs.CallsInTurn.{no_return}
use Rattle.transcript.specs.declared.line.Call.{Call}
use Rattle.transcript.specs.declared.line.Line.{Line}
use Rattle.transcript.specs.Lines.{call_after, event_of_journal, line_with, journal_lines_from, journal_lines, lines_in}
use Rattle.transcript.specs.Lines.{AreLinesOf, events_in}

abbrev number_in : Line → ℕ
number_in l = l.event.number

abbrev process_in : Line → ℕ
process_in l = l.event.process

-- ---- the events of a journal's lines

events_after : (c : ℕ) (q : Call) (js : List AnyEvent)
    → events_in (journal_lines_from c (Some q) js) ≡ events_of_journal c q.object js
events_after c q [] = refl
events_after c q (Invoked t x op ∷ js) =
    ap (λ es. event_of_journal c x (Invoked t x op) ∷ es) (events_after c (record { object = x; op = op }) js)
events_after c q (Returned u a ∷ js) = ap (λ es. event_of_journal c q.object (Returned u a) ∷ es) (events_after c q js)

-- a process that is idle first invokes
first_may : (p : ℕ) (s : State) (es : List Event) (f : Event) (fs : List Event) → Runs p s es
    → filter (λ e. e.process == p) es ≡ f ∷ fs → MayDo s f.object f.action
first_may p s [] f fs h e = absurd (cc)
first_may p s (g ∷ es) f fs h e = let later = first_may p s es f fs in grind arith

-- each line is of its client
of_event : (c x : ℕ) (e : AnyEvent) → (event_of_journal c x e).process ≡ c
of_event c x e = grind arith

-- the line that an event of a client makes is of this client
of_line : (client : ℕ) (event : AnyEvent) (call : Option Call) (line : Line) → In line (line_with client event call)
    → line.event.process ≡ client
of_line client event None line i = absurd i
of_line client event (Some call) line i = elim i [
  | inl s ↦ ap (λ (k : Line). k.event.process) s ∙ of_event client call.object event
  | inr j ↦ absurd j
]

pub of_client : (client : ℕ) (last : Option Call) (js : List AnyEvent) (line : Line)
    → In line (journal_lines_from client last js) → line.event.process ≡ client
of_client client last [] line i = absurd i
of_client client last (e ∷ js) line i =
    let call = call_after last e in
    elim (in_append line (line_with client e call) (journal_lines_from client call js) i) [
      | inl j ↦ of_line client e call line j
      | inr j ↦ of_client client call js line j
    ]

-- ---- the lines of all journals

not_below : (n : ℕ) (js : List (List AnyEvent)) (l : Line) → In l (lines_in n js) → n ≤ l.event.process
not_below n [] l i = absurd i
not_below n (j ∷ js) l i = elim (in_append l (journal_lines n j) (lines_in (n + 1) js) i) [
  | inl k ↦ let e = of_client n None j l k in omega arith
  | inr k ↦ let h = not_below (n + 1) js l k in omega arith
]

-- The lines of one client among all lines are those of its journal.
lines_at : (n : ℕ) (js : List (List AnyEvent)) (k : ℕ)
    → filter (λ l. l.event.process == n + k) (lines_in n js) ≡ journal_lines (n + k) (get_or js k [])
lines_at n [] k = refl
lines_at n (j ∷ js) zero =
    let here : n + 0 ≡ n = omega arith in
    let P : Line → Bool = λ l. l.event.process == n + 0 in
    let own = filter_all P (journal_lines n j)
    (λ l i. eq-eqb l.event.process (n + 0) (of_client n None j l i ∙ sym here)) in
    let others = filter_none P (lines_in (n + 1) js)
    (λ l i. ne_eqb l.event.process (n + 0) (λ e. let h = not_below (n + 1) js l i in absurd (omega arith))) in
    rw (filter-append P (journal_lines n j) (lines_in (n + 1) js), own, others)
    (append-nil (journal_lines n j) ∙ ap (λ m. journal_lines m j) (sym here))
lines_at n (j ∷ js) (suc k) =
    let there : n + suc k ≡ (n + 1) + k = omega arith in
    let P : Line → Bool = λ l. l.event.process == n + suc k in
    let own = filter_none P (journal_lines n j)
    (λ l i. ne_eqb l.event.process (n + suc k) (λ e. let h = of_client n None j l i in absurd (omega arith))) in
    rw (filter-append P (journal_lines n j) (lines_in (n + 1) js), own, there) (lines_at (n + 1) js k)

-- If the numbers of each client rise, and none is of two clients, no number stands twice.
apart : (n : ℕ) (js : List (List AnyEvent))
    → ((k : ℕ) → Pairs (λ a b. number_in a < number_in b) (journal_lines (n + k) (get_or js k [])))
    → ((a b : Line) → In a (lines_in n js) → In b (lines_in n js) → number_in a ≡ number_in b
    → process_in a ≡ process_in b)
    → Pairs (λ a b. number_in a ≢ number_in b) (lines_in n js)
apart n [] up same = tt
apart n (j ∷ js) up same =
    let here : n + 0 ≡ n = omega arith in
    pairs_append (λ a b. number_in a ≢ number_in b) (journal_lines n j) (lines_in (n + 1) js)
    (pairs_weaker (λ a b. number_in a < number_in b) (λ a b. number_in a ≢ number_in b) (journal_lines n j)
    (λ a b i k l e. omega arith)
    (subst (λ (m : ℕ). Pairs (λ a b. number_in a < number_in b) (journal_lines m j)) here (up 0)))
    (apart (n + 1) js
    (λ k. let there : n + suc k ≡ (n + 1) + k = omega arith in
    subst (λ (m : ℕ). Pairs (λ a b. number_in a < number_in b) (journal_lines m (get_or js k []))) there (up (suc k)))
    (λ a b i k. same a b (after_here a i) (after_here b k)))
    (λ a b i k e. omega
    (arith, of_client n None j a i, not_below (n + 1) js b k, same a b (before a i) (after_here b k) e))
  where
    before : (a : Line) → In a (journal_lines n j) → In a (lines_in n (j ∷ js))
    before a i = in_left a (journal_lines n j) (lines_in (n + 1) js) i

    after_here : (a : Line) → In a (lines_in (n + 1) js) → In a (lines_in n (j ∷ js))
    after_here a i = in_right a (journal_lines n j) (lines_in (n + 1) js) i

-- Lines with different numbers, sorted so that none falls, rise strictly.
sorted_rises : {X : Type 0} (n : X → ℕ) (xs ys : List X) → AllPairs (λ a b. n a ≢ n b) xs → IsPermutation xs ys
    → IsNonDecreasingBy n ys → AllPairs (λ a b. n a < n b) ys
sorted_rises {X = X} n xs ys distinct p up i j d low high =
    let start : IsDistinct eqb (map n xs) =
    IsDistinct-from_apart eqb (map n xs)
    (λ a b k l m. let within : b < length xs = subst (λ (z : ℕ). b < z) (length-map xs n) m in
    number_apart a b k l within) in
    let kept : IsDistinct eqb (map n ys) =
    IsDistinct-IsPermutation eqb (λ a b. flips a b) (map n xs) (map n ys) (IsPermutation-map n xs ys p) start in
    let long : j < length (map n ys) = subst (λ (z : ℕ). j < z) (sym (length-map ys n)) high in
    let differ = apart_from_distinct eqb (map n ys) i j (n d) kept low long in
    let ne : n (get_or ys i d) ≢ n (get_or ys j d) =
    λ e. absurd (cc (
      differ,
      eq-eqb (get_or (map n ys) i (n d)) (get_or (map n ys) j (n d))
          (get_or-map n ys i d (n d) (omega arith) ∙ e ∙ sym (get_or-map n ys j d (n d) high)),
    )) in
    omega (arith, up i j d (omega arith) high)
  where
    flips : (a b : ℕ) → eqb a b ≡ eqb b a
    flips a b = grind (arith, nat_tests)

    number_apart : (a b k : ℕ) → a < b → b < length xs → eqb (get_or (map n xs) a k) (get_or (map n xs) b k) ≡ false
    number_apart a b k l within = first xs distinct within
      where
        first : (zs : List X) → AllPairs (λ a b. n a ≢ n b) zs → b < length zs
            → eqb (get_or (map n zs) a k) (get_or (map n zs) b k) ≡ false
        first [] h w = absurd (omega arith)
        first (z ∷ zs) h w = ne_eqb _ _
            (λ e. h a b z l w (sym (get_or-map n (z ∷ zs) a z k (omega arith)) ∙ e ∙ get_or-map n (z ∷ zs) b z k w))

-- ---- a record's

filter_events : (c : ℕ) (ls : List Line)
    → filter (λ e. e.process == c) (events_in ls) ≡ events_in (filter (λ l. l.event.process == c) ls)
filter_events c [] = refl
filter_events c (l ∷ ls) = let rest = filter_events c ls in grind arith

-- the events of a proper history's journals
module _ (journals : ℕ → List AnyEvent) (es : List Event) (are : AreEventsOf journals es) (proper : IsProper es) where
  rises : Pairs (λ (a b : Event). a.number < b.number) es
  rises = pairs_from_all (λ (a b : Event). a.number < b.number) es are.rising

  pub events_are : (c : ℕ) → events_in (journal_lines c (journals c)) ≡ events_of c (journals c)
  events_are c = go (journals c) (are.each c)
    where
      go : (js : List AnyEvent) → filter (λ (e : Event). e.process == c) es ≡ events_of c js
          → events_in (journal_lines c js) ≡ events_of c js
      go [] h = refl
      go (Invoked t x op ∷ js) h =
          ap (λ (fs : List Event). event_of_journal c x (Invoked t x op) ∷ fs)
          (events_after c (record { object = x; op = op }) js)
      go (Returned u a ∷ js) h = absurd (no_return 0 a
          (first_may c idle es (event_of_journal c 0 (Returned u a)) (events_of_journal c 0 js)
          (runs_from_start es c proper) h))

  lines_rise : (c : ℕ) → Pairs (λ a b. number_in a < number_in b) (journal_lines c (journals c))
  lines_rise c = pairs_from_map (λ (a b : Event). a.number < b.number)
      (λ (l : Line). l.event) (journal_lines c (journals c))
      (subst (Pairs (λ (a b : Event). a.number < b.number)) (are.each c ∙ sym (events_are c))
      (pairs_filter (λ (a b : Event). a.number < b.number) (λ (e : Event). e.process == c) es rises))

  -- lines in order of tickets have these events
  pub are_events : (ls : List Line) → AreLinesOf journals ls → AreEventsOf journals (events_in ls)
  are_events ls h = record {
    rising = all_from_pairs (λ (a b : Event). a.number < b.number) (events_in ls)
        (pairs_map (λ (a b : Event). a.number < b.number) (λ (l : Line). l.event) ls
        (pairs_from_all (λ a b. number_in a < number_in b) ls h.rising));
    each = λ c. filter_events c ls ∙ (ap events_in (h.each c) ∙ events_are c);
  }

  pub same_events : (ls : List Line) → AreLinesOf journals ls → es ≡ events_in ls
  same_events ls h = let k = are_events ls h in
      same_by_parts (λ (e : Event). e.number) (λ (e : Event). e.process) es (events_in ls) rises
      (pairs_from_all (λ (a b : Event). a.number < b.number) (events_in ls) k.rising) (λ c. are.each c ∙ sym (k.each c))

  pub is_proper : (ls : List Line) → AreLinesOf journals ls → IsProper (events_in ls)
  is_proper ls h = subst IsProper (same_events ls h) proper

  -- the lines of all journals, sorted
  module _ (js : List (List AnyEvent)) (same : (c : ℕ) → get_or js c [] ≡ journals c) (ls : List Line)
      (p : IsPermutation (lines_in 0 js) ls) (up : IsNonDecreasingBy (λ l. l.event.number) ls) where
    of_one : (c : ℕ) → filter (λ l. l.event.process == c) (lines_in 0 js) ≡ journal_lines c (journals c)
    of_one c = let e : 0 + c ≡ c = omega arith in
        subst (λ (m : ℕ). filter (λ (l : Line). l.event.process == m) (lines_in 0 js)
        ≡ journal_lines m (get_or js c [])) e
        (lines_at 0 js c) ∙ ap (journal_lines c) (same c)

    own : (l : Line) → In l (lines_in 0 js) → In l (journal_lines (process_in l) (journals (process_in l)))
    own l i = subst (In l) (of_one (process_in l))
        (in_filter_from (λ (k : Line). k.event.process == process_in l) l (lines_in 0 js) i
        (eq-eqb (process_in l) (process_in l) refl))

    in_events : (l : Line) → In l (lines_in 0 js) → In l.event es
    in_events l i =
        let c = process_in l in
        let there : In l.event (events_of c (journals c)) =
        subst (In l.event) (events_are c)
        (in_map_from (λ (k : Line). k.event) l (journal_lines c (journals c)) (own l i)) in
        in_filter (λ (e : Event). e.process == c) l.event es (subst (In l.event) (sym (are.each c)) there)

    all_apart : Pairs (λ a b. number_in a ≢ number_in b) (lines_in 0 js)
    all_apart = apart 0 js
        (λ k. let e : 0 + k ≡ k = omega arith in
        subst (λ (m : ℕ). Pairs (λ a b. number_in a < number_in b) (journal_lines m (get_or js k []))) (sym e)
        (subst (λ (j : List AnyEvent). Pairs (λ a b. number_in a < number_in b) (journal_lines k j)) (sym (same k))
        (lines_rise k)))
        (λ a b i k e. ap (λ (x : Event). x.process)
        (same_event es a.event b.event rises (in_events a i) (in_events b k) e))

    back : (l : Line) → In l ls → In l (lines_in 0 js)
    back l i = in_from_contains (lines_in 0 js) l
        (Contains-permutation ls (lines_in 0 js) l (IsPermutation-sym (lines_in 0 js) ls p) (contains_from_in ls l i))

    forth : (l : Line) → In l (lines_in 0 js) → In l ls
    forth l i = in_from_contains ls l
        (Contains-permutation (lines_in 0 js) ls l p (contains_from_in (lines_in 0 js) l i))

    sorted : AllPairs (λ a b. a.event.number < b.event.number) ls
    sorted = sorted_rises (λ (l : Line). l.event.number) (lines_in 0 js) ls
        (all_from_pairs (λ a b. number_in a ≢ number_in b) (lines_in 0 js) all_apart) p up

    part_is : (c : ℕ) → filter (λ l. l.event.process == c) ls ≡ journal_lines c (journals c)
    part_is c = same_rising number_in (filter (λ (l : Line). l.event.process == c) ls) (journal_lines c (journals c))
        (pairs_filter (λ a b. number_in a < number_in b) (λ (l : Line). l.event.process == c) ls
        (pairs_from_all (λ a b. number_in a < number_in b) ls sorted)) (lines_rise c)
        (λ l i.
        let at : process_in l ≡ c =
        eqb-true (process_in l) c (in_filter_passes (λ (k : Line). k.event.process == c) l ls i) in
        subst (λ (m : ℕ). In l (journal_lines m (journals m))) at
        (own l (back l (in_filter (λ (k : Line). k.event.process == c) l ls i))))
        (λ l i. in_filter_from (λ (k : Line). k.event.process == c) l ls
        (forth l (in_filter (λ (k : Line). k.event.process == c) l (lines_in 0 js) (subst (In l) (sym (of_one c)) i)))
        (eq-eqb (process_in l) c (of_client c None (journals c) l i)))

    pub are_lines : AreLinesOf journals ls
    are_lines = record { rising = sorted; each = part_is }
