-- The calls of a part, alone, are a history, and its calls are these. It is linearizable exactly where they have a
-- valid order. The same holds of the operations at the numbers of a part.
use Rattle.std.proofs.Common.{◌≡◌, ◌≢◌, ◌⊎◌, inl, inr, ℕ, ◌<◌, ◌==◌, nat_lt, Bool, true, false, cond, List, [], ◌∷◌}
use Rattle.std.proofs.Common.{Option, Some, None, map, filter, AllPairs, All, refl, ap, sym, ◌∙◌, arith}
use Rattle.std.specs.Option.{option_or}
use Rattle.std.proofs.lemmas.Option.{same_Some}
use Rattle.std.proofs.lemmas.Bool.{eqb-true, eqb-false, eq-eqb, and_from, ltb-true}
use Rattle.std.proofs.lemmas.Bool.Decides.{nat_tests}
use Rattle.model.specs.declared.Kind.{Kind}
use Rattle.model.specs.declared.AnyOp.{AnyOp}
use Rattle.model.specs.Histories.{Event, Inv, Res, process_of, by_process, IsSequential}
use Rattle.model.specs.Linearizable.{IsLinearizable}
use Rattle.model.specs.Orders.{Numbered, events, Return, Call, ProcessCall, response_in, response_of, begins}
use Rattle.model.specs.Orders.{calls_in, calls_on, IsHistory, HasNoValidOrder}
use Rattle.model.specs.Lists.{In}
use Rattle.model.proofs.Lists.{Pairs, in_filter, in_filter_from, in_map, pairs_filter, pairs_map, pairs_weaker}
use Rattle.model.proofs.Lists.{all_from_in, all_from_pairs, pairs_from_all}
use Rattle.locality.specs.Locality.{HasValidOrder}
use Rattle.locality.proofs.Entries.{number_of}
use Rattle.locality.proofs.ProcessHistories.{part, Before, calls_in-part, one_after_another, part_up, turn_view, rise}
use Rattle.cuts.specs.declared.cutting.Cut.{Cut}
use Rattle.cuts.specs.Cuts.{NamesPart}
use Rattle.cuts.proofs.Sequences.{in_filter_map, pairs_filter_map, one_number}
use Rattle.cuts.proofs.Overlaps.{IsTimed}
use Rattle.cuts.specs.Listed.{listed}
use Rattle.cuts.proofs.Named.{AreTimed, timed_filter, timed_named}
use Rattle.refutation.specs.Alone.{placed, with_return, alone}

-- ---- calls whose events can be those of one history

-- of two calls the first is invoked first, and no event of the one has the number of an event of the other
abbrev pub Apart : Call → Call → Type 0
Apart a b = (a.number < b.number)
    × ((r : Return) → a.returned ≡ Some r → (r.at ≢ b.number) × ((s : Return) → b.returned ≡ Some s → r.at ≢ s.at))

-- no two events have one number, and each call returns after it was invoked
pub record AreApart (calls : List Call) : Type 0 where
  pub pairs : Pairs Apart calls
  pub ends : (e : Call) (r : Return) → In e calls → e.returned ≡ Some r → e.number < r.at

later_apart : (e : Call) (es : List Call) → AreApart (e ∷ es) → AreApart es
later_apart e es h = record { pairs = h.pairs.1; ends = λ y r i q. h.ends y r (inr i) q }

-- ---- an event in its place

lt_false : (a b : ℕ) → nat_lt a b ≡ false → a ≢ b → b < a
lt_false a b e ne = grind (arith, nat_tests)

in_placed : (m y : Numbered) (later : List Numbered) → In y (placed m later) → (y ≡ m) ⊎ In y later
in_placed m y [] i = i
in_placed m y (n ∷ later) i = grind (arith, in_placed m y later)

abbrev Rise : List Numbered → Type 0
Rise h = Pairs (λ a b. a.number < b.number) h

placed_rise : (m : Numbered) (later : List Numbered) → Rise later
    → ((n : Numbered) → In n later → n.number ≢ m.number) → Rise (placed m later)
placed_rise m [] up ne = (λ y i. absurd i, tt)
placed_rise m (n ∷ later) up ne = go (nat_lt n.number m.number) refl (placed_rise m later up.1 (λ k i. ne k (inr i)))
  where
    first : n.number < m.number → (y : Numbered) → In y (placed m later) → n.number < y.number
    first l y i = elim (in_placed m y later i) [ inl q ↦ rw q l | inr j ↦ up.0 y j ]

    front : m.number < n.number → (y : Numbered) → In y (n ∷ later) → m.number < y.number
    front l y i = elim i [ inl q ↦ rw q l | inr j ↦ (let g = up.0 y j in omega arith) ]

    go : (b : Bool) → nat_lt n.number m.number ≡ b → Rise (placed m later)
        → Rise (cond b (n ∷ placed m later) (m ∷ n ∷ later))
    go true e r = (first (ltb-true n.number m.number e), r)
    go false e r = (front (lt_false n.number m.number e (ne n (inl refl))), up)

-- no event is of process p
abbrev IsFree : ℕ → List Numbered → Type 0
IsFree p h = (m : Numbered) → In m h → process_of m.event ≢ p

by_free : (p : ℕ) (h : List Numbered) → IsFree p h → by_process p (events h) ≡ []
by_free p [] f = refl
by_free p (m ∷ h) f =
    let here = f m (inl refl) in
    let rest = by_free p h (λ n i. f n (inr i)) in
    grind (arith, nat_tests)

by_placed_other : (p : ℕ) (m : Numbered) (later : List Numbered) → process_of m.event ≢ p
    → by_process p (events (placed m later)) ≡ by_process p (events later)
by_placed_other p m [] ne = grind (arith, nat_tests)
by_placed_other p m (n ∷ later) ne = grind (arith, nat_tests, by_placed_other p m later)

by_placed_own : (p : ℕ) (m : Numbered) (later : List Numbered) → process_of m.event ≡ p → IsFree p later
    → by_process p (events (placed m later)) ≡ m.event ∷ []
by_placed_own p m [] e f = grind (arith, nat_tests)
by_placed_own p m (n ∷ later) e f =
    let here = f n (inl refl) in
    let rest = by_placed_own p m later e (λ k i. f k (inr i)) in
    let none = by_free p (n ∷ later) f in
    grind (arith, nat_tests)

-- ---- calls and responses

abbrev made : ℕ → ℕ → ℕ → AnyOp → Option Return → ProcessCall
made p x number op o = record { process = p; object = x; call = record { number = number; op = op; returned = o } }

abbrev response : ℕ → ℕ → Return → Numbered
response p x r = record { number = r.at; event = Res p x r.reply }

-- a call by a process of its own
abbrev own_call : ℕ → Call → ProcessCall
own_call x e = record { process = e.number; object = x; call = e }

-- an event of another process is no response of this one
response_other : (process object number : ℕ) (event : Event) → process_of event ≢ process
    → response_in process object number event ≡ None
response_other process object number event ne = grind (arith, nat_tests)

response_free : (p x : ℕ) (h : List Numbered) → IsFree p h → response_of p x h ≡ None
response_free p x [] f = refl
response_free p x (m ∷ h) f =
    let here = response_other p x m.number m.event (f m (inl refl)) in
    let rest = response_free p x h (λ n i. f n (inr i)) in
    grind arith

response_placed_other : (p x : ℕ) (m : Numbered) (later : List Numbered) → process_of m.event ≢ p
    → response_of p x (placed m later) ≡ response_of p x later
response_placed_other p x m [] ne = let other = response_other p x m.number m.event ne in grind arith
response_placed_other p x m (n ∷ later) ne =
    let other = response_other p x m.number m.event ne in
    grind (arith, response_placed_other p x m later)

response_placed_own : (p x : ℕ) (r : Return) (later : List Numbered) → IsFree p later
    → response_of p x (placed (response p x r) later) ≡ Some r
response_placed_own p x r [] f = grind (arith, nat_tests)
response_placed_own p x r (n ∷ later) f =
    let other = response_other p x n.number n.event (f n (inl refl)) in
    let rest = response_placed_own p x r later (λ k i. f k (inr i)) in
    grind (arith, nat_tests)

-- a response changes no call that another process invoked
calls_placed : (p x : ℕ) (r : Return) (later : List Numbered) → IsFree p later
    → calls_in (placed (response p x r) later) ≡ calls_in later
calls_placed p x r later f = place later f
  where
    same : (number : ℕ) (v : Event) (later : List Numbered) (others : List ProcessCall) → process_of v ≢ p
        → begins number v (placed (response p x r) later) others ≡ begins number v later others
    same number (Inv q y op) later others ne = rw (response_placed_other q y (response p x r) later (λ e. ne (sym e)))
    same number (Res q y s) later others ne = refl

    place : (later : List Numbered) → IsFree p later → calls_in (placed (response p x r) later) ≡ calls_in later
    place [] f = refl
    place (n ∷ later) f = go (nat_lt n.number r.at) (place later (λ k i. f k (inr i)))
      where
        go : (b : Bool) → calls_in (placed (response p x r) later) ≡ calls_in later
            → calls_in (cond b (n ∷ placed (response p x r) later) (response p x r ∷ n ∷ later))
            ≡ calls_in (n ∷ later)
        go true h = same n.number n.event later (calls_in (placed (response p x r) later)) (f n (inl refl))
            ∙ ap (begins n.number n.event later) h
        go false h = refl

-- ---- calls alone

-- an event is that of a call
record IsOf (x : ℕ) (calls : List Call) (m : Numbered) : Type 0 where
  call : Call
  known : In call calls
  process : process_of m.event ≡ call.number
  either : (m.number ≡ call.number) ⊎ ((r : Return) × (call.returned ≡ Some r) × (m.number ≡ r.at))

-- an event of a call that is placed in a history is its response, or was in the history
in_return : (process object : ℕ) (returned : Option Return) (found : Numbered) (later : List Numbered)
    → In found (with_return process object returned later)
    → ((r : Return) × (returned ≡ Some r) × (found ≡ record { number = r.at; event = Res process object r.reply }))
    ⊎ In found later
in_return process object None found later i = inr i
in_return process object (Some r) found later i = grind (arith, in_placed)

in_alone : (x : ℕ) (calls : List Call) (m : Numbered) → In m (alone x calls) → IsOf x calls m
in_alone x [] m i = absurd i
in_alone x (e ∷ es) m i = elim i [
  | inl q ↦ record { call = e; known = inl refl; process = rw q; either = inl (rw q) }
  | inr j ↦ elim (in_return e.number x e.returned m (alone x es) j) [
    | inl q ↦ record { call = e; known = inl refl; process = rw q.2; either = inr (q.0, q.1, rw q.2) }
    | inr k ↦ let o = in_alone x es m k in
        record { call = o.call; known = inr o.known; process = o.process; either = o.either }
  ]
]

-- the process of the first call makes no other
free_later : (x : ℕ) (e : Call) (es : List Call) → AreApart (e ∷ es) → IsFree e.number (alone x es)
free_later x e es h m i q =
    let o = in_alone x es m i in
    let g = (h.pairs.0 o.call o.known).0 in
    let p = o.process in
    omega arith

alone_rise : (x : ℕ) (calls : List Call) → AreApart calls → Rise (alone x calls)
alone_rise x [] h = tt
alone_rise x (e ∷ es) h = (first, rest e.returned refl (alone_rise x es (later_apart e es h)))
  where
    first : (y : Numbered) → In y (with_return e.number x e.returned (alone x es)) → e.number < y.number
    first y i = elim (in_return e.number x e.returned y (alone x es) i) [
      | inl q ↦ rw q.2 (h.ends e q.0 (inl refl) q.1)
      | inr j ↦
          let o = in_alone x es y j in
          let g = (h.pairs.0 o.call o.known).0 in
          elim o.either [
            | inl s ↦ rw s g
            | inr s ↦ rw s.2 (let u = h.ends o.call s.0 (inr o.known) s.1 in omega arith)
          ]
    ]

    rest : (o : Option Return) → e.returned ≡ o → Rise (alone x es) → Rise (with_return e.number x o (alone x es))
    rest None q below = below
    rest (Some r) q below = placed_rise (record { number = r.at; event = Res e.number x r.reply }) (alone x es) below
        (λ n i same.
        let o = in_alone x es n i in
        let a = (h.pairs.0 o.call o.known).1 r q in
        elim o.either [ inl s ↦ a.0 (sym same ∙ s) | inr s ↦ a.1 s.0 s.1 (sym same ∙ s.2) ])

alone_calls_in : (x : ℕ) (calls : List Call) → AreApart calls
    → calls_in (alone x calls) ≡ map (own_call x) calls
alone_calls_in x [] h = refl
alone_calls_in x (e ∷ es) h =
    let free = free_later x e es h in
    let rest = alone_calls_in x es (later_apart e es h) in
    rw (back e.returned free, others e.returned free, rest)
  where
    back : (o : Option Return) → IsFree e.number (alone x es)
        → response_of e.number x (with_return e.number x o (alone x es)) ≡ o
    back None free = response_free e.number x (alone x es) free
    back (Some r) free = response_placed_own e.number x r (alone x es) free

    others : (o : Option Return) → IsFree e.number (alone x es)
        → calls_in (with_return e.number x o (alone x es)) ≡ calls_in (alone x es)
    others None free = refl
    others (Some r) free = calls_placed e.number x r (alone x es) free

of_object : (x : ℕ) (calls : List Call)
    → map (λ (o : ProcessCall). o.call)
    (filter (λ (o : ProcessCall). o.object == x)
    (map (own_call x) calls)) ≡ calls
of_object x [] = refl
of_object x (e ∷ es) = grind (arith, nat_tests, of_object x es)

pub alone_calls : (x : ℕ) (calls : List Call) → AreApart calls → calls_on x (alone x calls) ≡ calls
alone_calls x calls h = rw (alone_calls_in x calls h) (of_object x calls)

alone_formed : (x : ℕ) (calls : List Call) → AreApart calls → (p : ℕ)
    → IsSequential (by_process p (events (alone x calls)))
alone_formed x [] h p = tt
alone_formed x (e ∷ es) h p = go (e.number == p) refl (alone_formed x es (later_apart e es h) p)
  where
    own : (o : Option Return) → IsFree p (alone x es) → e.number ≡ p
        → IsSequential (Inv e.number x e.op ∷ by_process p (events (with_return e.number x o (alone x es))))
    own None free q = rw (by_free p (alone x es) free) refl
    own (Some r) free q =
        rw (by_placed_own p (record { number = r.at; event = Res e.number x r.reply }) (alone x es) q free)
        (and_from (e.number == e.number) (x == x) (eq-eqb e.number e.number refl) (eq-eqb x x refl), tt)

    other : (o : Option Return) → e.number ≢ p
        → by_process p (events (with_return e.number x o (alone x es))) ≡ by_process p (events (alone x es))
    other None ne = refl
    other (Some r) ne = by_placed_other p (record { number = r.at; event = Res e.number x r.reply }) (alone x es) ne

    go : (b : Bool) → (e.number == p) ≡ b → IsSequential (by_process p (events (alone x es)))
        → IsSequential (cond b (Inv e.number x e.op ∷ by_process p
        (events (with_return e.number x e.returned (alone x es))))
        (by_process p (events (with_return e.number x e.returned (alone x es)))))
    go true q below =
        let same = eqb-true e.number p q in
        own e.returned (rw same at (free_later x e es h)) same
    go false q below = rw (other e.returned (eqb-false e.number p q)) below

pub alone_history : (x : ℕ) (calls : List Call) → AreApart calls → IsHistory (alone x calls)
alone_history x calls h = record {
  rising = all_from_pairs (λ a b. a.number < b.number) (alone x calls) (alone_rise x calls h);
  well_formed = alone_formed x calls h;
}

-- ---- calls of a history

-- the response of a call is an event
response_event : (process object : ℕ) (history : List Numbered) (returned : Return)
    → response_of process object history ≡ Some returned
    → (m : Numbered) × In m history × (m.number ≡ returned.at) × (m.event ≡ Res process object returned.reply)
response_event process object [] returned e = absurd (cc e)
response_event process object (m ∷ history) returned e =
    go (response_in process object m.number m.event) refl e (response_event process object history returned)
  where
    here : (v : Event) → response_in process object m.number v ≡ Some returned
        → (m.number ≡ returned.at) × (v ≡ Res process object returned.reply)
    here v e = grind (arith, nat_tests)

    go : (o : Option Return) → response_in process object m.number m.event ≡ o
        → option_or o (response_of process object history) ≡ Some returned
        → (response_of process object history ≡ Some returned
        → (k : Numbered) × In k history × (k.number ≡ returned.at) × (k.event ≡ Res process object returned.reply))
        → (k : Numbered) × In k (m ∷ history) × (k.number ≡ returned.at) × (k.event ≡ Res process object returned.reply)
    go None q e f = let k = f e in (k.0, inr k.1, k.2, k.3)
    go (Some s) q e f = let k = here m.event (q ∙ e) in (m, inl refl, k.0, k.1)

-- the events of a call
record HasEvents (h : List Numbered) (e : ProcessCall) : Type 0 where
  invocation : Numbered
  invoked : In invocation h
  number : invocation.number ≡ e.call.number
  op : invocation.event ≡ Inv e.process e.object e.call.op
  response : (r : Return) → e.call.returned ≡ Some r
      → (m : Numbered) × In m h × (m.number ≡ r.at) × (m.event ≡ Res e.process e.object r.reply)
      × (e.call.number < r.at)

call_events : (h : List Numbered) (e : ProcessCall) → Rise h → In e (calls_in h) → HasEvents h e
call_events [] e up i = absurd i
call_events (m ∷ h) e up i = go m.event refl i (call_events h e up.1)
  where
    there : HasEvents h e → HasEvents (m ∷ h) e
    there k = record {
      invocation = k.invocation;
      invoked = inr k.invoked;
      number = k.number;
      op = k.op;
      response = λ r q. let n = k.response r q in (n.0, inr n.1, n.2, n.3, n.4);
    }

    here : (p x : ℕ) (op : AnyOp) → m.event ≡ Inv p x op
        → e ≡ made p x m.number op (response_of p x h) → HasEvents (m ∷ h) e
    here p x op q s = rw s (record {
      invocation = m;
      invoked = inl refl;
      number = refl;
      op = q;
      response = λ r t. let n = response_event p x h r t in (n.0, inr n.1, n.2, n.3, rw n.2 at (up.0 n.0 n.1));
    })

    go : (v : Event) → m.event ≡ v → In e (begins m.number v h (calls_in h)) → (In e (calls_in h) → HasEvents h e)
        → HasEvents (m ∷ h) e
    go (Inv p x op) q i f = elim i [ inl s ↦ here p x op q s | inr j ↦ there (f j) ]
    go (Res p x r) q i f = there (f i)

-- two elements of a list are the same one, or the relation holds of them in one of the two orders
either_way : {X : Type 0} (R : X → X → Type 0) (xs : List X) (a b : X) → Pairs R xs → In a xs → In b xs
    → (a ≡ b) ⊎ (R a b ⊎ R b a)
either_way R [] a b h i j = absurd i
either_way R (x ∷ xs) a b h i j =
    let before = h.0 a in
    let after = h.0 b in
    grind (arith, either_way R xs a b h.1)

-- of two operations no event of the one has the number of an event of the other
calls_apart : (h : List Numbered) (a b : ProcessCall) → IsHistory h → In a (calls_in h) → In b (calls_in h)
    → number_of a < number_of b → Apart a.call b.call
calls_apart h a b hist i j l = (l, λ r q. (other r q, both r q))
  where
    up : Rise h
    up = pairs_from_all (λ a b. a.number < b.number) h hist.rising

    one : (m n : Numbered) → In m h → In n h → m.number ≡ n.number → m ≡ n
    one m n k l e = one_number (λ (z : Numbered). z.number) m n h up k l e

    other : (r : Return) → a.call.returned ≡ Some r → r.at ≢ number_of b
    other r q same =
        let m = (call_events h a up i).response r q in
        let k = call_events h b up j in
        let event = ap (λ (z : Numbered). z.event) (one m.0 k.invocation m.1 k.invoked (m.2 ∙ same ∙ sym k.number)) in
        let clash : Res a.process a.object r.reply ≡ Inv b.process b.object b.call.op = sym m.3 ∙ event ∙ k.op in
        absurd (cc clash)

    both : (r : Return) → a.call.returned ≡ Some r → (s : Return) → b.call.returned ≡ Some s → r.at ≢ s.at
    both r q s t same =
        let m = (call_events h a up i).response r q in
        let n = (call_events h b up j).response s t in
        let event = ap (λ (z : Numbered). z.event) (one m.0 n.0 m.1 n.1 (m.2 ∙ same ∙ sym n.2)) in
        let process : a.process ≡ b.process = ap process_of (sym m.3 ∙ event ∙ n.3) in
        let p : ℕ = a.process in
        let in_part : (e : ProcessCall) → In e (calls_in h) → e.process ≡ p → In e (calls_in (part p h)) = λ e k f.
        rw (calls_in-part p h)
        (in_filter_from (λ (o : ProcessCall). o.process == p) e (calls_in h) k (eq-eqb e.process p f)) in
        elim (either_way Before (calls_in (part p h)) a b
        (one_after_another p (part p h) (turn_view h hist p) (part_up h hist p)) (in_part a i refl)
        (in_part b j (sym process))) [
          | inl e ↦ omega (arith, ap number_of e)
          | inr w ↦ elim w [
            | inl f ↦ omega (arith, ap (λ (z : Return). z.at) (same_Some f.0 r (sym f.1 ∙ q)), f.2, n.4)
            | inr f ↦ omega (arith, ap (λ (z : Return). z.at) (same_Some f.0 s (sym f.1 ∙ t)), f.2, n.4)
          ]
        ]

history_apart : (x : ℕ) (h : List Numbered) → IsHistory h → AreApart (calls_on x h)
history_apart x h hist = record {
  pairs = pairs_map Apart (λ (e : ProcessCall). e.call) (filter (λ e. e.object == x) (calls_in h))
      (pairs_filter (λ (a b : ProcessCall). Apart a.call b.call) (λ e. e.object == x) (calls_in h)
      (pairs_weaker (λ a b. number_of a < number_of b) (λ (a b : ProcessCall). Apart a.call b.call) (calls_in h)
      (λ a b i j l. calls_apart h a b hist i j l) (rise h hist)));
  ends = λ c r i q.
      let e = in_map (λ (e : ProcessCall). e.call) c (filter (λ e. e.object == x) (calls_in h)) i in
      let own = call_events h e.0 (pairs_from_all (λ a b. a.number < b.number) h hist.rising)
      (in_filter (λ (e : ProcessCall). e.object == x) e.0 (calls_in h) e.1) in
      let m = own.response r (sym (ap (λ (z : Call). z.returned) e.2) ∙ q) in
      rw e.2 m.4;
}

-- ---- calls of a part

timed_apart : (calls part : List Call) → AreTimed calls part → AreApart calls → AreApart part
timed_apart calls part t h = rw t.named (record {
  pairs = pairs_filter_map Apart Apart t.becomes calls
      (λ x y a b i j d e f. kept x y a b d (t.timed x a i e) (t.timed y b j f)) h.pairs;
  ends = λ c r i q.
      let y = in_filter_map t.becomes c calls i in
      let w = t.timed y.0 c y.1 y.2 in
      let u = w.returned r q in
      let l = h.ends y.0 u.0 y.1 u.1 in
      omega (arith, w.number, u.2);
})
  where
    -- calls stay apart under the times of other calls
    kept : (first second one other : Call) → Apart first second → IsTimed one first → IsTimed other second
        → Apart one other
    kept first second one other d v w = (
      omega (arith, d.0, v.number, w.number),
      λ r q.
          let u = v.returned r q in
          let o = d.1 u.0 u.1 in
          (λ e. o.0 (u.2 ∙ e ∙ w.number), λ s t e. let z = w.returned s t in o.1 z.0 z.1 (u.2 ∙ e ∙ sym z.2)),
    )

named_apart : (cuts : List Cut) (calls part : List Call) → AreApart calls → NamesPart cuts calls part → AreApart part
named_apart [] calls part h k = rw k h
named_apart (cut ∷ cuts) calls part h k =
    let rising = pairs_weaker Apart (λ x y. x.number < y.number) calls (λ x y i j d. d.0) h.pairs in
    named_apart cuts k.0 part (timed_apart calls k.0 (timed_named cut calls k.0 rising k.1) h) k.2

pub part_apart : (cuts : List Cut) (x : ℕ) (h : List Numbered) (part : List Call) → IsHistory h
    → NamesPart cuts (calls_on x h) part → AreApart part
part_apart cuts x h part hist named = named_apart cuts (calls_on x h) part (history_apart x h hist) named

-- ---- orders

-- the history of calls alone is not linearizable if they have no valid order
pub alone_refuted : (kind : Kind) (x : ℕ) (calls : List Call) → AreApart calls
    → ((kinds : ℕ → Kind) (h : List Numbered) → IsHistory h → IsLinearizable kinds (events h) → (y : ℕ)
    → HasValidOrder kinds h y)
    → HasNoValidOrder kind calls → IsLinearizable (λ y. kind) (events (alone x calls)) → ⊥
alone_refuted kind x calls apart orders none lin =
    let order = orders (λ y. kind) (alone x calls) (alone_history x calls apart) lin x in
    none order.0 (rw (alone_calls x calls apart) at order.1)

pub alone_possible : (kind : Kind) (x : ℕ) (calls : List Call) → AreApart calls
    → ((kinds : ℕ → Kind) (h : List Numbered) → IsHistory h → All (λ e. HasValidOrder kinds h e.object) (calls_in h)
    → IsLinearizable kinds (events h))
    → (IsLinearizable (λ y. kind) (events (alone x calls)) → ⊥) → HasNoValidOrder kind calls
alone_possible kind x calls apart named not order v =
    not (named (λ y. kind) (alone x calls) (alone_history x calls apart)
    (all_from_in (λ (e : ProcessCall). HasValidOrder (λ y. kind) (alone x calls) e.object)
    (calls_in (alone x calls)) (λ e i.
    let o = in_map (own_call x) e calls (rw (alone_calls_in x calls apart) at i) in
    rw o.2 (order, rw (alone_calls x calls apart) v))))

-- ---- the operations of a part, as the history says them

pub listed_apart : (x : ℕ) (h : List Numbered) (part : List Call) → IsHistory h
    → AreApart (listed part (calls_on x h))
listed_apart x h part hist = timed_apart (calls_on x h) (listed part (calls_on x h)) (timed_filter _ (calls_on x h))
    (history_apart x h hist)

-- what the law on listed operations asks of the calls of a history
pub record AreOfHistory (calls : List Call) : Type 0 where
  pub rising : AllPairs (λ a b. a.number < b.number) calls
  pub ends : All (λ e. (r : Return) → e.returned ≡ Some r → e.number < r.at) calls

pub of_history : (x : ℕ) (h : List Numbered) → IsHistory h → AreOfHistory (calls_on x h)
of_history x h hist =
    let a = history_apart x h hist in
    record {
      rising = all_from_pairs (λ a b. a.number < b.number) (calls_on x h)
          (pairs_weaker Apart (λ a b. a.number < b.number) (calls_on x h) (λ a b i j d. d.0) a.pairs);
      ends = all_from_in (λ (e : Call). (r : Return) → e.returned ≡ Some r → e.number < r.at) (calls_on x h)
          (λ e i r q. a.ends e r i q);
    }
