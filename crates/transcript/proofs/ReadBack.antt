-- The lines of a record are read back as its events: each line is a form that says its event, no line has a fault
-- after those before it, and an outstanding call is the last line of its client. By induction along the lines.
use Rattle.std.proofs.Common.{◌≡◌, ◌≢◌, ℕ, ◌+◌, ◌<◌, ◌≤◌, ◌==◌, inl, inr, List, [], ◌∷◌, ◌++◌, map, length, find}
use Rattle.std.proofs.Common.{reverse, Option, Some, None, option_map, All, lit<, refl, ap, sym, ◌∙◌, subst, eq-eqb}
use Rattle.std.proofs.Common.{arith}
use Rattle.std.specs.List.{cons_option}
use Rattle.std.proofs.lemmas.Option.{same_Some}
use Rattle.std.proofs.lemmas.List.{reverse-append, map-append, length-map}
use Rattle.model.specs.declared.AnyOp.{AnyOp}
use Rattle.model.specs.Objects.{kind_of}
use Rattle.model.specs.Lists.{In}
use Rattle.model.proofs.Lists.{Pairs, in_map, in_map_from, in_filter, in_filter_from, in_from_contains, in_split}
use Rattle.model.proofs.Lists.{in_left, in_middle, all_at, all_from_in, pairs_from_all}
use Rattle.edn_reader.specs.Datum.{Datum, DatumFits, max_open}
use Rattle.edn_reader.specs.Text.{InProfile}
use Rattle.edn_reader.specs.Laws.{EachSpelled}
use Rattle.edn_reader.proofs.Joined.{text_spells_it, lines_spell_them}
use Rattle.seq_objects.specs.declared.value.Value.{Value}
use Rattle.seq_objects.specs.declared.value.Value.TheVariants.{Pair, Triple}
use Rattle.seq_objects.specs.Functions.{kind_of_function}
use Rattle.seq_objects.specs.Values.{function_in}
use Rattle.events.specs.declared.event.Action.{Action}
use Rattle.events.specs.declared.event.Action.TheVariants.{Invoke, Ok, Fail, Info}
use Rattle.events.specs.declared.event.Event.{Event}
use Rattle.edn.specs.Fields.{max_object}
use Rattle.history.specs.declared.fault.HistoryFaultKind.{HistoryFaultKind}
use Rattle.history.specs.declared.fault.HistoryFaultKind.TheVariants.{NotAnOperation, UnknownF, BadValue, MixedKinds}
use Rattle.history.specs.declared.fault.HistoryFaultKind.TheVariants.{Busy, Stray, Mismatch, AfterInfo, TooMany}
use Rattle.history.specs.declared.fault.HistoryFaultKind.TheVariants.{NoMemory}
use Rattle.history.specs.Maps.{ClientMap, invoke, info, client_of, clients}
use Rattle.history.specs.Faults.{last_map, HasBadValue, ClientFault, HasNoHistoryFault, IsFaultlessAtAnyLength}
use Rattle.history.specs.Faults.{HasOngoing, IsProcessClosed}
use Rattle.history.specs.Denotes.{action_of, event_of_map, event_of, events_of_forms}
use Rattle.history.proofs.MapLimit.{IsSmall, faultless_within}
use Rattle.history.proofs.OneMore.{fault_of}
use Rattle.history.proofs.Laws.{kind_of_op}
use Rattle.desk_model.specs.declared.JournalEvent.TheVariants.{Invoked}
use Rattle.desk_model.specs.World.{AnyEntry, AnyEvent, ticket_of}
use Rattle.desk_model.specs.Sound.{ShareOut}
use Rattle.recorder.specs.Histories.{AreEventsOf, IsRecord, events_of, max_tickets}
use Rattle.recorder.proofs.Same.{same_by_parts}
use Rattle.recorder.proofs.Journals.{InTurn, none, last, call, numbers_of}
use Rattle.transcript.specs.declared.line.Call.{Call}
use Rattle.transcript.specs.declared.line.Line.{Line}
use Rattle.transcript.specs.Lines.{map_value, value_form, form_of, history_text, journal_lines_from}
use Rattle.transcript.specs.Lines.{AreLinesOf, events_in}
use Rattle.transcript.specs.Reading.{DenotesEvents}
use Rattle.transcript.proofs.Gathered.{same_events}
use Rattle.transcript.proofs.Naming.{invocation_event}
use Rattle.transcript.proofs.CallsInTurn.{turns_in, one_kind}
use Rattle.transcript.proofs.ClientLines.{MayFollow, Follows, last_line, line_follows}
use Rattle.transcript.proofs.Forms.{type_map, map_of, client_is, action_is}

-- ---- numbers from 0 on

abbrev CountFrom : ℕ → List Event → Type 0
CountFrom n [] = Unit {0}
CountFrom n (e ∷ es) = (e.number ≡ n) × CountFrom (n + 1) es

counted : (n count : ℕ) (es : List Event) → Pairs (λ a b. a.number < b.number) es
    → ((e : Event) → In e es → (n ≤ e.number) × (e.number < count))
    → ((t : ℕ) → n ≤ t → t < count → (e : Event) × In e es × (e.number ≡ t)) → CountFrom n es
counted n count [] up within each = tt
counted n count (e ∷ es) up within each =
    let here = within e (inl refl) in
    let first = each n (omega arith) (omega arith) in
    let is : e.number ≡ n = elim first.1 [
      | inl s ↦ ap (λ (x : Event). x.number) (sym s) ∙ first.2
      | inr i ↦ absurd (omega (arith, up.0 first.0 i, first.2, here.0))
    ] in (
      is,
      counted (n + 1) count es up.1 (λ f i. let w = within f (inr i) in (omega (arith, up.0 f i, w.0), w.1))
          (λ t low high.
          let f = each t (omega arith) high in (
            f.0,
            elim f.1 [
              | inl s ↦ (let q : e.number ≡ t = ap (λ (x : Event). x.number) (sym s) ∙ f.2 in absurd (omega arith))
              | inr i ↦ i
            ],
            f.2,
          )),
    )

count_few : (n m : ℕ) (es : List Event) → CountFrom n es → ((e : Event) → In e es → e.number < m) → n ≤ m
    → n + length es ≤ m
count_few n m [] c low le = omega arith
count_few n m (e ∷ es) c low le =
    let at : n < m = omega (arith, low e (inl refl), c.0) in
    omega (arith, count_few (n + 1) m es c.1 (λ f i. low f (inr i)) (omega arith))

-- ---- the forms of lines

split_forms : (ls : List Line) (earlier later : List Datum) (d : Datum) → map form_of ls ≡ earlier ++ d ∷ later
    → (before after : List Line)
    × (l : Line) × (ls ≡ before ++ l ∷ after) × (earlier ≡ map form_of before) × (d ≡ form_of l)
split_forms [] [] later d e = absurd (cc)
split_forms [] (x ∷ earlier) later d e = absurd (cc)
split_forms (l ∷ ls) [] later d e = ([], ls, l, refl, refl, sym (cc (e)))
split_forms (l ∷ ls) (x ∷ earlier) later d e =
    let first : form_of l ≡ x = cc (e) in
    let rest : map form_of ls ≡ earlier ++ d ∷ later = cc (e) in
    let r = split_forms ls earlier later d rest in
    (l ∷ r.0, r.1, r.2, ap (λ ms. l ∷ ms) r.3, ap (λ z. z ∷ earlier) (sym first) ∙ ap (λ ms. form_of l ∷ ms) r.4, r.5)

clients_are : (ls : List Line) → ((l : Line) → In l ls → l.event.object ≤ max_object)
    → clients (map form_of ls) ≡ map map_of ls
clients_are [] low = refl
clients_are (l ∷ ls) low =
    ap (λ o. cons_option o (clients (map form_of ls))) (client_is l (low l (inl refl)))
    ∙ ap (λ ms. map_of l ∷ ms) (clients_are ls (λ k i. low k (inr i)))

last_is : (p : ℕ) (ls : List Line) → last_map p (map map_of ls) ≡ option_map map_of (last_line p ls)
last_is p ls = ap (find (λ (m : ClientMap). m.process == p)) (sym (map-reverse ls)) ∙ found (reverse ls)
  where
    map-reverse : (ks : List Line) → map map_of (reverse ks) ≡ reverse (map map_of ks)
    map-reverse [] = refl
    map-reverse (k ∷ ks) = ap (map map_of) (reverse-append (k ∷ []) ks)
        ∙ (map-append map_of (reverse ks) (k ∷ [])
        ∙ (ap (λ ms. ms ++ map_of k ∷ []) (map-reverse ks) ∙ sym (reverse-append (map_of k ∷ []) (map map_of ks))))

    found : (ks : List Line)
        → find (λ (m : ClientMap). m.process == p) (map map_of ks)
        ≡ option_map map_of (find (λ (l : Line). l.event.process == p) ks)
    found [] = refl
    found (k ∷ ks) = let rest = found ks in grind arith

-- ---- no line is faulty

-- what is known of a line after others
record IsFine (before : List Line) (l : Line) : Type 0 where
  follows : Follows (last_line l.event.process before) l
  of_kind : (k : Line) → In k before → k.event.object ≡ l.event.object → kind_of k.op ≡ kind_of l.op
  none_unknown : (k : Line) → In k before → k.event.action ≢ Info

-- the line that is outstanding, where some map is
outstanding : (before : List Line) (p : ℕ) (o : ClientMap) → HasOngoing (map map_of before) p o
    → (k : Line) × (last_line p before ≡ Some k)
    × (o ≡ map_of k) × (op : AnyOp) × (k.event.action ≡ Invoke op)
outstanding before p o h = go (last_line p before) refl (sym (last_is p before) ∙ h.last)
  where
    invoked : (a : Action) → type_map a ≡ invoke → (op : AnyOp) × (a ≡ Invoke op)
    invoked (Invoke op) e = (op, refl)
    invoked a e = absurd cc

    go : (q : Option Line) → last_line p before ≡ q → option_map map_of q ≡ Some o
        → (k : Line) × (last_line p before ≡ Some k) × (o ≡ map_of k) × (op : AnyOp) × (k.event.action ≡ Invoke op)
    go None is e = absurd (cc)
    go (Some k) is e =
        let same : o ≡ map_of k = sym (same_Some (map_of k) o e) in
        let i = invoked k.event.action (ap (λ (m : ClientMap). m.type) (sym same) ∙ h.invoked) in
        (k, is, same, i.0, i.1)

no_bad : (m : ClientMap) (a : Action) → action_of m.type m ≡ Some a → HasBadValue m.type m → ⊥
no_bad m a is h = grind arith

module _ (before : List Line) (l : Line) (fine : IsFine before l) where
  busy : (a : Action) → l.event.action ≡ a → type_map a ≡ invoke → (o : ClientMap)
      → HasOngoing (map map_of before) l.event.process o → ⊥
  busy (Invoke op) is t o h =
      let k = outstanding before l.event.process o h in
      let f = rw is at fine.follows in f.1 k.0 k.3 k.1 k.4
  busy a h t o k = absurd cc

  -- a completion's process has its call outstanding
  pending : (a : Action) → l.event.action ≡ a → (type_map a ≢ invoke)
      → (k : Line) × (last_line l.event.process before ≡ Some k) × (op : AnyOp)
      × (k.event.action ≡ Invoke op) × (k.op ≡ l.op) × (k.event.object ≡ l.event.object)
  pending (Invoke op) is t = absurd (t refl)
  pending (Ok r) is t = let f = rw is at fine.follows in (f.0.0, f.0.1, l.op, f.0.2, f.0.3, f.0.4)
  pending Fail is t = let f = rw is at fine.follows in (f.0, f.1, l.op, f.2, f.3, f.4)
  pending Info is t = absurd (rw is at fine.follows)

  closed_not : IsProcessClosed (map map_of before) l.event.process → ⊥
  closed_not h =
      let k = in_map map_of h.map before (in_from_contains (map map_of before) h.map h.stands) in
      let t : type_map k.0.event.action ≡ info = ap (λ (m : ClientMap). m.type) (sym k.2) ∙ h.unknown in
      fine.none_unknown k.0 k.1 (go k.0.event.action t)
    where
      go : (a : Action) → type_map a ≡ info → a ≡ Info
      go a e = grind arith

  no_fault : (kind : HistoryFaultKind) → ClientFault (map map_of before) (map_of l) kind → ⊥
  no_fault NotAnOperation h = h
  no_fault UnknownF h = absurd (cc (h))
  no_fault BadValue h = no_bad (map_of l) l.event.action (action_is l (last_line l.event.process before) fine.follows) h
  no_fault MixedKinds h =
      let k = in_map map_of h.other before (in_from_contains (map map_of before) h.other h.stands) in
      let object : k.0.event.object ≡ l.event.object = ap (λ (m : ClientMap). m.object) (sym k.2) ∙ h.same_object in
      let own : function_in l.op ≡ h.known = same_Some (function_in l.op) h.known h.is_known in
      let other : function_in k.0.op ≡ h.other_known =
      same_Some (function_in k.0.op) h.other_known
      (ap (λ (m : ClientMap). m.function) (sym k.2) ∙ h.other_is_known) in
      h.apart (ap kind_of_function (sym other)
      ∙ (sym (kind_of_op k.0.op) ∙ (fine.of_kind k.0 k.1 object ∙ (kind_of_op l.op ∙ ap kind_of_function own))))
  no_fault Busy h = busy l.event.action refl h.0 h.1 h.2
  no_fault Stray h =
      let k = pending l.event.action refl h.0 in
      h.2 (map_of k.0) (record {
        last = last_is l.event.process before ∙ ap (option_map map_of) k.1;
        invoked = ap type_map k.3;
      })
  no_fault Mismatch h =
      let k = pending l.event.action refl h.0 in
      let o = outstanding before l.event.process h.1 h.2 in
      let same : o.0 ≡ k.0 = same_Some o.0 k.0 (sym o.1 ∙ k.1) in
      let is : h.1 ≡ map_of k.0 = o.2 ∙ ap map_of same in
      elim h.3 [
        | inl n ↦ n (ap (λ (m : ClientMap). m.function) is ∙ ap (λ p. Some (function_in p)) k.4)
        | inr n ↦ n (ap (λ (m : ClientMap). m.object) is ∙ k.5)
      ]
  no_fault AfterInfo h = closed_not h
  no_fault TooMany h = h
  no_fault NoMemory h = h

-- ---- the call of a line

-- the invocation of a line's call is in the journal
line_call : (client : ℕ) (before : Option Call) (js : List AnyEvent) → InTurn js → (line : Line)
    → In line (journal_lines_from client before js) → (t : ℕ) × In (Invoked t line.event.object line.op) js
line_call client before js none line i = absurd i
line_call client before js (last t x op) line i = elim i [
  | inl s ↦ (t, inl (ap (λ (k : Line). Invoked t k.event.object k.op) s))
  | inr j ↦ absurd j
]
line_call client before js (call t x op u a rest fits more) line i = elim i [
  | inl s ↦ (t, inl (ap (λ (k : Line). Invoked t k.event.object k.op) s))
  | inr j ↦ elim j [
    | inl s ↦ (t, inl (ap (λ (k : Line). Invoked t k.event.object k.op) s))
    | inr k ↦ let h = line_call client (Some (record { object = x; op = op })) rest more line k in (h.0, inr (inr h.1))
  ]
]

-- ---- what the lines spell

value_fits : (n : ℕ) → 0 < n → (v : Value) → DatumFits n (value_form v)
value_fits n low (Pair a b) = (low, (tt, (tt, tt)))
value_fits n low (Triple a b c) = (low, (tt, (tt, (tt, tt))))
value_fits n h v = tt

form_fits : (l : Line) → DatumFits max_open (form_of l)
form_fits l = let value = value_fits 15 (lit< tt) (map_value l.op l.event.action) in grind arith

each_spelled : (ls : List Line) → ((l : Line) → In l ls → InProfile (form_of l)) → EachSpelled (map form_of ls)
each_spelled [] p = tt
each_spelled (l ∷ ls) p =
    (text_spells_it (form_of l) (form_fits l) (p l (inl refl)), each_spelled ls (λ k i. p k (inr i)))

events_are : (n : ℕ) (ls : List Line) → CountFrom n (events_in ls)
    → ((l : Line) → In l ls
    → (l.event.object ≤ max_object) × (action_of (map_of l).type (map_of l) ≡ Some l.event.action))
    → events_in ls ≡ events_of_forms n (map form_of ls)
events_are n [] c h = refl
events_are n (l ∷ ls) c h =
    let here = h l (inl refl) in
    let one : l.event ∷ [] ≡ event_of_map n (map_of l) (action_of (map_of l).type (map_of l)) =
    ap (λ (k : ℕ). record { number = k; process = l.event.process; object = l.event.object; action = l.event.action }
    ∷ []) c.0 ∙ ap (event_of_map n (map_of l)) (sym here.1) in
    ap (λ es. l.event ∷ es) (events_are (n + 1) ls c.1 (λ k i. h k (inr i)))
    ∙ (ap (λ (es : List Event). es ++ events_of_forms (n + 1) (map form_of ls)) one
    ∙ ap (λ m. event_of n m ++ events_of_forms (n + 1) (map form_of ls)) (sym (client_is l here.0)))

-- ---- all together

module _ (objects : ℕ) (journals : ℕ → List AnyEvent) (logs : ℕ → List AnyEntry)
    (record_is : IsRecord objects journals logs) (count : ℕ)
    (tickets : ShareOut count (λ c. map ticket_of (journals c)))
    (low : All (λ e. e.object ≤ max_object) record_is.events) (ls : List Line) (are : AreLinesOf journals ls) where
  same : record_is.events ≡ events_in ls
  same = same_events journals record_is.events record_is.are_events record_is.proper ls are

  among_events : (l : Line) → In l ls → In l.event record_is.events
  among_events l i = subst (In l.event) (sym same) (in_map_from (λ (k : Line). k.event) l ls i)

  object_low : (l : Line) → In l ls → l.event.object ≤ max_object
  object_low l i = all_at (λ (e : Event). e.object ≤ max_object) record_is.events low l.event (among_events l i)

  has_ticket : (t : ℕ) → t < count → (e : Event) × In e (events_in ls) × (e.number ≡ t)
  has_ticket t l =
      let c = tickets.each t l in
      let drawn : In t (map (λ (e : Event). e.number) (events_of c.0 (journals c.0))) =
      subst (In t) (sym (numbers_of c.0 0 (journals c.0))) (in_from_contains (map ticket_of (journals c.0)) t c.1) in
      let e = in_map (λ (e : Event). e.number) t (events_of c.0 (journals c.0)) drawn in
      let own : In e.0 record_is.events =
      in_filter (λ (f : Event). f.process == c.0) e.0 record_is.events
      (subst (In e.0) (sym (record_is.are_events.each c.0)) e.1) in
      (e.0, subst (In e.0) same own, sym e.2)

  number_low : (e : Event) → In e (events_in ls) → e.number < count
  number_low e i =
      let own : In e (events_of e.process (journals e.process)) =
      subst (In e) (record_is.are_events.each e.process)
      (in_filter_from (λ (f : Event). f.process == e.process) e record_is.events (subst (In e) (sym same) i)
      (eq-eqb e.process e.process refl)) in
      all_at (λ t. t < count) (map ticket_of (journals e.process)) (tickets.below e.process) e.number
      (subst (In e.number) (numbers_of e.process 0 (journals e.process))
      (in_map_from (λ (f : Event). f.number) e (events_of e.process (journals e.process)) own))

  numbered : CountFrom 0 (events_in ls)
  numbered = counted 0 count (events_in ls)
      (subst (Pairs (λ (a b : Event). a.number < b.number)) same
      (pairs_from_all (λ (a b : Event). a.number < b.number) record_is.events record_is.are_events.rising))
      (λ e i. (omega arith, number_low e i)) (λ t a b. has_ticket t b)

  number_few : (e : Event) → In e (events_in ls) → e.number < max_tickets
  number_few e i = all_at (λ (f : Event). f.number < max_tickets) record_is.events record_is.few e
      (subst (In e) (sym same) i)

  few_lines : length ls ≤ 640000
  few_lines =
      let l = count_few 0 max_tickets (events_in ls) numbered number_few (omega arith) in
      omega (arith, length-map ls (λ (k : Line). k.event))

  turn : (c : ℕ) → InTurn (journals c)
  turn = turns_in journals record_is.events record_is.are_events record_is.proper

  -- the invocation of a line's call
  call_event : (l : Line) → In l ls
      → (t : ℕ) × In (record { number = t; process = l.event.process; object = l.event.object; action = Invoke l.op })
      record_is.events
  call_event l i =
      let c = l.event.process in
      let own = subst (In l) (are.each c)
      (in_filter_from (λ (k : Line). k.event.process == c) l ls i (eq-eqb c c refl)) in
      let h = line_call c None (journals c) (turn c) l own in
      let invoked : Event = record { number = h.0; process = c; object = l.event.object; action = Invoke l.op } in
      let there = invocation_event c 0 h.0 l.event.object l.op (journals c) h.1 in (
        h.0,
        in_filter (λ (f : Event). f.process == c) invoked record_is.events
            (subst (In invoked) (sym (record_is.are_events.each c)) there),
      )

  kinds_here : (k l : Line) → In k ls → In l ls → k.event.object ≡ l.event.object → kind_of k.op ≡ kind_of l.op
  kinds_here k l i j on =
      let e = call_event k i in
      let f = call_event l j in
      one_kind journals record_is.events record_is.are_events record_is.proper
      (record { number = e.0; process = k.event.process; object = k.event.object; action = Invoke k.op })
      (record { number = f.0; process = l.event.process; object = l.event.object; action = Invoke l.op }) k.op l.op
      e.1 f.1 on refl refl

  follows_at : (before after : List Line) (l : Line) → ls ≡ before ++ l ∷ after
      → Follows (last_line l.event.process before) l
  follows_at before after l is = line_follows ls journals turn are.each before after l is

  not_info : (l : Line) → In l ls → l.event.action ≢ Info
  not_info l i e = let r = in_split l ls i in
      subst (MayFollow (last_line l.event.process r.0) l.event.object l.op) e (follows_at r.0 r.1 l r.2)

  fine_at : (before after : List Line) (l : Line) → ls ≡ before ++ l ∷ after → IsFine before l
  fine_at before after l is = record {
    follows = follows_at before after l is;
    of_kind = λ k i on. kinds_here k l (subst (In k) (sym is) (in_left k before (l ∷ after) i))
        (subst (In l) (sym is) (in_middle l before after)) on;
    none_unknown = λ k i. not_info k (subst (In k) (sym is) (in_left k before (l ∷ after) i));
  }

  at_any_length : IsFaultlessAtAnyLength (map form_of ls)
  at_any_length earlier later d kind is fault =
      let r = split_forms ls earlier later d is in
      let before = r.0 in
      let l = r.2 in
      let here : In l ls = subst (In l) (sym r.3) (in_middle l before r.1) in
      let client : client_of d ≡ Some (map_of l) = ap client_of r.5 ∙ client_is l (object_low l here) in
      let maps : clients earlier ≡ map map_of before =
      ap clients r.4 ∙ clients_are before
      (λ k i. object_low k (subst (In k) (sym r.3) (in_left k before (l ∷ r.1) i))) in
      no_fault before l (fine_at before r.1 l r.3) kind
      (subst (λ (ms : List ClientMap). ClientFault ms (map_of l) kind) maps
      (fault_of earlier d (map_of l) kind client fault))

  small : All IsSmall (map form_of ls)
  small = all_from_in IsSmall (map form_of ls) (λ d i great.
      let r = in_map form_of d ls i in
      let low : r.0.event.object ≤ max_object = object_low r.0 r.1 in
      let client : client_of d ≡ Some (map_of r.0) = ap client_of r.2 ∙ client_is r.0 low in
      let own : great.0.object ≡ r.0.event.object =
      ap (λ (x : ClientMap). x.object) (same_Some great.0 (map_of r.0) (sym great.1 ∙ client)) in
      let l = great.2 in
      absurd (omega (arith, own, low, l)))

  faultless : HasNoHistoryFault (map form_of ls)
  faultless =
      faultless_within (map form_of ls) at_any_length (omega (arith, few_lines, length-map ls form_of)) small

  says_action : (l : Line) → In l ls → action_of (map_of l).type (map_of l) ≡ Some l.event.action
  says_action l i = let r = in_split l ls i in action_is l (last_line l.event.process r.0) (follows_at r.0 r.1 l r.2)

  pub read_back : All (λ l. InProfile (form_of l)) ls → (es : List Event) → AreEventsOf journals es
      → DenotesEvents (history_text ls) es
  read_back profile es h = record {
    forms = map form_of ls;
    spelled = lines_spell_them (map form_of ls)
        (each_spelled ls (λ l i. all_at (λ (k : Line). InProfile (form_of k)) ls profile l i));
    denoted = record {
      faultless = faultless;
      events = (same_by_parts (λ (e : Event). e.number) (λ (e : Event). e.process) es record_is.events
          (pairs_from_all (λ (a b : Event). a.number < b.number) es h.rising)
          (pairs_from_all (λ (a b : Event). a.number < b.number) record_is.events record_is.are_events.rising)
          (λ c. h.each c ∙ sym (record_is.are_events.each c)) ∙ same)
          ∙ events_are 0 ls numbered (λ l i. (object_low l i, says_action l i));
    };
  }
