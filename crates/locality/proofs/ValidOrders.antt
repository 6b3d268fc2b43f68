-- The order of an object in a linearization is valid. A call that returned before another began is before it: otherwise
-- the counts of the events up to that moment would not agree.
use Rattle.std.proofs.Common.{◌≡◌, ◌≢◌, ℕ, ℤ, pos, suc, ◌<◌, ◌≤◌, ◌==◌, ◌&&◌, nat_lt, Bool, true, false, cond, ◌⊎◌, inl}
use Rattle.std.proofs.Common.{inr, List, [], ◌∷◌, ◌++◌, length, map, filter, Option, Some, None, IfSome, IsSome}
use Rattle.std.proofs.Common.{Contains, refl, ap, sym, ◌∙◌, arith}
use Rattle.std.proofs.lemmas.List.{append-nil, append_assoc, length-append, map-append, length-map}
use Rattle.std.proofs.lemmas.List.Concat.{flat_map-append}
use Rattle.std.proofs.lemmas.List.Elements.{filter-append, recursion_from_All}
use Rattle.std.proofs.lemmas.List.Sums.{length-filter, count_by-le-length}
use Rattle.std.proofs.lemmas.Bool.{eqb-true, eq-eqb, lt-ltb, le-ltb}
use Rattle.model.specs.Specification.{Specification}
use Rattle.model.specs.Histories.{Event, Inv, Res, process_of, object_of, is_invocation, by_process, by_object}
use Rattle.model.specs.Histories.{complete, invokes, responds, Operation, IsOperation}
use Rattle.model.specs.Linearizable.{RepliesFrom, IsLinearizableFor}
use Rattle.model.specs.Orders.{Numbered, events, Return, Call, ProcessCall, begins, calls_in, calls_on, IsHistory}
use Rattle.model.specs.Orders.{ReturnsBefore, RepliesBy}
use Rattle.model.specs.Lists.{In}
use Rattle.model.proofs.Lists.{Pairs, in_filter, in_filter_passes, in_filter_from, pairs_filter, pairs_map}
use Rattle.model.proofs.Lists.{filter-filter, filter_all, filter_none, in_map, in_map_from, contains_from_in}
use Rattle.model.proofs.Lists.{all_from_in, all_from_pairs, in_left, in_middle, in_split}
use Rattle.locality.specs.Locality.{HasValidOrderOf}
use Rattle.locality.proofs.Merge.{one_number}
use Rattle.locality.proofs.Entries.{number_of}
use Rattle.locality.proofs.ProcessHistories.{part, events-part, calls_in-part, call_event, Before, one_after_another}
use Rattle.locality.proofs.ProcessHistories.{is_back, returns_after, invocations_before, turn_view, rise, up, part_rise}
use Rattle.locality.proofs.ProcessHistories.{responses_before, part_up}
use Rattle.locality.proofs.Cuts.{complete_of_process, length_filter_events, filter_before, invokes_of_process}
use Rattle.locality.proofs.Cuts.{responds_in_part, filter_pieces}
use Rattle.locality.proofs.Moments.{Moment, moment_from, precedes_from, count, count-append}
use Rattle.locality.proofs.CompletedCalls.{Ended, two_events, ended_events, ops_of, Completed, Responses, completed_any}
use Rattle.locality.proofs.CompletedCalls.{Lined, lined}
use Rattle.model.proofs.Orders.{same_pos, returned_some}

-- ---- lists, their beginnings and parts

-- of two beginnings of a list one begins the other
prefix_either : {X : Type 0} (front rest front' rest' : List X) → front ++ rest ≡ front' ++ rest'
    → ((more : List X) × (front' ≡ front ++ more)) ⊎ ((more : List X) × (front ≡ front' ++ more))
prefix_either [] rest front' rest' same = inl (front', refl)
prefix_either (x ∷ front) rest [] rest' same = inr (x ∷ front, refl)
prefix_either (x ∷ front) rest (y ∷ front') rest' same =
    let head : x ≡ y = cc same in
    elim (prefix_either front rest front' rest' (cc same)) [
      | inl more ↦ inl (more.0, cc (head, more.1))
      | inr more ↦ inr (more.0, cc (head, more.1))
    ]

-- each two of a list, by how it falls into parts
pairs_by_parts : {X : Type 0} (R : X → X → Type 0) (front xs : List X)
    → ((l m n : List X) (a b : X) → front ++ xs ≡ l ++ a ∷ (m ++ b ∷ n) → R a b) → Pairs R xs
pairs_by_parts R front [] h = tt
pairs_by_parts {X} R front (x ∷ xs) h = (
  λ y i. let s = in_split y xs i in h front s.0 s.1 x y (ap (λ zs. front ++ x ∷ zs) s.2),
  pairs_by_parts R (front ++ x ∷ []) xs (λ l m n a b e. h l m n a b (sym (append_assoc front (x ∷ []) xs) ∙ e)),
)

-- ---- the events of operations with their replies

ended_invokes : (p : ℕ) (es : List Ended)
    → count (invokes p) (ended_events es) ≡ length (filter (λ e. e.made.process == p) es)
ended_invokes p [] = refl
ended_invokes p (e ∷ es) = let rest = ended_invokes p es in grind arith

ended_responds : (p : ℕ) (es : List Ended)
    → count (responds p) (ended_events es) ≡ length (filter (λ e. e.made.process == p) es)
ended_responds p [] = refl
ended_responds p (e ∷ es) = let rest = ended_responds p es in grind arith

ended_of_object : (x : ℕ) (es : List Ended)
    → by_object x (ended_events es) ≡ ended_events (filter (λ e. e.made.object == x) es)
ended_of_object x es = filter_pieces (λ v. object_of v == x) (λ e. e.made.object == x) two_events es
    (λ e t. filter_all (λ v. object_of v == x) (two_events e)
    (λ v i. elim i [
      | inl s ↦ ap (λ w. object_of w == x) s ∙ t
      | inr j ↦ elim j [ inl s ↦ ap (λ w. object_of w == x) s ∙ t | inr k ↦ absurd k ]
    ]))
    (λ e t. filter_none (λ v. object_of v == x) (two_events e)
    (λ v i. elim i [
      | inl s ↦ ap (λ w. object_of w == x) s ∙ t
      | inr j ↦ elim j [ inl s ↦ ap (λ w. object_of w == x) s ∙ t | inr k ↦ absurd k ]
    ]))

-- ---- the operations before one

-- in rising order no later operation has a lesser number
not_less : (before after : List ProcessCall) (call other : ProcessCall)
    → Pairs (λ a b. number_of a < number_of b) (before ++ call ∷ after)
    → In other (call ∷ after) → number_of call ≤ number_of other
not_less [] after call other rising i =
    elim i [ inl s ↦ omega (arith, ap number_of s) | inr j ↦ let up = rising.0 other j in omega arith ]
not_less (first ∷ before) after call other rising i = not_less before after call other rising.1 i

-- in rising order, those below the number of one are those before it
below_one : (before after : List ProcessCall) (call : ProcessCall)
    → Pairs (λ a b. number_of a < number_of b) (before ++ call ∷ after)
    → length (filter (λ e. nat_lt (number_of e) (number_of call)) (before ++ call ∷ after)) ≤ length before
below_one before after call rising =
    let lower : ProcessCall → Bool = λ e. nat_lt (number_of e) (number_of call) in
    let none_later : filter lower (call ∷ after) ≡ [] =
    filter_none lower (call ∷ after)
    (λ e i. le-ltb (number_of e) (number_of call) (not_less before after call e rising i)) in
    let all : length (filter lower (before ++ call ∷ after)) ≡ length (filter lower before) =
    ap length (filter-append lower before (call ∷ after) ∙ (ap (λ es. filter lower before ++ es) none_later
    ∙ append-nil (filter lower before))) in
    let few = count_by-le-length lower before in
    let counted = length-filter lower before in
    omega arith

pub filter_responses : (q : Event → Bool) (es : List Event) → Responses es → Responses (filter q es)
filter_responses q [] r = tt
filter_responses q (e ∷ es) r = let rest = filter_responses q es r.1 in grind arith

-- where each returns before the next begins and this one is back before t, so are those before it
back_upto : (moment : ℕ) (before after : List ProcessCall) (call : ProcessCall) (response : Return)
    → Pairs Before (before ++ call ∷ after) → call.call.returned ≡ Some response
    → number_of call ≤ response.at → response.at < moment
    → suc (length before) ≤ length (filter (λ e. is_back moment e.call.returned) (before ++ call ∷ after))
back_upto moment [] after call response in_turn back began early =
    let e : is_back moment call.call.returned ≡ true = ap (is_back moment) back ∙ lt-ltb response.at moment early in
    rw e (omega arith)
back_upto moment (first ∷ before) after call response in_turn back began early =
    let rest = back_upto moment before after call response in_turn.1 back began early in
    let b = in_turn.0 call (in_middle call before after) in
    let c = b.2 in
    let e : is_back moment first.call.returned ≡ true = ap (is_back moment) b.1 ∙ lt-ltb b.0.at moment (omega arith) in
    rw e (omega arith)

-- ---- replies of a legal history

-- the replies of a legal history are those that are recorded
replies_back : (object : Specification) (c : object.Content) (es : List Ended) → RepliesFrom object c (ended_events es)
    → ((e : Ended) (r : Return) → In e es → e.made.call.returned ≡ Some r → e.reply ≡ r.reply)
    → RepliesBy object.next c (map (λ (e : Ended). e.made.call) es)
replies_back object c [] h rec = tt
replies_back object c (e ∷ es) h rec =
    (h.0, e.reply, h.1, said e.made.call.returned refl, replies_back object h.0 es h.2 (λ d r i q. rec d r (inr i) q))
  where
    said : (o : Option Return) → e.made.call.returned ≡ o → IfSome o (λ r. r.reply ≡ e.reply)
    said None q = tt
    said (Some r) q = sym (rec e r (inl refl) q)

-- ---- lines in which a later call is earlier

-- one more passes a test if what stands after a front does
longer : (test : Ended → Bool) (front rest : List Ended) (one : Ended) → test one ≡ true
    → suc (length (filter test front)) ≤ length (filter test (front ++ one ∷ rest))
longer test front rest one passes = omega (
  arith,
  ap length (filter-append test front (one ∷ rest)
      ∙ ap (λ b. filter test front ++ cond b (one ∷ filter test rest) (filter test rest)) passes),
  length-append (filter test front) (one ∷ filter test rest),
)

-- in rising order an earlier operation has a lesser number
across : (before after : List ProcessCall) (earlier call : ProcessCall)
    → Pairs (λ a b. number_of a < number_of b) (before ++ call ∷ after) → In earlier before
    → number_of earlier < number_of call
across [] after earlier call rising i = absurd i
across (first ∷ before) after earlier call rising i = elim i [
  | inl e ↦ let g = rising.0 call (in_middle call before after) in omega (arith, ap number_of e)
  | inr j ↦ across before after earlier call rising.1 j
]

invocations_all : (p : ℕ) (h : List Numbered)
    → count (invokes p) (events h) ≡ length (filter (λ e. e.process == p) (calls_in h))
invocations_all p [] = refl
invocations_all p (m ∷ h) = here m.event (invocations_all p h)
  where
    here : (v : Event) → count (invokes p) (events h) ≡ length (filter (λ e. e.process == p) (calls_in h))
        → length (cond (invokes p v) (v ∷ filter (invokes p) (events h)) (filter (invokes p) (events h)))
        ≡ length (filter (λ e. e.process == p) (begins m.number v h (calls_in h)))
    here (Inv q x op) f = grind arith
    here (Res q x r) f = f

-- at no moment of such a line has the later operation returned and the earlier not begun
refuted : (before between after : List Ended) (earlier later : Ended) (front rest : List Event)
    → front ++ rest ≡ ended_events (before ++ earlier ∷ between) ++ ended_events (later ∷ after)
    → length (filter (λ e. e.made.process == later.made.process) (before ++ earlier ∷ between))
    < count (responds later.made.process) front
    → count (invokes earlier.made.process) front ≤ length (filter (λ e. e.made.process == earlier.made.process) before)
    → ⊥
refuted before between after earlier later front rest whole returned waiting =
    elim (prefix_either front rest (ended_events (before ++ earlier ∷ between)) (ended_events (later ∷ after)) whole) [
      | inl w ↦
          let c = ap (count (responds later.made.process)) w.1 ∙ count-append (responds later.made.process) front w.0 in
          let d = ended_responds later.made.process (before ++ earlier ∷ between) in
          omega arith
      | inr w ↦
          let c = ap (count (invokes earlier.made.process)) w.1
          ∙ count-append (invokes earlier.made.process) (ended_events (before ++ earlier ∷ between)) w.0 in
          let d = ended_invokes earlier.made.process (before ++ earlier ∷ between) in
          let g = longer (λ e. e.made.process == earlier.made.process) before between earlier
          (eq-eqb earlier.made.process earlier.made.process refl) in
          omega arith
    ]

-- ---- what the processes completed

module _ (objects : ℕ → Specification) (h : List Numbered) (hist : IsHistory h)
    (lin : IsLinearizableFor objects (events h)) where
  abbrev late_events : ℕ → List Event
  late_events p = by_process p lin.completes.added

  pub part_extended : (p : ℕ) → by_process p (events h ++ lin.completes.added) ≡ events (part p h) ++ late_events p
  part_extended p = filter-append (λ v. process_of v == p) (events h) lin.completes.added
      ∙ ap (λ es. es ++ late_events p) (sym (events-part p h))

  pub completed : (p : ℕ) → Completed (part p h) (complete (events (part p h) ++ late_events p))
  completed p = completed_any p (part p h) (late_events p) (turn_view h hist p)
      (filter_responses (λ v. process_of v == p) lin.completes.added
      (recursion_from_All (λ e. is_invocation e ≡ false) lin.completes.added lin.completes.responses))
      (rw (part_extended p) at (lin.completes.well_formed p))

  abbrev pub queue : ℕ → List Ended
  queue p = (completed p).list

  seen_by : (p : ℕ) → by_process p lin.sequence ≡ ended_events (queue p)
  seen_by p = sym (lin.equivalent p)
      ∙ (ap (by_process p) lin.completes.completed
      ∙ (complete_of_process p (events h ++ lin.completes.added)
      ∙ (ap complete (part_extended p) ∙ (completed p).events_are)))

  -- what a process completed are its operations
  queue_op : (p : ℕ) (e : Ended) → In e (queue p) → In e.made (calls_in (part p h))
  queue_op p e i = rw (completed p).front
      (in_left e.made (ops_of (queue p)) (completed p).rest (in_map_from (λ (e : Ended). e.made) e (queue p) i))

  queue_owned : (p : ℕ) (e : Ended) → In e (queue p) → e.made.process ≡ p
  queue_owned p e i = eqb-true e.made.process p
      (in_filter_passes (λ o. o.process == p) e.made (calls_in h)
      (rw (calls_in-part p h) at (queue_op p e i)))

  -- ---- the line of all operations

  pub all : Lined lin.sequence queue
  all = lined lin.sequence lin.sequential queue seen_by queue_owned

  line_queue : (e : Ended) → In e all.line → In e (queue e.made.process)
  line_queue e i = rw (all.parts e.made.process) at
      (in_filter_from (λ d. d.made.process == e.made.process) e all.line i (eq-eqb e.made.process e.made.process refl))

  line_op : (e : Ended) → In e all.line → In e.made (calls_in h)
  line_op e i = in_filter (λ o. o.process == e.made.process) e.made (calls_in h)
      (rw (calls_in-part e.made.process h) at (queue_op e.made.process e (line_queue e i)))

  -- where the line falls into parts at an operation, so do the operations of its process
  turn_of : (before after : List Ended) (one : Ended) → all.line ≡ before ++ one ∷ after → (rest : List ProcessCall)
      × (calls_in (part one.made.process h)
      ≡ ops_of (filter (λ e. e.made.process == one.made.process) before) ++ one.made ∷ rest)
  turn_of before after one whole =
      let mine : Ended → Bool = λ d. d.made.process == one.made.process in
      let self : mine one ≡ true = eq-eqb one.made.process one.made.process refl in
      let queue_is : queue one.made.process ≡ filter mine before ++ one ∷ filter mine after =
      sym (all.parts one.made.process)
      ∙ (ap (filter mine) whole ∙ (filter-append mine before (one ∷ after)
      ∙ ap (λ b. filter mine before ++ cond b (one ∷ filter mine after) (filter mine after)) self)) in
      let own = completed one.made.process in (
        ops_of (filter mine after) ++ own.rest,
        own.front ∙ (ap (λ es. ops_of es ++ own.rest) queue_is
            ∙ (ap (λ os. os ++ own.rest) (map-append (λ (e : Ended). e.made) (filter mine before)
            (one ∷ filter mine after))
            ∙ append_assoc (ops_of (filter mine before)) (one.made ∷ ops_of (filter mine after)) own.rest)),
      )

  -- an operation after these in the line, by its process and its turn there
  abbrev place : List Ended → Ended → Operation
  place before one = record {
    process = one.made.process;
    turn = length (filter (λ e. e.made.process == one.made.process) before);
  }

  -- an operation of the line has its place in the completion
  in_completion : (before after : List Ended) (one : Ended) → all.line ≡ before ++ one ∷ after
      → IsOperation lin.completion (place before one)
  in_completion before after one whole =
      let process : ℕ = one.made.process in
      let mine : Ended → Bool = λ d. d.made.process == process in
      let in_both : count (invokes process) lin.completion ≡ count (invokes process) lin.sequence =
      ap length (sym (invokes_of_process process lin.completion)
      ∙ (ap (filter (invokes process)) (lin.equivalent process) ∙ invokes_of_process process lin.sequence)) in
      let in_line : count (invokes process) lin.sequence ≡ length (filter mine all.line) =
      ap (count (invokes process)) all.events_are ∙ ended_invokes process all.line in
      let parts : length (filter mine all.line) ≡ length (filter mine (before ++ one ∷ after)) =
      ap (λ es. length (filter mine es)) whole in
      let more = longer mine before after one (eq-eqb process process refl) in
      omega arith

  -- ---- counts up to an event of the history

  -- the events before one of the history are those of lesser numbers
  count_before : (test : Event → Bool) (front rest : List Numbered) (event : Numbered) → h ≡ front ++ event ∷ rest
      → count test (events front) ≡ length (filter (λ m. test m.event && nat_lt m.number event.number) h)
  count_before test front rest event whole =
      length_filter_events test front
      ∙ (ap length (filter_before (λ m. test m.event) front event rest (rw whole at (up h hist)))
      ∙ ap (λ hs. length (filter (λ m. test m.event && nat_lt m.number event.number) hs)) (sym whole))

  -- before an operation is invoked, its process has invoked at most those before it in the line
  few_invocations : (before after : List Ended) (one : Ended) → all.line ≡ before ++ one ∷ after
      → (front rest : List Numbered) (event : Numbered) → h ≡ front ++ event ∷ rest → event.number ≡ number_of one.made
      → count (invokes one.made.process) (events front) ≤ (place before one).turn
  few_invocations before after one whole front rest event split number_is =
      let p : ℕ = one.made.process in
      let mine : List Ended = filter (λ e. e.made.process == p) before in
      let cut = turn_of before after one whole in
      let events_p = count_before (invokes p) front rest event split in
      let calls_p = invocations_before p event.number h in
      let part_p : length (filter (λ e. (e.process == p) && nat_lt (number_of e) event.number) (calls_in h))
      ≡ length (filter (λ e. nat_lt (number_of e) (number_of one.made)) (ops_of mine ++ one.made ∷ cut.0)) =
      ap length (sym (filter-filter (λ e. nat_lt (number_of e) event.number) (λ e. e.process == p) (calls_in h)))
      ∙ (ap (λ os. length (filter (λ e. nat_lt (number_of e) event.number) os)) (sym (calls_in-part p h) ∙ cut.1)
      ∙ ap (λ n. length (filter (λ e. nat_lt (number_of e) n) (ops_of mine ++ one.made ∷ cut.0))) number_is) in
      let few = below_one (ops_of mine) cut.0 one.made (rw cut.1 at (part_rise h hist p)) in
      let turn_is = length-map mine (λ (e : Ended). e.made) in
      omega arith

  -- after an operation returned, its process has the responses of it and of those before it in the line
  many_responses : (before after : List Ended) (one : Ended) → all.line ≡ before ++ one ∷ after
      → (front rest : List Numbered) (event : Numbered) → h ≡ front ++ event ∷ rest
      → (response : Return) → one.made.call.returned ≡ Some response → response.at < event.number
      → (place before one).turn < count (responds one.made.process) (events front)
  many_responses before after one whole front rest event split response returned early =
      let q : ℕ = one.made.process in
      let mine : List Ended = filter (λ e. e.made.process == q) before in
      let cut = turn_of before after one whole in
      let events_q = count_before (responds q) front rest event split in
      let part_q : length (filter (λ m. responds q m.event && nat_lt m.number event.number) (part q h))
      ≡ length (filter (λ m. responds q m.event && nat_lt m.number event.number) h) =
      ap length (responds_in_part q event.number h) in
      let back_q = responses_before q event.number (part q h) (turn_view h hist q) in
      let calls_q = ap (λ os. length (filter (λ e. is_back event.number e.call.returned) os)) cut.1 in
      let own : In one.made (calls_in (part q h)) =
      queue_op q one (line_queue one (rw whole (in_middle one before after))) in
      let late = returns_after q (part q h) one.made response (turn_view h hist q) (part_up h hist q) own returned in
      let many = back_upto event.number (ops_of mine) cut.0 one.made response
      (rw cut.1 at (one_after_another q (part q h) (turn_view h hist q) (part_up h hist q))) returned late early in
      let turn_is = length-map mine (λ (e : Ended). e.made) in
      omega arith

  -- an operation of the line is invoked in the history
  is_invoked : (before after : List Ended) (one : Ended) → all.line ≡ before ++ one ∷ after
      → (place before one).turn < count (invokes one.made.process) (events h)
  is_invoked before after one whole =
      let p : ℕ = one.made.process in
      let mine : List Ended = filter (λ e. e.made.process == p) before in
      let cut = turn_of before after one whole in
      let all_p = invocations_all p h in
      let own_p : length (filter (λ o. o.process == p) (calls_in h)) ≡ length (ops_of mine ++ one.made ∷ cut.0) =
      ap length (sym (calls_in-part p h) ∙ cut.1) in
      let long_p = length-append (ops_of mine) (one.made ∷ cut.0) in
      let turn_is = length-map mine (λ (e : Ended). e.made) in
      omega arith

  -- ---- the order of the line

  -- of two in the line the later has not returned before the earlier was invoked
  not_before : (before between after : List Ended) (earlier later : Ended)
      → all.line ≡ before ++ earlier ∷ (between ++ later ∷ after)
      → ReturnsBefore later.made.call earlier.made.call → ⊥
  not_before before between after earlier later whole back =
      let upto : List Ended = before ++ earlier ∷ between in
      let whole' : all.line ≡ upto ++ later ∷ after =
      whole ∙ sym (append_assoc before (earlier ∷ between) (later ∷ after)) in
      let in_earlier : In earlier all.line = rw whole (in_middle earlier before (between ++ later ∷ after)) in
      let call = call_event h earlier.made (line_op earlier in_earlier) in
      let cut = in_split call.0 h call.1 in
      let in_between : Moment (events h) (place upto later) (place before earlier) =
      record {
        front = events cut.0;
        rest = events (call.0 ∷ cut.1);
        whole = ap events cut.2 ∙ map-append (λ (m : Numbered). m.event) cut.0 (call.0 ∷ cut.1);
        returned = many_responses upto after later whole' cut.0 cut.1 call.0 cut.2 back.0 back.1 (rw call.2 back.2);
        waiting = few_invocations before (between ++ later ∷ after) earlier whole cut.0 cut.1 call.0 cut.2 call.2;
        begun = is_invoked before (between ++ later ∷ after) earlier whole;
      } in
      let then = moment_from lin.sequence (place upto later) (place before earlier)
      (lin.order (place upto later) (place before earlier) (in_completion upto after later whole')
      (in_completion before (between ++ later ∷ after) earlier whole)
      (precedes_from (events h) (place upto later) (place before earlier) in_between)) in
      refuted before between after earlier later then.front then.rest
      (sym then.whole ∙ (all.events_are ∙ (ap ended_events whole' ∙ flat_map-append two_events upto (later ∷ after))))
      then.returned then.waiting

  -- two in the line have different numbers
  pub apart : (before between after : List Ended) (earlier later : Ended)
      → all.line ≡ before ++ earlier ∷ (between ++ later ∷ after)
      → number_of earlier.made ≢ number_of later.made
  apart before between after earlier later whole same_number =
      let upto : List Ended = before ++ earlier ∷ between in
      let whole' : all.line ≡ upto ++ later ∷ after = whole
      ∙ sym (append_assoc before (earlier ∷ between) (later ∷ after)) in
      let in_a : In earlier all.line = rw whole (in_middle earlier before (between ++ later ∷ after)) in
      let in_b : In later all.line = rw whole' (in_middle later upto after) in
      let same : earlier.made ≡ later.made =
      one_number number_of (calls_in h) earlier.made later.made (rise h hist) (line_op earlier in_a)
      (line_op later in_b) same_number in
      let tb = turn_of upto after later whole' in
      let i : In earlier (filter (λ e. e.made.process == later.made.process) upto) =
      in_filter_from (λ e. e.made.process == later.made.process) earlier upto (in_middle earlier before between)
      (eq-eqb earlier.made.process later.made.process (ap (λ (o : ProcessCall). o.process) same)) in
      let less : number_of earlier.made < number_of later.made =
      across (ops_of (filter (λ e. e.made.process == later.made.process) upto)) tb.0 earlier.made later.made
      (rw tb.1 at (part_rise h hist later.made.process))
      (in_map_from (λ (e : Ended). e.made) earlier (filter (λ e. e.made.process == later.made.process) upto) i) in
      omega arith

  -- ---- the order of an object

  -- each object of a linearizable history has a valid order
  pub each_object_has_an_order : (x : ℕ) → HasValidOrderOf objects h x
  each_object_has_an_order x =
      let own : Ended → Bool = λ e. e.made.object == x in
      let es : List Ended = filter own all.line in
      let cs : List Call = map (λ (e : Ended). e.made.call) es in (
        map (λ (c : Call). pos c.number) cs,
        record {
          entries = cs;
          numbers = refl;
          known = all_from_in (Contains (calls_on x h)) cs (λ c i.
              let e = in_map (λ (e : Ended). e.made.call) c es i in
              let o : In e.0.made (filter (λ o. o.object == x) (calls_in h)) =
              in_filter_from (λ o. o.object == x) e.0.made (calls_in h) (line_op e.0 (in_filter own e.0 all.line e.1))
              (in_filter_passes own e.0 all.line e.1) in
              contains_from_in (calls_on x h) c (rw e.2
              (in_map_from (λ (o : ProcessCall). o.call) e.0.made (filter (λ o. o.object == x) (calls_in h)) o)));
          once = all_from_pairs (λ (a b : ℤ). a ≢ b) (map (λ (c : Call). pos c.number) cs)
              (pairs_map (λ (a b : ℤ). a ≢ b) (λ (c : Call). pos c.number) cs
              (pairs_map (λ (a b : Call). pos a.number ≢ pos b.number) (λ (e : Ended). e.made.call) es
              (pairs_filter (λ a b. pos (number_of a.made) ≢ pos (number_of b.made)) own all.line
              (pairs_by_parts (λ a b. pos (number_of a.made) ≢ pos (number_of b.made)) [] all.line
              (λ l m n a b e q. apart l m n a b e (same_pos (number_of a.made) (number_of b.made) q))))));
          whole = all_from_in (λ c. IsSome c.returned → Contains cs c) (calls_on x h) (λ c i s.
              let o = in_map (λ (o : ProcessCall). o.call) c (filter (λ o. o.object == x) (calls_in h)) i in
              let r = returned_some c.returned s in
              let p : ℕ = o.0.process in
              let io : In o.0 (calls_in (part p h)) =
              rw (calls_in-part p h) (in_filter_from (λ o. o.process == p) o.0 (calls_in h)
              (in_filter (λ o. o.object == x) o.0 (calls_in h) o.1) (eq-eqb p p refl)) in
              let e = (completed p).whole o.0 r.0 io (ap (λ (c : Call). c.returned) (sym o.2) ∙ r.1) in
              let on_line : In e.0 all.line =
              in_filter (λ e. e.made.process == p) e.0 all.line (rw (all.parts p) e.1) in
              let at_x : (e.0.made.object == x) ≡ true =
              ap (λ (o : ProcessCall). o.object == x) e.2
              ∙ in_filter_passes (λ o. o.object == x) o.0 (calls_in h) o.1 in
              contains_from_in cs c (rw (ap (λ (o : ProcessCall). o.call) e.2 ∙ sym o.2) at
              (in_map_from (λ (e : Ended). e.made.call) e.0 es (in_filter_from own e.0 all.line on_line at_x))));
          in_order = all_from_pairs (λ (a b : Call). ReturnsBefore b a → ⊥) cs
              (pairs_map (λ (a b : Call). ReturnsBefore b a → ⊥) (λ (e : Ended). e.made.call) es
              (pairs_filter (λ a b. ReturnsBefore b.made.call a.made.call → ⊥) own all.line
              (pairs_by_parts (λ a b. ReturnsBefore b.made.call a.made.call → ⊥) [] all.line not_before)));
          replies = replies_back (objects x) (objects x).empty es
              (rw (ap (by_object x) all.events_are ∙ ended_of_object x all.line) at (lin.legal x).1)
              (λ e r i q. let j = line_queue e (in_filter own e all.line i) in
              (completed e.made.process).recorded e r j q);
        },
      )
