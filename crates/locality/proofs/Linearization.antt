-- Valid orders of all objects make the history linearizable: merged by points they are a sequence in which each object
-- and each process has its own order.
use Rattle.std.proofs.Common.{◌≡◌, ◌≢◌, ℕ, ◌<◌, ◌≤◌, ◌==◌, ◌&&◌, nat_lt, Bool, true, false, not, inl, inr, List, []}
use Rattle.std.proofs.Common.{◌∷◌, ◌++◌, length, filter, Option, Some, None, is_some, refl, ap, sym, ◌∙◌, subst, arith}
use Rattle.std.proofs.lemmas.List.{append-nil}
use Rattle.std.proofs.lemmas.List.Concat.{flat_map-append}
use Rattle.std.proofs.lemmas.List.Elements.{filter-append}
use Rattle.std.proofs.Math.Bool.{and_comm}
use Rattle.std.proofs.lemmas.Bool.{eqb-true, eq-eqb, and_from, and_parts, ltb-true, lt-ltb}
use Rattle.model.specs.Specification.{Specification}
use Rattle.model.specs.declared.AnyReply.{AnyReply}
use Rattle.model.specs.Histories.{Event, process_of, is_invocation, by_process, by_object, complete, invokes, responds}
use Rattle.model.specs.Histories.{IsWellFormed, IsEquivalent, Operation, IsOperation, Precedes}
use Rattle.model.specs.Linearizable.{IsLegal, IsLinearizableFor}
use Rattle.model.specs.Orders.{Numbered, events, Return, ProcessCall, calls_in, IsHistory}
use Rattle.model.specs.Lists.{In}
use Rattle.model.proofs.Lists.{Pairs, in_filter, in_filter_passes, in_filter_from, pairs_filter, pairs_weaker}
use Rattle.model.proofs.Lists.{filter-filter, filter_same, flat_map_filter, below_split, length_filter_le, in_flat_map}
use Rattle.model.proofs.Lists.{all_from_in}
use Rattle.locality.specs.Locality.{HasValidOrderOf}
use Rattle.locality.proofs.Merge.{ObjectOrders, line, line_in, line_of_object, line_of_process, line_points, one_number}
use Rattle.locality.proofs.Entries.{number_of, point_in, give_in, point_own, points_rise, point_from, point_before}
use Rattle.locality.proofs.Entries.{give_some, given_entry, give_recorded, done, replies_from, done_sequential}
use Rattle.locality.proofs.Entries.{ValidEntries, valid_entries}
use Rattle.locality.proofs.ProcessHistories.{part, events-part, calls_in-part, late, added, dones, completed, extended}
use Rattle.locality.proofs.ProcessHistories.{Agrees, calls_rise, returns_after, Before, one_after_another, is_back}
use Rattle.locality.proofs.ProcessHistories.{responses_before, invocations_before, turn_view, rise, up, part_up}
use Rattle.locality.proofs.Moments.{Moment, moment_from, precedes_from}
use Rattle.locality.proofs.Cuts.{dones_of_process, dones_of_object, added_of_process, complete_of_process, cut_numbered}
use Rattle.locality.proofs.Cuts.{length_filter_events, filter_before, invokes_of_process, responds_in_part}
use Rattle.locality.proofs.Cuts.{invokes_dones, responds_dones}

-- ---- lists and late responses

-- what holds of each two holds of two in their order
pairs_ordered : (R : ProcessCall → ProcessCall → Type 0) (os : List ProcessCall) (a b : ProcessCall)
    → Pairs (λ a b. number_of a < number_of b) os
    → Pairs R os → In a os → In b os → number_of a < number_of b → R a b
pairs_ordered R [] a b u h i j l = absurd i
pairs_ordered R (o ∷ os) a b u h i j l = elim i [
  | inl s ↦ elim j [
    | inl t ↦
        let x = ap number_of s in
        let y = ap number_of t in
        absurd (omega arith)
    | inr k ↦ rw s (h.0 b k)
  ]
  | inr k ↦ elim j [
    | inl t ↦
        let g = u.0 a k in
        let y = ap number_of t in
        absurd (omega arith)
    | inr m ↦ pairs_ordered R os a b u.1 h.1 k m l
  ]
]

some_from : (o : Option AnyReply) → is_some o ≡ true → (r : AnyReply) × (o ≡ Some r)
some_from None e = absurd (cc e)
some_from (Some r) e = (r, refl)

back_from : (t : ℕ) (o : Option Return) → is_back t o ≡ true → (r : Return) × (o ≡ Some r) × (r.at < t)
back_from t None e = absurd (cc e)
back_from t (Some r) e = (r, refl, ltb-true r.at t e)

swap_filters : (p q : ProcessCall → Bool) (os : List ProcessCall) → filter p (filter q os) ≡ filter q (filter p os)
swap_filters p q os = filter-filter p q os
    ∙ (filter_same (λ x. q x && p x) (λ x. p x && q x) os (λ x i. and_comm (q x) (p x)) ∙ sym (filter-filter q p os))

-- a late response is a response
late_responds : (call : ProcessCall) (recorded : Option Return) (given : Option AnyReply) (event : Event)
    → In event (late call recorded given) → is_invocation event ≡ false
late_responds call None (Some reply) event i = elim i [ inl q ↦ ap is_invocation q | inr n ↦ absurd n ]
late_responds call recorded given event i = absurd i

-- what is added are responses
added_responds : (give : ProcessCall → Option AnyReply) (os : List ProcessCall) (v : Event) → In v (added give os)
    → is_invocation v ≡ false
added_responds give os v i =
    let e = in_flat_map (λ e. late e e.call.returned (give e)) v os i in
    late_responds e.0 e.0.call.returned (give e.0) v e.2

abbrev pub on : ℕ → List Numbered → List ProcessCall
on x h = filter (λ e. e.object == x) (calls_in h)

-- ---- the orders of the objects

module _ (objects : ℕ → Specification) (h : List Numbered) (hist : IsHistory h) (entries : ℕ → List ProcessCall)
    (good : (x : ℕ) → ValidEntries (objects x) (on x h) (entries x)) where
  abbrev pub point : ProcessCall → ℕ
  point e = point_in 0 (entries e.object) (number_of e)

  abbrev pub give : ProcessCall → Option AnyReply
  give e = give_in (objects e.object) (objects e.object).empty (entries e.object) (good e.object).replies (number_of e)

  abbrev pub stands : ProcessCall → Bool
  stands e = is_some (give e)

  at_object : (x : ℕ) (e : ProcessCall) → In e (entries x) → e.object ≡ x
  at_object x e i = eqb-true e.object x (in_filter_passes (λ e. e.object == x) e (calls_in h) ((good x).among e i))

  in_ops : (x : ℕ) (e : ProcessCall) → In e (entries x) → In e (calls_in h)
  in_ops x e i = in_filter (λ e. e.object == x) e (calls_in h) ((good x).among e i)

  in_on : (e : ProcessCall) → In e (calls_in h) → In e (on e.object h)
  in_on e i = in_filter_from (λ f. f.object == e.object) e (calls_in h) i (eq-eqb e.object e.object refl)

  own_entry : (x : ℕ) (e : ProcessCall) → In e (entries x) → In e (entries e.object)
  own_entry x e i = subst (λ k. In e (entries k)) (sym (at_object x e i)) i

  stands_from : (e : ProcessCall) → In e (entries e.object) → stands e ≡ true
  stands_from e i = ap is_some
      (give_some (objects e.object) (objects e.object).empty (entries e.object) (good e.object).replies e
      (good e.object).once i).1

  entry_from : (e : ProcessCall) → In e (calls_in h) → stands e ≡ true → In e (entries e.object)
  entry_from e i s =
      let r = some_from (give e) s in
      let f = given_entry (objects e.object) (objects e.object).empty (entries e.object) (good e.object).replies
      (number_of e) r.0 r.1 in
      let same : f.0 ≡ e = one_number number_of (calls_in h) f.0 e (rise h hist) (in_ops e.object f.0 f.1) i f.2 in
      rw same at f.1

  -- an operation returns after its invocation
  after_call : (e : ProcessCall) (r : Return) → In e (calls_in h) → e.call.returned ≡ Some r → number_of e ≤ r.at
  after_call e r i q =
      let j : In e (calls_in (part e.process h)) =
      rw (calls_in-part e.process h)
      (in_filter_from (λ o. o.process == e.process) e (calls_in h) i (eq-eqb e.process e.process refl)) in
      returns_after e.process (part e.process h) e r (turn_view h hist e.process) (part_up h hist e.process) j q

  -- and after its point
  point_returns : (e : ProcessCall) (r : Return) → In e (entries e.object) → e.call.returned ≡ Some r → point e ≤ r.at
  point_returns e r i q =
      point_before 0 (entries e.object) e r (good e.object).once (good e.object).in_order i q
      (after_call e r (in_ops e.object e i) q) (omega arith)

  turns_rise : (a b : ProcessCall) → In a (calls_in h) → In b (calls_in h) → stands a ≡ true → stands b ≡ true
      → a.process ≡ b.process → number_of a < number_of b → point a < point b
  turns_rise a b i j s t p l =
      let ops : List ProcessCall = calls_in (part b.process h) in
      let all = calls_in-part b.process h in
      let i' : In a ops = rw all
      (in_filter_from (λ o. o.process == b.process) a (calls_in h) i (eq-eqb a.process b.process p)) in
      let j' : In b ops = rw all
      (in_filter_from (λ o. o.process == b.process) b (calls_in h) j (eq-eqb b.process b.process refl)) in
      let before = pairs_ordered Before ops a b (calls_rise (part b.process h) (part_up h hist b.process))
      (one_after_another b.process (part b.process h) (turn_view h hist b.process) (part_up h hist b.process))
      i' j' l in
      let x = point_returns a before.0 (entry_from a i s) before.1 in
      let y = before.2 in
      let z = point_own 0 (entries b.object) b (good b.object).once (entry_from b j t) in
      omega arith

  pub orders : ObjectOrders number_of (λ e. e.process) (λ e. e.object) point stands (calls_in h) entries
  orders = record {
    rising = rise h hist;
    on_object = at_object;
    among = in_ops;
    stand = λ x e i. stands_from e (own_entry x e i);
    included = entry_from;
    once = λ x. pairs_weaker (λ a b. number_of a ≢ number_of b) (λ a b. a ≢ b) (entries x)
        (λ a b i j ne q. ne (ap number_of q)) (good x).once;
    points = λ x. pairs_weaker (λ a b. point_in 0 (entries x) (number_of a) ≤ point_in 0 (entries x) (number_of b))
        (λ a b. point a ≤ point b) (entries x)
        (λ a b i j l.
        let s = ap (λ k. point_in 0 (entries k) (number_of a)) (at_object x a i) in
        let t = ap (λ k. point_in 0 (entries k) (number_of b)) (at_object x b j) in
        omega arith)
        (points_rise 0 (entries x) (good x).once);
    point_at = λ x e i.
        let own = own_entry x e i in
        let at = at_object x e i in
        elim (point_from 0 (entries e.object) e (good e.object).once own) [
          | inl z ↦ (
            e,
            in_ops x e i,
            (let g = point_own 0 (entries e.object) e (good e.object).once own in omega arith),
            at,
          )
          | inr f ↦ (f.0, in_ops e.object f.0 f.1, f.2, at_object e.object f.0 f.1 ∙ at)
        ];
    turns = turns_rise;
  }

  -- ---- the merged line

  abbrev pub merged : List ProcessCall
  merged = line number_of (λ e. e.process) (λ e. e.object) point stands (calls_in h) entries

  merged_of_object : (x : ℕ) → filter (λ e. e.object == x) merged ≡ entries x
  merged_of_object x = line_of_object number_of (λ e. e.process) (λ e. e.object) point stands
      (calls_in h) entries orders x

  merged_of_process : (p : ℕ)
      → filter (λ e. e.process == p) merged ≡ filter (λ e. (e.process == p) && stands e) (calls_in h)
  merged_of_process p = line_of_process number_of (λ e. e.process) (λ e. e.object) point stands
      (calls_in h) entries orders p

  merged_stands : (e : ProcessCall) → In e merged → stands e ≡ true
  merged_stands e i = stands_from e
      (line_in number_of (λ e. e.process) (λ e. e.object) point stands (calls_in h) entries orders e i)

  -- what is recorded is given
  agrees : Agrees give (calls_in h)
  agrees e r i q = give_recorded (objects e.object) (objects e.object).empty (entries e.object)
      (good e.object).replies e r (good e.object).once ((good e.object).whole e r (in_on e i) q) q

  -- ---- the completion and the sequence

  abbrev extra : List Event
  extra = added give (calls_in h)

  abbrev completion_made : List Event
  completion_made = complete (events h ++ extra)

  abbrev pub sequence : List Event
  sequence = dones give merged

  -- a process's part of the history with its late responses
  pub part_extended : (p : ℕ) → by_process p (events h ++ extra) ≡ events (part p h) ++ added give (calls_in (part p h))
  part_extended p =
      filter-append (λ v. process_of v == p) (events h) extra
      ∙ (ap (λ es. es ++ by_process p extra) (sym (events-part p h))
      ∙ ap (λ es. events (part p h) ++ es)
      (added_of_process p give (calls_in h) ∙ ap (added give) (sym (calls_in-part p h))))

  pub well_formed : IsWellFormed (events h ++ extra)
  well_formed p = rw (part_extended p) (extended p (part p h) give (turn_view h hist p))

  -- each process sees the same in the completion and in the sequence
  pub equivalent : IsEquivalent completion_made sequence
  equivalent p =
      let mine : ProcessCall → Bool = λ e. e.process == p in
      let part_agrees : Agrees give (calls_in (part p h)) =
      λ e r i q. agrees e r (in_filter mine e (calls_in h) (rw (calls_in-part p h) at i)) q in
      complete_of_process p (events h ++ extra)
      ∙ (ap complete (part_extended p)
      ∙ (completed p (part p h) give (turn_view h hist p) part_agrees
      ∙ (ap (dones give) (calls_in-part p h)
      ∙ sym (dones_of_process p give merged
      ∙ (ap (dones give) (merged_of_process p ∙ sym (filter-filter stands mine (calls_in h)))
      ∙ flat_map_filter (λ e. done e (give e)) stands (filter mine (calls_in h)) (λ e i s. nothing e (give e) s))))))
    where
      nothing : (e : ProcessCall) (g : Option AnyReply) → is_some g ≡ false → done e g ≡ []
      nothing e None s = refl
      nothing e (Some r) s = absurd (cc s)

  pub legal : IsLegal objects sequence
  legal x =
      let cut : by_object x sequence ≡ dones give (entries x) =
      dones_of_object x give merged ∙ ap (dones give) (merged_of_object x) in
      rw cut (
        done_sequential (entries x) give,
        replies_from (objects x) (objects x).empty (entries x) (good x).replies give (good x).once
            (λ e i. ap (λ k. give_in (objects k) (objects k).empty (entries k) (good k).replies (number_of e))
            (at_object x e i)),
      )

  -- ---- before a moment

  -- before a point t, the line has what is below t
  abbrev pub below : ℕ → List ProcessCall
  below t = filter (λ e. nat_lt (point e) t) merged

  below_of_process : (p t : ℕ)
      → filter (λ e. e.process == p) (below t)
      ≡ filter (λ e. ((e.process == p) && stands e) && nat_lt (point e) t) (calls_in h)
  below_of_process p t =
      swap_filters (λ e. e.process == p) (λ e. nat_lt (point e) t) merged
      ∙ (ap (filter (λ e. nat_lt (point e) t)) (merged_of_process p)
      ∙ filter-filter (λ e. nat_lt (point e) t) (λ e. (e.process == p) && stands e) (calls_in h))

  below_stands : (t : ℕ) (e : ProcessCall) → In e (below t) → is_some (give e) ≡ true
  below_stands t e i = merged_stands e (in_filter (λ e. nat_lt (point e) t) e merged i)

  -- what has returned before the moment t stands below it in the line
  returned_below : (process : ℕ) (before : List Numbered) (event : Numbered) (after : List Numbered)
      → h ≡ before ++ event ∷ after → length (filter (responds process) (events before))
      ≤ length (filter (responds process) (dones give (below event.number)))
  returned_below process before event after cut =
      let moment : ℕ = event.number in
      let rising : Pairs (λ (x y : Numbered). x.number < y.number) (before ++ event ∷ after) = rw cut at (up h hist) in
      let events_are : length (filter (responds process) (events before))
      ≡ length (filter (λ k. responds process k.event) before) =
      length_filter_events (responds process) before in
      let lower : length (filter (λ k. responds process k.event) before)
      ≡ length (filter (λ k. responds process k.event && nat_lt k.number moment) h) =
      ap length (filter_before (λ k. responds process k.event) before event after rising)
      ∙ ap (λ hs. length (filter (λ k. responds process k.event && nat_lt k.number moment) hs)) (sym cut) in
      let in_part : length (filter (λ k. responds process k.event && nat_lt k.number moment) (part process h))
      ≡ length (filter (λ k. responds process k.event && nat_lt k.number moment) h) =
      ap length (responds_in_part process moment h) in
      let back = responses_before process moment (part process h) (turn_view h hist process) in
      let of_process : length (filter (λ e. is_back moment e.call.returned) (calls_in (part process h)))
      ≡ length (filter (λ e. (e.process == process) && is_back moment e.call.returned) (calls_in h)) =
      ap (λ os. length (filter (λ e. is_back moment e.call.returned) os)) (calls_in-part process h)
      ∙ ap length (filter-filter (λ e. is_back moment e.call.returned) (λ e. e.process == process) (calls_in h)) in
      let fewer : length (filter (λ e. (e.process == process) && is_back moment e.call.returned) (calls_in h))
      ≤ length (filter (λ e. ((e.process == process) && stands e) && nat_lt (point e) moment) (calls_in h)) =
      length_filter_le (λ e. (e.process == process) && is_back moment e.call.returned)
      (λ e. ((e.process == process) && stands e) && nat_lt (point e) moment) (calls_in h)
      (λ e i q.
      let both = and_parts (e.process == process) (is_back moment e.call.returned) q in
      let r = back_from moment e.call.returned both.1 in
      let entry = (good e.object).whole e r.0 (in_on e i) r.1 in
      let l = point_returns e r.0 entry r.1 in
      let k = r.2 in
      and_from ((e.process == process) && stands e) (nat_lt (point e) moment)
      (and_from (e.process == process) (stands e) both.0 (stands_from e entry))
      (lt-ltb (point e) moment (omega arith))) in
      let own : length (filter (λ e. e.process == process) (below moment))
      ≡ length (filter (λ e. ((e.process == process) && stands e) && nat_lt (point e) moment) (calls_in h)) =
      ap length (below_of_process process moment) in
      let respond = responds_dones process give (below moment) (below_stands moment) in
      omega arith

  -- and what stands below it was invoked before
  invoked_below : (process : ℕ) (before : List Numbered) (event : Numbered) (after : List Numbered)
      → h ≡ before ++ event ∷ after → length (filter (invokes process) (dones give (below event.number)))
      ≤ length (filter (invokes process) (events before))
  invoked_below process before event after cut =
      let moment : ℕ = event.number in
      let rising : Pairs (λ (x y : Numbered). x.number < y.number) (before ++ event ∷ after) = rw cut at (up h hist) in
      let events_are : length (filter (invokes process) (events before))
      ≡ length (filter (λ k. invokes process k.event) before) =
      length_filter_events (invokes process) before in
      let lower : length (filter (λ k. invokes process k.event) before)
      ≡ length (filter (λ k. invokes process k.event && nat_lt k.number moment) h) =
      ap length (filter_before (λ k. invokes process k.event) before event after rising)
      ∙ ap (λ hs. length (filter (λ k. invokes process k.event && nat_lt k.number moment) hs)) (sym cut) in
      let begun = invocations_before process moment h in
      let fewer : length (filter (λ e. ((e.process == process) && stands e) && nat_lt (point e) moment) (calls_in h))
      ≤ length (filter (λ e. (e.process == process) && nat_lt (number_of e) moment) (calls_in h)) =
      length_filter_le (λ e. ((e.process == process) && stands e) && nat_lt (point e) moment)
      (λ e. (e.process == process) && nat_lt (number_of e) moment) (calls_in h)
      (λ e i q.
      let both = and_parts ((e.process == process) && stands e) (nat_lt (point e) moment) q in
      let mine = and_parts (e.process == process) (stands e) both.0 in
      let l = point_own 0 (entries e.object) e (good e.object).once (entry_from e i mine.1) in
      let k = ltb-true (point e) moment both.1 in
      and_from (e.process == process) (nat_lt (number_of e) moment) mine.0
      (lt-ltb (number_of e) moment (omega arith))) in
      let own : length (filter (λ e. e.process == process) (below moment))
      ≡ length (filter (λ e. ((e.process == process) && stands e) && nat_lt (point e) moment) (calls_in h)) =
      ap length (below_of_process process moment) in
      let invoke = invokes_dones process give (below moment) (below_stands moment) in
      omega arith

  -- ---- the history is linearizable

  -- an operation of the completion is one of the sequence
  begun_in_both : (f : Operation) → IsOperation completion_made f → IsOperation sequence f
  begun_in_both f l =
      let same : length (filter (invokes f.process) completion_made) ≡ length (filter (invokes f.process) sequence) =
      ap length (sym (invokes_of_process f.process completion_made)
      ∙ (ap (filter (invokes f.process)) (equivalent f.process) ∙ invokes_of_process f.process sequence)) in
      omega arith

  order_kept : (e f : Operation) → IsOperation completion_made e → IsOperation completion_made f
      → Precedes (events h) e f → Precedes sequence e f
  order_kept e f i j p =
      let m = moment_from (events h) e f p in
      let cut = cut_numbered h m.front m.rest m.whole in
      at_event m cut.0 cut.1 cut.2 cut.3
    where
      at_event : (m : Moment (events h) e f) → (a d : List Numbered) → h ≡ a ++ d → events a ≡ m.front
          → Precedes sequence e f
      at_event m a [] q s =
          let all : events h ≡ m.front = ap events (q ∙ append-nil a) ∙ s in
          let n : length (filter (invokes f.process) (events h)) ≡ length (filter (invokes f.process) m.front) =
          ap (λ es. length (filter (invokes f.process) es)) all in
          let answered = m.waiting in
          let invoked = m.begun in
          absurd (omega arith)
      at_event m a (k ∷ b) q s =
          let answered : length (filter (responds e.process) (events a))
          ≤ length (filter (responds e.process) (dones give (below k.number))) = returned_below e.process a k b q in
          let invoked : length (filter (invokes f.process) (dones give (below k.number)))
          ≤ length (filter (invokes f.process) (events a)) = invoked_below f.process a k b q in
          let same_responses : length (filter (responds e.process) (events a))
          ≡ length (filter (responds e.process) m.front) =
          ap (λ es. length (filter (responds e.process) es)) s in
          let same_invocations : length (filter (invokes f.process) (events a))
          ≡ length (filter (invokes f.process) m.front) =
          ap (λ es. length (filter (invokes f.process) es)) s in
          let returned = m.returned in
          let waiting = m.waiting in
          precedes_from sequence e f (record {
            front = dones give (below k.number);
            rest = dones give (filter (λ e. not (nat_lt (point e) k.number)) merged);
            whole = ap (dones give) (below_split point k.number merged
                (line_points number_of (λ e. e.process) (λ e. e.object) point stands (calls_in h) entries orders))
                ∙ flat_map-append (λ e. done e (give e)) (below k.number)
                (filter (λ e. not (nat_lt (point e) k.number)) merged);
            returned = omega arith;
            waiting = omega arith;
            begun = begun_in_both f j;
          })

  pub linearizable : IsLinearizableFor objects (events h)
  linearizable = record {
    completion = completion_made;
    completes = record {
      added = extra;
      responses = all_from_in (λ e. is_invocation e ≡ false) extra (added_responds give (calls_in h));
      well_formed = well_formed;
      completed = refl;
    };
    sequence = sequence;
    sequential = done_sequential merged give;
    legal = legal;
    equivalent = equivalent;
    order = order_kept;
  }

-- a history is linearizable if each object has a valid order, for any specifications
pub linearizable_from_orders : (objects : ℕ → Specification) (h : List Numbered) → IsHistory h
    → ((x : ℕ) → HasValidOrderOf objects h x) → IsLinearizableFor objects (events h)
linearizable_from_orders objects h hist valid =
    let each : (x : ℕ) → (es : List ProcessCall) × ValidEntries (objects x) (on x h) es =
    λ x. valid_entries (objects x) (on x h) (valid x).0
    (pairs_filter (λ a b. number_of a < number_of b) (λ e. e.object == x) (calls_in h) (rise h hist)) (valid x).1 in
    linearizable objects h hist (λ x. (each x).0) (λ x. (each x).1)
