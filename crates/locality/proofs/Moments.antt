-- An operation precedes another exactly where at some moment the one has returned and the other has not begun: by the
-- number of invocations and responses up to that moment.
use Rattle.std.proofs.Common.{◌≡◌, ℕ, zero, suc, ◌+◌, ◌-◌, ◌<◌, ◌≤◌, Bool, true, false, cond, List, [], ◌∷◌, ◌++◌}
use Rattle.std.proofs.Common.{length, filter, refl, ap, sym, ◌∙◌, arith}
use Rattle.std.proofs.lemmas.List.{append_assoc, length-append}
use Rattle.std.proofs.lemmas.List.Elements.{filter-append}
use Rattle.model.specs.Histories.{Event, invokes, responds, Operation, IsTurn, Precedes}

-- a place in H after the response of the first operation and before the invocation of the second
pub record Moment (h : List Event) (e f : Operation) : Type 0 where
  pub front : List Event
  pub rest : List Event
  pub whole : h ≡ front ++ rest
  pub returned : e.turn < length (filter (responds e.process) front)
  pub waiting : length (filter (invokes f.process) front) ≤ f.turn
  pub begun : f.turn < length (filter (invokes f.process) h)

-- how many events pass a test
abbrev pub count : (Event → Bool) → List Event → ℕ
count q h = length (filter q h)

-- how many events pass a test in two lists, one after the other
pub count-append : (q : Event → Bool) (a b : List Event) → count q (a ++ b) ≡ count q a + count q b
count-append q a b = ap length (filter-append q a b) ∙ length-append (filter q a) (filter q b)

count_more : (q : Event → Bool) (x : Event) (b : List Event) → q x ≡ true → count q (x ∷ b) ≡ suc (count q b)
count_more q x b e = ap (λ (t : Bool). length (cond t (x ∷ filter q b) (filter q b))) e

-- the event of a turn, in its place in H
record Turn (test : Event → Bool) (turn : ℕ) (h : List Event) : Type 0 where
  before : List Event
  event : Event
  after : List Event
  whole : h ≡ before ++ event ∷ after
  stands : IsTurn test turn before event

-- where more than k events pass, the one of turn k is among them
turn_at : (test : Event → Bool) (k : ℕ) (h : List Event) → k < count test h → Turn test k h
turn_at test k [] l = absurd (omega arith)
turn_at test k (x ∷ h) l = go k (test x) refl l (turn_at test k h) (λ j. turn_at test j h)
  where
    go : (k : ℕ) (t : Bool) → test x ≡ t → k < length (cond t (x ∷ filter test h) (filter test h))
        → (k < count test h → Turn test k h) → ((j : ℕ) → j < count test h → Turn test j h) → Turn test k (x ∷ h)
    go zero true e l same less = record { before = []; event = x; after = h; whole = refl; stands = (e, refl) }
    go (suc k) true e l same less =
        let rest = less k (omega arith) in
        record {
          before = x ∷ rest.before;
          event = rest.event;
          after = rest.after;
          whole = ap (λ ys. x ∷ ys) rest.whole;
          stands = (rest.stands.0, count_more test x rest.before e ∙ ap suc rest.stands.1);
        }
    go k false e l same less =
        let rest = same l in
        let not_counted = ap
        (λ (t : Bool). length (cond t (x ∷ filter test rest.before) (filter test rest.before))) e in
        record {
          before = x ∷ rest.before;
          event = rest.event;
          after = rest.after;
          whole = ap (λ ys. x ∷ ys) rest.whole;
          stands = (rest.stands.0, not_counted ∙ rest.stands.1);
        }

-- if one operation precedes another, there is a moment between them
pub moment_from : (h : List Event) (e f : Operation) → Precedes h e f → Moment h e f
moment_from h e f p =
    let front : List Event = p.before ++ p.response ∷ p.between in
    let r : count (responds e.process) front
    ≡ count (responds e.process) p.before + suc (count (responds e.process) p.between) =
    count-append (responds e.process) p.before (p.response ∷ p.between)
    ∙ ap (λ n. count (responds e.process) p.before + n)
    (count_more (responds e.process) p.response p.between p.is_first_response.0) in
    let s : count (invokes f.process) h ≡ count (invokes f.process) front + suc (count (invokes f.process) p.after) =
    ap (count (invokes f.process)) p.whole
    ∙ (count-append (invokes f.process) front (p.invocation ∷ p.after)
    ∙ ap (λ n. count (invokes f.process) front + n)
    (count_more (invokes f.process) p.invocation p.after p.is_second_invocation.0)) in
    let t = p.is_first_response.1 in
    let u = p.is_second_invocation.1 in
    record {
      front = front;
      rest = p.invocation ∷ p.after;
      whole = p.whole;
      returned = omega arith;
      waiting = omega arith;
      begun = omega arith;
    }

-- if there is a moment between two operations, the first precedes the second
pub precedes_from : (h : List Event) (e f : Operation) → Moment h e f → Precedes h e f
precedes_from h e f m =
    let first = turn_at (responds e.process) e.turn m.front m.returned in
    let all : count (invokes f.process) h ≡ count (invokes f.process) m.front + count (invokes f.process) m.rest =
    ap (count (invokes f.process)) m.whole ∙ count-append (invokes f.process) m.front m.rest in
    let waiting = m.waiting in
    let begun = m.begun in
    let second = turn_at (invokes f.process) (f.turn - count (invokes f.process) m.front) m.rest (omega arith) in
    let front : (first.before ++ first.event ∷ (first.after ++ second.before)) ≡ m.front ++ second.before =
    sym (append_assoc first.before (first.event ∷ first.after) second.before)
    ∙ ap (λ es. es ++ second.before) (sym first.whole) in
    let parts : count (invokes f.process) (m.front ++ second.before)
    ≡ count (invokes f.process) m.front + count (invokes f.process) second.before =
    count-append (invokes f.process) m.front second.before in
    let turn = second.stands.1 in
    record {
      before = first.before;
      response = first.event;
      between = first.after ++ second.before;
      invocation = second.event;
      after = second.after;
      whole = m.whole ∙ (ap (λ es. m.front ++ es) second.whole
          ∙ (sym (append_assoc m.front second.before (second.event ∷ second.after))
          ∙ ap (λ es. es ++ second.event ∷ second.after) (sym front)));
      is_first_response = first.stands;
      is_second_invocation = (second.stands.0, ap (count (invokes f.process)) front ∙ omega arith);
    }
