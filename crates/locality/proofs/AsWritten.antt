-- A linearizable history is linearizable as the text of Herlihy and Wing reads: an operation with both events in a
-- history is one of its completion, since a completion drops no invocation that a response answers. By counting the
-- events of a process.
use Rattle.std.proofs.Common.{◌≡◌, ℕ, ◌<◌, ◌≤◌, ◌==◌, false, List, [], ◌∷◌, ◌++◌, length, refl, ap, sym, ◌∙◌}
use Rattle.std.proofs.Common.{arith, pos, zero, suc, ◌⊎◌, inl, inr, Some}
use Rattle.std.proofs.lemmas.Bool.{eqb-true, and_parts}
use Rattle.std.proofs.lemmas.List.Elements.{All-from_recursion}
use Rattle.model.specs.declared.Kind.TheVariants.{Queue}
use Rattle.model.specs.declared.AnyOp.TheVariants.{Enqueue, Dequeue}
use Rattle.model.specs.declared.AnyReply.TheVariants.{Value}
use Rattle.model.specs.Objects.{specification}
use Rattle.model.specs.Orders.{events}
use Rattle.model.specs.Specification.{Specification}
use Rattle.model.specs.declared.AnyOp.{AnyOp}
use Rattle.model.specs.declared.AnyReply.{AnyReply}
use Rattle.model.specs.Histories.{Event, Inv, Res, process_of, object_of, is_invocation, by_process, complete, invokes}
use Rattle.model.specs.Histories.{responds, IsSequential, IsCompletion, IsEquivalent, Operation, IsOperation}
use Rattle.model.specs.Linearizable.{IsLegal, IsLinearizableFor}
use Rattle.locality.specs.WorkedHistories.{pending_overtakes_returned}
use Rattle.locality.specs.AsWritten.{IsCompleteIn, IsLinearizableAsWritten}
use Rattle.locality.proofs.Cuts.{complete_of_process, invokes_of_process}
use Rattle.locality.proofs.Moments.{Moment, count, count-append, moment_from, precedes_from}
use Rattle.locality.proofs.ProcessHistories.{complete-call}
use Rattle.locality.proofs.WrittenOut.{none_from, well_formed}

-- ---- the operations of a completion

-- a call with its response counts once among the responses, and once among the invocations
counted : (process other object : ℕ) (op : AnyOp) (reply : AnyReply) (rest kept : List Event)
    → count (responds process) rest ≤ count (invokes process) kept
    → count (responds process) (Inv other object op ∷ Res other object reply ∷ rest) ≤ count (invokes process)
    (Inv other object op ∷ Res other object reply ∷ kept)
counted process other object op reply rest kept fewer = grind arith

responses_kept : (p : ℕ) (s : List Event) → IsSequential s → count (responds p) s ≤ count (invokes p) (complete s)
responses_kept p [] h = omega arith
responses_kept p (Inv q x op ∷ []) h = omega arith
responses_kept p (Res q x r ∷ []) h = absurd (cc h)
responses_kept p (Res q x r ∷ f ∷ rest) h = absurd cc
responses_kept p (Inv q x op ∷ Inv q' y o ∷ rest) h = absurd cc
responses_kept p (Inv q x op ∷ Res q' y r ∷ rest) h =
    let both = and_parts (q == q') (x == y) h.0 in
    let a : q' ≡ q = sym (eqb-true q q' both.0) in
    let b : y ≡ x = sym (eqb-true x y both.1) in
    rw (a, b, complete-call q x op r rest) (counted p q x op r rest (complete rest) (responses_kept p rest h.1))

-- a process responds in its part as often as in the whole
responds_of_process : (p : ℕ) (h : List Event) → count (responds p) h ≤ count (responds p) (by_process p h)
responds_of_process p [] = omega arith
responds_of_process p (Inv q x op ∷ h) = let rest = responds_of_process p h in grind arith
responds_of_process p (Res q x r ∷ h) = let rest = responds_of_process p h in grind arith

is_of_completion : (h c : List Event) → IsCompletion h c → (e : Operation) → IsCompleteIn h e → IsOperation c e
is_of_completion h c k e l =
    let p : ℕ = e.process in
    let all : List Event = h ++ k.added in
    let a = count-append (responds p) h k.added in
    let b = responds_of_process p all in
    let d = responses_kept p (by_process p all) (k.well_formed p) in
    let f : count (invokes p) (complete (by_process p all)) ≡ count (invokes p) (by_process p (complete all)) = ap
    (count (invokes p)) (sym (complete_of_process p all)) in
    let g : count (invokes p) (by_process p (complete all)) ≡ count (invokes p) (complete all) = ap length
    (invokes_of_process p (complete all)) in
    let m : count (invokes p) c ≡ count (invokes p) (complete all) = ap (count (invokes p)) k.completed in
    omega (arith, a, b, d, f, g, m, l)

-- what is linearizable here is linearizable as Herlihy and Wing write it
pub is_linearizable_as_written : (objects : ℕ → Specification) (h : List Event) → IsLinearizableFor objects h
    → IsLinearizableAsWritten objects h
is_linearizable_as_written objects h lin = record {
  completion = lin.completion;
  completes = lin.completes;
  sequence = lin.sequence;
  sequential = lin.sequential;
  legal = lin.legal;
  equivalent = lin.equivalent;
  order = λ e f i j p. lin.order e f (is_of_completion h lin.completion lin.completes e i)
      (is_of_completion h lin.completion lin.completes f j) p;
}

-- ---- a history that is linearizable as written, and not here

-- A history that is linearizable as the text reads, and not here: process 1 takes effect before process 0, though it
-- was invoked after process 0 returned.
abbrev overtaken : List Event
overtaken = events pending_overtakes_returned

abbrev overtaking : List Event
overtaking =
    Inv 1 0 (Enqueue (pos 2)) ∷ Res 1 0 (Value (Some (pos 2))) ∷ Inv 0 0 (Enqueue (pos 1))
    ∷ Res 0 0 (Value (Some (pos 1)))
    ∷ Inv 2 0 Dequeue ∷ Res 2 0 (Value (Some (pos 2))) ∷ []

abbrev queues : ℕ → Specification
queues x = specification Queue

-- ---- which moments that history has

-- the first event of a history is that of each part at its beginning
peel : (x : Event) (t front rest : List Event) → x ∷ t ≡ front ++ rest
    → (front ≡ []) ⊎ ((f : List Event) × (front ≡ x ∷ f) × (t ≡ f ++ rest))
peel x t [] rest e = inl refl
peel x t (y ∷ f) rest e = inr (f, cc e, cc e)

-- no moment is after the response of an operation and before the invocation of process 0
after_first : (e f : Operation) → f.process ≡ 0 → f.turn ≡ 0 → Moment overtaken e f → ⊥
after_first e f p t m = elim (peel (Inv 0 0 (Enqueue (pos 1))) _ m.front m.rest m.whole) [
  | inl q ↦ let r = rw q at m.returned in absurd (omega (arith, r))
  | inr g ↦
      let w = rw g.1 at m.waiting in
      let w0 = rw p at w in
      absurd (omega (arith, w0, t))
]

-- no moment is after the response of process 2 and before its invocation
after_itself : (front rest : List Event) → overtaken ≡ front ++ rest → 0 < count (responds 2) front
    → count (invokes 2) front ≤ 0 → ⊥
after_itself front rest e r w = elim (peel (Inv 0 0 (Enqueue (pos 1))) _ front rest e) [
  | inl q ↦ none front q r
  | inr f ↦ elim (peel (Res 0 0 (Value (Some (pos 1)))) _ f.0 rest f.2) [
    | inl q ↦ none f.0 q (rw f.1 at r)
    | inr g ↦ elim (peel (Inv 1 0 (Enqueue (pos 2))) _ g.0 rest g.2) [
      | inl q ↦ none g.0 q (rw (f.1 ∙ ap (λ (es : List Event). Inv 0 0 (Enqueue (pos 1)) ∷ es) g.1) at r)
      | inr k ↦
          let whole : front
          ≡ Inv 0 0 (Enqueue (pos 1)) ∷ Res 0 0 (Value (Some (pos 1))) ∷ Inv 1 0 (Enqueue (pos 2)) ∷ k.0 =
          f.1 ∙ ap (λ (es : List Event). Inv 0 0 (Enqueue (pos 1)) ∷ es)
          (g.1 ∙ ap (λ (es : List Event). Res 0 0 (Value (Some (pos 1))) ∷ es) k.1) in
          elim (peel (Inv 2 0 Dequeue) _ k.0 rest k.2) [
            | inl q ↦ none k.0 q (rw whole at r)
            | inr l ↦
                let seen : count (invokes 2)
                (Inv 0 0 (Enqueue (pos 1)) ∷ Res 0 0 (Value (Some (pos 1))) ∷ Inv 1 0 (Enqueue (pos 2))
                ∷ Inv 2 0 Dequeue ∷ l.0)
                ≤ 0 =
                rw l.1 at (rw whole at w) in
                absurd (omega (arith, seen))
          ]
    ]
  ]
]
  where
    none : (es : List Event) → es ≡ [] → 0 < count (responds 2) es → ⊥
    none es q l =
        let m : 0 < 0 = rw q at l in absurd (omega (arith, m))

-- ---- its order is kept

-- three processes act, and no others
no_response : (n : ℕ) → count (responds (suc (suc (suc n)))) overtaken ≤ 0
no_response n =
    let p : ℕ = suc (suc (suc n)) in
    rw (none_from process_of 3 overtaken refl p (omega arith)) at (responds_of_process p overtaken)

-- where the one operation returned before the other began in the history, it did so in the sequence too
order_kept : (earlier turn later turn' : ℕ) → turn < count (responds earlier) overtaken
    → turn' < count (responds later) overtaken
    → Moment overtaken (record { process = earlier; turn = turn }) (record { process = later; turn = turn' })
    → Moment overtaking (record { process = earlier; turn = turn }) (record { process = later; turn = turn' })
order_kept earlier turn zero turn' back back' moment =
    let few : turn' < 1 = back' in
    let only : turn' ≡ 0 = omega (arith, few) in
    absurd (after_first (record { process = earlier; turn = turn }) (record { process = zero; turn = turn' }) refl only
    moment)
order_kept earlier turn (suc zero) turn' back back' moment = let few : turn' < 0 = back' in absurd (omega (arith, few))
order_kept earlier turn (suc (suc (suc n))) turn' back back' moment =
    let none = no_response n in absurd (omega (arith, back', none))
order_kept (suc zero) turn (suc (suc zero)) turn' back back' moment =
    let few : turn < 0 = back in absurd (omega (arith, few))
order_kept (suc (suc (suc n))) turn (suc (suc zero)) turn' back back' moment =
    let none = no_response n in absurd (omega (arith, back, none))
order_kept (suc (suc zero)) turn (suc (suc zero)) turn' back back' moment =
    let few : turn' < 1 = back' in
    let r = moment.returned in
    let w = moment.waiting in
    absurd (after_itself moment.front moment.rest moment.whole (omega (arith, r)) (omega (arith, w, few)))
order_kept zero turn (suc (suc zero)) turn' back back' moment = record {
  front = Inv 1 0 (Enqueue (pos 2)) ∷ Res 1 0 (Value (Some (pos 2))) ∷ Inv 0 0 (Enqueue (pos 1))
      ∷ Res 0 0 (Value (Some (pos 1))) ∷ [];
  rest = Inv 2 0 Dequeue ∷ Res 2 0 (Value (Some (pos 2))) ∷ [];
  whole = refl;
  returned = back;
  waiting = omega arith;
  begun = back';
}

pub overtaken-as_written : IsLinearizableAsWritten queues overtaken
overtaken-as_written = record {
  completion = complete (overtaken ++ Res 1 0 (Value (Some (pos 2))) ∷ []);
  completes = record {
    added = Res 1 0 (Value (Some (pos 2))) ∷ [];
    responses = All-from_recursion (λ (e : Event). is_invocation e ≡ false) (Res 1 0 (Value (Some (pos 2))) ∷ [])
        (refl, tt);
    well_formed = well_formed 3 (overtaken ++ Res 1 0 (Value (Some (pos 2))) ∷ []) refl refl;
    completed = refl;
  };
  sequence = overtaking;
  sequential = (refl, (refl, (refl, tt)));
  legal = legal;
  equivalent = equivalent;
  order = λ e f i j p. precedes_from overtaking e f
      (order_kept e.process e.turn f.process f.turn i j (moment_from overtaken e f p));
}
  where
    legal : IsLegal queues overtaking
    legal zero = (
      (refl, (refl, (refl, tt))),
      (pos 2 ∷ [], refl, (pos 2 ∷ pos 1 ∷ [], refl, (pos 1 ∷ [], refl, tt))),
    )
    legal (suc x) = rw (none_from object_of 1 overtaking refl (suc x) (omega arith)) (tt, tt)

    equivalent : IsEquivalent (complete (overtaken ++ Res 1 0 (Value (Some (pos 2))) ∷ [])) overtaking
    equivalent zero = refl
    equivalent (suc zero) = refl
    equivalent (suc (suc zero)) = refl
    equivalent (suc (suc (suc n))) =
        let p : ℕ = suc (suc (suc n)) in
        none_from process_of 3 (complete (overtaken ++ Res 1 0 (Value (Some (pos 2))) ∷ [])) refl p (omega arith)
        ∙ sym (none_from process_of 3 overtaking refl p (omega arith))
