-- Each process completed these calls in a linearizable history, by induction on its calls; and one line of all of them
-- takes the calls as the sequence has them.
use Rattle.std.proofs.Common.{arith, ◌≡◌, ℕ, ◌==◌, true, false, cond, inl, inr, List, [], ◌∷◌, ◌++◌, map, filter, Some}
use Rattle.std.proofs.Common.{refl, ap, sym, ◌∙◌, subst}
use Rattle.std.specs.List.{flat_map, AllByRecursion}
use Rattle.std.proofs.lemmas.Option.{same_Some}
use Rattle.std.proofs.lemmas.Bool.{cases_eq, eqb-true, ne_eqb, eq-eqb, and_parts}
use Rattle.model.specs.declared.AnyOp.{AnyOp}
use Rattle.model.specs.declared.AnyReply.{AnyReply}
use Rattle.model.specs.Histories.{Event, Inv, Res, process_of, is_invocation, by_process, matches, complete}
use Rattle.model.specs.Histories.{IsSequential}
use Rattle.model.specs.Orders.{Numbered, events, Return, ProcessCall, calls_in}
use Rattle.model.specs.Lists.{In}
use Rattle.locality.proofs.ProcessHistories.{Turns, none, last, call, at, first, unanswered}
use Rattle.locality.proofs.ProcessHistories.{calls_in-call, complete-call}

-- ---- operations with their replies

-- an operation with the reply that it has in a completion
pub record Ended : Type 0 where
  pub made : ProcessCall
  pub reply : AnyReply

abbrev pub two_events : Ended → List Event
two_events e = Inv e.made.process e.made.object e.made.call.op ∷ Res e.made.process e.made.object e.reply ∷ []

abbrev pub ended_events : List Ended → List Event
ended_events es = flat_map two_events es

abbrev pub ops_of : List Ended → List ProcessCall
ops_of es = map (λ e. e.made) es

-- A completed history of a process: its first operations, each with a reply, which is the recorded one where it
-- returned; and those that returned are among them.
pub record Completed (h : List Numbered) (c : List Event) : Type 0 where
  pub list : List Ended
  pub events_are : c ≡ ended_events list
  pub rest : List ProcessCall
  pub front : calls_in h ≡ ops_of list ++ rest
  pub recorded : (e : Ended) (r : Return) → In e list → e.made.call.returned ≡ Some r → e.reply ≡ r.reply
  pub whole : (o : ProcessCall) (r : Return) → In o (calls_in h) → o.call.returned ≡ Some r
      → (e : Ended) × In e list × (e.made ≡ o)

-- ---- what one process completed

-- all these events are responses
abbrev pub Responses : List Event → Type 0
Responses es = AllByRecursion (λ e. is_invocation e ≡ false) es

no_match : (e f : Event) → is_invocation e ≡ false → matches e f ≡ true → ⊥
no_match (Inv p x op) f n m = cc n
no_match (Res p x r) f n m = cc m

pub no_more : (es : List Event) → Responses es → IsSequential es → es ≡ []
no_more [] r s = refl
no_more (e ∷ []) r s = let n = r.0 in absurd (cc (n, s))
no_more (e ∷ f ∷ es) r s = absurd (no_match e f r.0 s.0)

-- the last operation, pending or with its late response
last_ended : (process number object : ℕ) (op : AnyOp) (es : List Event) → Responses es
    → IsSequential (Inv process object op ∷ es)
    → Completed (at number (Inv process object op) ∷ []) (complete (Inv process object op ∷ es))
last_ended process number object op [] responses sequential = record {
  list = [];
  events_are = refl;
  rest = calls_in (at number (Inv process object op) ∷ []);
  front = refl;
  recorded = λ e r i q. absurd i;
  whole = λ o r i q. absurd (pending o r i q);
}
  where
    pending : (o : ProcessCall) (r : Return) → In o (calls_in (at number (Inv process object op) ∷ []))
        → o.call.returned ≡ Some r → ⊥
    pending o r i q = elim i [ inl e ↦ cc (ap (λ (y : ProcessCall). y.call.returned) e) | inr j ↦ j ]
last_ended process number object op (Inv q y made ∷ es) responses sequential = absurd cc
last_ended process number object op (Res q y reply ∷ es) responses sequential =
    let both = and_parts (process == q) (object == y) sequential.0 in
    let a : q ≡ process = sym (eqb-true process q both.0) in
    let b : y ≡ object = sym (eqb-true object y both.1) in
    let none_left : es ≡ [] = no_more es responses.1 sequential.1 in
    let made : ProcessCall = unanswered process number object op in
    rw (a, b, none_left)
    (record {
      list = record { made = made; reply = reply } ∷ [];
      events_are = complete-call process object op reply [];
      rest = [];
      front = refl;
      recorded = λ e r i q. elim i [
        | inl t ↦ absurd (cc (ap (λ (y : Ended). y.made.call.returned) t))
        | inr j ↦ absurd j
      ];
      whole = λ o r i q. elim i [
        | inl t ↦ absurd (cc (ap (λ (y : ProcessCall). y.call.returned) t))
        | inr j ↦ absurd j
      ];
    })

pub completed_any : (process : ℕ) (h : List Numbered) (es : List Event) → Turns process h → Responses es
    → IsSequential (events h ++ es) → Completed h (complete (events h ++ es))
completed_any process h es none r s =
    rw (no_more es r s)
    (record {
      list = [];
      events_are = refl;
      rest = [];
      front = refl;
      recorded = λ e r i q. absurd i;
      whole = λ o r i q. absurd i;
    })
completed_any process h es (last number object op) r s = last_ended process number object op es r s
completed_any process h es (call number object op later reply rest t) r s =
    let below = completed_any process rest es t r s.1 in
    let first' : ProcessCall = first process number object op later reply in
    let calls_are : calls_in (at number (Inv process object op) ∷ at later (Res process object reply) ∷ rest)
    ≡ first' ∷ calls_in rest =
    calls_in-call process number object op later reply rest in
    record {
      list = record { made = first'; reply = reply } ∷ below.list;
      events_are = complete-call process object op reply (events rest ++ es)
          ∙ ap (λ es. Inv process object op ∷ Res process object reply ∷ es) below.events_are;
      rest = below.rest;
      front = calls_are ∙ ap (λ ys. first' ∷ ys) below.front;
      recorded = λ e r i q. elim i [
        | inl t ↦
            let same : Some (record { at = later; reply = reply }) ≡ Some r =
            sym (ap (λ (y : Ended). y.made.call.returned) t) ∙ q in
            ap (λ (y : Ended). y.reply) t
            ∙ ap (λ (y : Return). y.reply) (same_Some (record { at = later; reply = reply }) r same)
        | inr j ↦ below.recorded e r j q
      ];
      whole = λ w r i q. found first' w r (subst (In w) calls_are i) q below;
    }
  where
    found : (first' w : ProcessCall) (r : Return) → In w (first' ∷ calls_in rest) → w.call.returned ≡ Some r
        → (b : Completed rest (complete (events rest ++ es)))
        → (e : Ended) × In e (record { made = first'; reply = reply } ∷ b.list) × (e.made ≡ w)
    found first' w r i q b = elim i [
      | inl t ↦ (record { made = first'; reply = reply }, inl refl, sym t)
      | inr j ↦ let e = b.whole w r j q in (e.0, inr e.1, e.2)
    ]

-- ---- one line of the operations of all processes

ended_nil : (es : List Ended) → ended_events es ≡ [] → es ≡ []
ended_nil [] e = refl
ended_nil (x ∷ es) e = absurd (cc e)

-- a sequential history in which each process has these operations is one line of them all
pub record Lined (s : List Event) (q : ℕ → List Ended) : Type 0 where
  pub line : List Ended
  pub events_are : s ≡ ended_events line
  pub parts : (p : ℕ) → filter (λ e. e.made.process == p) line ≡ q p

-- the queues, one shorter at p
abbrev popped : ℕ → List Ended → (ℕ → List Ended) → ℕ → List Ended
popped p es q k = cond (k == p) es (q k)

-- An invocation and its response come before a history that is one line with the queues without this operation: then
-- all is one line.
lined_step : (invocation response : Event) (later : List Event) (queues : ℕ → List Ended) (ended : Ended)
    (others : List Ended) → queues (process_of invocation) ≡ ended ∷ others
    → invocation ∷ response ∷ by_process (process_of invocation) later ≡ ended_events (ended ∷ others)
    → ended.made.process ≡ process_of invocation → process_of response ≡ process_of invocation
    → ((queues : ℕ → List Ended) → ((p : ℕ) → by_process p later ≡ ended_events (queues p))
    → ((p : ℕ) (ended : Ended) → In ended (queues p) → ended.made.process ≡ p) → Lined later queues)
    → ((p : ℕ) → by_process p (invocation ∷ response ∷ later) ≡ ended_events (queues p))
    → ((p : ℕ) (ended : Ended) → In ended (queues p) → ended.made.process ≡ p)
    → Lined (invocation ∷ response ∷ later) queues
lined_step invocation response later queues ended others head same mine pair below all owned =
    let p : ℕ = process_of invocation in
    let shorter : ℕ → List Ended = popped p others queues in
    let tail : by_process p later ≡ ended_events others = cc same in
    let e_is : invocation ≡ Inv ended.made.process ended.made.object ended.made.call.op = cc same in
    let f_is : response ≡ Res ended.made.process ended.made.object ended.reply = cc same in
    let here : (k : ℕ) → by_process k later ≡ ended_events (shorter k) = λ k.
    let whole = all k in
    grind arith in
    let owns : (k : ℕ) (x : Ended) → In x (shorter k) → x.made.process ≡ k = λ k.
    let at_p = owned p in
    let at_k = owned k in
    elim (cases_eq k p) [
      | inl t ↦ rw (eq-eqb k p t) (λ x i. owned p x (rw head (inr i)) ∙ sym t)
      | inr ne ↦ rw (ne_eqb k p ne) (owned k)
    ] in
    let rest = below shorter here owns in
    record {
      line = ended ∷ rest.line;
      events_are = cc (e_is, f_is, rest.events_are);
      parts = λ k. let parts = rest.parts k in grind arith;
    }

pub same_process : (e f : Event) → matches e f ≡ true → process_of f ≡ process_of e
same_process (Inv p x op) (Res q y r) m = let both = and_parts (p == q) (x == y) m in sym (eqb-true p q both.0)
same_process e f m = absurd (cc m)

own_events : (e f : Event) (s : List Event) → process_of f ≡ process_of e
    → by_process (process_of e) (e ∷ f ∷ s) ≡ e ∷ f ∷ by_process (process_of e) s
own_events e f s q = grind arith

pub lined : (s : List Event) → IsSequential s → (q : ℕ → List Ended) → ((p : ℕ) → by_process p s ≡ ended_events (q p))
    → ((p : ℕ) (o : Ended) → In o (q p) → o.made.process ≡ p) → Lined s q
lined [] sq q all owned = record { line = []; events_are = refl; parts = λ p. sym (ended_nil (q p) (sym (all p))) }
lined (e ∷ []) sq q all owned =
    let a : (process_of e == process_of e) ≡ true = eq-eqb (process_of e) (process_of e) refl in
    absurd (odd (q (process_of e)) (sym (ap (λ t. cond t (e ∷ []) []) a) ∙ all (process_of e)))
  where
    odd : (os : List Ended) → e ∷ [] ≡ ended_events os → ⊥
    odd [] h = cc h
    odd (o ∷ os) h = cc h
lined (e ∷ f ∷ s) sq q all owned = go (q (process_of e)) refl (λ q. lined s sq.1 q)
  where
    go : (os : List Ended) → q (process_of e) ≡ os
        → ((q : ℕ → List Ended) → ((p : ℕ) → by_process p s ≡ ended_events (q p))
        → ((p : ℕ) (o : Ended) → In o (q p) → o.made.process ≡ p) → Lined s q) → Lined (e ∷ f ∷ s) q
    go [] h below =
        let bad : e ∷ f ∷ by_process (process_of e) s ≡ [] =
        sym (own_events e f s (same_process e f sq.0)) ∙ (all (process_of e) ∙ ap ended_events h) in absurd (cc bad)
    go (o ∷ os) h below = lined_step e f s q o os h
        (sym (own_events e f s (same_process e f sq.0)) ∙ (all (process_of e) ∙ ap ended_events h))
        (owned (process_of e) o (rw h (inl refl))) (same_process e f sq.0) below all owned
