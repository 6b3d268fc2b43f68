-- Worked histories that are not linearizable, orders that are not valid, and event lists that are not histories: each
-- is refuted by computation, or by the first call of the only order that precedence allows (`first_in_first_out`).
use Rattle.std.proofs.Common.{◌&&◌, ◌≢◌, ◌≡◌, ℤ, pos, ◌<◌, ◌⊎◌, true, false, inl, inr, List, [], ◌∷◌, ◌++◌, map, Option}
use Rattle.std.proofs.Common.{Some, None, IfSome, IsSome, Contains, lit<, refl, ap, sym, ◌∙◌, subst, arith, Bool}
use Rattle.std.proofs.Common.{int_eq}
use Rattle.std.specs.List.{AllByRecursion}
use Rattle.std.proofs.lemmas.Bool.{and_from}
use Rattle.std.proofs.lemmas.Cmp.{int_eq_equiv}
use Rattle.std.proofs.lemmas.Int.{ints}
use Rattle.std.proofs.lemmas.Option.{same_Some}
use Rattle.model.specs.declared.Kind.{Kind}
use Rattle.model.specs.declared.Kind.TheVariants.{Queue, Mutex}
use Rattle.model.specs.declared.AnyOp.{AnyOp}
use Rattle.model.specs.declared.AnyOp.TheVariants.{Enqueue, Dequeue}
use Rattle.model.specs.declared.AnyReply.{AnyReply}
use Rattle.model.specs.declared.AnyReply.TheVariants.{Value}
use Rattle.model.specs.Objects.{Content, queue, next, empty}
use Rattle.model.specs.Linearizable.{IsLinearizable}
use Rattle.model.specs.Orders.{Numbered, events, Return, Call, calls_on, IsHistory, ReturnsBefore, RepliesAlong}
use Rattle.model.specs.Orders.{IsValidOrder}
use Rattle.model.specs.Lists.{In}
use Rattle.model.proofs.Lists.{Pairs, in_from_contains, all_at, pairs_from_all, in_map_from, in_map}
use Rattle.locality.specs.WorkedHistories.{invoke, invoked_while_pending, returned_unasked, returned_elsewhere}
use Rattle.locality.specs.WorkedHistories.{numbered_backwards, enqueued_then_dequeued, overlapping_enqueues}
use Rattle.locality.specs.WorkedHistories.{dequeued_out_of_turn, pending_overtakes_returned, mutex_passed_on}
use Rattle.locality.proofs.OneKind.{orders_of_kinds}
use Rattle.locality.proofs.WrittenOut.{history, linearizable, in_order, ordered}
use Rattle.locality.proofs.WorkedOrders.{returned, pending}

-- ---- first in, first out

-- what returned before all others were invoked comes first
first_is : (a : Call) (es : List Call) → In a es → ((e : Call) → In e es → (e ≡ a) ⊎ ReturnsBefore a e)
    → Pairs (λ (a b : Call). ReturnsBefore b a → ⊥) es → (rest : List Call) × (es ≡ a ∷ rest)
first_is a [] i f p = absurd i
first_is a (e ∷ es) i f p = elim (f e (inl refl)) [
  | inl q ↦ (es, ap (λ x. x ∷ es) q)
  | inr before ↦ elim i [ inl q ↦ (es, ap (λ x. x ∷ es) (sym q)) | inr j ↦ absurd (p.0 a j before) ]
]

abbrev IsEnqueue : AnyOp → Type 0
IsEnqueue op = (v : ℤ) × (op ≡ Enqueue v)

-- what a step leaves and replies, where its operation and content are known
step : (c : Content) (op o : AnyOp) (made : Content × AnyReply) → op ≡ o → (after : Content) (reply : AnyReply)
    → next c op ≡ Some (after, reply)
    → next c o ≡ Some made → (after ≡ made.0) × (reply ≡ made.1)
step c op o made same after reply e m =
    let pair : (after, reply) ≡ made = same_Some (after, reply) made (sym e ∙ (ap (next c) same ∙ m)) in
    (ap (λ (x : Content × AnyReply). x.0) pair, ap (λ (x : Content × AnyReply). x.1) pair)

-- while all others are enqueues, a dequeue has the first value
first_out : (value : ℤ) (values : List ℤ) (calls : List Call) (take : Call) (taken : Return) → take.op ≡ Dequeue
    → take.returned ≡ Some taken → ((e : Call) → In e calls → (e ≡ take) ⊎ IsEnqueue e.op) → In take calls
    → RepliesAlong (queue (value ∷ values)) calls → taken.reply ≡ Value (Some value)
first_out value values [] take taken op back other among along = absurd among
first_out value values (call ∷ calls) take taken op back other among along = elim (other call (inl refl)) [
  | inl q ↦
      let made = step (queue (value ∷ values)) call.op Dequeue (queue values, Value (Some value))
      (ap (λ (c : Call). c.op) q ∙ op) along.0 along.1 along.2 refl in
      let said : taken.reply ≡ along.1 = rw (ap (λ (c : Call). c.returned) q ∙ back) at along.3 in
      said ∙ made.1
  | inr put ↦
      let made = step (queue (value ∷ values)) call.op (Enqueue put.0)
      (queue (value ∷ (values ++ put.0 ∷ [])), Value (Some put.0)) put.1 along.0 along.1 along.2 refl in
      elim among [
        | inl q ↦ absurd cc
        | inr j ↦ first_out value (values ++ put.0 ∷ []) calls take taken op back (λ e i. other e (inr i)) j
            (rw made.0 at along.4)
      ]
]

-- An enqueue returned before all other operations were invoked, and one of these is a dequeue: it has the value.
first_in_first_out : (calls : List Call) (put take : Call) (value : ℤ) (taken stored : Return) (order : List ℤ)
    → put.op ≡ Enqueue value → put.returned ≡ Some stored
    → take.op ≡ Dequeue → take.returned ≡ Some taken → In put calls → In take calls
    → ((e : Call) → In e calls → (e ≡ put) ⊎ ReturnsBefore put e)
    → ((e : Call) → In e calls → (e ≡ take) ⊎ IsEnqueue e.op) → IsValidOrder Queue calls order
    → taken.reply ≡ Value (Some value)
first_in_first_out calls put take value taken stored order put_op stores take_op takes put_in take_in first rest valid =
    let known : (e : Call) → In e valid.entries → In e calls =
    λ e i. in_from_contains calls e (all_at (Contains calls) valid.entries valid.known e i) in
    let stands : (e : Call) (r : Return) → In e calls → e.returned ≡ Some r → In e valid.entries =
    λ e r i q. in_from_contains valid.entries e
    (all_at (λ (e : Call). IsSome e.returned → Contains valid.entries e) calls valid.whole e i (rw q refl)) in
    let front = first_is put valid.entries (stands put stored put_in stores) (λ e i. first e (known e i))
    (pairs_from_all (λ (a b : Call). ReturnsBefore b a → ⊥) valid.entries valid.in_order) in
    let along : RepliesAlong (queue []) (put ∷ front.0) = rw front.1 at valid.replies in
    let made = step (queue []) put.op (Enqueue value) (queue (value ∷ []), Value (Some value))
    put_op along.0 along.1 along.2 refl in
    let take_later : In take (put ∷ front.0) = rw front.1 at (stands take taken take_in takes) in
    elim take_later [
      | inl q ↦ absurd cc
      | inr j ↦ first_out value [] front.0 take taken take_op takes (λ e i. rest e (known e (rw front.1 (inr i)))) j
          (rw made.0 at along.4)
    ]

-- ---- histories in which a value is overtaken

two_not_one : Value (Some (pos 2)) ≡ Value (Some (pos 1)) → ⊥
two_not_one e = omega (arith, ints, ap value_in e)
  where
    value_in : AnyReply → ℤ
    value_in (Value (Some v)) = v
    value_in r = pos 0

-- the enqueue of 1, which returns before all others begin
abbrev first : Call
first = returned 0 (Enqueue (pos 1)) 1 (Some (pos 1))

-- after it another value is enqueued, and no dequeue gives 2
overtaken : (h : List Numbered) (put take : Call) (value : ℤ) (taken : Return) → IsHistory h
    → calls_on 0 h ≡ first ∷ put ∷ take ∷ [] → put.op ≡ Enqueue value → 1 < put.number
    → take.op ≡ Dequeue → 1 < take.number → take.returned ≡ Some taken → taken.reply ≡ Value (Some (pos 2))
    → ¬ IsLinearizable (λ x. Queue) (events h)
overtaken h put take value taken hist is put_op put_later take_op take_later take_back two lin =
    let order = orders_of_kinds (λ x. Queue) h hist lin 0 in
    let returns : Return = record { at = 1; reply = Value (Some (pos 1)) } in
    let one = first_in_first_out (first ∷ put ∷ take ∷ []) first take (pos 1) taken returns order.0 refl refl take_op
    take_back
    (inl refl) (inr (inr (inl refl)))
    (λ e i. elim i [
      | inl q ↦ inl q
      | inr j ↦ elim j [
        | inl q ↦ inr (rw q (returns, refl, put_later))
        | inr k ↦ elim k [ inl q ↦ inr (rw q (returns, refl, take_later)) | inr none ↦ absurd none ]
      ]
    ])
    (λ e i. elim i [
      | inl q ↦ inr (pos 1, ap (λ (c : Call). c.op) q)
      | inr j ↦ elim j [
        | inl q ↦ inr (value, ap (λ (c : Call). c.op) q ∙ put_op)
        | inr k ↦ elim k [ inl q ↦ inl q | inr none ↦ absurd none ]
      ]
    ])
    (rw is at order.1) in
    two_not_one (sym two ∙ one)

-- the history in which the second value is dequeued first is a history
pub dequeued_out_of_turn-history : IsHistory dequeued_out_of_turn
dequeued_out_of_turn-history = history 2 dequeued_out_of_turn refl

-- the history in which the second value is dequeued first is not linearizable
pub dequeued_out_of_turn-refuted : ¬ IsLinearizable (λ x. Queue) (events dequeued_out_of_turn)
dequeued_out_of_turn-refuted =
    overtaken dequeued_out_of_turn (returned 2 (Enqueue (pos 2)) 3 (Some (pos 2))) (returned 4 Dequeue 5 (Some (pos 2)))
    (pos 2) (record { at = 5; reply = Value (Some (pos 2)) }) dequeued_out_of_turn-history refl refl (lit< tt) refl
    (lit< tt) refl refl

-- the history in which a pending enqueue overtakes one that returned is a history
pub pending_overtakes_returned-history : IsHistory pending_overtakes_returned
pending_overtakes_returned-history = history 3 pending_overtakes_returned refl

-- the history in which a pending enqueue overtakes one that returned is not linearizable
pub pending_overtakes_returned-refuted : ¬ IsLinearizable (λ x. Queue) (events pending_overtakes_returned)
pending_overtakes_returned-refuted =
    overtaken pending_overtakes_returned (pending 2 (Enqueue (pos 2))) (returned 3 Dequeue 4 (Some (pos 2))) (pos 2)
    (record { at = 4; reply = Value (Some (pos 2)) }) pending_overtakes_returned-history refl refl (lit< tt) refl
    (lit< tt) refl refl

-- ---- orders that are not valid by their numbers

-- no order is valid if the second value is dequeued first
pub dequeued_out_of_turn-no_order : (order : List ℤ) → ¬ IsValidOrder Queue (calls_on 0 dequeued_out_of_turn) order
dequeued_out_of_turn-no_order order v =
    dequeued_out_of_turn-refuted
    (linearizable (λ x. Queue) dequeued_out_of_turn dequeued_out_of_turn-history refl (order, v))

-- an order is not valid if it has a call twice
pub enqueued_then_dequeued-repeated : ¬ IsValidOrder Queue (calls_on 0 enqueued_then_dequeued)
    (pos 0 ∷ pos 0 ∷ pos 2 ∷ [])
enqueued_then_dequeued-repeated v = v.once 0 1 (pos 0) (lit< tt) (lit< tt) refl

-- an order is not valid if it lacks a call that returned
pub enqueued_then_dequeued-omitted : ¬ IsValidOrder Queue (calls_on 0 enqueued_then_dequeued) (pos 0 ∷ [])
enqueued_then_dequeued-omitted v =
    let omitted : Call = returned 2 Dequeue 3 (Some (pos 1)) in
    let stands : In omitted v.entries = in_from_contains v.entries omitted (v.whole 1 omitted (lit< tt) refl) in
    let listed : In (pos 2) (pos 0 ∷ []) =
    subst (In (pos 2)) (sym v.numbers) (in_map_from (λ (e : Call). pos e.number) omitted v.entries stands) in
    elim listed [ inl q ↦ omega (arith, ints, q) | inr none ↦ absurd none ]

-- an order is not valid if it has a number that is no call's
pub enqueued_then_dequeued-unknown : ¬ IsValidOrder Queue (calls_on 0 enqueued_then_dequeued)
    (pos 0 ∷ pos 2 ∷ pos 3 ∷ [])
enqueued_then_dequeued-unknown v =
    let e = in_map (λ (e : Call). pos e.number) (pos 3) v.entries
    (subst (In (pos 3)) v.numbers (inr (inr (inl refl)))) in
    unknown e.0 (in_from_contains (calls_on 0 enqueued_then_dequeued) e.0
    (all_at (Contains (calls_on 0 enqueued_then_dequeued)) v.entries v.known e.0 e.1)) e.2
  where
    unknown : (c : Call) → In c (calls_on 0 enqueued_then_dequeued) → pos 3 ≡ pos c.number → ⊥
    unknown c i n = elim i [
      | inl q ↦ let m : c.number ≡ 0 = ap (λ (c : Call). c.number) q in omega (arith, ints)
      | inr j ↦ elim j [
        | inl q ↦ let m : c.number ≡ 2 = ap (λ (c : Call). c.number) q in omega (arith, ints)
        | inr none ↦ absurd none
      ]
    ]

-- ---- replies, by computation

-- no two values that differ
abbrev same_value : AnyReply → AnyReply → Bool
same_value (Value (Some v)) (Value (Some w)) = int_eq v w
same_value r s = true

abbrev replied : Option Return → AnyReply → Bool
replied None given = true
replied (Some r) given = same_value r.reply given

-- along the calls each is possible, and no recorded value differs from the one that `next` gives
abbrev may_be : Option (Content × AnyReply) → Option Return → (Content → Bool) → Bool
may_be None o rest = false
may_be (Some made) o rest = replied o made.1 && rest made.0

abbrev may_reply : List Call → Content → Bool
may_reply [] c = true
may_reply (e ∷ es) c = may_be (next c e.op) e.returned (may_reply es)

value_itself : (r : AnyReply) → same_value r r ≡ true
value_itself (Value (Some v)) = let e = int_eq_equiv in e.refl v
value_itself r = refl

replied_so : (o : Option Return) (given : AnyReply) → IfSome o (λ r. r.reply ≡ given) → replied o given ≡ true
replied_so None given h = refl
replied_so (Some r) given h = subst (λ s. same_value r.reply s ≡ true) h (value_itself r.reply)

along_may_reply : (es : List Call) (c : Content) → RepliesAlong c es → may_reply es c ≡ true
along_may_reply [] c h = refl
along_may_reply (e ∷ es) c h = ap (λ made. may_be made e.returned (may_reply es)) h.2
    ∙ and_from (replied e.returned h.1) (may_reply es h.0) (replied_so e.returned h.1 h.3) (along_may_reply es h.0 h.4)

-- ---- orders that are not valid by their replies

abbrev Ordered : List Call → Type 0
Ordered cs = Pairs (λ (a b : Call). (a.number ≢ b.number) × (ReturnsBefore b a → ⊥)) cs

one_call : (cs : List Call) (a b : Call) → Ordered cs → In a cs → In b cs → a.number ≡ b.number → a ≡ b
one_call [] a b o i j e = absurd i
one_call (c ∷ cs) a b o i j e = elim i [
  | inl p ↦ elim j [ inl q ↦ p ∙ sym q | inr k ↦ absurd ((o.0 b k).0 (ap (λ (c : Call). c.number) (sym p) ∙ e)) ]
  | inr k ↦ elim j [
    | inl q ↦ absurd ((o.0 a k).0 (ap (λ (c : Call). c.number) (sym q) ∙ sym e))
    | inr l ↦ one_call cs a b o.1 k l e
  ]
]

-- the calls that have these numbers
entries_are : (calls cs es : List Call) → Ordered calls → ((e : Call) → In e es → In e calls)
    → AllByRecursion (λ c. In c calls) cs
    → map (λ (e : Call). pos e.number) cs ≡ map (λ (e : Call). pos e.number) es → es ≡ cs
entries_are calls [] [] up known these n = refl
entries_are calls (c ∷ cs) (e ∷ es) up known these n =
    let same : pos e.number ≡ pos c.number = cc n in
    let here : e ≡ c = one_call calls e c up (known e (inl refl)) these.0 (omega (arith, ints)) in
    let rest : es ≡ cs = entries_are calls cs es up (λ e i. known e (inr i)) these.1 (cc n) in
    cc (here, rest)
entries_are calls cs es h k e n = absurd (cc n)

-- an order whose calls could not reply so
not_replied : (kind : Kind) (calls cs : List Call) → in_order calls ≡ true → AllByRecursion (λ c. In c calls) cs
    → may_reply cs (empty kind) ≡ false
    → ¬ IsValidOrder kind calls (map (λ (e : Call). pos e.number) cs)
not_replied kind calls cs apart these fails v =
    let known : (e : Call) → In e v.entries → In e calls =
    λ e i. in_from_contains calls e (all_at (Contains calls) v.entries v.known e i) in
    let along : RepliesAlong (empty kind) cs =
    rw (entries_are calls cs v.entries (ordered calls apart) known these v.numbers) at v.replies in
    let holds = along_may_reply cs (empty kind) along in
    cc (fails, holds)

-- an order is not valid if a reply is another one than the recorded one
pub overlapping_enqueues-wrong_reply : ¬ IsValidOrder Queue (calls_on 0 overlapping_enqueues)
    (pos 0 ∷ pos 1 ∷ pos 4 ∷ [])
overlapping_enqueues-wrong_reply =
    not_replied Queue (calls_on 0 overlapping_enqueues) (calls_on 0 overlapping_enqueues) refl
    (inl refl, (inr (inl refl), (inr (inr (inl refl)), tt))) refl

-- an order is not valid if a mutex is acquired while it is held
pub mutex_passed_on-acquire_of_held : ¬ IsValidOrder Mutex (calls_on 0 mutex_passed_on) (pos 0 ∷ pos 2 ∷ pos 3 ∷ [])
mutex_passed_on-acquire_of_held =
    not_replied Mutex (calls_on 0 mutex_passed_on) (calls_on 0 mutex_passed_on) refl
    (inl refl, (inr (inl refl), (inr (inr (inl refl)), tt))) refl

-- ---- event lists that are not histories

-- it is no history if a process invokes while its operation is pending
pub invoked_while_pending-refused : ¬ IsHistory invoked_while_pending
invoked_while_pending-refused h =
    let s = h.well_formed 0 in
    let m = s.0 in
    cc m

-- it is no history if a response answers nothing
pub returned_unasked-refused : ¬ IsHistory returned_unasked
returned_unasked-refused h = let s = h.well_formed 0 in cc s

-- it is no history if a response comes from another object than the invocation's
pub returned_elsewhere-refused : ¬ IsHistory returned_elsewhere
returned_elsewhere-refused h =
    let s = h.well_formed 0 in
    let m = s.0 in
    cc m

-- it is no history if numbers do not rise
pub numbered_backwards-refused : ¬ IsHistory numbered_backwards
numbered_backwards-refused h = let less : 1 < 0 = h.rising 0 1 (invoke 0 0 Dequeue) (lit< tt) (lit< tt) in omega arith
