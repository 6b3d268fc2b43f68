-- One step of the search keeps its invariant: the places so far are a beginning that can be reached, and each choice
-- before the present one is dead. So an end with nothing left to try says that no order is valid (`dead_now`), and one
-- with all calls placed is one.
use Rattle.std.proofs.Common.{◌≡◌, ◌≢◌, ℕ, suc, ◌+◌, ◌<◌, ◌≤◌, ◌⊎◌, inl, inr, List, [], ◌∷◌, ◌++◌, Some, get_or}
use Rattle.std.proofs.Common.{add-one, append_assoc, Bool, true, false, cond, is_some, reverse, ap, sym, ◌∙◌, subst}
use Rattle.std.proofs.Common.{arith}
use Rattle.std.proofs.lemmas.Bool.{cases_eq, cases_lt, cases_order}
use Rattle.std.proofs.lemmas.List.{reverse-append}
use Rattle.model.specs.declared.AnyReply.{AnyReply}
use Rattle.model.specs.Objects.{Content, next}
use Rattle.model.specs.Orders.{Call, Return}
use Rattle.model.specs.Lists.{In}
use Rattle.events.specs.Operations.{Agrees}
use Rattle.order_search.specs.declared.digest.Digest.{Digest}
use Rattle.order_search.specs.declared.step.Undo.{Undo}
use Rattle.order_search.specs.declared.level.Level.{Level}
use Rattle.order_search.specs.Arranged.{owes, count_below}
use Rattle.order_search.specs.Continuations.{IsLeft, Continues, IsDead, IsDeadAt, IsTried}
use Rattle.order_search.specs.Links.{Linked, next_without, before_without, next_with}
use Rattle.order_search.specs.Searching.{places, IsLeast, IsWindow, IsBound, Stack, IsWalk, Position, Turn}
use Rattle.order_search.specs.Searching.{position_before}
use Rattle.order_search.proofs.Positions.{position, turn}
use Rattle.order_search.proofs.Deadness.{dead_child, dead_all}
use Rattle.order_search.proofs.Links.{linked_without, next_again, before_again, within_after}
use Rattle.order_search.proofs.Owed.{count_some, owes_left, owes_more}

-- the least return, while it is looked for
pub record IsLeastBelow (n : ℕ) (call : ℕ → Call) (done : List ℕ) (at least : ℕ) : Type 0 where
  pub below : (j : ℕ) (r : Return) → j < at → IsLeft n done j → (call j).returned ≡ Some r → least ≤ r.at
  pub stands : (least ≡ 4294967295)
      ⊎ ((j : ℕ) × (r : Return) × IsLeft n done j × ((call j).returned ≡ Some r) × (least ≡ r.at))

-- the levels link the places that are left, and bound those that are not
stack_holds : (n : ℕ) (call : ℕ → Call) (start : Content) (ls : List Level) (bs : List Content) (here : Position)
    → Stack n call start ls bs here → Linked n (places ls) here.next here.back × IsBound (places ls) here.high
stack_holds n call start [] [] here s = (s.1, λ k i. absurd i)
stack_holds n call start (l ∷ ls) (b ∷ bs) here s = (s.1, s.2)
stack_holds n call start ls bs here s = absurd s

-- what goes on from a beginning makes with it an order of all
pub continued : (n : ℕ) (call : ℕ → Call) (start : Content) (ls : List Level) (bs : List Content) (here : Position)
    (rest : List ℕ) → Stack n call start ls bs here → Continues n call (places ls) here.content rest
    → Continues n call [] start (reverse (places ls) ++ rest)
continued n call start [] [] here rest s h = subst (λ (x : Content). Continues n call [] x rest) s.0 h
continued n call start (l ∷ ls) (b ∷ bs) here rest s h =
    rw (reverse-append (l.place ∷ []) (places ls), append_assoc) (
    continued n call start ls bs (position_before l b here) (l.place ∷ rest) s.4
    (s.0.left, s.0.candidate, here.content, s.0.placed, h)
    )
continued n call start ls bs here rest s h = absurd s

module _ {n : ℕ} {call : ℕ → Call} where
  -- ---- which places can come next

  -- none from `at` on whose call was invoked after the least return
  pub dead_behind : {done : List ℕ} {c : Content} {at least : ℕ} → IsTried n call done c at
      → IsLeast n call done least → least < 4294967295
      → ((k : ℕ) (r : Return) → k < n → (call k).returned ≡ Some r → (call k).number < r.at) → (k : ℕ)
      → (at ≤ k → IsLeft n done k → least < (call k).number) → IsDeadAt n call done c k
  dead_behind {at = at} t m small ends k late rest h = elim (cases_lt k at) [
    | inl lo ↦ t k lo rest h
    | inr le ↦ elim m.stands [
      | inl e ↦ omega arith
      | inr s ↦
          let b = late le h.0 in
          let e = s.4 in
          h.1 s.0 s.2 (λ q. let l = ends k s.1 h.0.0 (ap (λ (x : ℕ). (call x).returned) (sym q) ∙ s.3) in omega arith)
          (s.1, s.3, omega arith)
    ]
  ]

  -- ---- the least return, while it is looked for

  -- with one more place
  pub least_more : {done : List ℕ} {at more least next_least : ℕ} → IsLeastBelow n call done at least → IsLeft n done at
      → ((j : ℕ) → at < j → j < more → In j done) → next_least ≤ least
      → ((r : Return) → (call at).returned ≡ Some r → next_least ≤ r.at)
      → ((next_least ≡ least) ⊎ ((r : Return) × ((call at).returned ≡ Some r) × (next_least ≡ r.at)))
      → IsLeastBelow n call done more next_least
  least_more {at = at} m l gap low own either = record {
    below = λ j r jm jl q. elim (cases_order j at) [
      | inl e ↦ own r (ap (λ (x : ℕ). (call x).returned) (sym e) ∙ q)
      | inr o ↦ elim o [ inl lo ↦ (let b = m.below j r lo jl q in omega arith) | inr hi ↦ absurd (jl.1 (gap j hi jm)) ]
    ];
    stands = elim either [
      | inl e ↦ rw e m.stands
      | inr s ↦ inr (at, s.0, l, s.1, s.2)
    ];
  }

  -- all that are after return later
  pub least_of_all : {done : List ℕ} {at least : ℕ} → IsLeastBelow n call done at least
      → ((j : ℕ) (r : Return) → at ≤ j → j < n → (call j).returned ≡ Some r → least ≤ r.at) → IsLeast n call done least
  least_of_all {at = at} m later = record {
    below = λ j r jl q. elim (cases_lt j at) [ inl lo ↦ m.below j r lo jl q | inr le ↦ later j r le jl.0 q ];
    stands = m.stands;
  }

  module _ {start : Content} {ls : List Level} {bs : List Content} {here : Position} {t : Turn}
      (w : IsWalk n call start ls bs here t) where
    -- the lists of a search link the places that are left
    pub walk_linked : Linked n (places ls) here.next here.back
    walk_linked = (stack_holds n call start ls bs here w.stack).0

    -- the places of the levels are below the bound of the search
    pub walk_bound : IsBound (places ls) here.high
    walk_bound = (stack_holds n call start ls bs here w.stack).1

    -- the place that a search tries next is left, unless it is the end
    pub walk_left : t.at < n → IsLeft n (places ls) t.at
    walk_left l = (l, w.stop.left l)

    -- the places of the levels, and the one that is tried, are below a bound that is greater
    pub bound_more : {high : ℕ} → here.high ≤ high → t.at < high → IsBound (t.at ∷ places ls) high
    bound_more hi hat k i = elim i [ inl e ↦ omega (arith, e) | inr m ↦ (let b = walk_bound k m in omega arith) ]

    -- a walk that has no place left to try
    pub dead_now : ((k : ℕ) → IsDeadAt n call (places ls) here.content k) → IsDead n call (places ls) here.content
    dead_now d =
        let some = count_some (owes call (places ls)) n (rw w.counts at w.owed) in
        let o = owes_left n call (places ls) some.0 some.1 some.2 in
        dead_all o.0 o.1.1 d

    -- on to the next place that is left
    pub passed : {at : ℕ} → t.at < n → IsDeadAt n call (places ls) here.content t.at
        → at ≡ get_or here.next (t.at + 1) 0 → IsWalk n call start ls bs here (turn at t.window t.left)
    passed l d e =
        let f = walk_linked.forth (suc t.at) (omega arith) (walk_left l) in
        let up = f.rises in
        rw (e, add-one) (record {
          stack = w.stack;
          tried = λ k b rest h. elim (cases_lt k t.at) [
            | inl lo ↦ w.tried k lo rest h
            | inr le ↦ elim (cases_eq k t.at) [
              | inl q ↦ d rest (rw q at h)
              | inr ne ↦ h.0.1 (f.gap k (omega arith) b)
            ]
          ];
          is_window = w.is_window;
          stop = f.stop;
          counts = w.counts;
          owed = w.owed;
        })

    -- one more level
    pub taken_out : {nx pv : List ℕ} → t.at < n → nx ≡ next_without here.next here.back t.at
        → pv ≡ before_without here.next here.back t.at → Linked n (t.at ∷ places ls) nx pv
    taken_out l e f = rw (e, f) (linked_without walk_linked (walk_left l))

    -- one more call is placed: the search has one more level
    pub stepped : (undo : Undo) (digest : Digest) {after : Content} {gives : AnyReply} {nx pv : List ℕ} {high : ℕ}
        → t.at < n → (call t.at).number ≤ t.window.least → next here.content (call t.at).op ≡ Some (after, gives)
        → Agrees (call t.at).returned gives → here.high ≤ high → t.at < high
        → nx ≡ next_without here.next here.back t.at → pv ≡ before_without here.next here.back t.at → Stack n call start
        (record { place = t.at; undo = undo; window = t.window; high = here.high; digest = digest } ∷ ls)
        (here.content ∷ bs) (position after nx pv high)
    stepped undo digest {gives = gives} l low does agrees hi hat e f =
        let left = walk_left l in
        rw (e, f) (
          record {
            left = left;
            candidate = λ j jl ne b. omega (arith, w.is_window.is_least.below j b.0 jl b.1, b.2);
            placed = record { reply = gives; does = does; agrees = agrees };
            tried = w.tried;
            is_window = w.is_window;
          },
          linked_without walk_linked left,
          bound_more hi hat,
          within_after walk_linked left,
          rw (next_again walk_linked left, before_again walk_linked left) w.stack,
        )

    -- what is owed then
    pub owed_less : {left : ℕ} → t.at < n → t.left ≡ cond (is_some (call t.at).returned) (left + 1) left
        → left ≡ count_below (owes call (t.at ∷ places ls)) n
    owed_less {left} l e =
        less (is_some (call t.at).returned) e (w.counts ∙ owes_more n call (places ls) t.at (walk_left l))
      where
        less : {k : ℕ} (b : Bool) → t.left ≡ cond b (left + 1) left → t.left ≡ cond b (suc k) k → left ≡ k
        less true p q = omega arith
        less false p q = omega arith

    -- the first place that is pending, with one place more in the order
    pub window_moved : {least pending : ℕ} → t.at < n
        → (t.at ≡ t.window.pending → pending ≡ get_or here.next (t.at + 1) 0)
        → (t.at ≢ t.window.pending → pending ≡ t.window.pending) → IsLeast n call (t.at ∷ places ls) least
        → IsWindow n call (t.at ∷ places ls) (record { least = least; pending = pending })
    window_moved l same other m = elim (cases_eq t.at t.window.pending) [
      | inl e ↦
          let f = walk_linked.forth (suc t.at) (omega arith) (walk_left l) in
          let up = f.rises in
          rw (same e, add-one) (record {
            is_least = m;
            returned = λ k b i. elim (cases_lt k t.at) [
              | inl lo ↦ w.is_window.returned k (omega (arith, e)) (i.0, λ z. i.1 (inr z))
              | inr le ↦ elim (cases_eq k t.at) [
                | inl q ↦ absurd (i.1 (inl q))
                | inr ne ↦ absurd (i.1 (inr (f.gap k (omega arith) (omega arith))))
              ]
            ];
            stop = record {
              within = f.stop.within;
              left = λ b i. elim i [ inl q ↦ absurd (omega (arith, q)) | inr z ↦ f.stop.left b z ];
            };
          })
      | inr ne ↦ rw (other ne) (record {
        is_least = m;
        returned = λ k b i. w.is_window.returned k b (i.0, λ z. i.1 (inr z));
        stop = record {
          within = w.is_window.stop.within;
          left = λ b i. elim i [ inl q ↦ ne (sym q) | inr z ↦ w.is_window.stop.left b z ];
        };
      })
    ]

  -- a walk starts anew at the first place that is left
  pub placed : {start : Content} {ls : List Level} {bs : List Content} {here : Position} {t : Turn}
      → Stack n call start ls bs here → t.at ≡ get_or here.next 0 0 → IsWindow n call (places ls) t.window
      → t.left ≡ count_below (owes call (places ls)) n → 0 < t.left → IsWalk n call start ls bs here t
  placed {start} {ls} {bs} {here} s e is_window counts owed =
      let f = (stack_holds n call start ls bs here s).0.forth 0 (omega arith) tt in
      record {
        stack = s;
        tried = λ k l rest h. h.0.1 (f.gap k (omega arith) (omega arith));
        is_window = is_window;
        stop = rw e f.stop;
        counts = counts;
        owed = owed;
      }

  -- back to the level before, whose place is dead
  pub came_back : {start : Content} {lv : Level} {ls : List Level} {b : Content} {bs : List Content}
      {here : Position} {t : Turn} {at left : ℕ} → IsWalk n call start (lv ∷ ls) (b ∷ bs) here t
      → IsDead n call (lv.place ∷ places ls) here.content
      → at ≡ get_or (next_with here.next here.back lv.place) (lv.place + 1) 0
      → left ≡ cond (is_some (call lv.place).returned) (t.left + 1) t.left
      → IsWalk n call start ls bs (position_before lv b here) (turn at lv.window left)
  came_back {start} {lv} {ls} {b} {bs} {here} {t} {at} {left} w d e owed =
      let f = w.stack.0 in
      let l = f.left.0 in
      let more = owes_more n call (places ls) lv.place f.left in
      let before : IsWalk n call start ls bs (position_before lv b here) (turn lv.place lv.window left) = record {
        stack = w.stack.4;
        tried = f.tried;
        is_window = f.is_window;
        stop = record { within = omega arith; left = λ m. f.left.1 };
        counts = cc (owed, more, w.counts, add-one t.left);
        owed = rw owed (rise (is_some (call lv.place).returned) w.owed);
      } in
      passed before l (dead_child f.placed.does d) e
    where
      rise : {k : ℕ} (b : Bool) → 0 < k → 0 < cond b (k + 1) k
      rise true l = omega arith
      rise false l = omega arith
