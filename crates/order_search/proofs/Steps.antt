-- The steps of the search as its code makes them: back a level, on to the next place, or a dead end, are those of
-- `Stack`. Which places are passed is read from the floors of the arranged operations.
use Rattle.std.proofs.Common.{◌≡◌, ℕ, zero, suc, add-one, ◌<◌, ◌≤◌, ◌+◌, Bool, true, false, cond, ◌⊎◌, inl, inr, List}
use Rattle.std.proofs.Common.{[], ◌∷◌, ◌++◌, append_assoc, Some, IsSome, length, reverse, get_or, take, refl, ap, sym}
use Rattle.std.proofs.Common.{◌∙◌, arith}
use Rattle.std.proofs.lemmas.List.{reverse-append, reverse-reverse, get_or_default, append-nil, take_all, map-append}
use Rattle.model.specs.declared.Kind.{Kind}
use Rattle.model.specs.Objects.{Content, next}
use Rattle.model.specs.declared.AnyReply.{AnyReply}
use Rattle.model.specs.Orders.{Call, Return}
use Rattle.events.specs.declared.operations.Operation.{Operation}
use Rattle.events.specs.Operations.{return_of}
use Rattle.order_search.specs.declared.level.Level.{Level}
use Rattle.order_search.specs.Continuations.{Continues, IsDead, IsDeadAt, IsDeadPair}
use Rattle.order_search.specs.Links.{Linked, IsSlot, IsStop, IsNextLeft, LeadsThrough, next_without}
use Rattle.order_search.specs.Searching.{places, IsLeast, Stack, IsWalk, Position, Turn}
use Rattle.order_search.specs.Arranged.{as_call, call_at, owes, count_below, IsArranged}
use Rattle.order_search.proofs.Positions.{turn}
use Rattle.order_search.proofs.Deadness.{dead_child, dead_again}
use Rattle.order_search.proofs.Links.{listed, linked_without}
use Rattle.order_search.proofs.Stack.{IsLeastBelow, least_more, least_of_all, dead_now, dead_behind, walk_linked}
use Rattle.order_search.proofs.Stack.{walk_bound}
use Rattle.order_search.proofs.Stack.{walk_left, bound_more, continued}
use Rattle.order_search.proofs.Owed.{none_owed}

-- ---- levels and places

-- the levels with one more, the last one first
pub pushed : {X : Type 0} (olds : List X) {news : List X} {x : X}
    → news ≡ olds ++ x ∷ [] → reverse news ≡ x ∷ reverse olds
pushed olds e = rw (e, reverse-append)

-- no more numbers below n pass a test than there are
pub count_le : (f : ℕ → Bool) (n : ℕ) → count_below f n ≤ n
count_le f zero = omega arith
count_le f (suc n) = go (f n) (count_le f n)
  where
    go : (b : Bool) → count_below f n ≤ n → cond b (suc (count_below f n)) (count_below f n) ≤ suc n
    go true l = omega arith
    go false l = omega arith

-- the call at a place, however its invocation was read
pub call_read : (items : List Operation) (k : ℕ) (d : Operation) → k < length items
    → as_call (get_or items k d) ≡ call_at items k
call_read items k d l = ap as_call (get_or_default items k d _ l)

-- the links list these places from the start, if they do so up to the end or to a place that is not below `high`
pub listed_end : (nx us : List ℕ) (slot high place : ℕ)
    → ((rest : List ℕ) → LeadsThrough nx slot rest high → LeadsThrough nx 0 (us ++ rest) high)
    → slot < length nx → get_or nx slot 0 ≡ place → ((high ≤ place) ⊎ (length nx ≤ suc place))
    → LeadsThrough nx 0 us high
listed_end nx us slot high place front l e end = rw append-nil at (front [] (l, rw e end))

-- the loop over the links has listed all places below `high`
pub below_end : (nx nx2 us : List ℕ) (i slot high place : ℕ) → nx2 ≡ nx
    → ((rest : List ℕ) → LeadsThrough nx slot rest high → LeadsThrough nx 0 (take i us ++ rest) high) → length us ≤ i
    → (slot < length nx2)
    × ((d : ℕ) → place ≡ get_or nx2 slot d) → ((high ≤ place) ⊎ (length nx2 ≤ place + 1)) → LeadsThrough nx 0 us high
below_end nx nx2 us i slot high place e front all here end =
    rw (take_all i us all) at (
    listed_end nx (take i us) slot high place front (rw e at here.0) (sym (rw e at (here.1 0))) (rw (e, add-one) at end)
    )

-- one more place of those below `high`
pub below_step : (n : ℕ) (done nx pv us us2 : List ℕ) (slot place high : ℕ) → Linked n done nx pv → slot ≤ n
    → IsSlot n done slot
    → ((rest : List ℕ) → LeadsThrough nx slot rest high → LeadsThrough nx 0 (us ++ rest) high)
    → place ≡ get_or nx slot 0
    → place + 1 < length nx → us2 ≡ us ++ place ∷ [] →
    (place + 1 ≤ n) × IsSlot n done (place + 1)
    × ((rest : List ℕ) → LeadsThrough nx (place + 1) rest high → LeadsThrough nx 0 (us2 ++ rest) high)
below_step n done nx pv us us2 slot place high link le sl front e inside eu =
    let long = link.long_next in
    let f : IsNextLeft n done slot place = rw (← e) at (link.forth slot le sl) in (
      omega arith,
      rw add-one (omega arith, f.stop.left (omega arith)),
      λ rest w. rw (eu, append_assoc) (front (place ∷ rest) (omega arith, sym e, rw add-one at w)),
    )

-- ---- the least return, while it is looked for

-- the place after one that is left is linked to it, or is the end
pub next_stop : {n : ℕ} {done nx pv : List ℕ} {at : ℕ} → Linked n done nx pv → IsStop n done at → at < n
    → IsNextLeft n done (suc at) (get_or nx (suc at) 0) × (at + 1 < length nx)
next_stop {at = at} link stop l =
    let long = link.long_next in (link.forth (suc at) (omega arith) (l, stop.left l), omega arith)

module _ (items : List Operation) where
  -- the least return with one more place looked at, and the next place
  pub least_step : (o : Operation) {done nx pv : List ℕ} {at at2 least next_least : ℕ}
      → Linked (length items) done nx pv
      → IsLeastBelow (length items) (call_at items) done at least × IsStop (length items) done at → at < length items
      → as_call o ≡ call_at items at → at2 ≡ get_or nx (at + 1) 0 →
      next_least ≤ least → ((r : Return) → return_of o.«end» ≡ Some r → next_least ≤ r.at)
      → ((next_least ≡ least) ⊎ ((r : Return) × (return_of o.«end» ≡ Some r) × (next_least ≡ r.at))) →
      IsLeastBelow (length items) (call_at items) done at2 next_least × IsStop (length items) done at2
  least_step o {at = at} link m l eo ea low own either =
      let f = (next_stop link m.1 l).0 in
      let ret : return_of o.«end» ≡ (call_at items at).returned = ap (λ (x : Call). x.returned) eo in
      rw (ea, add-one) (
        least_more m.0 (l, m.1.left l) (λ j a b. f.gap j (omega arith) b) low (rw ret at own) (rw ret at either),
        f.stop,
      )

  -- before the first place was looked at there is no least return
  pub least_first : {done nx pv : List ℕ} {at : ℕ} → Linked (length items) done nx pv → at ≡ get_or nx 0 0
      → IsLeastBelow (length items) (call_at items) done at 4294967295 × IsStop (length items) done at
  least_first link ea =
      let f = link.forth 0 (omega arith) tt in
      rw ea (record { below = λ j r l jl q. absurd (jl.1 (f.gap j (omega arith) l)); stands = inl refl }, f.stop)

  -- an operation that is not possible, by the invocation as it was read
  pub dead_impossible : (o : Operation) (done : List ℕ) {c : Content} {at : ℕ} → as_call o ≡ call_at items at
      → (IsSome (next c o.op) → ⊥) → IsDeadAt (length items) (call_at items) done c at
  dead_impossible o done e never rest h = never (rw (ap (λ (x : Call). x.op) e, h.3.does) refl)

module _ {kind : Kind} {items : List Operation} {floors return_floors : List ℕ} {pending : ℕ}
    (t : IsArranged kind items floors return_floors pending) where
  -- the least return so far is the least of all, if the returns of the places from here on are greater
  pub least_last : {done : List ℕ} {at least : ℕ} → IsLeastBelow (length items) (call_at items) done at least
      → ((length items ≤ at) ⊎ (least < get_or return_floors at 0)) → IsLeast (length items) (call_at items) done least
  least_last m o = least_of_all m (λ j r a b q. elim o [
    | inl e ↦ absurd (omega arith)
    | inr e ↦ omega (arith, t.return_floors_right.below _ j a b (inr (rw q refl)), t.ends j r b q)
  ])

  module _ {start : Content} {ls : List Level} {bs : List Content} {here : Position} {to : Turn}
      (w : IsWalk (length items) (call_at items) start ls bs here to) where
    -- nothing goes on where each place that was not tried is invoked after the least return
    pub dead_here : ((length items ≤ to.at)
        ⊎ ((to.window.least < 4294967295) × (to.window.least < get_or floors to.at 0)))
        → IsDead (length items) (call_at items) (places ls) here.content
    dead_here o = dead_now w (elim o [
      | inl e ↦ λ k rest h. let kn = h.0.0 in w.tried k (omega arith) rest h
      | inr r ↦
          let l = r.1 in λ k. dead_behind w.tried w.is_window.is_least r.0 t.ends k
          (λ a b. let f = t.floors_right.below to.at k a b.0 (inl refl) in omega arith)
    ])

    -- The place at hand is dead if its call was invoked after the least return.
    pub dead_too_late : (o : Operation) → as_call o ≡ call_at items to.at → to.window.least < 4294967295
        → to.window.least < o.number → IsDeadAt (length items) (call_at items) (places ls) here.content to.at
    dead_too_late o eo small late =
        let e = ap (λ (x : Call). x.number) eo in
        dead_behind w.tried w.is_window.is_least small t.ends to.at (λ a b. omega arith)

    -- on to the first pending place, where all that come before it and returned were invoked after the least return
    pub skipped : to.window.least < 4294967295 → to.window.least < get_or return_floors to.at 0
        → IsWalk (length items) (call_at items) start ls bs here (turn to.window.pending to.window to.left)
    skipped small late = record {
      stack = w.stack;
      tried = λ k l. dead_behind w.tried w.is_window.is_least small t.ends k (λ a b.
          let f = t.return_floors_right.below to.at k a b.0 (inr (w.is_window.returned k l b)) in omega arith);
      is_window = w.is_window;
      stop = w.is_window.stop;
      counts = w.counts;
      owed = w.owed;
    }

-- ---- the end, and dead ends

-- nothing is owed: the levels are an order
pub over_now : (n : ℕ) (call : ℕ → Call) (start : Content) (levels : List Level) (bs : List Content)
    (here : Position) {left : ℕ}
    → Stack n call start (reverse levels) bs here → left ≡ count_below (owes call (places (reverse levels))) n
    → left ≡ 0 → Continues n call [] start (places levels)
over_now n call start levels bs here s counts zero_left =
    rw (places-reverse levels, reverse-reverse, append-nil) at (
    continued n call start (reverse levels) bs here [] s
    (none_owed n call (places (reverse levels)) (sym counts ∙ zero_left))
    )
  where
    places-reverse : (ls : List Level) → places (reverse ls) ≡ reverse (places ls)
    places-reverse [] = refl
    places-reverse (l ∷ ls) = ap places (reverse-append (l ∷ []) ls) ∙ map-append (λ l. l.place) (reverse ls) (l ∷ [])
        ∙ ap (λ (zs : List ℕ). zs ++ l.place ∷ []) (places-reverse ls) ∙ sym (reverse-append (l.place ∷ []) (places ls))

module _ {n : ℕ} {call : ℕ → Call} where
  module _ {start : Content} {ls : List Level} {bs : List Content} {here : Position} {to : Turn}
      (w : IsWalk n call start ls bs here to) where
    -- the pair that the search remembers where a walk is dead
    pub dead_pair : {not_done : List ℕ} → IsDead n call (places ls) here.content
        → LeadsThrough here.next 0 not_done here.high
        → IsDeadPair n call here.high not_done here.content
    dead_pair d h = record { done = places ls; describes = listed (walk_linked w) (walk_bound w) h; dead = d }

    -- the next place is greater
    pub pass_rises : to.at < n → (to.at < get_or here.next (to.at + 1) 0) × (to.at + 1 < length here.next)
    pass_rises l =
        let s = next_stop (walk_linked w) w.stop l in
        let f = s.0.rises in
        (rw add-one f, s.1)

    -- a remembered pair is met: the place that leads to it is dead
    pub hit : {after cp : Content} {nx us : List ℕ} {high hp : ℕ} {gives : AnyReply} → to.at < n
        → next here.content (call to.at).op ≡ Some (after, gives) → nx ≡ next_without here.next here.back to.at
        → LeadsThrough nx 0 us high → here.high ≤ high → to.at < high → IsDeadPair n call hp us cp → hp ≡ high
        → cp ≡ after
        → IsDeadAt n call (places ls) here.content to.at
    hit {after} {cp} {nx} {us} {high} {hp} {gives} l does en lists hi hat pair eh ec =
        let pair2 : IsDeadPair n call high us after = rw (eh, ec) at pair in
        dead_child does (dead_again pair2
        (listed (linked_without (walk_linked w) (walk_left w l)) (bound_more w hi hat) (rw en at lists)))
