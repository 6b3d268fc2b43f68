-- The linked list of the places that are left: to take a place out joins its neighbours (`linked_without`), and to
-- put it back restores both links (`next_again`, `before_again`). A slot is a place or the head, each with its next
-- stop.
use Rattle.std.proofs.Common.{◌≡◌, ◌≢◌, ℕ, zero, suc, ◌<◌, ◌≤◌, inl, inr, List, [], ◌∷◌, length, set, get_or, refl}
use Rattle.std.proofs.Common.{ap, sym, ◌∙◌, arith}
use Rattle.std.proofs.lemmas.List.{length-set, get_or-set_same, get_or-set_other, set-get_or}
use Rattle.std.proofs.lemmas.Bool.{cases_eq, cases_order}
use Rattle.model.specs.Lists.{In}
use Rattle.order_search.specs.Continuations.{IsLeft, Describes}
use Rattle.order_search.specs.Links.{IsSlot, IsStop, IsFilledGap, IsNextLeft, IsSlotBefore, Linked, next_without}
use Rattle.order_search.specs.Links.{before_without, next_with, before_with, AreWithin, LeadsThrough}
use Rattle.order_search.specs.Searching.{IsBound}

-- ---- slots and stops

slot_within : (n : ℕ) (done : List ℕ) (s : ℕ) → IsSlot n done s → s ≤ n
slot_within n done zero h = omega arith
slot_within n done (suc k) h = let l = h.0 in omega arith

-- of two slots with the same stop after a gap, neither is less
same_slot_le : (n : ℕ) (done : List ℕ) (one other stop : ℕ) → IsSlot n done other → other ≤ stop
    → IsFilledGap done one stop → one < other → ⊥
same_slot_le n done one zero stop h le gap l = omega arith
same_slot_le n done one (suc k) stop h le gap l = h.1 (gap k (omega arith) (omega arith))

same_slot : {n : ℕ} {done : List ℕ} {s t q : ℕ} → IsSlotBefore n done s q → IsSlotBefore n done t q → s ≡ t
same_slot {n} {done} {s} {t} {q} a b = elim (cases_order s t) [
  | inl e ↦ e
  | inr o ↦ elim o [
    | inl l ↦ absurd (same_slot_le n done s t q b.slot b.rises a.gap l)
    | inr l ↦ absurd (same_slot_le n done t s q a.slot a.rises b.gap l)
  ]
]

same_stop : {n : ℕ} {done : List ℕ} {s p q : ℕ} → IsNextLeft n done s p → IsNextLeft n done s q → p ≡ q
same_stop {n} {done} {s} {p} {q} a b = elim (cases_order p q) [
  | inl e ↦ e
  | inr o ↦ elim o [
    | inl l ↦ let w = b.stop.within in absurd (a.stop.left (omega arith) (b.gap p a.rises l))
    | inr l ↦ let w = a.stop.within in absurd (b.stop.left (omega arith) (a.gap q b.rises l))
  ]
]

-- ---- the neighbours of a place

-- what a list with its neighbours knows of a place that is left
pub record Around (n : ℕ) (done nx pv : List ℕ) (k : ℕ) : Type 0 where
  pub left : IsLeft n done k
  pub behind : IsNextLeft n done (suc k) (get_or nx (suc k) 0)
  pub front : IsSlotBefore n done (get_or pv k 0) k
  pub first : get_or nx (get_or pv k 0) 0 ≡ k
  pub last : get_or pv (get_or nx (suc k) 0) 0 ≡ suc k
  pub next_in : get_or pv k 0 < length nx
  pub before_in : get_or nx (suc k) 0 < length pv

slot_less : (n : ℕ) (done : List ℕ) (k s : ℕ) → IsSlot n (k ∷ done) s → IsSlot n done s
slot_less n done k zero h = tt
slot_less n done k (suc j) h = (h.0, λ i. h.1 (inr i))

slot_more : (n : ℕ) (done : List ℕ) (k s : ℕ) → IsSlot n done s → s ≢ suc k → IsSlot n (k ∷ done) s
slot_more n done k zero h ne = tt
slot_more n done k (suc j) h ne = (h.0, λ i. elim i [ inl e ↦ ne (ap suc e) | inr m ↦ h.1 m ])

stop_more : {n : ℕ} {done : List ℕ} {k q : ℕ} → IsStop n done q → q ≢ k → IsStop n (k ∷ done) q
stop_more h ne = record { within = h.within; left = λ l i. elim i [ inl e ↦ ne e | inr m ↦ h.left l m ] }

-- over k, which is now in the beginning
gap_joined : (done : List ℕ) {k s q : ℕ} → IsFilledGap done s k → IsFilledGap done (suc k) q
    → IsFilledGap (k ∷ done) s q
gap_joined done {k} g h j a b = elim (cases_order j k) [
  | inl e ↦ inl e
  | inr o ↦ elim o [ inl l ↦ inr (g j a l) | inr l ↦ inr (h j l b) ]
]

set_twice : (xs : List ℕ) (i a b : ℕ) → set (set xs i a) i b ≡ set xs i b
set_twice [] i a b = refl
set_twice (x ∷ xs) zero a b = refl
set_twice (x ∷ xs) (suc i) a b = ap (λ ys. x ∷ ys) (set_twice xs i a b)

set_back : (xs : List ℕ) (i a b : ℕ) → get_or xs i 0 ≡ b → set (set xs i a) i b ≡ xs
set_back xs i a b e = set_twice xs i a b ∙ ap (set xs i) (sym e) ∙ set-get_or xs i 0

-- ---- a place taken out, and put back

module _ {n : ℕ} {done nx pv : List ℕ} (h : Linked n done nx pv) where
  module _ {k : ℕ} (l : IsLeft n done k) where
    pub around : Around n done nx pv k
    around =
        let kn = l.0 in
        let here : IsStop n done k = record { within = omega arith; left = λ m. l.1 } in
        let b = h.back k here in
        let f = h.forth (suc k) kn l in
        let sn = slot_within n done (get_or pv k 0) b.slot in
        let qn = f.stop.within in
        let ln = h.long_next in
        let lb = h.long_before in
        record {
          left = l;
          behind = f;
          front = b;
          first = same_stop (h.forth (get_or pv k 0) sn b.slot) (record { rises = b.rises; stop = here; gap = b.gap });
          last = same_slot (h.back (get_or nx (suc k) 0) f.stop) (record { rises = f.rises; slot = l; gap = f.gap });
          next_in = omega arith;
          before_in = omega arith;
        }

    -- the two lists link the places that are left without k
    pub linked_without : Linked n (k ∷ done) (next_without nx pv k) (before_without nx pv k)
    linked_without =
        let a = around in
        let p : ℕ = get_or pv k 0 in
        let q : ℕ = get_or nx (suc k) 0 in
        let pk : p ≤ k = a.front.rises in
        let kq : suc k ≤ q = a.behind.rises in
        record {
          long_next = length-set nx p q ∙ h.long_next;
          long_before = length-set pv q p ∙ h.long_before;
          forth = λ s le sl. elim (cases_eq s p) [
            | inl e ↦ rw (e, get_or-set_same nx p q 0 a.next_in) (record {
              rises = omega arith;
              stop = stop_more a.behind.stop (λ m. omega (arith, m));
              gap = gap_joined done a.front.gap a.behind.gap;
            })
            | inr ne ↦
                let f = h.forth s le (slot_less n done k s sl) in
                rw (get_or-set_other nx p s q 0 ne) (record {
                  rises = f.rises;
                  stop = stop_more f.stop (λ m. ne (same_slot
                      (record { rises = rw m at f.rises; slot = slot_less n done k s sl; gap = rw m at f.gap })
                      a.front));
                  gap = λ j a b. inr (f.gap j a b);
                })
          ];
          back = λ t st. elim (cases_eq t q) [
            | inl e ↦ rw (e, get_or-set_same pv q p 0 a.before_in) (record {
              rises = omega arith;
              slot = slot_more n done k p a.front.slot (λ m. omega (arith, m));
              gap = gap_joined done a.front.gap a.behind.gap;
            })
            | inr ne ↦
                let less : IsStop n done t = record { within = st.within; left = λ l i. st.left l (inr i) } in
                let b = h.back t less in
                rw (get_or-set_other pv q t p 0 ne) (record {
                  rises = b.rises;
                  slot = slot_more n done k (get_or pv t 0) b.slot (λ m. ne (same_stop
                      (record { rises = omega (arith, m, b.rises); stop = less; gap = rw m at b.gap }) a.behind));
                  gap = λ j a c. inr (b.gap j a c);
                })
          ];
        }

    -- what put_back reads after take_out is as it was
    kept_next : get_or (next_without nx pv k) (suc k) 0 ≡ get_or nx (suc k) 0
    kept_next =
        let r = around.front.rises in
        get_or-set_other nx (get_or pv k 0) (suc k) (get_or nx (suc k) 0) 0 (λ e. omega (arith, e))

    kept_before : get_or (before_without nx pv k) k 0 ≡ get_or pv k 0
    kept_before =
        let r = around.behind.rises in
        get_or-set_other pv (get_or nx (suc k) 0) k (get_or pv k 0) 0 (λ e. omega (arith, e))

    -- the place and its neighbours are within the lists, before and after
    pub within_before : AreWithin nx pv k
    within_before =
        let a = around in
        let kn = l.0 in
        let ln = h.long_next in
        let lb = h.long_before in
        record { here_next = omega arith; here_before = omega arith; next_in = a.next_in; before_in = a.before_in }

    -- after k is taken out, k and its neighbours are still within the lists
    pub within_after : AreWithin (next_without nx pv k) (before_without nx pv k) k
    within_after =
        let w = within_before in
        record {
          here_next = rw length-set w.here_next;
          here_before = rw length-set w.here_before;
          next_in = rw (kept_before, length-set) w.next_in;
          before_in = rw (kept_next, length-set) w.before_in;
        }

    -- put_back undoes take_out
    pub next_again : next_with (next_without nx pv k) (before_without nx pv k) k ≡ nx
    next_again = rw kept_before (set_back nx (get_or pv k 0) (get_or nx (suc k) 0) k around.first)

    -- the previous slots are as before if k is taken out and put back
    pub before_again : before_with (next_without nx pv k) (before_without nx pv k) k ≡ pv
    before_again = rw kept_next (set_back pv (get_or nx (suc k) 0) (get_or pv k 0) (suc k) around.last)

  -- ---- the places that the list of links gives

  -- the first place to which the links lead is left
  listed_here : (s u : ℕ) (us : List ℕ) (high : ℕ) → s ≤ n → IsSlot n done s → LeadsThrough nx s (u ∷ us) high
      → IsLeft n done u
  listed_here s u us high le sl w =
      let long = h.long_next in
      let l = inside us w.2 in
      let f : IsNextLeft n done s u = rw w.1 at (h.forth s le sl) in
      (omega arith, f.stop.left (omega arith))
    where
      inside : (vs : List ℕ) → LeadsThrough nx (suc u) vs high → suc u < length nx
      inside [] w = w.0
      inside (v ∷ vs) w = w.0

  -- each place to which the links lead is left
  listed_left : (s : ℕ) (us : List ℕ) (high : ℕ) → s ≤ n → IsSlot n done s → LeadsThrough nx s us high → (k : ℕ)
      → In k us
      → IsLeft n done k
  listed_left s [] high le sl w k i = absurd i
  listed_left s (u ∷ us) high le sl w k i =
      let here = listed_here s u us high le sl w in
      elim i [ inl e ↦ rw e here | inr m ↦ listed_left (suc u) us high here.0 here w.2 k m ]

  -- each place below the bound to which no link leads is done
  listed_cover : (s : ℕ) (us : List ℕ) (high : ℕ) → s ≤ n → IsSlot n done s → LeadsThrough nx s us high
      → (k : ℕ) → s ≤ k → k < n → k < high → (In k us → ⊥) → In k done
  listed_cover s [] high le sl w k sk kn kh out =
      let long = h.long_next in
      (h.forth s le sl).gap k sk (elim w.1 [ inl top ↦ omega arith | inr last ↦ omega arith ])
  listed_cover s (u ∷ us) high le sl w k sk kn kh out =
      let here = listed_here s u us high le sl w in
      elim (cases_order k u) [
        | inl q ↦ absurd (out (inl q))
        | inr o ↦ elim o [
          | inl l ↦ (h.forth s le sl).gap k sk (omega (arith, w.1))
          | inr l ↦ listed_cover (suc u) us high here.0 here w.2 k l kn kh (λ i. out (inr i))
        ]
      ]

  -- the links list the places below the bound that are not done
  pub listed : {us : List ℕ} {high : ℕ} → IsBound done high → LeadsThrough nx 0 us high → Describes n high us done
  listed {us} {high} b w = record {
    bound = b;
    apart = λ k i. (listed_left 0 us high (omega arith) tt w k i).1;
    cover = λ k kn kh out. listed_cover 0 us high (omega arith) tt w k (omega arith) kn kh out;
  }
