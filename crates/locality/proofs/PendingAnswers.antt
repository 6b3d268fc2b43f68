-- A history goes on with responses into a well-formed one exactly if they answer pending invocations of their own: by
-- the sequence of each process, which goes on with one response at most.
use Rattle.std.proofs.Common.{◌≡◌, ◌≢◌, ◌↔◌, ℕ, ◌==◌, Bool, true, false, not, cond, inl, inr, List, [], ◌∷◌, ◌++◌}
use Rattle.std.proofs.Common.{filter, All, refl, ap, sym, ◌∙◌}
use Rattle.std.specs.List.{list_any}
use Rattle.std.proofs.lemmas.List.{append-nil}
use Rattle.std.proofs.lemmas.List.Elements.{filter-append, recursion_from_All}
use Rattle.std.proofs.lemmas.Bool.{eqb-true, eq-eqb, and_parts, and_from, or_parts, not_from_false}
use Rattle.model.specs.Histories.{Event, Inv, Res, process_of, is_invocation, by_process, matches, is_pending}
use Rattle.model.specs.Histories.{IsSequential, IsWellFormed}
use Rattle.model.specs.Lists.{In}
use Rattle.model.proofs.Lists.{Pairs, in_filter, in_filter_passes, in_filter_from, pairs_filter, all_from_in}
use Rattle.model.proofs.Lists.{all_at, all_from_pairs, pairs_from_all}
use Rattle.locality.specs.Completions.{IsPendingIn, AnswersPending}
use Rattle.locality.proofs.Cuts.{any_of_process}
use Rattle.locality.proofs.CompletedCalls.{Responses, no_more, same_process}
use Rattle.locality.proofs.ValidOrders.{filter_responses}

matched_invocation : (e f : Event) → matches e f ≡ true → is_invocation e ≡ true
matched_invocation (Inv p x op) f m = refl
matched_invocation (Res p x r) f m = absurd (cc m)

matching_response : (e f : Event) → matches e f ≡ true → is_invocation f ≡ true → ⊥
matching_response (Inv p x op) (Res q y r) m i = cc i
matching_response (Inv p x op) (Inv q y o) m i = cc m
matching_response (Res p x r) f m i = cc m

-- the last event is an invocation that the response matches
record Answered (s : List Event) (response : Event) : Type 0 where
  front : List Event
  invocation : Event
  last : s ≡ front ++ invocation ∷ []
  matching : matches invocation response ≡ true

-- a sequential history goes on with one response at most
answered : (s : List Event) (r : Event) (rs : List Event) → IsSequential s → Responses (r ∷ rs)
    → IsSequential (s ++ r ∷ rs) → Answered s r × (rs ≡ [])
answered [] r rs q a b = let none : r ∷ rs ≡ [] = no_more (r ∷ rs) a b in absurd (cc none)
answered (e ∷ []) r rs q a b = (record { front = []; invocation = e; last = refl; matching = b.0 }, no_more rs a.1 b.1)
answered (e ∷ f ∷ s) r rs q a b =
    let rest = answered s r rs q.1 a b.1 in (
      record {
        front = e ∷ f ∷ rest.0.front;
        invocation = rest.0.invocation;
        last = ap (λ es. e ∷ f ∷ es) rest.0.last;
        matching = rest.0.matching;
      },
      rest.1,
    )

-- and with a response to an invocation that nothing matches yet
goes_on : (before after : List Event) (invocation response : Event) → IsSequential (before ++ invocation ∷ after)
    → list_any (matches invocation) after ≡ false
    → matches invocation response ≡ true → IsSequential ((before ++ invocation ∷ after) ++ response ∷ [])
goes_on [] [] invocation response whole none matching = (matching, tt)
goes_on [] (next ∷ after) invocation response whole none matching =
    let n = (or_parts (matches invocation next) (list_any (matches invocation) after) none).0 in
    let t = whole.0 in
    absurd (cc (n, t))
goes_on (e ∷ []) after invocation response whole none matching =
    absurd (matching_response e invocation whole.0 (matched_invocation invocation response matching))
goes_on (e ∷ next ∷ before) after invocation response whole none matching =
    (whole.0, goes_on before after invocation response whole.1 none matching)

-- a list is cut where what a test keeps of it is
filter_cut : {X : Type 0} (test : X → Bool) (xs front rest : List X) (kept : X) → filter test xs ≡ front ++ kept ∷ rest
    → (before after : List X) × (xs ≡ before ++ kept ∷ after) × (filter test after ≡ rest)
filter_cut test [] [] rest kept same = absurd (cc same)
filter_cut test [] (head ∷ front) rest kept same = absurd (cc same)
filter_cut {X} test (x ∷ xs) front rest kept same =
    here (test x) front same (λ front. filter_cut test xs front rest kept)
  where
    here : (keeps : Bool) (front : List X) → cond keeps (x ∷ filter test xs) (filter test xs) ≡ front ++ kept ∷ rest
        → ((front : List X) → filter test xs ≡ front ++ kept ∷ rest
        → (before after : List X) × (xs ≡ before ++ kept ∷ after) × (filter test after ≡ rest))
        → (before after : List X) × (x ∷ xs ≡ before ++ kept ∷ after) × (filter test after ≡ rest)
    here true [] same below = ([], xs, cc same, cc same)
    here true (head ∷ front) same below =
        let cut = below front (cc same) in
        (x ∷ cut.0, cut.1, ap (λ ys. x ∷ ys) cut.2, cut.3)
    here false front same below =
        let cut = below front same in
        (x ∷ cut.0, cut.1, ap (λ ys. x ∷ ys) cut.2, cut.3)

abbrev Apart : List Event → Type 0
Apart es = Pairs (λ r s. process_of r ≢ process_of s) es

-- where each process has one event at most
apart_from : (es : List Event) → ((p : ℕ) → Pairs (λ r s. ⊥) (by_process p es)) → Apart es
apart_from [] f = tt
apart_from (e ∷ es) f =
    let p : ℕ = process_of e in
    let own : Pairs (λ r s. ⊥) (e ∷ by_process p es) =
    rw (eq-eqb p p refl) at (f p) in (
      λ y i same. own.0 y (in_filter_from (λ v. process_of v == p) y es i (eq-eqb (process_of y) p (sym same))),
      apart_from es (λ p. tail p (process_of e == p) (f p)),
    )
  where
    tail : (p : ℕ) (b : Bool) → Pairs (λ r s. ⊥) (cond b (e ∷ by_process p es) (by_process p es))
        → Pairs (λ r s. ⊥) (by_process p es)
    tail p true h = h.1
    tail p false h = h

module _ (h added : List Event) (sequential : IsWellFormed h) where
  split : (p : ℕ) → by_process p (h ++ added) ≡ by_process p h ++ by_process p added
  split p = filter-append (λ v. process_of v == p) h added

  module _ (responses : Responses added) (whole : IsWellFormed (h ++ added)) where
    goes : (p : ℕ) (rs : List Event) → by_process p added ≡ rs → IsSequential (by_process p h ++ rs)
    goes p rs e = rw e at (rw (split p) at (whole p))

    own_responses : (p : ℕ) (rs : List Event) → by_process p added ≡ rs → Responses rs
    own_responses p rs e = rw e at (filter_responses (λ v. process_of v == p) added responses)

    single : (p : ℕ) (rs : List Event) → by_process p added ≡ rs → Pairs (λ r s. ⊥) rs
    single p [] e = tt
    single p (r ∷ rs) e =
        let none = (answered (by_process p h) r rs (sequential p) (own_responses p (r ∷ rs) e) (goes p (r ∷ rs) e)).1 in
        rw none (λ y i. absurd i, tt)

    answers : (r : Event) (p : ℕ) (rs : List Event) → process_of r ≡ p → by_process p added ≡ rs → In r rs
        → (i : Event) × IsPendingIn h i × (matches i r ≡ true)
    answers r p [] own e i = absurd i
    answers r p (s ∷ rs) own e i =
        let a = answered (by_process p h) s rs (sequential p) (own_responses p (s ∷ rs) e) (goes p (s ∷ rs) e) in
        let only : r ≡ s = elim (rw a.1 at i) [ inl q ↦ q | inr n ↦ absurd n ] in
        let m : matches a.0.invocation r ≡ true = rw only a.0.matching in
        let cut = filter_cut (λ v. process_of v == p) h a.0.front [] a.0.invocation a.0.last in
        let mine : (process_of a.0.invocation == p) ≡ true =
        eq-eqb (process_of a.0.invocation) p (sym (same_process a.0.invocation r m) ∙ own) in
        let none : list_any (matches a.0.invocation) cut.1 ≡ false =
        sym (any_of_process p a.0.invocation cut.1 mine) ∙ ap (list_any (matches a.0.invocation)) cut.3 in (
          a.0.invocation,
          record {
            before = cut.0;
            after = cut.1;
            whole = cut.2;
            pending =
                and_from (is_invocation a.0.invocation) (not (list_any (matches a.0.invocation) cut.1))
                (matched_invocation a.0.invocation r m)
                (not_from_false (list_any (matches a.0.invocation) cut.1) none);
          },
          m,
        )

    pub to_answers : AnswersPending h added
    to_answers = record {
      each = all_from_in (λ r. (i : Event) × IsPendingIn h i × (matches i r ≡ true)) added
          (λ r i. answers r (process_of r) (by_process (process_of r) added) refl refl
          (in_filter_from (λ v. process_of v == process_of r) r added i (eq-eqb (process_of r) (process_of r) refl)));
      apart = all_from_pairs (λ r s. process_of r ≢ process_of s) added
          (apart_from added (λ p. single p (by_process p added) refl));
    }

  module _ (a : AnswersPending h added) where
    own_process : (p : ℕ) (r : Event) → In r (by_process p added) → process_of r ≡ p
    own_process p r i = eqb-true (process_of r) p (in_filter_passes (λ v. process_of v == p) r added i)

    extended : (p : ℕ) (rs : List Event) → by_process p added ≡ rs → IsSequential (by_process p h ++ rs)
    extended p [] e = rw (append-nil (by_process p h)) (sequential p)
    extended p (r ∷ s ∷ rs) e =
        let apart : Apart (r ∷ s ∷ rs) =
        rw e at (pairs_filter (λ r s. process_of r ≢ process_of s) (λ v. process_of v == p) added
        (pairs_from_all (λ r s. process_of r ≢ process_of s) added a.apart)) in
        absurd (apart.0 s (inl refl)
        (own_process p r (rw e (inl refl)) ∙ sym (own_process p s (rw e (inr (inl refl))))))
    extended p (r ∷ []) e =
        let i : In r (by_process p added) = rw e (inl refl) in
        let answer = all_at (λ r. (i : Event) × IsPendingIn h i × (matches i r ≡ true)) added a.each r
        (in_filter (λ v. process_of v == p) r added i) in
        let mine : (process_of answer.0 == p) ≡ true =
        eq-eqb (process_of answer.0) p (sym (same_process answer.0 r answer.2) ∙ own_process p r i) in
        let pend = answer.1 in
        let parts : by_process p h ≡ by_process p pend.before ++ answer.0 ∷ by_process p pend.after =
        ap (by_process p) pend.whole ∙ (filter-append (λ v. process_of v == p) pend.before (answer.0 ∷ pend.after)
        ∙ ap (λ b. by_process p pend.before ++ cond b (answer.0 ∷ by_process p pend.after) (by_process p pend.after))
        mine) in
        let none : list_any (matches answer.0) pend.after ≡ false = unmatched answer.0 pend.after pend.pending in
        rw parts (goes_on (by_process p pend.before) (by_process p pend.after) answer.0 r
        (rw parts at (sequential p)) (any_of_process p answer.0 pend.after mine ∙ none) answer.2)
      where
        unmatched : (i : Event) (later : List Event) → is_pending i later ≡ true → list_any (matches i) later ≡ false
        unmatched i later e = off (list_any (matches i) later)
            (and_parts (is_invocation i) (not (list_any (matches i) later)) e).1
          where
            off : (b : Bool) → not b ≡ true → b ≡ false
            off true e = sym e
            off false e = refl

    pub to_well_formed : IsWellFormed (h ++ added)
    to_well_formed p = rw (split p) (extended p (by_process p added) refl)

-- responses leave a well-formed history well-formed exactly if each of them answers a pending invocation
pub well_formed_iff_answers_pending : (h added : List Event) → IsWellFormed h → All (λ e. is_invocation e ≡ false) added
    → (IsWellFormed (h ++ added) ↔ AnswersPending h added)
well_formed_iff_answers_pending h added w r =
    (to_answers h added w (recursion_from_All (λ e. is_invocation e ≡ false) added r), to_well_formed h added w)
