-- The beginning of a valid order, up to the last call that returned before a moment, is a valid order of what was
-- invoked before that moment: each of its calls is one that returned by then, or is before one.
use Rattle.std.proofs.Common.{◌≡◌, ◌≢◌, ◌⊎◌, inl, inr, ℕ, ℤ, pos, ◌<◌, nat_lt, Bool, true, false, cond, List, []}
use Rattle.std.proofs.Common.{◌∷◌, Option, Some, IfSome}
use Rattle.std.proofs.Common.{IsSome, is_some, map, filter, All, Contains, refl, ap, sym, ◌∙◌, subst, arith}
use Rattle.std.proofs.lemmas.Bool.Decides.{nat_tests}
use Rattle.model.specs.declared.Kind.{Kind}
use Rattle.model.specs.Objects.{Content, empty}
use Rattle.model.specs.Orders.{Call, Return, ReturnsBefore, RepliesAlong, IsValidOrder}
use Rattle.model.specs.Lists.{In}
use Rattle.model.proofs.Lists.{Pairs, in_filter, in_filter_from, in_map, in_map_from, contains_from_in, all_from_in}
use Rattle.model.proofs.Lists.{all_at, all_from_pairs, pairs_weaker, pairs_map}
use Rattle.cuts.specs.Parts.{return_before, call_before, calls_before}
use Rattle.cuts.proofs.Ordered.{in_calls, in_entries, named_apart, in_time_order}
use Rattle.cuts.proofs.Booleans.{false_is_not_true}

true_lt : (a b : ℕ) → a < b → nat_lt a b ≡ true
true_lt a b e = grind (arith, nat_tests)

-- ---- a list up to the last element that passes a test

abbrev some_passes : {X : Type 0} → (X → Bool) → List X → Bool
some_passes p [] = false
some_passes p (x ∷ xs) = cond (p x) true (some_passes p xs)

abbrev up_to : {X : Type 0} → (X → Bool) → List X → List X
up_to p [] = []
up_to p (x ∷ xs) = cond (some_passes p (x ∷ xs)) (x ∷ up_to p xs) []

passes_from_in : {X : Type 0} (p : X → Bool) (xs : List X) (x : X) → In x xs → p x ≡ true → some_passes p xs ≡ true
passes_from_in p [] x i e = absurd i
passes_from_in p (y ∷ ys) x i e = grind (arith, passes_from_in p ys x)

in_from_passes : {X : Type 0} (p : X → Bool) (xs : List X) → some_passes p xs ≡ true → (x : X) × In x xs × (p x ≡ true)
in_from_passes p [] e = absurd (false_is_not_true e)
in_from_passes {X} p (y ∷ ys) e = go (p y) refl e (in_from_passes p ys)
  where
    go : (b : Bool) → p y ≡ b → cond b true (some_passes p ys) ≡ true
        → (some_passes p ys ≡ true → (x : X) × In x ys × (p x ≡ true)) → (x : X) × In x (y ∷ ys) × (p x ≡ true)
    go true q e f = (y, inl refl, q)
    go false q e f = let r = f e in (r.0, inr r.1, r.2)

in_up_to : {X : Type 0} (p : X → Bool) (xs : List X) (x : X) → In x (up_to p xs) → In x xs
in_up_to p [] x i = absurd i
in_up_to p (y ∷ ys) x i = grind (arith, in_up_to p ys x)

pairs_up_to : {X : Type 0} (R : X → X → Type 0) (p : X → Bool) (xs : List X) → Pairs R xs → Pairs R (up_to p xs)
pairs_up_to R p [] h = tt
pairs_up_to R p (y ∷ ys) h = go (some_passes p (y ∷ ys)) (pairs_up_to R p ys h.1)
  where
    go : (b : Bool) → Pairs R (up_to p ys) → Pairs R (cond b (y ∷ up_to p ys) [])
    go true f = (λ x i. h.0 x (in_up_to p ys x i), f)
    go false f = tt

whole_up_to : {X : Type 0} (p : X → Bool) (xs : List X) (x : X) → In x xs → p x ≡ true → In x (up_to p xs)
whole_up_to p [] x i e = absurd i
whole_up_to {X} p (y ∷ ys) x i e =
    subst (λ b. In x (cond b (y ∷ up_to p ys) [])) (sym (passes_from_in p (y ∷ ys) x i e)) (elim i [
      | inl q ↦ inl q
      | inr j ↦ inr (whole_up_to p ys x j e)
    ])

-- each of these passes the test, or comes before one that does
reach : {X : Type 0} (R : X → X → Type 0) (p : X → Bool) (xs : List X) (x : X) → Pairs R xs → In x (up_to p xs)
    → (y : X) × In y xs × (p y ≡ true) × ((x ≡ y) ⊎ R x y)
reach R p [] x h i = absurd i
reach {X} R p (z ∷ zs) x h i = go (some_passes p (z ∷ zs)) refl i (reach R p zs x h.1)
  where
    first : (b : Bool) → p z ≡ b → cond b true (some_passes p zs) ≡ true
        → (y : X) × In y (z ∷ zs) × (p y ≡ true) × ((z ≡ y) ⊎ R z y)
    first true e s = (z, inl refl, e, inl refl)
    first false e s = let r = in_from_passes p zs s in (r.0, inr r.1, r.2, inr (h.0 r.0 r.1))

    go : (b : Bool) → some_passes p (z ∷ zs) ≡ b → In x (cond b (z ∷ up_to p zs) [])
        → (In x (up_to p zs) → (y : X) × In y zs × (p y ≡ true) × ((x ≡ y) ⊎ R x y))
        → (y : X) × In y (z ∷ zs) × (p y ≡ true) × ((x ≡ y) ⊎ R x y)
    go true e i f = elim i [
      | inl q ↦
          let r = first (p z) refl e in
          (r.0, r.1, r.2, subst (λ u. (u ≡ r.0) ⊎ R u r.0) (sym q) r.3)
      | inr j ↦ let r = f j in (r.0, inr r.1, r.2, r.3)
    ]
    go false e i f = absurd i

-- ---- calls

abbrev early : ℕ → Call → Bool
early until e = is_some (return_before until e.returned)

returned_early : (until : ℕ) (o : Option Return) → is_some (return_before until o) ≡ true
    → (r : Return) × (o ≡ Some r) × (r.at < until)
returned_early until o e = grind (arith, nat_tests)

-- what is kept of a return was one
return_kept : (until : ℕ) (o : Option Return) (r : Return) → return_before until o ≡ Some r → o ≡ Some r
return_kept until o r e = grind arith

reply_kept : (until : ℕ) (o : Option Return) (P : Return → Type 0) → IfSome o P → IfSome (return_before until o) P
reply_kept until o P h = grind arith

replies_up_to : (until : ℕ) (p : Call → Bool) (es : List Call) (c : Content) → RepliesAlong c es
    → RepliesAlong c (map (call_before until) (up_to p es))
replies_up_to until p [] c h = tt
replies_up_to until p (e ∷ es) c h = go (some_passes p (e ∷ es)) (replies_up_to until p es h.0 h.4)
  where
    go : (b : Bool) → RepliesAlong h.0 (map (call_before until) (up_to p es))
        → RepliesAlong c (map (call_before until) (cond b (e ∷ up_to p es) []))
    go true f = (h.0, h.1, h.2, reply_kept until e.returned (λ r. r.reply ≡ h.1) h.3, f)
    go false f = tt

-- ---- the order of a prefix

between : (a b c : ℕ) → a < b → b < c → a < c
between a b c l m = omega arith

begins_before : (at number until : ℕ) → at < until → (at < number → ⊥) → number < until
begins_before at number until l h = grind arith

-- The calls have a valid order, which goes up to the last call that returned before this number.
module _ (kind : Kind) (calls : List Call) (until : ℕ) (order : List ℤ)
    (ends : All (λ e. (r : Return) → e.returned ≡ Some r → e.number < r.at) calls)
    (valid : IsValidOrder kind calls order) where
  abbrev cut : Call → Call
  cut e = call_before until e

  abbrev is_begun : Call → Bool
  is_begun e = nat_lt e.number until

  -- the order up to the last call that returned before the number
  abbrev front : List Call
  front = up_to (early until) valid.entries

  -- each call of the front was invoked before the number
  front_is_begun : (e : Call) → In e front → is_begun e ≡ true
  front_is_begun e i =
      let far = reach (λ x y. ReturnsBefore y x → ⊥) (early until) valid.entries e (in_time_order valid) i in
      let ret = returned_early until far.0.returned far.2 in
      true_lt e.number until (elim far.3 [
        | inl q ↦
            let l = all_at (λ e. (r : Return) → e.returned ≡ Some r → e.number < r.at) calls ends far.0
            (in_calls valid far.0 far.1) ret.0 ret.1 in
            subst (λ (z : Call). z.number < until) (sym q) (between far.0.number ret.0.at until l ret.2)
        | inr q ↦ begins_before ret.0.at e.number until ret.2 (λ l. q (ret.0, ret.1, l))
      ])

  front_known : (e : Call) → In e (map cut front) → In e (calls_before until calls)
  front_known e i =
      let m = in_map cut e front i in
      subst (λ (z : Call). In z (calls_before until calls)) (sym m.2)
      (in_map_from cut m.0 (filter is_begun calls)
      (in_filter_from is_begun m.0 calls (in_calls valid m.0 (in_up_to (early until) valid.entries m.0 m.1))
      (front_is_begun m.0 m.1)))

  -- each call of the prefix that returned is in the front
  returned_in_front : (e : Call) → In e (calls_before until calls) → IsSome e.returned → In e (map cut front)
  returned_in_front e i so =
      let m = in_map cut e (filter is_begun calls) i in
      let is_early : early until m.0 ≡ true = sym (ap (λ (z : Call). is_some z.returned) m.2) ∙ so in
      let ret = returned_early until m.0.returned is_early in
      let here = in_entries valid m.0 (in_filter is_begun m.0 calls m.1) (ap is_some ret.1) in
      subst (λ (z : Call). In z (map cut front)) (sym m.2)
      (in_map_from cut m.0 front (whole_up_to (early until) valid.entries m.0 here is_early))

  front_apart : Pairs (λ x y. ◌≢◌ {A = ℤ} (pos x.number) (pos y.number)) front
  front_apart =
      pairs_up_to (λ x y. ◌≢◌ {A = ℤ} (pos x.number) (pos y.number)) (early until) valid.entries (named_apart valid)

  -- no call of the front returned before an earlier one was invoked
  front_on_time : Pairs (λ x y. ReturnsBefore y x → ⊥) (map cut front)
  front_on_time = pairs_map (λ x y. ReturnsBefore y x → ⊥) cut front
      (pairs_weaker (λ x y. ReturnsBefore y x → ⊥) (λ x y. ReturnsBefore (cut y) (cut x) → ⊥) front
      (λ x y i j h b. h (b.0, return_kept until y.returned b.0 b.1, b.2))
      (pairs_up_to (λ x y. ReturnsBefore y x → ⊥) (early until) valid.entries (in_time_order valid)))

  -- if the calls have a valid order, a prefix has one
  pub prefix_valid : (part : List ℤ) × IsValidOrder kind (calls_before until calls) part
  prefix_valid =
      let number : Call → ℤ = λ e. pos e.number in (
        map number (map cut front),
        record {
          entries = map cut front;
          numbers = refl;
          known = all_from_in (Contains (calls_before until calls)) (map cut front)
              (λ e i. contains_from_in (calls_before until calls) e (front_known e i));
          once = all_from_pairs (λ x y. x ≢ y) (map number (map cut front))
              (pairs_map (λ x y. x ≢ y) number (map cut front)
              (pairs_map (λ x y. number x ≢ number y) cut front front_apart));
          whole = all_from_in (λ e. IsSome e.returned → Contains (map cut front) e) (calls_before until calls)
              (λ e i so. contains_from_in (map cut front) e (returned_in_front e i so));
          in_order = all_from_pairs (λ x y. ReturnsBefore y x → ⊥) (map cut front) front_on_time;
          replies = replies_up_to until (early until) valid.entries (empty kind) valid.replies;
        },
      )
