-- Two lists in which numbers rise are the same if they have the same elements (`same_rising`): by induction, since the
-- first elements are the least.
use Rattle.std.proofs.Common.{◌≡◌, ℕ, ◌<◌, ◌==◌, inl, inr, List, [], ◌∷◌, filter, refl, ap, sym, ◌∙◌, subst, arith}
use Rattle.std.proofs.lemmas.Bool.{eq-eqb}
use Rattle.model.specs.Lists.{In}
use Rattle.model.proofs.Lists.{Pairs, in_filter, in_filter_from}

-- what is in both lists, except for the equal first elements, stands after them
among_later : {X : Type 0} (number : X → ℕ) (x y z : X) (later later' : List X)
    → ((w : X) → In w later → number x < number w) → x ≡ y → In z later → In z (y ∷ later') → In z later'
among_later number x y z later later' low same i j = elim j [
  | inl e ↦
      let l = low z i in
      let k : number z ≡ number x = ap number (e ∙ sym same) in
      absurd (omega arith)
  | inr k ↦ k
]

pub same_rising : {X : Type 0} (f : X → ℕ) (xs ys : List X) → Pairs (λ a b. f a < f b) xs → Pairs (λ a b. f a < f b) ys
    → ((x : X) → In x xs → In x ys) → ((x : X) → In x ys → In x xs) → xs ≡ ys
same_rising f [] [] p q g h = refl
same_rising f [] (y ∷ ys) p q g h = absurd (h y (inl refl))
same_rising f (x ∷ xs) [] p q g h = absurd (g x (inl refl))
same_rising f (x ∷ xs) (y ∷ ys) p q g h =
    let first : x ≡ y = elim (g x (inl refl)) [
      | inl e ↦ e
      | inr i ↦ elim (h y (inl refl)) [
        | inl e ↦ sym e
        | inr j ↦
            let a = q.0 x i in
            let b = p.0 y j in
            absurd (omega arith)
      ]
    ] in
    let rest : xs ≡ ys = same_rising f xs ys p.1 q.1 (λ z i. among_later f x y z xs ys p.0 first i (g z (inr i)))
    (λ z i. among_later f y x z ys xs q.0 (sym first) i (h z (inr i))) in
    ap (λ z. z ∷ xs) first ∙ ap (λ zs. y ∷ zs) rest

-- where also the parts of each process are the same, the lists are
pub same_by_parts : {X : Type 0} (f process : X → ℕ) (xs ys : List X) → Pairs (λ a b. f a < f b) xs
    → Pairs (λ a b. f a < f b) ys
    → ((c : ℕ) → filter (λ x. process x == c) xs ≡ filter (λ x. process x == c) ys) → xs ≡ ys
same_by_parts {X} f process xs ys p q e =
    same_rising f xs ys p q (λ x. across x xs ys (e (process x))) (λ x. across x ys xs (sym (e (process x))))
  where
    across : (x : X) (us vs : List X)
        → filter (λ z. process z == process x) us ≡ filter (λ z. process z == process x) vs → In x us → In x vs
    across x us vs same i =
        in_filter (λ z. process z == process x) x vs
        (subst (In x) same (in_filter_from (λ z. process z == process x) x us i (eq-eqb (process x) (process x) refl)))
