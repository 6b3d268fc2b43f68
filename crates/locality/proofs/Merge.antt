-- The orders of all objects, merged by point, are one order over all objects, the line. Batch by batch: cut to an
-- object it is the object's order (`line_of_object`), cut to a process what the process made (`line_of_process`).
use Rattle.std.proofs.Common.{◌≡◌, ◌≢◌, ℕ, ◌<◌, ◌≤◌, ◌==◌, ◌&&◌, Bool, true, false, inl, inr, List, [], ◌∷◌, map}
use Rattle.std.proofs.Common.{filter, ap, sym, ◌∙◌, arith}
use Rattle.std.specs.List.{flat_map}
use Rattle.std.proofs.lemmas.List.Folds.{flat_map-map}
use Rattle.std.proofs.lemmas.Bool.{eqb-true, eq-eqb, and_parts, and_from, cases_order}
use Rattle.model.specs.Lists.{In}
use Rattle.model.proofs.Lists.{Pairs, in_filter, in_filter_passes, in_filter_from, pairs_filter, pairs_weaker}
use Rattle.model.proofs.Lists.{filter_all, filter_none, filter-flat_map, flat_map_same, flat_map_filter, in_flat_map}
use Rattle.model.proofs.Lists.{same_single, batches, pairs_flat_map, pairs_map, in_map_from}

-- Operations in the order of their invocations, and for each object an order of some of them. The point of one that
-- is in an order is the number of an operation of its object.
pub record ObjectOrders {X : Type 0} (num proc obj point : X → ℕ) (stands : X → Bool) (ops : List X)
    (entries : ℕ → List X) : Type 0 where
  pub rising : Pairs (λ a b. num a < num b) ops
  pub on_object : (x : ℕ) (e : X) → In e (entries x) → obj e ≡ x
  pub among : (x : ℕ) (e : X) → In e (entries x) → In e ops
  pub stand : (x : ℕ) (e : X) → In e (entries x) → stands e ≡ true
  pub included : (e : X) → In e ops → stands e ≡ true → In e (entries (obj e))
  pub once : (x : ℕ) → Pairs (λ a b. a ≢ b) (entries x)
  pub points : (x : ℕ) → Pairs (λ a b. point a ≤ point b) (entries x)
  pub point_at : (x : ℕ) (e : X) → In e (entries x) → (n : X) × In n ops × (point e ≡ num n) × (obj n ≡ x)
  -- the points of a process rise
  pub turns : (a b : X) → In a ops → In b ops → stands a ≡ true → stands b ≡ true → proc a ≡ proc b → num a < num b
      → point a < point b

-- ---- the line

module _ {X : Type 0} (num proc obj point : X → ℕ) (stands : X → Bool) (ops : List X) (entries : ℕ → List X) where
  -- those of n's object whose point is n's number
  abbrev batch : X → List X
  batch n = filter (λ e. point e == num n) (entries (obj n))

  -- in the order of their points, and at one point as they are in the object's order
  abbrev pub line : List X
  line = flat_map batch ops

-- a number names one operation
pub one_number : {X : Type 0} (num : X → ℕ) (ops : List X) (a b : X) → Pairs (λ a b. num a < num b) ops → In a ops
    → In b ops → num a ≡ num b → a ≡ b
one_number num [] a b h i j e = absurd i
one_number num (o ∷ ops) a b h i j e = elim i [
  | inl p ↦ elim j [
    | inl q ↦ p ∙ sym q
    | inr r ↦
        let g = h.0 b r in
        let e' = ap num p in
        absurd (omega arith)
  ]
  | inr r ↦ elim j [
    | inl q ↦
        let g = h.0 a r in
        let e' = ap num q in
        absurd (omega arith)
    | inr t ↦ one_number num ops a b h.1 r t e
  ]
]

-- ---- the line, cut to an object and to a process

module _ {X : Type 0} (num proc obj point : X → ℕ) (stands : X → Bool) (ops : List X) (entries : ℕ → List X)
    (o : ObjectOrders num proc obj point stands ops entries) where
  -- the line, cut to an object, is the object's order
  pub line_of_object : (x : ℕ) → filter (λ e. obj e == x) (line num proc obj point stands ops entries) ≡ entries x
  line_of_object x =
      let here : X → Bool = λ n. obj n == x in
      let cut : X → List X = λ n. filter here (batch num proc obj point stands ops entries n) in
      let of_number : ℕ → List X = λ k. filter (λ e. point e == k) (entries x) in
      let other : (n : X) → In n ops → here n ≡ false → cut n ≡ [] = λ n i e.
      filter_none here (batch num proc obj point stands ops entries n) (λ y j.
      let at : obj y ≡ obj n = o.on_object (obj n) y (in_filter (λ e. point e == num n) y (entries (obj n)) j) in
      ap (λ k. k == x) at ∙ e) in
      let own : (n : X) → In n (filter here ops) → cut n ≡ of_number (num n) = λ n i.
      let at : obj n ≡ x = eqb-true (obj n) x (in_filter_passes here n ops i) in
      let all : cut n ≡ batch num proc obj point stands ops entries n =
      filter_all here (batch num proc obj point stands ops entries n)
      (λ y j. eq-eqb (obj y) x
      (o.on_object (obj n) y (in_filter (λ e. point e == num n) y (entries (obj n)) j) ∙ at)) in
      all ∙ ap (λ k. filter (λ e. point e == num n) (entries k)) at in
      let numbers : List ℕ = map num (filter here ops) in
      let up : Pairs (λ (a b : ℕ). a < b) numbers =
      pairs_map (λ (a b : ℕ). a < b) num (filter here ops) (pairs_filter (λ a b. num a < num b) here ops o.rising) in
      let all : (e : X) → In e (entries x) → In (point e) numbers = λ e i.
      let n = o.point_at x e i in
      rw n.2 (in_map_from num n.0 (filter here ops) (in_filter_from here n.0 ops n.1 (eq-eqb (obj n.0) x n.3))) in
      filter-flat_map here (batch num proc obj point stands ops entries) ops
      ∙ (sym (flat_map_filter cut here ops other)
      ∙ (flat_map_same cut (λ n. of_number (num n)) (filter here ops) own
      ∙ (sym (flat_map-map of_number num (filter here ops))
      ∙ batches point numbers (entries x) up (o.points x) all)))

  -- the operations of a process that are in an order, as the process made them
  abbrev made_by : ℕ → List X
  made_by p = filter (λ e. (proc e == p) && stands e) ops

  same_number : (a b : X) → In a ops → In b ops → num a ≡ num b → a ≡ b
  same_number a b i j e = one_number num ops a b o.rising i j e

  -- two of a process at one point are one
  pub apart : (a b : X) → In a ops → In b ops → stands a ≡ true → stands b ≡ true → proc a ≡ proc b
      → point a ≡ point b → a ≢ b → ⊥
  apart a b i j s t p e ne = elim (cases_order (num a) (num b)) [
    | inl q ↦ ne (same_number a b i j q)
    | inr r ↦ elim r [
      | inl l ↦ let g = o.turns a b i j s t p l in omega arith
      | inr l ↦ let g = o.turns b a j i t s (sym p) l in omega arith
    ]
  ]

  -- at one point a process has one at most, the same in the order and as it was made
  same_at : (p : ℕ) (n : X) → In n ops
      → filter (λ e. proc e == p) (batch num proc obj point stands ops entries n)
      ≡ filter (λ e. point e == num n) (made_by p)
  same_at p n i =
      let mine : X → Bool = λ e. proc e == p in
      let both : X → Bool = λ e. (proc e == p) && stands e in
      let here : X → Bool = λ e. point e == num n in
      let es : List X = entries (obj n) in
      let xs : List X = filter mine (filter here es) in
      let ys : List X = filter here (made_by p) in
      let x_in : (e : X) → In e xs → In e es = λ e j. in_filter here e es (in_filter mine e (filter here es) j) in
      let x_at : (e : X) → In e xs → point e ≡ num n =
      λ e j. eqb-true (point e) (num n) (in_filter_passes here e es (in_filter mine e (filter here es) j)) in
      let x_of : (e : X) → In e xs → proc e ≡ p =
      λ e j. eqb-true (proc e) p (in_filter_passes mine e (filter here es) j) in
      let y_in : (e : X) → In e ys → In e ops = λ e j. in_filter both e ops (in_filter here e (made_by p) j) in
      let y_at : (e : X) → In e ys → point e ≡ num n =
      λ e j. eqb-true (point e) (num n) (in_filter_passes here e (made_by p) j) in
      let y_both : (e : X) → In e ys → (proc e == p ≡ true) × (stands e ≡ true) =
      λ e j. and_parts (proc e == p) (stands e) (in_filter_passes both e ops (in_filter here e (made_by p) j)) in
      same_single xs ys
      (pairs_weaker (λ a b. a ≢ b) (λ a b. ⊥) xs
      (λ a b i j ne. apart a b (o.among (obj n) a (x_in a i)) (o.among (obj n) b (x_in b j))
      (o.stand (obj n) a (x_in a i))
      (o.stand (obj n) b (x_in b j)) (x_of a i ∙ sym (x_of b j)) (x_at a i ∙ sym (x_at b j)) ne)
      (pairs_filter (λ a b. a ≢ b) mine (filter here es) (pairs_filter (λ a b. a ≢ b) here es (o.once (obj n)))))
      (pairs_weaker (λ a b. num a < num b) (λ a b. ⊥) ys
      (λ a b i j l.
      let g = o.turns a b (y_in a i) (y_in b j) (y_both a i).1 (y_both b j).1
      (eqb-true (proc a) p (y_both a i).0 ∙ sym (eqb-true (proc b) p (y_both b j).0)) l in
      let e = y_at a i in
      let e' = y_at b j in
      omega arith)
      (pairs_filter (λ a b. num a < num b) here (made_by p) (pairs_filter (λ a b. num a < num b) both ops o.rising)))
      (λ e j. in_filter_from here e (made_by p)
      (in_filter_from both e ops (o.among (obj n) e (x_in e j))
      (and_from (proc e == p) (stands e) (eq-eqb (proc e) p (x_of e j)) (o.stand (obj n) e (x_in e j))))
      (eq-eqb (point e) (num n) (x_at e j)))
      (λ e j.
      let own = o.included e (y_in e j) (y_both e j).1 in
      let m = o.point_at (obj e) e own in
      let same : m.0 ≡ n = same_number m.0 n m.1 i (sym m.2 ∙ y_at e j) in
      let at : obj e ≡ obj n = sym m.3 ∙ ap obj same in
      in_filter_from mine e (filter here es)
      (in_filter_from here e es (rw at at own) (eq-eqb (point e) (num n) (y_at e j))) (y_both e j).0)

  -- the points of what a process made rise
  points_of_process : (p : ℕ) → Pairs (λ a b. point a ≤ point b) (made_by p)
  points_of_process p =
      let both : X → Bool = λ e. (proc e == p) && stands e in
      pairs_weaker (λ a b. num a < num b) (λ a b. point a ≤ point b) (made_by p)
      (λ a b i j l.
      let f = and_parts (proc a == p) (stands a) (in_filter_passes both a ops i) in
      let h = and_parts (proc b == p) (stands b) (in_filter_passes both b ops j) in
      let g = o.turns a b (in_filter both a ops i) (in_filter both b ops j) f.1 h.1
      (eqb-true (proc a) p f.0 ∙ sym (eqb-true (proc b) p h.0)) l in
      omega arith)
      (pairs_filter (λ a b. num a < num b) both ops o.rising)

  -- the line, cut to a process, is what the process made
  pub line_of_process : (p : ℕ) → filter (λ e. proc e == p) (line num proc obj point stands ops entries) ≡ made_by p
  line_of_process p =
      let both : X → Bool = λ e. (proc e == p) && stands e in
      let mine : X → Bool = λ e. proc e == p in
      let of_number : ℕ → List X = λ k. filter (λ e. point e == k) (made_by p) in
      let up : Pairs (λ (a b : ℕ). a < b) (map num ops) = pairs_map (λ (a b : ℕ). a < b) num ops o.rising in
      let all : (e : X) → In e (made_by p) → In (point e) (map num ops) = λ e i.
      let f = and_parts (proc e == p) (stands e) (in_filter_passes both e ops i) in
      let n = o.point_at (obj e) e (o.included e (in_filter both e ops i) f.1) in
      rw n.2 (in_map_from num n.0 ops n.1) in
      filter-flat_map mine (batch num proc obj point stands ops entries) ops
      ∙ (flat_map_same (λ n. filter mine (batch num proc obj point stands ops entries n)) (λ n. of_number (num n)) ops
      (same_at p)
      ∙ (sym (flat_map-map of_number num ops)
      ∙ batches point (map num ops) (made_by p) up (points_of_process p) all))

  -- the line is in the order of the points
  pub line_points : Pairs (λ a b. point a ≤ point b) (line num proc obj point stands ops entries)
  line_points = pairs_flat_map (λ a b. point a ≤ point b) (λ a b. num a < num b)
      (batch num proc obj point stands ops entries) ops o.rising
      (λ n i. pairs_filter (λ a b. point a ≤ point b) (λ e. point e == num n) (entries (obj n)) (o.points (obj n)))
      (λ m n l a b i j.
      let e = eqb-true (point a) (num m) (in_filter_passes (λ e. point e == num m) a (entries (obj m)) i) in
      let f = eqb-true (point b) (num n) (in_filter_passes (λ e. point e == num n) b (entries (obj n)) j) in
      omega arith)

  -- what is in the line is in its object's order
  pub line_in : (e : X) → In e (line num proc obj point stands ops entries) → In e (entries (obj e))
  line_in e i =
      let n = in_flat_map (batch num proc obj point stands ops entries) e ops i in
      let j = in_filter (λ e. point e == num n.0) e (entries (obj n.0)) n.2 in
      rw (o.on_object (obj n.0) e j) j
