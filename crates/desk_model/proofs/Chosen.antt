-- Calls chosen for the entries of a log one by one (`Along`) have what the entries have: numbers, operations,
-- replies. If the entries of each client rise, no ticket is in the log twice (`tickets_once`). By induction on the
-- log.
use Rattle.std.proofs.Common.{◌≡◌, ◌≢◌, ℕ, ℤ, pos, ◌<◌, ◌==◌, Bool, true, false, cond, inl, inr, List, [], ◌∷◌, ◌++◌}
use Rattle.std.proofs.Common.{map, IfSome, refl, ap, sym, ◌∙◌, subst, eq-eqb, arith}
use Rattle.model.specs.Objects.{Content, next}
use Rattle.model.specs.Orders.{Call, RepliesAlong}
use Rattle.model.specs.Lists.{In}
use Rattle.model.proofs.Lists.{Pairs, pairs_weaker, pairs_map}
use Rattle.model.proofs.Orders.{same_pos}
use Rattle.desk_model.specs.World.{AnyEntry, entries_of_client, Replays}

-- each entry has beside it a call that P holds of
abbrev pub Along : (AnyEntry → Call → Type 0) → List AnyEntry → List Call → Type 0
Along P [] [] = Unit {0}
Along P (e ∷ es) (k ∷ ks) = P e k × Along P es ks
Along P es ks = ⊥

pub chosen : (P : AnyEntry → Call → Type 0) (es : List AnyEntry) → ((e : AnyEntry) → In e es → (k : Call) × P e k)
    → (ks : List Call) × Along P es ks
chosen P [] f = ([], tt)
chosen P (e ∷ es) f =
    let (k, at) = f e (inl refl) in
    let (ks, later) = chosen P es (λ d i. f d (inr i)) in
    (k ∷ ks, (at, later))

pub entry_beside : (P : AnyEntry → Call → Type 0) (es : List AnyEntry) (ks : List Call) → Along P es ks → (k : Call)
    → In k ks → (e : AnyEntry) × In e es × P e k
entry_beside P [] [] a k i = absurd i
entry_beside P (e ∷ es) (l ∷ ks) a k i = elim i [
  | inl s ↦ (e, inl refl, subst (P e) (sym s) a.0)
  | inr j ↦ let (f, there, at) = entry_beside P es ks a.1 k j in (f, inr there, at)
]
entry_beside P es ks a k i = absurd a

pub call_beside : (P : AnyEntry → Call → Type 0) (es : List AnyEntry) (ks : List Call) → Along P es ks
    → (e : AnyEntry) → In e es → (k : Call) × In k ks × P e k
call_beside P [] ks a e i = absurd i
call_beside P (f ∷ es) [] a e i = absurd a
call_beside P (f ∷ es) (l ∷ ks) a e i = elim i [
  | inl s ↦ (l, inl refl, subst (λ g. P g l) (sym s) a.0)
  | inr j ↦ let (l, there, at) = call_beside P es ks a.1 e j in (l, inr there, at)
]

-- what holds of the calls beside each two entries holds of each two calls
pub pairs_beside : (P : AnyEntry → Call → Type 0) (R : Call → Call → Type 0) (es : List AnyEntry) (ks : List Call)
    → Along P es ks → Pairs (λ e f. (a b : Call) → P e a → P f b → R a b) es → Pairs R ks
pairs_beside P R [] [] a h = tt
pairs_beside P R (e ∷ es) (k ∷ ks) a h = (first, pairs_beside P R es ks a.1 h.1)
  where
    first : (l : Call) → In l ks → R k l
    first l i = let (f, there, at) = entry_beside P es ks a.1 l i in h.0 f there k l a.0 at
pairs_beside P R es ks a h = absurd a

-- ---- the call beside an entry says the same as the entry

pub record SaysSame (e : AnyEntry) (k : Call) : Type 0 where
  pub number : k.number ≡ e.ticket
  pub op : k.op ≡ e.op
  pub reply : IfSome k.returned (λ r. r.reply ≡ e.reply)

module _ (P : AnyEntry → Call → Type 0) (same : (e : AnyEntry) (k : Call) → P e k → SaysSame e k) where
  pub numbers_beside : (es : List AnyEntry) (ks : List Call) → Along P es ks
      → map (λ (e : AnyEntry). pos e.ticket) es ≡ map (λ (k : Call). pos k.number) ks
  numbers_beside [] [] a = refl
  numbers_beside (e ∷ es) (k ∷ ks) a =
      let s : pos e.ticket ≡ pos k.number = ap pos (sym (same e k a.0).number) in
      let rest = numbers_beside es ks a.1 in
      ap (λ z. z ∷ map (λ (e : AnyEntry). pos e.ticket) es) s ∙ ap (λ zs. pos k.number ∷ zs) rest
  numbers_beside es ks a = absurd a

  pub replies_beside : (c after : Content) (es : List AnyEntry) (ks : List Call) → Replays c es after → Along P es ks
      → RepliesAlong c ks
  replies_beside c after [] [] h a = tt
  replies_beside c after (e ∷ es) (k ∷ ks) h a =
      let (mid, step, later) = h in
      let (at, rest) = a in
      let s = same e k at in
      (mid, e.reply, ap (next c) s.op ∙ step, s.reply, replies_beside mid after es ks later rest)
  replies_beside c after es ks h a = absurd a

-- ---- the tickets of a log

pub once_in_order : (es : List AnyEntry) → Pairs (λ e f. e.ticket ≢ f.ticket) es
    → Pairs (λ (a b : ℤ). a ≢ b) (map (λ (e : AnyEntry). pos e.ticket) es)
once_in_order es h = pairs_map (λ (a b : ℤ). a ≢ b) (λ (e : AnyEntry). pos e.ticket) es
    (pairs_weaker (λ e f. e.ticket ≢ f.ticket) (λ e f. pos e.ticket ≢ pos f.ticket) es
    (λ e f i j ne s. ne (same_pos e.ticket f.ticket s)) h)

pub in_own_entries : (e : AnyEntry) (es : List AnyEntry) → In e es → In e (entries_of_client e.client es)
in_own_entries e [] i = absurd i
in_own_entries e (f ∷ es) i = go (f.client == e.client) refl i (in_own_entries e es)
  where
    go : (b : Bool) → (f.client == e.client) ≡ b → In e (f ∷ es) → (In e es → In e (entries_of_client e.client es))
        → In e (cond b (f ∷ entries_of_client e.client es) (entries_of_client e.client es))
    go true s i g = elim i [ inl t ↦ inl t | inr j ↦ inr (g j) ]
    go false s i g = elim i [
      | inl t ↦ absurd (cc (sym s ∙ eq-eqb f.client e.client (ap (λ (d : AnyEntry). d.client) (sym t))))
      | inr j ↦ g j
    ]

-- where the entries of each client rise and those of two clients have no ticket in common, no ticket stands twice
pub tickets_once : (es : List AnyEntry) → ((c : ℕ) → Pairs (λ e f. e.ticket < f.ticket) (entries_of_client c es))
    → ((e f : AnyEntry) → In e es → In f es → e.ticket ≡ f.ticket → e.client ≡ f.client)
    → Pairs (λ e f. e.ticket ≢ f.ticket) es
tickets_once [] up apart = tt
tickets_once (e ∷ es) up apart = (head, tickets_once es tail (λ f g i j s. apart f g (inr i) (inr j) s))
  where
    own : entries_of_client e.client (e ∷ es) ≡ e ∷ entries_of_client e.client es
    own = ap (λ b. cond b (e ∷ entries_of_client e.client es) (entries_of_client e.client es))
        (eq-eqb e.client e.client refl)

    head : (f : AnyEntry) → In f es → e.ticket ≢ f.ticket
    head f i s =
        let client : e.client ≡ f.client = apart e f (inl refl) (inr i) s in
        let rises : Pairs (λ (e f : AnyEntry). e.ticket < f.ticket) (e ∷ entries_of_client e.client es) =
        subst (Pairs (λ (e f : AnyEntry). e.ticket < f.ticket)) own (up e.client) in
        let l : e.ticket < f.ticket =
        rises.0 f (subst (λ c. In f (entries_of_client c es)) (sym client) (in_own_entries f es i)) in
        omega arith

    tail : (c : ℕ) → Pairs (λ e f. e.ticket < f.ticket) (entries_of_client c es)
    tail c = go (e.client == c) (up c)
      where
        go : (b : Bool) → Pairs (λ e f. e.ticket < f.ticket)
            (cond b (e ∷ entries_of_client c es) (entries_of_client c es))
            → Pairs (λ e f. e.ticket < f.ticket) (entries_of_client c es)
        go true h = h.1
        go false h = h

-- where no ticket is there twice, what is before an entry is before it however the log is split at it
pub in_front : (es : List AnyEntry) → Pairs (λ e f. e.ticket ≢ f.ticket) es
    → Pairs (λ e f. (before after : List AnyEntry) (g : AnyEntry) → es ≡ before ++ g ∷ after → g.ticket ≡ f.ticket
    → In e before) es
in_front [] h = tt
in_front (x ∷ xs) h = (
  λ f i before after g s t. first f i before after g s t,
  pairs_weaker (λ e f. (before after : List AnyEntry) (g : AnyEntry) → xs ≡ before ++ g ∷ after → g.ticket ≡ f.ticket
      → In e before)
      (λ e f. (before after : List AnyEntry) (g : AnyEntry) → x ∷ xs ≡ before ++ g ∷ after → g.ticket ≡ f.ticket
      → In e before) xs
      (λ e f i j k. further e f j k) (in_front xs h.1),
)
  where
    not_first : (f g : AnyEntry) (after : List AnyEntry) → In f xs → x ∷ xs ≡ g ∷ after → g.ticket ≡ f.ticket → ⊥
    not_first f g after i s t = let u : x ≡ g = cc (s) in h.0 f i (ap (λ (e : AnyEntry). e.ticket) u ∙ t)

    first : (f : AnyEntry) → In f xs → (before after : List AnyEntry) (g : AnyEntry) → x ∷ xs ≡ before ++ g ∷ after
        → g.ticket ≡ f.ticket → In x before
    first f i [] after g s t = absurd (not_first f g after i s t)
    first f i (y ∷ ys) after g s t = inl (cc (s))

    further : (e f : AnyEntry) → In f xs
        → ((before after : List AnyEntry) (g : AnyEntry) → xs ≡ before ++ g ∷ after → g.ticket ≡ f.ticket → In e before)
        → (before after : List AnyEntry) (g : AnyEntry) → x ∷ xs ≡ before ++ g ∷ after → g.ticket ≡ f.ticket
        → In e before
    further e f j k [] after g s t = absurd (not_first f g after j s t)
    further e f j k (y ∷ ys) after g s t = let u : xs ≡ ys ++ g ∷ after = cc (s) in inr (k ys after g u t)
