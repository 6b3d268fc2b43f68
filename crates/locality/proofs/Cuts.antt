-- Cutting histories: to a process or an object, and at a moment. By induction on the history, event by event.
use Rattle.std.proofs.Common.{◌≡◌, ℕ, ◌<◌, ◌≤◌, ◌==◌, ◌&&◌, nat_lt, Bool, true, false, not, cond, inl, inr, List, []}
use Rattle.std.proofs.Common.{◌∷◌, ◌++◌, length, filter, Option, Some, None, is_some, refl, ap, sym, ◌∙◌, arith}
use Rattle.std.specs.List.{flat_map, list_any}
use Rattle.std.proofs.lemmas.List.{append-nil}
use Rattle.std.proofs.lemmas.List.Elements.{filter-append}
use Rattle.std.proofs.lemmas.Bool.{eqb-true, eqb-false, ne_eqb, and_left, and_right, lt-ltb, le-ltb}
use Rattle.model.specs.declared.AnyReply.{AnyReply}
use Rattle.model.specs.Histories.{Event, Inv, Res, process_of, object_of, is_invocation, by_process, by_object, matches}
use Rattle.model.specs.Histories.{complete, invokes, responds}
use Rattle.model.specs.Orders.{Numbered, events, Return, ProcessCall}
use Rattle.model.specs.Lists.{In}
use Rattle.model.proofs.Lists.{Pairs, in_filter_passes, filter-filter, filter_same, filter_none, filter-flat_map}
use Rattle.model.proofs.Lists.{flat_map_same, flat_map_filter, in_right}
use Rattle.locality.proofs.Entries.{done}
use Rattle.locality.proofs.ProcessHistories.{part, late, added, dones}

absorbs : (a b : Bool) → (a && (b && a)) ≡ (b && a)
absorbs a b = grind arith

absorbs_more : (a b c : Bool) → (a && ((b && a) && c)) ≡ ((b && a) && c)
absorbs_more a b c = grind arith

and_true : (a b : Bool) → b ≡ true → (a && b) ≡ a
and_true true b e = e
and_true false b e = refl

-- where numbers rise, no later event has a lesser number
not_less : (before after : List Numbered) (event other : Numbered)
    → Pairs (λ x y. x.number < y.number) (before ++ event ∷ after) → In other (event ∷ after)
    → event.number ≤ other.number
not_less [] after event other rising i = elim i [
  | inl e ↦ omega (arith, ap (λ (k : Numbered). k.number) e)
  | inr j ↦ let g = rising.0 other j in omega arith
]
not_less (y ∷ before) after event other rising i = not_less before after event other rising.1 i

-- where a test keeps all of what f gives of some elements, and nothing of the others
pub filter_pieces : {X Y : Type 0} (q : Y → Bool) (s : X → Bool) (f : X → List Y) (xs : List X)
    → ((x : X) → s x ≡ true → filter q (f x) ≡ f x)
    → ((x : X) → s x ≡ false → filter q (f x) ≡ []) → filter q (flat_map f xs) ≡ flat_map f (filter s xs)
filter_pieces {X} q s f xs all none =
    filter-flat_map q f xs
    ∙ (sym (flat_map_filter (λ x. filter q (f x)) s xs (λ x i e. none x e))
    ∙ flat_map_same (λ x. filter q (f x)) f (filter s xs) (λ x i. all x (passes x xs i)))
  where
    passes : (x : X) (xs : List X) → In x (filter s xs) → s x ≡ true
    passes x xs i = in_filter_passes s x xs i

-- a test that says the same of both events of an operation keeps both, or neither
both_kept : (test : Event → Bool) (call : ProcessCall) (given : Option AnyReply) (kept : Bool)
    → ((event : Event) → process_of event ≡ call.process → object_of event ≡ call.object → test event ≡ kept)
    → filter test (done call given) ≡ cond kept (done call given) []
both_kept test call None kept same = grind arith
both_kept test call (Some reply) kept same =
    let invoked = same (Inv call.process call.object call.call.op) refl refl in
    let returned = same (Res call.process call.object reply) refl refl in
    grind arith

-- and so of its late response
late_kept : (test : Event → Bool) (call : ProcessCall) (recorded : Option Return) (given : Option AnyReply)
    (kept : Bool)
    → ((event : Event) → process_of event ≡ call.process → object_of event ≡ call.object → test event ≡ kept)
    → filter test (late call recorded given) ≡ cond kept (late call recorded given) []
late_kept test call (Some reply) given kept same = grind arith
late_kept test call None None kept same = grind arith
late_kept test call None (Some reply) kept same =
    let returned = same (Res call.process call.object reply) refl refl in grind arith

pub dones_of_process : (p : ℕ) (give : ProcessCall → Option AnyReply) (os : List ProcessCall)
    → by_process p (dones give os) ≡ dones give (filter (λ e. e.process == p) os)
dones_of_process p give os = filter_pieces (λ v. process_of v == p) (λ e. e.process == p) (λ e. done e (give e)) os
    (λ e t. both_kept (λ v. process_of v == p) e (give e) true (λ v a b. ap (λ k. k == p) a ∙ t))
    (λ e t. both_kept (λ v. process_of v == p) e (give e) false (λ v a b. ap (λ k. k == p) a ∙ t))

pub dones_of_object : (x : ℕ) (give : ProcessCall → Option AnyReply) (os : List ProcessCall)
    → by_object x (dones give os) ≡ dones give (filter (λ e. e.object == x) os)
dones_of_object x give os = filter_pieces (λ v. object_of v == x) (λ e. e.object == x) (λ e. done e (give e)) os
    (λ e t. both_kept (λ v. object_of v == x) e (give e) true (λ v a b. ap (λ k. k == x) b ∙ t))
    (λ e t. both_kept (λ v. object_of v == x) e (give e) false (λ v a b. ap (λ k. k == x) b ∙ t))

pub added_of_process : (p : ℕ) (give : ProcessCall → Option AnyReply) (os : List ProcessCall)
    → by_process p (added give os) ≡ added give (filter (λ e. e.process == p) os)
added_of_process p give os =
    filter_pieces (λ v. process_of v == p) (λ e. e.process == p) (λ e. late e e.call.returned (give e)) os
    (λ e t. late_kept (λ v. process_of v == p) e e.call.returned (give e) true (λ v a b. ap (λ k. k == p) a ∙ t))
    (λ e t. late_kept (λ v. process_of v == p) e e.call.returned (give e) false (λ v a b. ap (λ k. k == p) a ∙ t))

-- an event of another process matches nothing
other_matches : (p : ℕ) (e f : Event) → (process_of e == p) ≡ true → (process_of f == p) ≡ false → matches e f ≡ false
other_matches p (Inv q x op) (Inv q' y o) t n = refl
other_matches p (Inv q x op) (Res q' y r) t n =
    let a = eqb-true q p t in
    let b = eqb-false q' p n in
    and_left (q == q') (x == y) (ne_eqb q q' (λ s. b (sym s ∙ a)))
other_matches p (Res q x r) f t n = refl

pub any_of_process : (p : ℕ) (e : Event) (h : List Event) → (process_of e == p) ≡ true
    → list_any (matches e) (by_process p h) ≡ list_any (matches e) h
any_of_process p e [] t = refl
any_of_process p e (f ∷ h) t =
    let rest = any_of_process p e h t in
    let other = other_matches p e f t in
    grind arith

-- a process's part of a completed history is its completed part
pub complete_of_process : (p : ℕ) (h : List Event) → by_process p (complete h) ≡ complete (by_process p h)
complete_of_process p [] = refl
complete_of_process p (e ∷ h) =
    let rest = complete_of_process p h in
    let same = any_of_process p e h in
    grind arith

-- a numbered history is cut where its events are
pub cut_numbered : (h : List Numbered) (a b : List Event) → events h ≡ a ++ b
    → (c d : List Numbered) × (h ≡ c ++ d) × (events c ≡ a) × (events d ≡ b)
cut_numbered h [] b q = ([], h, refl, refl, q)
cut_numbered [] (e ∷ a) b q = absurd cc
cut_numbered (m ∷ h) (e ∷ a) b q =
    let rest = cut_numbered h a b (cc q) in
    (m ∷ rest.0, rest.1, cc (rest.2), cc (q, rest.3), rest.4)

-- as many events pass a test with their numbers as without
pub length_filter_events : (q : Event → Bool) (h : List Numbered)
    → length (filter q (events h)) ≡ length (filter (λ m. q m.event) h)
length_filter_events q [] = refl
length_filter_events q (m ∷ h) = let rest = length_filter_events q h in grind arith

-- what holds of each two of a list holds of one in its front and one in the rest
pairs_across : (R : Numbered → Numbered → Type 0) (before after : List Numbered) (earlier later : Numbered)
    → Pairs R (before ++ after) → In earlier before → In later after → R earlier later
pairs_across R [] after earlier later each i j = absurd i
pairs_across R (first ∷ before) after earlier later each i j = elim i [
  | inl e ↦ rw e (each.0 later (in_right later before after j))
  | inr k ↦ pairs_across R before after earlier later each.1 k j
]

-- what is before an event is what has a lesser number
pub filter_before : (test : Numbered → Bool) (before : List Numbered) (event : Numbered) (after : List Numbered)
    → Pairs (λ x y. x.number < y.number) (before ++ event ∷ after)
    → filter test before ≡ filter (λ k. test k && nat_lt k.number event.number) (before ++ event ∷ after)
filter_before test before event after rising =
    let lower : Numbered → Bool = λ k. test k && nat_lt k.number event.number in
    let low : filter test before ≡ filter lower before =
    filter_same test lower before (λ x i.
    sym (and_true (test x) (nat_lt x.number event.number)
    (lt-ltb x.number event.number (pairs_across (λ x y. x.number < y.number) before (event ∷ after) x event rising i
    (inl refl))))) in
    let high : filter lower (event ∷ after) ≡ [] =
    filter_none lower (event ∷ after) (λ x i.
    and_right (test x) (nat_lt x.number event.number)
    (le-ltb x.number event.number (not_less before after event x rising i))) in
    low ∙ (sym (append-nil (filter lower before)) ∙ (ap (λ ks. filter lower before ++ ks) (sym high)
    ∙ sym (filter-append lower before (event ∷ after))))

-- the invocations of a process, and its responses, are in its part
pub invokes_of_process : (p : ℕ) (h : List Event) → filter (invokes p) (by_process p h) ≡ filter (invokes p) h
invokes_of_process p h = filter-filter (invokes p) (λ e. process_of e == p) h
    ∙ filter_same (λ e. (process_of e == p) && invokes p e) (invokes p) h
    (λ e i. absorbs (process_of e == p) (is_invocation e))

-- the responses to a process before a number are among the events of the process
pub responds_in_part : (p t : ℕ) (h : List Numbered)
    → filter (λ m. responds p m.event && nat_lt m.number t) (part p h)
    ≡ filter (λ m. responds p m.event && nat_lt m.number t) h
responds_in_part p t h = filter-filter (λ m. responds p m.event && nat_lt m.number t) (λ m. process_of m.event == p) h
    ∙ filter_same (λ m. (process_of m.event == p) && (responds p m.event && nat_lt m.number t))
    (λ m. responds p m.event && nat_lt m.number t) h
    (λ m i. absorbs_more (process_of m.event == p) (not (is_invocation m.event)) (nat_lt m.number t))

-- each operation that is given a reply invokes once and responds once
pub invokes_dones : (p : ℕ) (give : ProcessCall → Option AnyReply) (os : List ProcessCall)
    → ((e : ProcessCall) → In e os → is_some (give e) ≡ true)
    → length (filter (invokes p) (dones give os)) ≡ length (filter (λ e. e.process == p) os)
invokes_dones p give [] f = refl
invokes_dones p give (e ∷ os) f =
    let rest = invokes_dones p give os (λ y i. f y (inr i)) in
    let given = f e (inl refl) in
    grind arith

pub responds_dones : (p : ℕ) (give : ProcessCall → Option AnyReply) (os : List ProcessCall)
    → ((e : ProcessCall) → In e os → is_some (give e) ≡ true)
    → length (filter (responds p) (dones give os)) ≡ length (filter (λ e. e.process == p) os)
responds_dones p give [] f = refl
responds_dones p give (e ∷ os) f =
    let rest = responds_dones p give os (λ y i. f y (inr i)) in
    let given = f e (inl refl) in
    grind arith
