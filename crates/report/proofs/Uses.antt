-- Counting the invocations of a history, by induction: one invocation more adds its kind and its object where they are
-- new. What is counted is what the history has, since each event that invokes is an invocation.
use Rattle.std.proofs.Common.{◌≡◌, ℕ, suc, ◌==◌, ◌+◌, ◌<◌, ◌&&◌, Bool, true, false, not, cond}
use Rattle.std.proofs.Common.{List, [], ◌∷◌, ◌++◌, length, take, get_or, map, filter}
use Rattle.std.proofs.Common.{Option, Some, None, refl, ap, sym, ◌∙◌, subst, arith, length-append}
use Rattle.std.specs.Prelude.{nat_eq, ◌||◌}
use Rattle.std.specs.List.{list_any, cons_option}
use Rattle.std.proofs.lemmas.Bool.Decides.{nat_tests}
use Rattle.std.proofs.lemmas.Bool.{eqb-true}
use Rattle.std.proofs.lemmas.List.{take_more, map-append, append-nil}
use Rattle.std.proofs.lemmas.List.Elements.{filter-append}
use Rattle.std.proofs.lemmas.List.Sums.{fold-append}
use Rattle.model.specs.declared.Kind.{Kind}
use Rattle.model.specs.Objects.{kind_of}
use Rattle.model.specs.Orders.{Numbered, ProcessCall, calls_in}
use Rattle.events.specs.declared.event.Action.{Action}
use Rattle.events.specs.declared.event.Action.TheVariants.{Invoke}
use Rattle.events.specs.declared.event.Event.{Event}
use Rattle.events.specs.Events.{denoted, denoted_by, fails, next_event}
use Rattle.report.specs.Counts.{Use, use_by, uses, with_new, first_seen, same_kind, objects_in}
use Rattle.report.specs.Counts.{kinds_in, operations_in, operations_of_kind, objects_of, count_of}
use Rattle.report.specs.Invoked.{invocations, invocation_by, is_of, operation_count, object_numbers, kind_count}
use Rattle.report.specs.Invoked.{AreSeen}
use Rattle.report.specs.declared.counting.Invoked.{Invoked}

-- ---- one element more

first_seen-push : {X : Type 0} (same : X → X → Bool) (xs : List X) (y : X) → first_seen same (xs ++ y ∷ [])
    ≡ with_new same (first_seen same xs) y
first_seen-push same xs y = fold-append (with_new same) [] xs (y ∷ [])

-- one invocation more, among those of a kind
named_push : (kind : Option Kind) (seen : List Invoked) (next : Invoked) → object_numbers kind (seen ++ next ∷ [])
    ≡ cond (is_of kind next) (with_new nat_eq (object_numbers kind seen) next.object) (object_numbers kind seen)
named_push kind seen next = ap (λ is. first_seen nat_eq (map (λ (i : Invoked). i.object) is))
    (filter-append (is_of kind) seen (next ∷ [])) ∙ go (is_of kind next)
  where
    go : (b : Bool) → first_seen nat_eq (map (λ (i : Invoked). i.object)
        (filter (is_of kind) seen ++ cond b (next ∷ []) []))
        ≡ cond b (with_new nat_eq (object_numbers kind seen) next.object)
        (object_numbers kind seen)
    go true = ap (first_seen nat_eq) (map-append (λ (i : Invoked). i.object) (filter (is_of kind) seen) (next ∷ []))
        ∙ first_seen-push nat_eq (map (λ (i : Invoked). i.object) (filter (is_of kind) seen)) next.object
    go false = ap (λ is. first_seen nat_eq (map (λ (i : Invoked). i.object) is)) (append-nil (filter (is_of kind) seen))

any_push : (p : ℕ → Bool) (xs : List ℕ) (y : ℕ) → list_any p (xs ++ y ∷ []) ≡ (list_any p xs || p y)
any_push p [] y = grind arith
any_push p (x ∷ xs) y = grind (arith, any_push p xs y)

-- one object more: it is among those that were seen, or new
with_object : (old new : ℕ → Bool) (number more object : ℕ) (seen : List ℕ)
    → ((x : ℕ) → new x ≡ cond (object == x) true (old x)) → more ≡ cond (old object) 0 1
    → AreSeen old number seen → AreSeen new (number + more) (with_new nat_eq seen object)
with_object old new number more object seen among is h = go (list_any (nat_eq object) seen) refl
  where
    known : list_any (nat_eq object) seen ≡ true → (x : ℕ) (b : Bool) → (object == x) ≡ b → cond b true (old x)
        ≡ list_any (nat_eq x) seen
    known q x true e = sym (subst (λ y. list_any (nat_eq y) seen ≡ true) (eqb-true object x e) q)
    known q x false e = h.objects x

    fresh : (x : ℕ) (b : Bool) → (object == x) ≡ b → cond b true (old x) ≡ (list_any (nat_eq x) seen || (x == object))
    fresh x b e = let before = h.objects x in grind (arith, nat_tests)

    go : (b : Bool) → list_any (nat_eq object) seen ≡ b
        → AreSeen new (number + more) (cond b seen (seen ++ object ∷ []))
    go true q =
        let none : more ≡ 0 = is ∙ ap (λ b. cond b 0 1) (h.objects object ∙ q) in
        let count = h.count in
        record { objects = λ x. among x ∙ known q x (object == x) refl; count = omega (arith, none, count) }
    go false q =
        let one : more ≡ 1 = is ∙ ap (λ b. cond b 0 1) (h.objects object ∙ q) in
        let count = h.count in
        let long : length (seen ++ object ∷ []) ≡ length seen + 1 = length-append seen (object ∷ []) in
        record {
          objects = λ x. among x ∙ fresh x (object == x) refl
              ∙ sym (any_push (nat_eq x) seen object);
          count = omega (arith, one, count, long);
        }

-- one invocation more of the kind: its object was seen before, or it is counted too
pub one_of_kind : (kind : Option Kind) (seen : List Invoked) (next : Invoked) (old new : ℕ → Bool) (count more : ℕ)
    → is_of kind next
    ≡ true
    → ((x : ℕ) → new x ≡ cond (next.object == x) true (old x)) → more ≡ cond (old next.object) 0 1
    → AreSeen old count (object_numbers kind seen)
    → AreSeen new (count + more) (object_numbers kind (seen ++ next ∷ []))
one_of_kind kind seen next old new count more own among is h =
    subst (AreSeen new (count + more)) (sym
    (named_push kind seen next ∙ ap (λ b. cond b (with_new nat_eq (object_numbers kind seen) next.object)
    (object_numbers kind seen)) own)) (with_object old new count more next.object (object_numbers kind seen) among is h)

-- one invocation more of another kind changes no count
pub one_of_another : (kind : Option Kind) (seen : List Invoked) (next : Invoked) (old : ℕ → Bool) (number : ℕ)
    → is_of kind next ≡ false
    → AreSeen old number (object_numbers kind seen) → AreSeen old (number + 0) (object_numbers kind (seen ++ next ∷ []))
one_of_another kind seen next old number other h =
    let same : object_numbers kind (seen ++ next ∷ []) ≡ object_numbers kind seen = named_push kind seen next
    ∙ ap (λ b. cond b (with_new nat_eq (object_numbers kind seen) next.object) (object_numbers kind seen)) other in
    let count : number ≡ length (object_numbers kind seen) = h.count in
    let more : number + 0 ≡ length (object_numbers kind seen) = omega (arith, count) in
    subst (AreSeen old (number + 0)) (sym same) (record { objects = h.objects; count = more })

-- the next invocation of a list is put after those before it
pub seen_next : (kind : Option Kind) (all : List Invoked) (i : ℕ) (default : Invoked) (new : ℕ → Bool) (count : ℕ)
    → i < length all → AreSeen new count (object_numbers kind (take i all ++ get_or all i default ∷ []))
    → AreSeen new count (object_numbers kind (take (i + 1) all))
seen_next kind all i default new count inside h =
    subst (λ xs. AreSeen new count (object_numbers kind xs)) (sym (take_more all i default inside)) h

-- ---- kinds

-- one kind more
pub kinds_on : (all : List Invoked) (i : ℕ) (default : Invoked) (old new : List Kind) → i < length all → old
    ≡ first_seen same_kind (map (λ (v : Invoked). v.kind) (take i all))
    → new ≡ with_new same_kind old (get_or all i default).kind → new
    ≡ first_seen same_kind (map (λ (v : Invoked). v.kind) (take (i + 1) all))
kinds_on all i default old new inside h step =
    let k = (get_or all i default).kind in
    step ∙ ap (λ ks. with_new same_kind ks k) h
    ∙ sym (first_seen-push same_kind (map (λ (v : Invoked). v.kind) (take i all)) k)
    ∙ ap (first_seen same_kind) (sym (ap (map (λ (v : Invoked). v.kind)) (take_more all i default inside)
    ∙ map-append (λ (v : Invoked). v.kind) (take i all) (get_or all i default ∷ [])))

-- ---- what is counted is what the history has

abbrev pub of_invoked : Invoked → Use
of_invoked i = record { object = i.object; kind = i.kind }

uses_step : (object : ℕ) (action : Action) (failed : Bool) (others : List Use) (later : List Invoked)
    → others ≡ map of_invoked later
    → cons_option (use_by object action) others ≡ map of_invoked (invocation_by object action failed ++ later)
uses_step object (Invoke op) failed others later same =
    ap (λ vs. record { object = object; kind = kind_of op } ∷ vs) same
uses_step object action failed others later same = same

uses_are : (es : List Event) → uses es ≡ map of_invoked (invocations es)
uses_are [] = refl
uses_are (e ∷ es) = uses_step e.object e.action (fails (next_event e.process es)) (uses es) (invocations es)
    (uses_are es)

map-map : {X Y Z : Type 0} (f : X → Y) (g : Y → Z) (xs : List X) → map g (map f xs) ≡ map (λ x. g (f x)) xs
map-map f g [] = refl
map-map f g (x ∷ xs) = ap (λ zs. g (f x) ∷ zs) (map-map f g xs)

filter-map : {X Y : Type 0} (f : X → Y) (p : Y → Bool) (xs : List X) → filter p (map f xs)
    ≡ map f (filter (λ x. p (f x)) xs)
filter-map f p [] = refl
filter-map f p (x ∷ xs) = grind (arith, filter-map f p xs)

filter-everything : {X : Type 0} (xs : List X) → filter (λ x. true) xs ≡ xs
filter-everything [] = refl
filter-everything (x ∷ xs) = ap (λ ys. x ∷ ys) (filter-everything xs)

pub kinds_are : (es : List Event) → first_seen same_kind (map (λ (i : Invoked). i.kind) (invocations es))
    ≡ kinds_in (uses es)
kinds_are es = ap (first_seen same_kind) (sym (map-map of_invoked (λ (u : Use). u.kind) (invocations es))
    ∙ ap (map (λ (u : Use). u.kind)) (sym (uses_are es)))

pub objects_are : (es : List Event) → object_numbers None (invocations es) ≡ objects_in (uses es)
objects_are es =
    ap (λ xs. first_seen nat_eq (map (λ (i : Invoked). i.object) xs)) (filter-everything (invocations es))
    ∙ ap (first_seen nat_eq) (sym (map-map of_invoked (λ (u : Use). u.object) (invocations es))
    ∙ ap (map (λ (u : Use). u.object)) (sym (uses_are es)))

objects_of_are : (k : Kind) (es : List Event) → object_numbers (Some k) (invocations es) ≡ objects_of k es
objects_of_are k es =
    ap (first_seen nat_eq) (sym (map-map of_invoked (λ (u : Use). u.object) (filter (is_of (Some k)) (invocations es)))
    ∙ ap (map (λ (u : Use). u.object)) (sym (filter-map of_invoked (λ (u : Use). same_kind k u.kind)
    (invocations es)) ∙ ap (filter (λ (u : Use). same_kind k u.kind)) (sym (uses_are es))))

-- ---- operations

-- a call of this kind, or any
abbrev pub is_call_of : Option Kind → ProcessCall → Bool
is_call_of None c = true
is_call_of (Some k) c = same_kind k (kind_of c.call.op)

abbrev counted : Option Kind → Invoked → Bool
counted k i = is_of k i && not i.failed

-- the next event adds as many operations to the one count as to the other
count_step : (kind : Option Kind) (number process object : ℕ) (action : Action) (failed : Bool) (rest : List Numbered)
    (later : List Invoked) → length (filter (counted kind) later) ≡ length (filter (is_call_of kind) (calls_in rest))
    → length (filter (counted kind) (invocation_by object action failed ++ later))
    ≡ length (filter (is_call_of kind) (calls_in (denoted_by number process object action failed ++ rest)))
count_step None number process object (Invoke op) true rest later same = same
count_step None number process object (Invoke op) false rest later same = ap suc same
count_step (Some kind) number process object (Invoke op) true rest later same = grind arith
count_step (Some kind) number process object (Invoke op) false rest later same = grind arith
count_step kind number process object action failed rest later same = same

count_is : (kind : Option Kind) (events : List Event) → operation_count kind (invocations events)
    ≡ length (filter (is_call_of kind) (calls_in (denoted events)))
count_is None [] = refl
count_is (Some kind) [] = refl
count_is kind (event ∷ events) =
    count_step kind event.number event.process event.object event.action (fails (next_event event.process events))
    (denoted events) (invocations events) (count_is kind events)

pub operations_are : (es : List Event) → operation_count None (invocations es) ≡ length (operations_in es)
operations_are es = count_is None es ∙ ap length (filter-everything (calls_in (denoted es)))

operations_of_are : (k : Kind) (es : List Event) → operation_count (Some k) (invocations es)
    ≡ length (operations_of_kind k es)
operations_of_are k es = count_is (Some k) es

map-same : {X Y : Type 0} (f g : X → Y) (xs : List X) → ((x : X) → f x ≡ g x) → map f xs ≡ map g xs
map-same f g [] h = refl
map-same f g (x ∷ xs) h = ap (λ y. y ∷ map f xs) (h x) ∙ ap (λ ys. g x ∷ ys) (map-same f g xs h)

count_is_of : (es : List Event) (k : Kind) → kind_count (invocations es) k ≡ count_of es k
count_is_of es k =
    let objects : length (object_numbers (Some k) (invocations es))
    ≡ length (objects_of k es) = ap length (objects_of_are k es) in
    let operations = operations_of_are k es in
    cc (objects, operations)

pub counts_are : (es : List Event) → map (kind_count (invocations es))
    (first_seen same_kind (map (λ (i : Invoked). i.kind) (invocations es))) ≡ map (count_of es) (kinds_in (uses es))
counts_are es = ap (map (kind_count (invocations es))) (kinds_are es)
    ∙ map-same (kind_count (invocations es)) (count_of es) (kinds_in (uses es)) (count_is_of es)
