-- The objects that are counted are those that some invocation names, each once: by induction over the uses, which add a
-- new object to those seen.
use Rattle.std.proofs.Common.{◌≡◌, ◌≢◌, ℕ, zero, suc, ◌<◌, ◌==◌, Bool, true, false, cond, ◌⊎◌, inl, inr, List, [], ◌∷◌}
use Rattle.std.proofs.Common.{◌++◌, length, get_or, map, fold, AllPairs, Contains, refl, ap, sym, ◌∙◌, subst, arith}
use Rattle.std.specs.Prelude.{nat_eq, ◌||◌, ◌↔◌}
use Rattle.std.specs.List.{list_any, cons_option}
use Rattle.std.proofs.lemmas.Bool.{both_ways, or_parts, eqb-true, eq-eqb}
use Rattle.std.proofs.lemmas.List.Elements.{Contains-append_left, Contains-push, Contains-push_cases}
use Rattle.std.proofs.lemmas.List.Quantifiers.{all_pairs_push}
use Rattle.model.specs.declared.AnyOp.{AnyOp}
use Rattle.events.specs.declared.event.Action.{Action}
use Rattle.events.specs.declared.event.Action.TheVariants.{Invoke, Ok, Fail, Info}
use Rattle.events.specs.declared.event.Event.{Event}
use Rattle.events.specs.Events.{IsNamed}
use Rattle.seq_objects.specs.Kinds.{place_of}
use Rattle.report.specs.Counts.{Use, use_by, uses, with_new, same_kind, objects_in, kinds_in}
use Rattle.certificate.proofs.Reading.{Contains-cons}

any_none : {X : Type 0} (p : X → Bool) (xs : List X) (k : ℕ) (d : X) → list_any p xs ≡ false → k < length xs
    → p (get_or xs k d) ≡ false
any_none p [] k d h lt = absurd (omega arith)
any_none p (x ∷ xs) zero d h lt = (or_parts (p x) (list_any p xs) h).0
any_none p (x ∷ xs) (suc k) d h lt = any_none p xs k d (or_parts (p x) (list_any p xs) h).1 (omega arith)

-- ---- each once, by a test that equal elements pass

module _ {X : Type 0} (same : X → X → Bool) (passes : (x y : X) → x ≡ y → same x y ≡ true) where
  with_new_once : (seen : List X) (x : X) (b : Bool) → list_any (same x) seen ≡ b → AllPairs (λ a c. a ≢ c) seen
      → AllPairs (λ a c. a ≢ c) (cond b seen (seen ++ x ∷ []))
  with_new_once seen x true e h = h
  with_new_once seen x false e h =
      all_pairs_push (λ (a c : X). a ≢ c) seen x h (λ k d lt equal. both_ways (same x (get_or seen k d))
      (any_none (same x) seen k d e lt) (passes x (get_or seen k d) (sym equal)))

  seen_once : (seen xs : List X) → AllPairs (λ a c. a ≢ c) seen → AllPairs (λ a c. a ≢ c) (fold (with_new same) seen xs)
  seen_once seen [] h = h
  seen_once seen (x ∷ xs) h = seen_once (with_new same seen x) xs (with_new_once seen x (list_any (same x) seen) refl h)

pub objects_once : (us : List Use) → AllPairs (λ a c. a ≢ c) (objects_in us)
objects_once us = seen_once nat_eq eq-eqb [] (map (λ (u : Use). u.object) us) (λ i j d lt below. absurd (omega arith))

pub kinds_once : (us : List Use) → AllPairs (λ k l. k ≢ l) (kinds_in us)
kinds_once us = seen_once same_kind (λ k l e. eq-eqb (place_of k) (place_of l) (ap place_of e)) []
    (map (λ (u : Use). u.kind) us) (λ i j d lt below. absurd (omega arith))

-- ---- those of the list

among : (x : ℕ) (xs : List ℕ) → list_any (nat_eq x) xs ≡ true → Contains xs x
among x [] h = absurd cc
among x (y ∷ ys) h = by (x == y) refl h (among x ys)
  where
    by : (b : Bool) → (x == y) ≡ b → (b || list_any (nat_eq x) ys) ≡ true
        → (list_any (nat_eq x) ys ≡ true → Contains ys x) → Contains (y ∷ ys) x
    by true e k more = (0, omega arith, sym (eqb-true x y e))
    by false e k more = Contains-cons y ys x (more k)

with_new_has : (seen : List ℕ) (x : ℕ) (b : Bool) → list_any (nat_eq x) seen ≡ b
    → Contains (cond b seen (seen ++ x ∷ [])) x
with_new_has seen x true e = among x seen e
with_new_has seen x false e = Contains-push seen x

with_new_keeps : (seen : List ℕ) (x y : ℕ) (b : Bool) → Contains seen y → Contains (cond b seen (seen ++ x ∷ [])) y
with_new_keeps seen x y true h = h
with_new_keeps seen x y false h = Contains-append_left seen (x ∷ []) y h

with_new_from : (seen : List ℕ) (x y : ℕ) (b : Bool) → Contains (cond b seen (seen ++ x ∷ [])) y → Contains seen y
    ⊎ (x ≡ y)
with_new_from seen x y true h = inl h
with_new_from seen x y false h = Contains-push_cases seen x y h

kept : (seen xs : List ℕ) (y : ℕ) → Contains seen y → Contains (fold (with_new nat_eq) seen xs) y
kept seen [] y h = h
kept seen (x ∷ xs) y h = kept (with_new nat_eq seen x) xs y (with_new_keeps seen x y (list_any (nat_eq x) seen) h)

seen_from_list : (seen xs : List ℕ) (y k : ℕ) → k < length xs → get_or xs k y ≡ y
    → Contains (fold (with_new nat_eq) seen xs) y
seen_from_list seen [] y k lt is = absurd (omega arith)
seen_from_list seen (x ∷ xs) y zero lt is =
    subst (Contains (fold (with_new nat_eq) (with_new nat_eq seen x) xs)) is
    (kept (with_new nat_eq seen x) xs x (with_new_has seen x (list_any (nat_eq x) seen) refl))
seen_from_list seen (x ∷ xs) y (suc k) lt is = seen_from_list (with_new nat_eq seen x) xs y k (omega arith) is

either_from : (x : ℕ) (seen xs : List ℕ) (y : ℕ) → (Contains seen y ⊎ (x ≡ y)) ⊎ Contains xs y → Contains seen y
    ⊎ Contains (x ∷ xs) y
either_from x seen xs y (inl (inl h)) = inl h
either_from x seen xs y (inl (inr e)) = inr (0, omega arith, e)
either_from x seen xs y (inr h) = inr (Contains-cons x xs y h)

first_of : {P Q R : Type 0} → P ⊎ Q → (P → R) → R ⊎ Q
first_of (inl p) f = inl (f p)
first_of (inr q) f = inr q

seen_to_list : (seen xs : List ℕ) (y : ℕ) → Contains (fold (with_new nat_eq) seen xs) y → Contains seen y
    ⊎ Contains xs y
seen_to_list seen [] y h = inl h
seen_to_list seen (x ∷ xs) y h = either_from x seen xs y
    (first_of (seen_to_list (with_new nat_eq seen x) xs y h) (with_new_from seen x y (list_any (nat_eq x) seen)))

no_element : {X : Type 0} (y : X) → Contains [] y → ⊥
no_element y (k, lt, is) = omega arith

from_list : (xs : List ℕ) (y : ℕ) → Contains [] y ⊎ Contains xs y → Contains xs y
from_list xs y (inl h) = absurd (no_element y h)
from_list xs y (inr h) = h

-- ---- the objects of the invocations

pub later_named : (event : Event) (later : List Event) (object : ℕ) → IsNamed later object
    → IsNamed (event ∷ later) object
later_named event later object named = record {
  event = named.event;
  op = named.op;
  stands = Contains-cons event later named.event named.stands;
  on_object = named.on_object;
  invokes = named.invokes;
}

-- an object that one of the uses is of is one that some invocation names
used_named : (event : Event) (later : List Event) (action : Action) (object place : ℕ) → event.action ≡ action
    → place < length (map (λ (u : Use). u.object) (cons_option (use_by event.object action) (uses later)))
    → get_or (map (λ (u : Use). u.object) (cons_option (use_by event.object action) (uses later))) place object ≡ object
    → ((j : ℕ) → j < length (map (λ (u : Use). u.object) (uses later))
    → get_or (map (λ (u : Use). u.object) (uses later)) j object ≡ object → IsNamed later object)
    → IsNamed (event ∷ later) object
used_named event later (Invoke op) object zero is lt at more = record
    { event = event; op = op; stands = (0, omega arith, refl); on_object = at; invokes = is }
used_named event later (Invoke op) object (suc place) is lt at more =
    later_named event later object (more place (omega arith) at)
used_named event later (Ok reply) object place is lt at more = later_named event later object (more place lt at)
used_named event later Fail object place is lt at more = later_named event later object (more place lt at)
used_named event later Info object place is lt at more = later_named event later object (more place lt at)

named_from_uses : (events : List Event) (object place : ℕ) → place < length (map (λ (u : Use). u.object) (uses events))
    → get_or (map (λ (u : Use). u.object) (uses events)) place object ≡ object → IsNamed events object
named_from_uses [] object place lt at = absurd (omega arith)
named_from_uses (event ∷ events) object place lt at =
    used_named event events event.action object place refl lt at (named_from_uses events object)

use_first : (x : ℕ) (a : Action) (us : List Use) (y : ℕ) → Contains (map (λ (u : Use). u.object) us) y
    → Contains (map (λ (u : Use). u.object) (cons_option (use_by x a) us)) y
use_first x (Invoke op) us y h = Contains-cons x (map (λ (u : Use). u.object) us) y h
use_first x (Ok r) us y h = h
use_first x Fail us y h = h
use_first x Info us y h = h

-- what an invocation of the history names is among the objects of the uses
uses_from_named : (events : List Event) (named : Event) (op : AnyOp) (object place : ℕ) → place < length events
    → get_or events place named ≡ named
    → named.object ≡ object → named.action ≡ Invoke op → Contains (map (λ (u : Use). u.object) (uses events)) object
uses_from_named [] named op object place lt at on is = absurd (omega arith)
uses_from_named (event ∷ events) named op object zero lt at on is =
    let own : use_by event.object event.action ≡ use_by named.object (Invoke op) =
    ap (λ (v : Event). use_by v.object v.action) at ∙ ap (use_by named.object) is in
    let here : Contains (map (λ (u : Use). u.object) (cons_option (use_by named.object (Invoke op)) (uses events)))
    object =
    (0, omega arith, on) in
    subst (λ u. Contains (map (λ (v : Use). v.object) (cons_option u (uses events))) object) (sym own) here
uses_from_named (event ∷ events) named op object (suc place) lt at on is =
    use_first event.object event.action (uses events) object
    (uses_from_named events named op object place (omega arith) at on is)

pub objects_named : (es : List Event) (x : ℕ) → Contains (objects_in (uses es)) x ↔ IsNamed es x
objects_named es x = (
  λ h. let c = from_list (map (λ (u : Use). u.object) (uses es)) x
      (seen_to_list [] (map (λ (u : Use). u.object) (uses es)) x h) in named_from_uses es x c.0 c.1 c.2,
  λ n. let c = uses_from_named es n.event n.op x n.stands.0 n.stands.1 n.stands.2 n.on_object n.invokes in
      seen_from_list [] (map (λ (u : Use). u.object) (uses es)) x c.0 c.1 c.2,
)
