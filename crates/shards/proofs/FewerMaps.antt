-- The maps on some objects have no fault where all maps have none. A process completes an operation on
-- the object of its invocation, so the maps that are left out of a process are left out in pairs.
use Rattle.std.proofs.Common.{arith, ◌≡◌, ℕ, ◌==◌, inl, inr, Bool, true, false, cond, List, [], ◌∷◌, ◌++◌, find}
use Rattle.std.proofs.Common.{filter, reverse, Some, Contains, refl, ap, ◌∙◌}
use Rattle.std.proofs.lemmas.Bool.{eqb-true, cases_eq}
use Rattle.std.proofs.lemmas.List.{append-nil, reverse-append}
use Rattle.std.proofs.lemmas.List.Elements.{filter-append}
use Rattle.model.proofs.Lists.{in_filter, in_filter_passes, in_from_contains, contains_from_in}
use Rattle.history.specs.Maps.{ClientMap}
use Rattle.history.specs.Faults.{last_map, HasOngoing, IsProcessClosed, CompletionDiffers, ClientFault}
use Rattle.history.specs.declared.fault.HistoryFaultKind.{HistoryFaultKind}
use Rattle.history.specs.declared.fault.HistoryFaultKind.TheVariants.{NotAnOperation, UnknownF, BadValue, MixedKinds}
use Rattle.history.specs.declared.fault.HistoryFaultKind.TheVariants.{Busy, Stray, Mismatch, AfterInfo, TooMany}
use Rattle.history.specs.declared.fault.HistoryFaultKind.TheVariants.{NoMemory}
use Rattle.history.proofs.FirstFaults.{last_stands}
use Rattle.history.proofs.Noting.{last_push}

-- the maps on these objects
abbrev pub on : (ℕ → Bool) → List ClientMap → List ClientMap
on has ms = filter (λ m. has m.object) ms

-- no fault of a map after these
abbrev pub IsFine : List ClientMap → ClientMap → Type 0
IsFine earlier m = (kind : HistoryFaultKind) → ClientFault earlier m kind → ⊥

-- no fault of these maps, one after another, after earlier ones
abbrev pub AreFine : List ClientMap → List ClientMap → Type 0
AreFine earlier [] = Unit {0}
AreFine earlier (m ∷ ms) = IsFine earlier m × AreFine (earlier ++ m ∷ []) ms

-- ---- the last map of a process

-- What is outstanding among the maps on some objects is outstanding among all.
abbrev IsOutstandingAmongAll : (ℕ → Bool) → List ClientMap → Type 0
IsOutstandingAmongAll has earlier =
    (p : ℕ) (o : ClientMap) → HasOngoing (on has earlier) p o → HasOngoing earlier p o

on_push : (has : ℕ → Bool) (earlier : List ClientMap) (m : ClientMap)
    → on has (earlier ++ m ∷ []) ≡ on has earlier ++ cond (has m.object) (m ∷ []) []
on_push has earlier m = filter-append (λ x. has x.object) earlier (m ∷ [])

-- the object of what is outstanding is one of those
kept_object : (has : ℕ → Bool) (earlier : List ClientMap) (p : ℕ) (o : ClientMap)
    → last_map p (on has earlier) ≡ Some o → has o.object ≡ true
kept_object has earlier p o last =
    in_filter_passes (λ m. has m.object) o earlier
    (in_from_contains (on has earlier) o (last_stands p (on has earlier) o last).0)

one_object : (o m : ClientMap) → (CompletionDiffers o m → ⊥) → o.object ≡ m.object
one_object o m same = elim (cases_eq o.object m.object) [ inl e ↦ e | inr ne ↦ absurd (same (inr ne)) ]

-- of a process with an outstanding operation, the next map completes it
next_object : (earlier : List ClientMap) (m o : ClientMap) → IsFine earlier m → HasOngoing earlier m.process o
    → o.object ≡ m.object
next_object earlier m o fine out =
    one_object o m (λ d. fine Mismatch (λ e. fine Busy (e, o, out), o, out, d))

outstanding_push : (has : ℕ → Bool) (earlier : List ClientMap) (m : ClientMap) → IsFine earlier m
    → IsOutstandingAmongAll has earlier → IsOutstandingAmongAll has (earlier ++ m ∷ [])
outstanding_push has earlier m fine h p o out = record {
  last = rw (last_push p earlier m) (go (has m.object) refl (m.process == p) refl);
  invoked = out.invoked;
}
  where
    last : (b : Bool) → has m.object ≡ b → last_map p (on has earlier ++ cond b (m ∷ []) []) ≡ Some o
    last b q = rw (on_push has earlier m, q) at out.last

    before : last_map p (on has earlier) ≡ Some o → HasOngoing earlier p o
    before was = h p o (record { last = was; invoked = out.invoked })

    go : (b : Bool) → has m.object ≡ b → (c : Bool) → (m.process == p) ≡ c
        → cond c (Some m) (last_map p earlier) ≡ Some o
    go true q true r = rw (last_push p (on has earlier) m, r) at (last true q)
    go true q false r = (before (rw (last_push p (on has earlier) m, r) at (last true q))).last
    go false q true r =
        let was : last_map p (on has earlier) ≡ Some o = rw (append-nil (on has earlier)) at (last false q) in
        let same = next_object earlier m o fine (rw (eqb-true m.process p r) (before was)) in
        let kept = kept_object has earlier p o was in
        absurd cc
    go false q false r = (before (rw (append-nil (on has earlier)) at (last false q))).last

-- the last map of a process, where its object is one of those, is the last one on them
last_kept : (has : ℕ → Bool) (p : ℕ) (ms : List ClientMap) (o : ClientMap)
    → find (λ m. m.process == p) ms ≡ Some o → has o.object ≡ true → find (λ m. m.process == p) (on has ms) ≡ Some o
last_kept has p [] o q k = q
last_kept has p (m ∷ ms) o q k = let rest = last_kept has p ms o in grind arith

reverse_on : (has : ℕ → Bool) (ms : List ClientMap) → reverse (on has ms) ≡ on has (reverse ms)
reverse_on has [] = refl
reverse_on has (m ∷ ms) =
    let rest = reverse_on has ms in
    let right = on_push has (reverse ms) m in
    let none = append-nil (on has (reverse ms)) in
    let whole = reverse-append (m ∷ []) ms in
    let own = reverse-append (m ∷ []) (on has ms) in
    grind arith

outstanding_on : (has : ℕ → Bool) (earlier : List ClientMap) (p : ℕ) (o : ClientMap) → HasOngoing earlier p o
    → has o.object ≡ true → HasOngoing (on has earlier) p o
outstanding_on has earlier p o out k = record {
  last = ap (find (λ m. m.process == p)) (reverse_on has earlier) ∙ last_kept has p (reverse earlier) o out.last k;
  invoked = out.invoked;
}

-- ---- one map

contains_all : (has : ℕ → Bool) (earlier : List ClientMap) (m : ClientMap) → Contains (on has earlier) m
    → Contains earlier m
contains_all has earlier m h =
    contains_from_in earlier m (in_filter (λ x. has x.object) m earlier (in_from_contains (on has earlier) m h))

closed_all : (has : ℕ → Bool) (earlier : List ClientMap) (p : ℕ) → IsProcessClosed (on has earlier) p
    → IsProcessClosed earlier p
closed_all has earlier p c = record {
  map = c.map;
  stands = contains_all has earlier c.map c.stands;
  of_process = c.of_process;
  unknown = c.unknown;
}

fine_on : (has : ℕ → Bool) (earlier : List ClientMap) (m : ClientMap) → IsOutstandingAmongAll has earlier
    → IsFine earlier m → has m.object ≡ true → IsFine (on has earlier) m
fine_on has earlier m among fine kept = go
  where
    go : (kind : HistoryFaultKind) → ClientFault (on has earlier) m kind → ⊥
    go NotAnOperation f = f
    go UnknownF f = fine UnknownF f
    go BadValue f = fine BadValue f
    go MixedKinds f = fine MixedKinds (record {
      other = f.other;
      stands = contains_all has earlier f.other f.stands;
      same_object = f.same_object;
      known = f.known;
      other_known = f.other_known;
      is_known = f.is_known;
      other_is_known = f.other_is_known;
      apart = f.apart;
    })
    go Busy f = fine Busy (f.0, f.1, among m.process f.1 f.2)
    go Stray f = fine Stray (
      f.0,
      λ c. fine AfterInfo c,
      λ o out. f.2 o (outstanding_on has earlier m.process o out
          (ap has (next_object earlier m o fine out) ∙ kept)),
    )
    go Mismatch f = fine Mismatch (f.0, f.1, among m.process f.1 f.2, f.3)
    go AfterInfo f = fine AfterInfo (closed_all has earlier m.process f)
    go TooMany f = f
    go NoMemory f = f

-- ---- maps one after another

-- the maps so far, of which no process completes elsewhere, and more maps
pub are_fine_on : (has : ℕ → Bool) (earlier ms : List ClientMap) → IsOutstandingAmongAll has earlier
    → AreFine earlier ms → AreFine (on has earlier) (on has ms)
are_fine_on has earlier [] among fine = tt
are_fine_on has earlier (m ∷ ms) among fine =
    go (has m.object) refl
    (are_fine_on has (earlier ++ m ∷ []) ms (outstanding_push has earlier m fine.0 among) fine.1)
  where
    go : (b : Bool) → has m.object ≡ b → AreFine (on has (earlier ++ m ∷ [])) (on has ms)
        → AreFine (on has earlier) (cond b (m ∷ on has ms) (on has ms))
    go true q rest = (fine_on has earlier m among fine.0 q, rw (on_push has earlier m, q) at rest)
    go false q rest = rw (on_push has earlier m, q, append-nil (on has earlier)) at rest

pub nothing_outstanding : (has : ℕ → Bool) → IsOutstandingAmongAll has []
nothing_outstanding has p o out = absurd cc
