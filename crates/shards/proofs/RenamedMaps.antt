-- Maps that say the same as others, of objects by other names: they have no fault where the others have none, if no two
-- objects get the same name. A fault speaks of processes, types, functions and values, which stay, and of whether two
-- maps are on one object.
use Rattle.std.proofs.Common.{arith, ◌≡◌, ℕ, ◌==◌, inl, inr, List, [], ◌∷◌, ◌++◌, find, reverse, Option, Some, None}
use Rattle.std.proofs.Common.{◌<◌, length, get_or, Contains, refl, ap, sym, ◌∙◌, subst, append_assoc}
use Rattle.std.specs.List.{AllZip}
use Rattle.std.proofs.lemmas.List.{reverse-append}
use Rattle.std.proofs.lemmas.List.Elements.{AllZip-get_or, AllZip-push, Contains-get_or, length_all_zip}
use Rattle.model.specs.Lists.{In}
use Rattle.model.proofs.Lists.{in_middle, in_left, in_from_contains}
use Rattle.history.specs.Maps.{ClientMap, MapType, op_in, reply_in}
use Rattle.history.specs.Denotes.{action_of}
use Rattle.history.specs.Faults.{last_map, CompletionDiffers, IsProcessClosed, HasOngoing, ClientFault, HasBadValue}
use Rattle.history.specs.declared.fault.HistoryFaultKind.{HistoryFaultKind}
use Rattle.history.specs.declared.fault.HistoryFaultKind.TheVariants.{NotAnOperation, UnknownF, BadValue, MixedKinds}
use Rattle.history.specs.declared.fault.HistoryFaultKind.TheVariants.{Busy, Stray, Mismatch, AfterInfo, TooMany}
use Rattle.history.specs.declared.fault.HistoryFaultKind.TheVariants.{NoMemory}
use Rattle.shards.specs.ShardTexts.{IsRenamed}
use Rattle.shards.proofs.FewerMaps.{IsFine, AreFine}

-- maps one by one
abbrev pub AreRenamedMaps : (ℕ → ℕ) → List ClientMap → List ClientMap → Type 0
AreRenamedMaps name ms ns = AllZip (IsRenamed name) ms ns

-- a map of the first, and one of the second
abbrev AreBoth : (ℕ → ℕ) → Option ClientMap → Option ClientMap → Type 0
AreBoth name None None = Unit {0}
AreBoth name None (Some n) = ⊥
AreBoth name (Some m) None = ⊥
AreBoth name (Some m) (Some n) = IsRenamed name m n

module _ (name : ℕ → ℕ) where
  -- the map whose renamed one this is
  before : (ms ns : List ClientMap) → AreRenamedMaps name ms ns → (n : ClientMap) → Contains ns n
      → (m : ClientMap) × Contains ms m × IsRenamed name m n
  before ms ns h n c =
      let long = length_all_zip (IsRenamed name) ms ns h in
      let within : c.0 < length ms = omega (arith, c.1, long) in (
        get_or ms c.0 n,
        Contains-get_or ms c.0 n within,
        rw c.2 at (AllZip-get_or (IsRenamed name) ms ns c.0 n n h within),
      )

  -- the renamed one of a map
  after : (ms ns : List ClientMap) → AreRenamedMaps name ms ns → (m : ClientMap) → Contains ms m
      → (n : ClientMap) × Contains ns n × IsRenamed name m n
  after ms ns h m c =
      let long = length_all_zip (IsRenamed name) ms ns h in (
        get_or ns c.0 m,
        Contains-get_or ns c.0 m (omega (arith, c.1, long)),
        rw c.2 at (AllZip-get_or (IsRenamed name) ms ns c.0 m m h c.1),
      )

  -- ---- the last map of a process

  in_reverse : (ms ns : List ClientMap) → AreRenamedMaps name ms ns → AreRenamedMaps name (reverse ms) (reverse ns)
  in_reverse [] [] h = tt
  in_reverse (m ∷ ms) (n ∷ ns) h = rw (reverse-append (m ∷ []) ms, reverse-append (n ∷ []) ns)
      (AllZip-push (IsRenamed name) (reverse ms) (reverse ns) m n (in_reverse ms ns h.1) h.0)
  in_reverse ms ns h = absurd h

  both_found : (p : ℕ) (ms ns : List ClientMap) → AreRenamedMaps name ms ns
      → AreBoth name (find (λ m. m.process == p) ms) (find (λ m. m.process == p) ns)
  both_found p [] [] h = tt
  both_found p (m ∷ ms) (n ∷ ns) h =
      let rest = both_found p ms ns h.1 in
      let first = h.0 in
      let same = h.0.process in
      grind arith
  both_found p ms ns h = absurd h

  both_last : (p : ℕ) (ms ns : List ClientMap) → AreRenamedMaps name ms ns
      → AreBoth name (last_map p ms) (last_map p ns)
  both_last p ms ns h = both_found p (reverse ms) (reverse ns) (in_reverse ms ns h)

  last_before : (o : Option ClientMap) (n : ClientMap) → AreBoth name o (Some n)
      → (m : ClientMap) × (o ≡ Some m) × IsRenamed name m n
  last_before None n h = absurd h
  last_before (Some m) n h = (m, refl, h)

  last_after : (m : ClientMap) (o : Option ClientMap) → AreBoth name (Some m) o
      → (n : ClientMap) × (o ≡ Some n) × IsRenamed name m n
  last_after m None h = absurd h
  last_after m (Some n) h = (n, refl, h)

  module _ (ms ns : List ClientMap) (h : AreRenamedMaps name ms ns) (p : ℕ) where
    outstanding_before : (o : ClientMap) → HasOngoing ns p o
        → (m : ClientMap) × HasOngoing ms p m × IsRenamed name m o
    outstanding_before o out =
        let last = last_before (last_map p ms) o (rw out.last at (both_last p ms ns h)) in
        (last.0, record { last = last.1; invoked = sym last.2.type ∙ out.invoked }, last.2)

    outstanding_after : (o : ClientMap) → HasOngoing ms p o → (n : ClientMap) × HasOngoing ns p n
    outstanding_after o out =
        let last = last_after o (last_map p ns) (rw out.last at (both_last p ms ns h)) in
        (last.0, record { last = last.1; invoked = last.2.type ∙ out.invoked })

    closed_before : IsProcessClosed ns p → IsProcessClosed ms p
    closed_before c =
        let m = before ms ns h c.map c.stands in
        record {
          map = m.0;
          stands = m.1;
          of_process = sym m.2.process ∙ c.of_process;
          unknown = sym m.2.type ∙ c.unknown;
        }

    closed_after : IsProcessClosed ms p → IsProcessClosed ns p
    closed_after c =
        let n = after ms ns h c.map c.stands in
        record { map = n.0; stands = n.1; of_process = n.2.process ∙ c.of_process; unknown = n.2.type ∙ c.unknown }

-- ---- one map

same_op : (name : ℕ → ℕ) (m n : ClientMap) → IsRenamed name m n → op_in n ≡ op_in m
same_op name m n r = rw (r.function, r.value)

same_reply : (name : ℕ → ℕ) (m n : ClientMap) → IsRenamed name m n → reply_in n ≡ reply_in m
same_reply name m n r = rw (r.function, r.value)

-- A map and its renamed map have the same action.
pub same_action : (name : ℕ → ℕ) (m n : ClientMap) → IsRenamed name m n → action_of n.type n ≡ action_of m.type m
same_action name m n r =
    let op = same_op name m n r in
    let reply = same_reply name m n r in
    let type = r.type in
    grind arith

bad_before : (name : ℕ → ℕ) (m n : ClientMap) → IsRenamed name m n → (t : MapType) → HasBadValue t n → HasBadValue t m
bad_before name m n r t bad =
    let op = same_op name m n r in
    let reply = same_reply name m n r in
    grind arith

-- of these maps none on another object has the same name
abbrev IsApart : (ℕ → ℕ) → List ClientMap → ClientMap → Type 0
IsApart name ms m = (x : ClientMap) → In x ms → name x.object ≡ name m.object → x.object ≡ m.object

fine_renamed : (name : ℕ → ℕ) (ms ns : List ClientMap) (m n : ClientMap) → AreRenamedMaps name ms ns
    → IsRenamed name m n → IsApart name ms m → IsFine ms m → IsFine ns n
fine_renamed name ms ns m n h r apart fine = go
  where
    differs : (o x : ClientMap) → IsRenamed name o x → CompletionDiffers x n → CompletionDiffers o m
    differs o x s d = elim d [
      | inl ne ↦ inl (λ e. ne (s.function ∙ (e ∙ sym r.function)))
      | inr ne ↦ inr (λ e. ne (s.object ∙ (ap name e ∙ sym r.object)))
    ]

    go : (kind : HistoryFaultKind) → ClientFault ns n kind → ⊥
    go NotAnOperation f = f
    go UnknownF f = fine UnknownF (sym r.function ∙ f)
    go BadValue f = fine BadValue (subst (λ t. HasBadValue t m) r.type (bad_before name m n r n.type f))
    go MixedKinds f =
        let o = before name ms ns h f.other f.stands in
        fine MixedKinds (record {
          other = o.0;
          stands = o.1;
          same_object = apart o.0 (in_from_contains ms o.0 o.1) (sym o.2.object ∙ (f.same_object ∙ r.object));
          known = f.known;
          other_known = f.other_known;
          is_known = sym r.function ∙ f.is_known;
          other_is_known = sym o.2.function ∙ f.other_is_known;
          apart = f.apart;
        })
    go Busy f =
        let o = outstanding_before name ms ns h m.process f.1 (rw r.process at f.2) in
        fine Busy (sym r.type ∙ f.0, o.0, o.1)
    go Stray f =
        let not_closed = rw r.process at f.1 in
        let none = rw r.process at f.2 in
        fine Stray (
          λ e. f.0 (r.type ∙ e),
          λ c. not_closed (closed_after name ms ns h m.process c),
          λ o out. let a = outstanding_after name ms ns h m.process o out in none a.0 a.1,
        )
    go Mismatch f =
        let o = outstanding_before name ms ns h m.process f.1 (rw r.process at f.2) in
        fine Mismatch (λ e. f.0 (r.type ∙ e), o.0, o.1, differs o.0 f.1 o.2 f.3)
    go AfterInfo f = fine AfterInfo (closed_before name ms ns h m.process (rw r.process at f))
    go TooMany f = f
    go NoMemory f = f

-- ---- maps one after another

-- no two objects of these maps have the same name
abbrev pub AreMapsApart : (ℕ → ℕ) → List ClientMap → Type 0
AreMapsApart name ms =
    (x y : ClientMap) → In x ms → In y ms → name x.object ≡ name y.object → x.object ≡ y.object

pub are_fine_renamed : (name : ℕ → ℕ) (done others ms ns : List ClientMap) → AreRenamedMaps name done others
    → AreRenamedMaps name ms ns → AreMapsApart name (done ++ ms) → AreFine done ms → AreFine others ns
are_fine_renamed name done others [] [] d h apart fine = tt
are_fine_renamed name done others (m ∷ ms) (n ∷ ns) d h apart fine = (
  fine_renamed name done others m n d h.0
      (λ x i. apart x m (in_left x done (m ∷ ms) i) (in_middle m done ms)) fine.0,
  are_fine_renamed name (done ++ m ∷ []) (others ++ n ∷ []) ms ns
      (AllZip-push (IsRenamed name) done others m n d h.0) h.1 (rw (append_assoc done (m ∷ []) ms) apart) fine.1,
)
are_fine_renamed name done others ms ns d h k e = absurd h
