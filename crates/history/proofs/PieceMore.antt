-- If a piece of a text continues what was read before it, it also does with one more map (`continues_more`). By
-- cases: whether the map is the first of its process, and of its object, in the piece. In the lemmas m is the map that
-- the form d is, f its function and a its action.
use Rattle.std.proofs.Common.{◌≡◌, ◌≢◌, ℕ, ◌+◌, ◌≤◌, inl, inr, true, List, [], ◌∷◌, ◌++◌, map, length, Option, Some}
use Rattle.std.proofs.Common.{None, All, refl, ap, sym, ◌∙◌, append_assoc, zero-add, arith}
use Rattle.std.specs.Prelude.{Result, Ok, Err, is_ok, Contains, if◌then◌else◌}
use Rattle.std.specs.Option.{option_or}
use Rattle.std.specs.Result.{result_ok}
use Rattle.std.proofs.lemmas.Bool.{cases_eq}
use Rattle.std.proofs.lemmas.List.{append-nil, length-append, map_push}
use Rattle.std.proofs.lemmas.List.Elements.{All-push, Contains-append_left, Contains-push}
use Rattle.std.proofs.lemmas.Option.{same_Some}
use Rattle.number_map.specs.Lookup.{value_of}
use Rattle.model.specs.declared.Kind.{Kind}
use Rattle.model.proofs.Lists.{all_from_in, all_at, in_left, in_right}
use Rattle.edn.specs.Fields.{max_object}
use Rattle.edn_reader.specs.Datum.{Datum}
use Rattle.edn_reader.proofs.FormsInARow.{Along}
use Rattle.seq_objects.specs.declared.function.Function.{Function}
use Rattle.seq_objects.specs.Functions.{kind_of_function}
use Rattle.events.specs.declared.event.Action.{Action}
use Rattle.events.specs.declared.event.Event.{Event}
use Rattle.events.specs.Operations.{IsListed}
use Rattle.history.specs.declared.client_map.ClientMap as code
use Rattle.history.specs.declared.seen.Process.{Process}
use Rattle.history.specs.declared.piece.FirstMap.{FirstMap}
use Rattle.history.specs.declared.piece.ReadPiece.{ReadPiece}
use Rattle.history.specs.declared.fault.HistoryFaultKind.TheVariants.{AfterInfo}
use Rattle.history.specs.Maps.{ClientMap, client_of, is_ignored, clients}
use Rattle.history.specs.Faults.{IsMapFault, IsFaultlessAtAnyLength}
use Rattle.history.specs.Denotes.{action_of, events_of_forms}
use Rattle.history.specs.Seen.{doing_after, IsProcessKept, IsKindOf, IsNoOther, IsProcessFault, IsSeen, IsSeenBy}
use Rattle.history.specs.Noting.{IsFirstOrAllowed, NotesProcess, NotesObject}
use Rattle.history.specs.ReadPieces.{kept_after, IsAllowed, FitsAfter, ContinuesWhereItFits, IsOfForms}
use Rattle.history.specs.Views.{map_type, client_map}
use Rattle.history.proofs.Noting.{does_so, kept_more_of, kept_skip}
use Rattle.history.proofs.FirstFaults.{PassesShape, PassesAll, passes_kind, process_allows, none_of_all}
use Rattle.history.proofs.OneMore.{no_fault_of, ignored_faultless}
use Rattle.history.proofs.MapLimit.{IsSmall}
use Rattle.history.proofs.Reading.{events_push, faultless_push}

-- ---- after any forms

-- one map more, after any forms after which its process and its object allow it
pub goes_on_more : (ds : List Datum) (d : Datum) (m : ClientMap) (f : Function) (a : Action)
    (old new : ℕ → Option Process) (was now : ℕ → Option Kind)
    → IsSeenBy old was ds → IsFaultlessAtAnyLength ds → client_of d ≡ Some m → m.function ≡ Some f
    → action_of m.type m ≡ Some a
    → IsProcessFault (old m.process) m.type f m.object None → IsNoOther (was m.object) (kind_of_function f)
    → new m.process ≡ Some (doing_after m.type f m.object) → ((p : ℕ) → p ≢ m.process → new p ≡ old p)
    → now m.object ≡ Some (kind_of_function f)
    → ((x : ℕ) → x ≢ m.object → now x ≡ was x)
    → IsFaultlessAtAnyLength (ds ++ d ∷ []) × IsSeenBy new now (ds ++ d ∷ [])
goes_on_more ds d m f a old new was now seen faultless is known action allowed kind own others own_kind other_kinds =
    let shape : PassesShape m f a = record { known = known; action = action } in
    let passes : PassesAll ds m f a = record {
      kind = passes_kind ds m f a (was m.object) shape (seen.kinds m.object) kind;
      process = process_allows (clients ds) m f (old m.process) known (seen.processes m.process)
          (seen.closed m.process) allowed;
    } in
    let none = none_of_all ds m f a passes in (
      faultless_push IsMapFault ds d faultless (no_fault_of ds d m is none),
      kept_more_of old new was now ds d m f (doing_after m.type f m.object) seen is known kind (none AfterInfo)
          (does_so m.type f m refl known) own others own_kind other_kinds,
    )

-- a map that is allowed after those of its process in the piece, or where it is the first one
-- after those before the piece
allowed_after : (kept before : Option Process) (old new : List FirstMap) (m : FirstMap)
    → IsFirstOrAllowed kept old new m
    → (new ≡ old ++ m ∷ [] → IsProcessFault before (map_type m.map_type) m.function m.object None)
    → IsProcessFault (option_or kept before) (map_type m.map_type) m.function m.object None
allowed_after None before old new m h first = first h
allowed_after (Some p) before old new m h first = h.1

-- the first maps so far are among those with one more map
fewer_firsts : (P : FirstMap → Type 0) (kept : Option Process) (old new : List FirstMap) (m : FirstMap)
    → IsFirstOrAllowed kept old new m → All P new → All P old
fewer_firsts P None old new m h all = all_from_in P old
    (λ x i. all_at P (old ++ m ∷ []) (rw h at all) x (in_left x old (m ∷ []) i))
fewer_firsts P (Some p) old new m h all = rw h.0 at all

no_other_after : (own before : Option Kind) (kind : Kind) → IsNoOther own kind → IsNoOther before kind
    → IsNoOther (option_or own before) kind
no_other_after None before kind h k = k
no_other_after (Some l) before kind h k = h

-- what a piece keeps of one more map of a client without a fault of its own
abbrev pub noted_map : code.ClientMap → Function → FirstMap
noted_map c f = record { map_type = c.map_type; function = f; process = c.process; object = c.object }

-- the event of one more map, with this number and this action
abbrev pub noted_event : code.ClientMap → ℕ → Action → Event
noted_event c n a = record { number = n; process = c.process; object = c.object; action = a }

-- ---- one map more

-- the processes so far have a first map, and that of one more map has one too
firsts_more : (old new : ℕ → Option Process) (was now : List FirstMap) (m : FirstMap) → NotesProcess old new was now m
    → ((p : ℕ) → IsListed (old p) (map (λ x. x.process) was) p) → (p : ℕ)
    → IsListed (new p) (map (λ x. x.process) now) p
firsts_more old new was now m h listed p = elim (cases_eq p m.process) [
  | inl e ↦ rw e (inr (own (old m.process) h.checked (listed m.process)))
  | inr ne ↦ rw (h.others p ne) (other (old m.process) h.checked (listed p))
]
  where
    ends : now ≡ was ++ m ∷ [] → map (λ x. x.process) now ≡ map (λ x. x.process) was ++ m.process ∷ []
    ends q = rw q (map_push (λ x. x.process) was m)

    own : (o : Option Process) → IsFirstOrAllowed o was now m → IsListed o (map (λ x. x.process) was) m.process
        → Contains (map (λ x. x.process) now) m.process
    own None c l = rw (ends c) (Contains-push (map (λ x. x.process) was) m.process)
    own (Some v) c l = elim l [
      | inl q ↦ absurd (cc q)
      | inr k ↦ rw c.0 k
    ]

    other : (o : Option Process) → IsFirstOrAllowed o was now m → IsListed (old p) (map (λ x. x.process) was) p
        → IsListed (old p) (map (λ x. x.process) now) p
    other None c (inl q) = inl q
    other None c (inr k) = inr (rw (ends c) (Contains-append_left (map (λ x. x.process) was) (m.process ∷ []) p k))
    other (Some v) c l = rw c.0 l

-- no form so far is on a great object, nor is one more
small_more : (ds : List Datum) (d : Datum) → All IsSmall ds → IsSmall d → All IsSmall (ds ++ d ∷ [])
small_more ds d h own = All-push IsSmall ds d h own

small_client : (d : Datum) (m : ClientMap) → client_of d ≡ Some m → m.object ≤ max_object → IsSmall d
small_client d m is few great =
    let own : great.0.object ≡ m.object = ap (λ (x : ClientMap). x.object) (same_Some great.0 m (sym great.1 ∙ is)) in
    let l = great.2 in
    absurd (omega (arith, own, few, l))

small_other : (d : Datum) → client_of d ≡ None → IsSmall d
small_other d none great = let is = great.1 in absurd (cc (none, is))

-- one map more of a client
module _ (old new : ReadPiece) (ds : List Datum) (d : Datum) (c : code.ClientMap) (w : Datum) (f : Function)
    (a : Action) (is : client_of d ≡ Some (client_map c w)) (known : c.function ≡ Some f)
    (action : action_of (map_type c.map_type) (client_map c w) ≡ Some a)
    (process : NotesProcess (value_of old.seen.processes) (value_of new.seen.processes) old.firsts.items
    new.firsts.items (noted_map c f))
    (object : NotesObject (value_of old.seen.kinds) (value_of new.seen.kinds) old.objects.items new.objects.items
    c.object f) where
  -- the new piece's needs contain those of the old one, and what the map needs
  continues_more : ContinuesWhereItFits old ds → ContinuesWhereItFits new (ds ++ d ∷ [])
  continues_more h before s k seen faultless fits =
      let m = client_map c w in
      let own = value_of old.seen.processes in
      let kinds = value_of old.seen.kinds in
      let kind_fits : IsNoOther (k c.object) (kind_of_function f) = fits.of_kind c.object
      (kind_of_function f) object.own in
      let of_kind : (x : ℕ) (kind : Kind) → kinds x ≡ Some kind
      → IsNoOther (k x) kind = λ x kind q. elim (cases_eq x c.object) [
        | inl e ↦
            let same : kind ≡ kind_of_function f = object.checked kind (rw e at q) in rw (e, same) kind_fits
        | inr ne ↦ fits.of_kind x kind (object.others x ne ∙ q)
      ] in
      let fits_before : FitsAfter old s k = record {
        allowed = fewer_firsts (IsAllowed s) (own c.process) old.firsts.items new.firsts.items
            (noted_map c f) process.checked fits.allowed;
        of_kind = of_kind;
      } in
      let so_far = h before s k seen faultless fits_before in
      let allowed = allowed_after (own c.process) (s c.process) old.firsts.items new.firsts.items
      (noted_map c f) process.checked
      (λ q. all_at (IsAllowed s) (old.firsts.items ++ noted_map c f ∷ []) (rw q at fits.allowed)
      (noted_map c f) (in_right (noted_map c f) old.firsts.items (noted_map c f ∷ []) (inl refl))) in
      let more = goes_on_more (before ++ ds) d m f a (kept_after s own) (kept_after s (value_of new.seen.processes))
      (kept_after k kinds) (kept_after k (value_of new.seen.kinds))
      so_far.1 so_far.0 is known action allowed
      (no_other_after (kinds c.object) (k c.object) (kind_of_function f) object.checked kind_fits)
      (rw process.own) (λ p ne. rw (process.others p ne)) (rw object.own) (λ x ne. rw (object.others x ne)) in
      let same = append_assoc before ds (d ∷ []) in (rw same at more.0, rw same at more.1)

  pub part_more : IsOfForms old ds → new.maps ≡ old.maps + 1
      → new.events.items ≡ old.events.items ++ noted_event c old.maps a ∷ [] → c.object ≤ max_object
      → IsOfForms new (ds ++ d ∷ [])
  part_more h count events few = record {
    count = omega (arith, length-append ds (d ∷ []), count, h.count);
    events = rw (events, h.events, events_push 0 ds d, zero-add (length ds), ← h.count, is, action);
    processes = firsts_more (value_of old.seen.processes)
        (value_of new.seen.processes) old.firsts.items new.firsts.items (noted_map c f) process h.processes;
    objects = λ x. object.listed x (h.objects x);
    continues = continues_more h.continues;
    small = small_more ds d h.small (small_client d (client_map c w) is few);
  }

-- ---- a map that is no client's

continues_skip : (read : ReadPiece) (ds : List Datum) (d : Datum) → client_of d ≡ None → is_ignored d ≡ true
    → ContinuesWhereItFits read ds
    → (before : List Datum) (s : ℕ → Option Process) (k : ℕ → Option Kind) → IsSeenBy s k before
    → IsFaultlessAtAnyLength before → FitsAfter read s k
    → IsFaultlessAtAnyLength (before ++ (ds ++ d ∷ [])) × IsSeenBy (kept_after s (value_of read.seen.processes))
    (kept_after k (value_of read.seen.kinds)) (before ++ (ds ++ d ∷ []))
continues_skip read ds d none ignored h before s k seen faultless fits =
    let so_far = h before s k seen faultless fits in
    let same = append_assoc before ds (d ∷ []) in (
      rw (← same) (faultless_push IsMapFault (before ++ ds) d so_far.0
          (ignored_faultless (before ++ ds) d none ignored)),
      rw (← same) (kept_skip (kept_after s (value_of read.seen.processes)) (kept_after k (value_of read.seen.kinds))
          (before ++ ds) d so_far.1 none),
    )

-- a form to be ignored adds nothing to what a piece keeps, except that it is counted
pub part_skip : (old new : ReadPiece) (ds : List Datum) (d : Datum) → IsOfForms old ds → client_of d ≡ None
    → is_ignored d ≡ true
    → new ≡ record {
      seen = old.seen;
      firsts = old.firsts;
      objects = old.objects;
      maps = old.maps + 1;
      events = old.events;
    } → IsOfForms new (ds ++ d ∷ [])
part_skip old new ds d h none ignored same =
    let events : events_of_forms 0 (ds ++ d ∷ []) ≡ events_of_forms 0 ds =
    rw (events_push 0 ds d, none) (append-nil (events_of_forms 0 ds)) in
    rw same (record {
      count = omega (arith, length-append ds (d ∷ []), h.count);
      events = h.events ∙ sym events;
      processes = h.processes;
      objects = h.objects;
      small = small_more ds d h.small (small_other d none);
      continues = λ before s k seen faultless fits. continues_skip old ds d none ignored h.continues before s k
          seen faultless (record { allowed = fits.allowed; of_kind = fits.of_kind });
    })

-- ---- no maps

-- What is kept of forms by two functions is also kept by functions that are equal to these.
pub seen_same : (old new : ℕ → Option Process) (was now : ℕ → Option Kind) (ds : List Datum) → IsSeenBy old was ds
    → ((p : ℕ) → new p ≡ old p) → ((x : ℕ) → now x ≡ was x) → IsSeenBy new now ds
seen_same old new was now ds h same_processes same_kinds = record {
  processes = λ p. rw (same_processes p) (h.processes p);
  kinds = λ x. rw (same_kinds x) (h.kinds x);
  closed = h.closed;
}

no_process_kept : (o : Option Process) → IsProcessKept o None → o ≡ None
no_process_kept None h = refl
no_process_kept (Some p) h = absurd cc

no_kind_kept : (o : Option Kind) (x : ℕ) → IsKindOf o [] x → o ≡ None
no_kind_kept None x h = refl
no_kind_kept (Some k) x h = let l = h.0.1.stands.1 in absurd (omega (arith, l))

-- before its first map a piece keeps nothing
pub no_maps : (read : ReadPiece) → IsSeen read.seen [] → read.maps ≡ 0 → read.events.items ≡ [] → IsOfForms read []
no_maps read seen count events =
    let processes : (p : ℕ) → value_of read.seen.processes p
    ≡ None = λ p. no_process_kept (value_of read.seen.processes p) (seen.processes p) in
    let kinds : (x : ℕ) → value_of read.seen.kinds x ≡ None = λ x. no_kind_kept (value_of read.seen.kinds x) x
    (seen.kinds x) in
    record {
      count = count;
      events = events;
      processes = λ p. inl (processes p);
      objects = λ x. inl (kinds x);
      small = all_from_in IsSmall [] (λ d i. absurd i);
      continues = λ before s k kept faultless fits. (
        rw (append-nil before) faultless,
        rw (append-nil before)
            (seen_same s (kept_after s (value_of read.seen.processes)) k
            (kept_after k (value_of read.seen.kinds)) before kept
            (λ p. rw (processes p)) (λ x. rw (kinds x))),
      );
    }

-- a value that was pushed
pub pushed : {T E X : Type 0} (result : Result T E) (value : T) (new longer old : List X)
    → Some value ≡ result_ok result → new ≡ (if is_ok result then longer else old) → new ≡ longer
pushed (Ok y) value new longer old is h = h
pushed (Err e) value new longer old is h = absurd (cc is)

-- ---- the forms of a text

-- no form yet
pub along_start : (P : List Datum → Type 0) (text : List ℕ) → P [] → Along P text text 0
along_start P text h = record {
  forms = [];
  front = record { begins = refl; fits = tt; on = λ es k. k; only = λ es k. (es, refl, k) };
  holds = h;
  place = zero-add (length text);
}
