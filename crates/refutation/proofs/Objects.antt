-- A reason that refutes one object of a history refutes the history (`refutes`, by locality): the answer is on the
-- object whose number the reason has, or there is no such object (`answered`, `answer_is`).
use Rattle.std.proofs.Common.{◌≡◌, ◌≢◌, ◌↔◌, ℕ, ◌<◌, ◌+◌, take, List, [], ◌∷◌, ◌++◌, length, get_or, map, true}
use Rattle.std.proofs.Common.{All, Any, Contains, inl, inr, refl, ap, sym, ◌∙◌}
use Rattle.std.specs.Prelude.{Result, Ok, Err, IfOk}
use Rattle.std.specs.List.{AllZip}
use Rattle.std.proofs.lemmas.List.{take_more}
use Rattle.std.specs.declared.alloc.AllocError.{AllocError}
use Rattle.model.specs.Linearizable.{IsLinearizable}
use Rattle.model.specs.declared.Kind.{Kind}
use Rattle.model.specs.Orders.{Numbered, Call, IsHistory, events, calls_on, HasNoValidOrder}
use Rattle.model.specs.Lists.{In}
use Rattle.model.proofs.Lists.{in_append, in_map, in_map_from, in_from_contains, contains_from_in, all_at}
use Rattle.locality.specs.Locality.{HasValidOrder}
use Rattle.events.specs.declared.event.Event.{Event}
use Rattle.events.specs.Events.{kind_of_object, denoted, IsNamed}
use Rattle.events.specs.Operations.{ObjectCalls, calls_of}
use Rattle.cuts.specs.Cuts.{NamesPart}
use Rattle.refutation.specs.declared.reason.Reason.{Reason}
use Rattle.refutation.specs.declared.refuting.ReasonAnswer.{ReasonAnswer}
use Rattle.refutation.specs.declared.refuting.ReasonAnswer.TheVariants.{NoPart, OtherObject}
use Rattle.refutation.specs.Refutations.{shows_impossible, IfPart, IfShownImpossible, IfNotShown, IsWhyNotShown}
use Rattle.refutation.specs.Refutations.{IsNamedPart, PartHasNoValidOrder, IsShownBy, IsReasonAnswerOn, IsReasonAnswer}

-- a history with an object of which no order is valid is not linearizable
pub none_among : (es : List Event) (objects : List ObjectCalls) → All (λ o. o.kind ≡ kind_of_object es o.object) objects
    → All (λ o. calls_of o.ops ≡ calls_on o.object (denoted es)) objects
    → ((kinds : ℕ → Kind) (h : List Numbered) → IsHistory h → IsLinearizable kinds (events h) → (x : ℕ)
    → HasValidOrder kinds h x)
    → IsHistory (denoted es) → Any (λ o. HasNoValidOrder o.kind (calls_of o.ops)) objects
    → IsLinearizable (kind_of_object es) (events (denoted es)) → ⊥
none_among es objects kinds calls orders h some lin =
    let o : ObjectCalls = some.1 in
    let i = in_from_contains objects o (some.0, some.2, some.3) in
    let k = all_at (λ (o : ObjectCalls). o.kind ≡ kind_of_object es o.object) objects kinds o i in
    let cs = all_at (λ (o : ObjectCalls). calls_of o.ops ≡ calls_on o.object (denoted es)) objects calls o i in
    let order = orders (kind_of_object es) (denoted es) h lin o.object in
    some.4 order.0 (rw (k, cs) order.1)

-- each answer so far that is impossible refutes the history
abbrev pub AreRefutations : Type 0 → List ReasonAnswer → Type 0
AreRefutations Not answers = (r : ReasonAnswer) → In r answers → shows_impossible r ≡ true → Not

-- an answer that refutes the history, if it is impossible, is added to such answers
pub answer_added : (Not : Type 0) (answers more : List ReasonAnswer) (answer : ReasonAnswer)
    → more ≡ answers ++ answer ∷ []
    → (shows_impossible answer ≡ true → Not) → AreRefutations Not answers → AreRefutations Not more
answer_added Not answers more answer e one all x i p = elim (in_append x answers (answer ∷ []) (rw e at i)) [
  | inl j ↦ all x j p
  | inr j ↦ elim j [ inl q ↦ one (ap shows_impossible (sym q) ∙ p) | inr k ↦ absurd k ]
]

-- a relation that holds of two lists, place by place, and of one more element of each
pub zip_push : {X Y : Type 0} (Fits : X → Y → Type 0) (xs : List X) (ys : List Y) (x : X) (y : Y) → AllZip Fits xs ys
    → Fits x y → AllZip Fits (xs ++ x ∷ []) (ys ++ y ∷ [])
zip_push Fits [] [] x y h r = (r, tt)
zip_push Fits (z ∷ xs) (w ∷ ys) x y h r = (h.0, zip_push Fits xs ys x y h.1 r)
zip_push Fits xs ys x y h r = absurd h

-- a relation that holds of the first elements of two lists, place by place, and of the next ones
pub zip_more : {X Y : Type 0} (Fits : X → Y → Type 0) (xs : List X) (ys : List Y) (i : ℕ) (x : X) (y : Y)
    → i < length xs → x ≡ get_or xs i x
    → AllZip Fits (take i xs) ys → Fits x y → AllZip Fits (take (i + 1) xs) (ys ++ y ∷ [])
zip_more Fits xs ys i x y lt is h r = rw (take_more xs i x lt, ← is) (zip_push Fits (take i xs) ys x y h r)

pub refutes : (Not : Type 0) (answers : List ReasonAnswer) → AreRefutations Not answers
    → Any (λ r. shows_impossible r ≡ true) answers → Not
refutes Not answers all some = all some.1 (in_from_contains answers some.1 (some.0, some.2, some.3)) some.4

-- ---- answers on one of several objects

-- the answer on an object among others that has the reason's number
pub answered : (objects : List ObjectCalls) (i : ℕ) (o : ObjectCalls) (reason : Reason)
    (answer : Result ReasonAnswer AllocError) → i < length objects
    → o ≡ get_or objects i o → o.object ≡ reason.object
    → IfOk answer (λ r. shows_impossible r ≡ true → HasNoValidOrder o.kind (calls_of o.ops))
    → IfOk answer (λ r. IfPart r (IsNamedPart reason.cuts.items o.object o.kind (calls_of o.ops)))
    → IfOk answer (λ r. IfShownImpossible r (λ part. IsShownBy reason.basis part × PartHasNoValidOrder part))
    → IfOk answer (λ r. IfNotShown r (IsWhyNotShown reason.basis))
    → IfOk answer (λ r. r ≡ NoPart → (part : List Call) → NamesPart reason.cuts.items (calls_of o.ops) part → ⊥)
    → IfOk answer (λ r. r ≢ OtherObject
    → (p : ObjectCalls) × Contains objects p × (p.object ≡ reason.object)
    × IsReasonAnswerOn p.kind (calls_of p.ops) reason r)
answered objects i o reason (Ok r) lt is e none part shown why_not refused = λ own. (
  o,
  (i, lt, sym is),
  e,
  record {
    impossible = none;
    part = rw e at part;
    shown = shown;
    not_shown = why_not;
    no_part = refused;
  },
)
answered objects i o reason (Err x) lt is e none part shown why_not refused = tt

-- A check of a reason on its own object does not answer that the reason is of another one.
pub own_number : (objects : List ObjectCalls) (o : ObjectCalls) (x : ℕ) (answer : Result ReasonAnswer AllocError)
    → o.object ≡ x
    → IfOk answer (λ r. r ≡ OtherObject → x ≢ o.object)
    → IfOk answer (λ r. r ≡ OtherObject → All (λ p. p.object ≢ x) objects)
own_number objects o x (Ok r) e h = λ q. absurd (h q (sym e))
own_number objects o x (Err z) e h = tt

-- the answer on the objects of a history
pub answer_is : (es : List Event) (objects : List ObjectCalls) (reason : Reason) (r : ReasonAnswer)
    → All (λ o. o.kind ≡ kind_of_object es o.object) objects
    → All (λ o. calls_of o.ops ≡ calls_on o.object (denoted es)) objects
    → ((x : ℕ) → Contains (map (λ o. o.object) objects) x ↔ IsNamed es x)
    → (r ≢ OtherObject → (o : ObjectCalls) × Contains objects o × (o.object ≡ reason.object)
    × IsReasonAnswerOn o.kind (calls_of o.ops) reason r)
    → (r ≡ OtherObject → All (λ o. o.object ≢ reason.object) objects) → IsReasonAnswer es reason r
answer_is es objects reason r kinds calls named on other = go r refl
  where
    own : (q : r ≢ OtherObject) → IsReasonAnswerOn (kind_of_object es reason.object)
        (calls_on reason.object (denoted es)) reason r
    own q =
        let a = on q in
        let o : ObjectCalls = a.0 in
        let i = in_from_contains objects o a.1 in
        let k = rw a.2 at (all_at (λ (o : ObjectCalls). o.kind ≡ kind_of_object es o.object) objects kinds o i) in
        let cs = rw a.2 at (all_at (λ (o : ObjectCalls). calls_of o.ops ≡ calls_on o.object (denoted es)) objects calls
        o i) in
        rw (k, cs) at a.3

    known : r ≢ OtherObject → IsNamed es reason.object
    known q =
        let a = on q in
        let o : ObjectCalls = a.0 in
        (named reason.object).0 (contains_from_in (map (λ o. o.object) objects) reason.object
        (rw a.2 at (
        in_map_from (λ (o : ObjectCalls). o.object) o objects (in_from_contains objects o a.1))))

    unknown : r ≡ OtherObject → IsNamed es reason.object → ⊥
    unknown q n =
        let i = in_map (λ (o : ObjectCalls). o.object) reason.object objects
        (in_from_contains (map (λ o. o.object) objects) reason.object ((named reason.object).1 n)) in
        all_at (λ (o : ObjectCalls). o.object ≢ reason.object) objects (other q) i.0 i.1 (sym i.2)

    whole : (q : r ≢ OtherObject) → IsReasonAnswer es reason r
    whole q = record { on = own q; other_object = unknown; own_object = known }

    go : (z : ReasonAnswer) → r ≡ z → IsReasonAnswer es reason r
    go OtherObject e = record {
      on = rw e (record { impossible = λ q. absurd (cc q); part = tt; shown = tt; not_shown = tt; no_part = λ q. cc });
      other_object = unknown;
      own_object = known;
    }
    go z e = whole (λ q. absurd (cc (e, q)))

-- no order is valid of the object that was answered
pub refuted_among : (objects : List ObjectCalls) (reason : Reason) (r : ReasonAnswer)
    → (r ≢ OtherObject → (o : ObjectCalls) × Contains objects o × (o.object ≡ reason.object)
    × IsReasonAnswerOn o.kind (calls_of o.ops) reason r)
    → shows_impossible r ≡ true → Any (λ o. HasNoValidOrder o.kind (calls_of o.ops)) objects
refuted_among objects reason r on so =
    let a = on (λ q. absurd (cc (ap shows_impossible q, so))) in
    (a.1.0, a.0, a.1.1, a.1.2, a.3.impossible so)
