-- One claim after another: what each makes of the decisions on all objects.
use Rattle.std.proofs.Common.{◌≡◌, ◌≢◌, ◌∙◌, ◌<◌, ◌≤◌, ◌⊎◌, ℕ, List, [], ◌∷◌, ◌++◌, All, AllPairs, length, map}
use Rattle.std.proofs.Common.{get_or, inl, inr, refl, ap, sym, arith}
use Rattle.std.proofs.Math.ListN.{set}
use Rattle.std.proofs.Math.Seq.{map-set_same}
use Rattle.std.proofs.lemmas.Bool.{cases_eq, cases_order}
use Rattle.std.proofs.lemmas.List.{get_or_default, get_or-map, get_or-set_same, get_or-set_other}
use Rattle.std.proofs.lemmas.List.{length-map, length-set, take_all}
use Rattle.std.specs.List.Sorted.{IsNonDecreasingBy, IsPartitionPoint}
use Rattle.std.specs.Ordering.{nat_cmp, ordering_index, MatchOrdering}
use Rattle.std.specs.Cmp.{ranked}
use Rattle.std.specs.declared.cmp.Ordering.{Ordering}
use Rattle.std.specs.declared.cmp.Ordering.TheVariants.{Less, Equal, Greater}
use Rattle.model.specs.declared.Kind.TheVariants.{Queue}
use Rattle.model.specs.Orders.{calls_on}
use Rattle.events.specs.declared.event.Event.{Event}
use Rattle.events.specs.Events.{kind_of_object, denoted}
use Rattle.events.specs.Operations.{ObjectCalls, calls_of}
use Rattle.checker.proofs.Certificates.{AreObjects, next_is}
use Rattle.checker.proofs.Collected.{AreOnAll, on_all}
use Rattle.verifying.specs.declared.claim.Claim.{Claim}
use Rattle.verifying.specs.Denotes.{claim_object}
use Rattle.verifying.specs.declared.decision.Decision.{Decision}
use Rattle.verifying.specs.Decisions.{IsDecision}
use Rattle.verifying.specs.Taking.{AreAllOpen, AreDecided, AreDecisionsTaken, IsNextDecision, no_answer}
use Rattle.verifying.proofs.Decided.{IsDecided}
use Rattle.verifying.proofs.Further.{other_stays}

-- ---- objects whose numbers rise can be searched

index_rises : (a b n : ℕ) → a ≤ b → ordering_index (nat_cmp a n) ≤ ordering_index (nat_cmp b n)
index_rises a b n l = grind arith

pub search_rises : (os : List ObjectCalls) (n : ℕ) → AllPairs (λ a b. a.object < b.object) os
    → IsNonDecreasingBy (λ o. ordering_index (nat_cmp o.object n)) os
search_rises os n up i j d l m = elim (cases_order i j) [
  | inl s ↦ rw s (omega arith)
  | inr r ↦ elim r [
    | inl t ↦ let g = up i j d t m in index_rises (get_or os i d).object (get_or os j d).object n (omega (arith, g))
    | inr t ↦ absurd (omega arith)
  ]
]

-- a search that found nothing says that no object has the number
apart : (os : List ObjectCalls) (n i : ℕ)
    → IsPartitionPoint (λ o. nat_cmp o.object n ≡ Less) (λ o. nat_cmp o.object n ≡ Greater) os i
    → (k : ℕ) (d : ObjectCalls) → k < length os → (get_or os k d).object ≢ n
apart os n i h k d l s = go (ranked (get_or os k d).object n) (cases_order k i)
  where
    go : ((r : Ordering) → r ≡ nat_cmp (get_or os k d).object n
        → MatchOrdering r ((get_or os k d).object < n) ((get_or os k d).object ≡ n) (n < (get_or os k d).object))
        → (k ≡ i) ⊎ ((k < i) ⊎ (i < k)) → ⊥
    go rank (inl t) = let g = rank Greater (sym (h.1 k d (omega arith) l)) in omega (arith, g, s)
    go rank (inr (inl t)) = let g = rank Less (sym (h.0 k d (omega arith) t)) in omega (arith, g, s)
    go rank (inr (inr t)) = let g = rank Greater (sym (h.1 k d (omega arith) l)) in omega (arith, g, s)

-- ---- one claim

module _ (objects : List ObjectCalls) (limit : ℕ) (e : Claim) (old : List (ℕ × Decision)) where
  -- A claim on none of the objects changes no decision.
  pub not_there : (i : ℕ)
      → IsPartitionPoint (λ o. nat_cmp o.object (claim_object e) ≡ Less)
      (λ o. nat_cmp o.object (claim_object e) ≡ Greater)
      objects i
      → AreDecisionsTaken objects limit e old old
  not_there i point = record {
    numbers = refl;
    each = λ k o l is cs h.
        other_stays cs e limit o.object o.kind (calls_of o.ops) (get_or old k no_answer).1 (λ same. apart objects
        (claim_object e) i point k o l (ap (λ (p : ObjectCalls). p.object) (sym is) ∙ sym same)) h;
  }

  -- the number that was found is the object's
  pub is_own : (k n : ℕ) (own : ObjectCalls) → n ≡ claim_object e → own ≡ get_or objects k own
      → nat_cmp (get_or objects k own).object n ≡ Equal → claim_object e ≡ own.object
  is_own k n own number is eq =
      sym (ap (λ (o : ObjectCalls). o.object) is ∙ ranked (get_or objects k own).object n Equal (sym eq) ∙ number)

  -- A claim on the object at a place changes the decision at this place.
  pub taken : (at : ℕ) (own : ObjectCalls) (n m : ℕ) (between next : Decision)
      → AllPairs (λ a b. a.object < b.object) objects → at < length objects
      → length old ≡ length objects → own ≡ get_or objects at own → claim_object e ≡ own.object
      → n ≡ (get_or old at no_answer).0
      → m ≡ (get_or (set old at (n, between)) at no_answer).0
      → IsNextDecision limit e own (get_or old at no_answer).1 next
      → AreDecisionsTaken objects limit e old (set (set old at (n, between)) at (m, next))
  taken at own n m between next rising l lengths is here first second further = record {
    numbers = map-set_same (λ (a : ℕ × Decision). a.0) middle at (m, next) no_answer second
        ∙ map-set_same (λ (a : ℕ × Decision). a.0) old at (n, between) no_answer first;
    each = λ k o less same. go k o less same (cases_eq k at);
  }
    where
      middle : List (ℕ × Decision)
      middle = set old at (n, between)

      new : List (ℕ × Decision)
      new = set middle at (m, next)

      in_old : at < length old
      in_old = omega (arith, l, lengths)

      in_middle : at < length middle
      in_middle = rw length-set in_old

      stays : (k : ℕ) → k ≢ at → get_or new k no_answer ≡ get_or old k no_answer
      stays k other = get_or-set_other middle at k (m, next) no_answer other
          ∙ get_or-set_other old at k (n, between) no_answer other

      other_object : (k : ℕ) (o : ObjectCalls) → k < length objects → o ≡ get_or objects k o → k ≢ at
          → claim_object e ≢ o.object
      other_object k o less same other q =
          let there : (get_or objects at o).object ≡ own.object = rw (get_or_default objects at o own l) (rw (← is)) in
          let it : o.object ≡ (get_or objects k o).object = ap (λ (p : ObjectCalls). p.object) same in
          elim (cases_order k at) [
            | inl s ↦ other s
            | inr side ↦ elim side [
              | inl before ↦ let up = rising k at o before l in omega (arith, there, it, here, q)
              | inr after ↦ let up = rising at k o after less in omega (arith, there, it, here, q)
            ]
          ]

      go : (k : ℕ) (o : ObjectCalls) → k < length objects → o ≡ get_or objects k o → (k ≡ at) ⊎ (k ≢ at)
          → IsNextDecision limit e o (get_or old k no_answer).1 (get_or new k no_answer).1
      go k o less same (inl q) =
          let it : o ≡ own = same ∙ ap (λ i. get_or objects i o) q ∙ get_or_default objects at o own l ∙ sym is in
          rw (q, get_or-set_same middle at (m, next) no_answer in_middle, it) further
      go k o less same (inr other) = λ cs h.
          rw (stays k other) (other_stays cs e limit o.object o.kind (calls_of o.ops) (get_or old k no_answer).1
          (other_object k o less same other) h)

-- ---- all claims

as_many : (objects : List ObjectCalls) (answers : List (ℕ × Decision))
    → map (λ a. a.0) answers ≡ map (λ o. o.object) objects → length answers ≡ length objects
as_many objects answers e =
    sym (length-map answers (λ (a : ℕ × Decision). a.0)) ∙ ap length e
    ∙ length-map objects (λ (o : ObjectCalls). o.object)

-- There are as many answers as objects.
pub same_length : (objects : List ObjectCalls) (claims : List Claim) (limit : ℕ) (answers : List (ℕ × Decision))
    → AreDecided objects claims limit answers → length answers ≡ length objects
same_length objects claims limit answers h = as_many objects answers h.numbers

-- nothing is claimed yet
pub none_claimed : (objects : List ObjectCalls) (limit : ℕ) (answers : List (ℕ × Decision)) → AreAllOpen objects answers
    → AreDecided objects [] limit answers
none_claimed objects limit answers h = record {
  numbers = h.numbers;
  each = λ i o l is.
      rw (h.undecided i no_answer (omega (arith, as_many objects answers h.numbers))) (record {
        order = tt;
        impossible = tt;
        out_of_steps = tt;
        memory = λ e. absurd (cc e);
        unshown = λ e j d less. absurd (omega (arith, less));
        refused = λ e j d less. absurd (omega (arith, less));
      });
}

-- with the decisions that a claim leads to, the objects are decided by the claims up to it
pub claim_taken : (objects : List ObjectCalls) (claims : List Claim) (limit : ℕ) (e : Claim)
    (old new : List (ℕ × Decision)) → AreDecisionsTaken objects limit e old new
    → AreDecided objects claims limit old → AreDecided objects (claims ++ e ∷ []) limit new
claim_taken objects claims limit e old new t h = record {
  numbers = t.numbers ∙ h.numbers;
  each = λ i o l is. t.each i o l is claims (h.each i o l is);
}

pub decided_on_all : (es : List Event) (objects : List ObjectCalls) (claims : List Claim) (limit : ℕ)
    (answers : List (ℕ × Decision))
    → AreObjects es objects
    → AreDecided objects claims limit answers → AreOnAll es (IsDecided claims limit) answers
decided_on_all es objects claims limit answers are h =
    on_all es (IsDecided claims limit) objects (length objects) answers (omega arith) (record {
      objects_are = are;
      numbers =
          h.numbers ∙ ap (map (λ (o : ObjectCalls). o.object)) (sym (take_all (length objects) objects (omega arith)));
      each = each;
    })
  where
    lengths : length answers ≡ length objects
    lengths = same_length objects claims limit answers h

    nothing : ObjectCalls
    nothing = record { object = 0; kind = Queue; ops = [] }

    number_at : (i : ℕ) (d : ℕ × Decision) (o : ObjectCalls) → i < length answers → i < length objects
        → o ≡ get_or objects i o → (get_or answers i d).0 ≡ o.object
    number_at i d o l m is =
        sym (get_or-map (λ (a : ℕ × Decision). a.0) answers i d d.0 l) ∙ ap (λ xs. get_or xs i d.0) h.numbers
        ∙ get_or-map (λ (p : ObjectCalls). p.object) objects i o d.0 m ∙ ap (λ (p : ObjectCalls). p.object) (sym is)

    each : All (λ a. IsDecided claims limit a.0 (kind_of_object es a.0) (calls_on a.0 (denoted es)) a.1) answers
    each i d l =
        let o : ObjectCalls = get_or objects i nothing in
        let in_objects : i < length objects = omega (arith, l, lengths) in
        let is : o ≡ get_or objects i o = get_or_default objects i nothing o in_objects in
        let placed = next_is es objects i o
        (λ kind calls. IsDecision claims limit o.object kind calls (get_or answers i no_answer).1) are in_objects is
        (h.each i o in_objects is) in
        let answer : get_or answers i no_answer ≡ get_or answers i d = get_or_default answers i no_answer d l in
        rw (number_at i d o l in_objects is) (rw answer at placed)
