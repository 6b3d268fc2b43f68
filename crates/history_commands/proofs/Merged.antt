-- A merge shows of the texts of the shards what it shows of the shards with the numbers of the full history: numbers do
-- not matter. Lines that are put in order, and joined, keep those of each object.
use Rattle.std.proofs.Common.{arith, ◌≡◌, ◌∙◌, ◌||◌, ℕ, true, false, Bool, cond, List, [], ◌∷◌, ◌++◌, inl, inr, refl}
use Rattle.std.proofs.Common.{ap, sym, subst, map, Any, IsSome, append_assoc}
use Rattle.std.specs.List.{AllZip, flat_map, list_all, list_any}
use Rattle.std.proofs.lemmas.Bool.{and_parts}
use Rattle.std.proofs.lemmas.List.Folds.{Any-from_list_any}
use Rattle.std.proofs.lemmas.List.{flat_map_more, map_push}
use Rattle.std.proofs.lemmas.List.Sorted.{Contains-permutation}
use Rattle.model.specs.Orders.{calls_on}
use Rattle.model.specs.Lists.{In}
use Rattle.model.proofs.Lists.{all_at, all_from_in, contains_from_in, in_from_contains, in_left, in_right}
use Rattle.events.specs.declared.event.Event.{Event}
use Rattle.events.specs.Events.{kind_of_object, denoted}
use Rattle.checker.specs.Refusals.{AreValid}
use Rattle.reading.specs.Texts.{IsLinearizableText, IsNotLinearizableText}
use Rattle.shards.specs.Dividing.{with_numbers}
use Rattle.shards.specs.Shards.{AreRenumbered, DenoteLinearizable}
use Rattle.shards.proofs.Renumbered.{linearizable_same, same_from}
use Rattle.verifying.specs.declared.claim.Claim.{Claim}
use Rattle.verifying.specs.declared.decision.Decision.{Decision}
use Rattle.verifying.specs.declared.decision.Decision.TheVariants.{Order, Impossible, OutOfSteps, NoMemory, Open}
use Rattle.verifying.specs.declared.decision.ShownReason.{ShownReason}
use Rattle.verifying.specs.Decisions.{AreDecisionsOn, IsDecisionOn, IsShownReason, certificate_decided}
use Rattle.verifying.specs.Decisions.{certificates_decided, is_impossible, is_order}
use Rattle.refutation.proofs.Objects.{zip_push}
use Rattle.history_commands.specs.Merged.{Answer, AnswersClaims, AnswersShard, AreInOrder, AreLinesWith, AreMerged}
use Rattle.history_commands.specs.Merged.{HasMaps, HasMapsOrIsLarge, IsExplainedShard, IsMerge, IsMergeOutput, Shard}
use Rattle.history_commands.specs.Merged.{finding_on, lines_by, seen_lines, shown_on, status_with, whole_name, worse}
use Rattle.history_commands.specs.Merged.{worst}
use Rattle.history_commands.specs.ShardCounts.{AreAdded, Counted, counted, seen_counts}
use Rattle.history_commands.specs.Verified.{decision_lines, impossible_lines}
use Rattle.history_commands.specs.declared.finding.Finding.{Finding}
use Rattle.history_commands.specs.declared.finding.Finding.TheVariants.{Certified, Undecided, Refuted, Malformed}
use Rattle.history_commands.specs.declared.merging.Merging.{Merging}
use Rattle.history_commands.specs.declared.status.Status.{Status}
use Rattle.history_commands.specs.declared.status.Status.TheVariants as ends
use Rattle.history_commands.proofs.Findings.{all_certified, no_refuted, none_malformed, own_finding, some_refuted}
use Rattle.history_commands.proofs.Findings.{worst_push}
use Rattle.history_commands.proofs.Findings.{yes_certified}

-- ---- one shard more

flat_push : {X : Type 0} (f : Answer → List X) (answers : List Answer) (a : Answer)
    → flat_map f answers ++ f a ≡ flat_map f (answers ++ a ∷ [])
flat_push f answers a = flat_map_more f [] answers a

-- with the answer a for one shard more, from the state m to n
pub merged_push : (m n : Merging) (shards : List Shard) (s : Shard) (a : Answer) → AreMerged m shards
    → AnswersShard s a → n.finding ≡ worse m.finding a.finding → n.notes.items ≡ m.notes.items ++ a.note
    → seen_lines n.lines.items ≡ seen_lines m.lines.items ++ a.lines
    → ((all : List Counted) → AreAdded (seen_counts m.counts) all
    → AreAdded (seen_counts n.counts) (all ++ a.counts ∷ []))
    → AreMerged n (shards ++ s ∷ [])
merged_push m n shards s a h own finding notes lines add = record {
  answers = h.answers ++ a ∷ [];
  each = zip_push AnswersShard shards h.answers s a h.each own;
  finding_is = finding ∙ (ap (λ f. worse f a.finding) h.finding_is ∙ sym (worst_push own_finding h.answers a));
  notes_are = notes ∙ (ap (λ t. t ++ a.note) h.notes_are ∙ flat_push (λ (x : Answer). x.note) h.answers a);
  lines_are = lines ∙ (ap (λ ls. ls ++ a.lines) h.lines_are ∙ flat_push (λ (x : Answer). x.lines) h.answers a);
  counts_are = subst (AreAdded (seen_counts n.counts)) (sym (map_push (λ (x : Answer). x.counts) h.answers a))
      (add (map (λ (x : Answer). x.counts) h.answers) h.counts_are);
}

-- ---- what decisions find

-- decisions that find it refuted have one that is impossible
some_impossible : (ds : List (ℕ × Decision)) → finding_on ds ≡ Refuted → list_any (λ d. is_impossible d.1) ds ≡ true
some_impossible ds e = go (list_any (λ d. is_impossible d.1) ds) (list_all (λ d. is_order d.1) ds) e
  where
    go : (any all : Bool) → cond any Refuted (cond all Certified Undecided) ≡ Refuted → any ≡ true
    go true all q = refl
    go false true q = absurd cc
    go false false q = absurd cc

-- and those that find it certified are orders
all_orders : (ds : List (ℕ × Decision)) → finding_on ds ≡ Certified → list_all (λ d. is_order d.1) ds ≡ true
all_orders ds e = go (list_any (λ d. is_impossible d.1) ds) (list_all (λ d. is_order d.1) ds) e
  where
    go : (any all : Bool) → cond any Refuted (cond all Certified Undecided) ≡ Certified → all ≡ true
    go true all q = absurd cc
    go false true q = refl
    go false false q = absurd cc

order_certificate : (d : Decision) → is_order d ≡ true → IsSome (certificate_decided d)
order_certificate d e = grind arith

certificates : (ds : List (ℕ × Decision)) → list_all (λ d. is_order d.1) ds ≡ true → (d : ℕ × Decision) → In d ds
    → IsSome (certificate_decided d.1)
certificates [] e d i = absurd i
certificates (b ∷ ds) e d i =
    let parts = and_parts (is_order b.1) (list_all (λ c. is_order c.1) ds) e in
    elim i [
      | inl q ↦ subst (λ (x : ℕ × Decision). IsSome (certificate_decided x.1)) (sym q) (order_certificate b.1 parts.0)
      | inr j ↦ certificates ds parts.1 d j
    ]

-- an answer that is made of the decisions on a shard answers the claims on it
pub answers_claims : (name : ℕ → ℕ) (es : List Event) (claims : List Claim) (limit : ℕ) (ds : List (ℕ × Decision))
    (a : Answer) → AreDecisionsOn es claims limit ds → (AreValid es (certificates_decided ds) → DenoteLinearizable es)
    → a.finding ≡ finding_on ds → a.note ≡ [] → a.lines ≡ flat_map (λ d. lines_by es (name d.0) d.1) ds
    → a.counts ≡ counted es → AnswersClaims name es claims limit a
answers_claims name es claims limit ds a decided suffices finding note lines counts = record {
  decisions = ds;
  decided = decided;
  finding_is = finding;
  note_is = note;
  lines_are = lines;
  counts_are = counts;
  certified = λ e. suffices (decided.valid (all_from_in (λ (d : ℕ × Decision). IsSome (certificate_decided d.1)) ds
      (certificates ds (all_orders ds (sym finding ∙ e)))));
  refuted = λ e. decided.impossible (Any-from_list_any (λ (d : ℕ × Decision). is_impossible d.1) ds
      (some_impossible ds (sym finding ∙ e)));
}

-- ---- what an answer shows

-- an answer has one finding
other_finding : (f g : Finding) (a : Answer) → (f ≡ g → ⊥) → a.finding ≡ f → a.finding ≡ g → ⊥
other_finding f g a apart is e = apart (sym is ∙ e)

-- with the numbers of the full history, and with its own, a history is linearizable or not
with_own_numbers : (es others : List Event) → AreRenumbered es others → DenoteLinearizable others
    → DenoteLinearizable es
with_own_numbers es others r = linearizable_same others es (same_from others es r.same)

with_numbers_of_whole : (es others : List Event) → AreRenumbered es others → DenoteLinearizable es
    → DenoteLinearizable others
with_numbers_of_whole es others r = linearizable_same es others (same_from es others (sym r.same))

shows_linearizable : (s : Shard) (a : Answer) → AnswersShard s a → a.finding ≡ Certified → IsLinearizableText s.text
shows_linearizable s a (inl (es, denotes, inl (many, inl (ns, fit, inl (claims, claimed, k))))) e = record {
  client_events = es;
  history_text = denotes;
  linearizable = with_own_numbers es (with_numbers ns es) fit.renumbered (k.certified e);
}
shows_linearizable s a (inl (es, denotes, inl (many, inl (ns, fit, inr (f, fault, own, n))))) e =
    absurd (other_finding Undecided Certified a (λ q. cc) n.0 e)
shows_linearizable s a (inl (es, denotes, inl (many, inr (none, n)))) e =
    absurd (other_finding Malformed Certified a (λ q. cc) n.0 e)
shows_linearizable s a (inl (es, denotes, inr (other, n))) e =
    absurd (other_finding Malformed Certified a (λ q. cc) n.0 e)
shows_linearizable s a (inr (f, fault, inl (large, n))) e = absurd (other_finding Undecided Certified a (λ q. cc) n.0 e)
shows_linearizable s a (inr (f, fault, inr (small, n))) e = absurd (other_finding Malformed Certified a (λ q. cc) n.0 e)

-- unless a shard is malformed, it has the maps that it was given, or is too large
shows_maps : (s : Shard) (a : Answer) → AnswersShard s a → (a.finding ≡ Malformed → ⊥)
    → HasMapsOrIsLarge s.maps s.text
shows_maps s a (inl (es, denotes, inl (many, rest))) sound =
    inl (record { events = es; denoted = denotes; counted = many })
shows_maps s a (inl (es, denotes, inr (other, n))) sound = absurd (sound n.0)
shows_maps s a (inr (f, fault, inl (large, n))) sound = inr (f, fault, large)
shows_maps s a (inr (f, fault, inr (small, n))) sound = absurd (sound n.0)

-- and if each object has an order, it has these maps
shows_all_maps : (s : Shard) (a : Answer) → AnswersShard s a → a.finding ≡ Certified → HasMaps s.maps s.text
shows_all_maps s a (inl (es, denotes, inl (many, rest))) e =
    record { events = es; denoted = denotes; counted = many }
shows_all_maps s a (inl (es, denotes, inr (other, n))) e =
    absurd (other_finding Malformed Certified a (λ q. cc) n.0 e)
shows_all_maps s a (inr (f, fault, inl (large, n))) e = absurd (other_finding Undecided Certified a (λ q. cc) n.0 e)
shows_all_maps s a (inr (f, fault, inr (small, n))) e = absurd (other_finding Malformed Certified a (λ q. cc) n.0 e)

-- what a no shows of a shard, whose lines these are
record ShowsNo (s : Shard) (lines : List (ℕ × List ℕ)) : Type 0 where
  refuted : IsNotLinearizableText s.text
  object : ℕ
  text : List ℕ
  stands : In (object, text) lines
  explained : (out before after : List ℕ) → out ≡ before ++ (text ++ after) → IsExplainedShard s out

-- the lines on an object that is impossible
record IsImpossibleIn (name : ℕ → ℕ) (es : List Event) (lines : List (ℕ × List ℕ)) : Type 0 where
  object : ℕ
  refuted : ShownReason
  holds : IsShownReason object (kind_of_object es object) (calls_on object (denoted es)) refuted
  stands : In (name object, impossible_lines es (name object) (shown_on (name object) refuted)) lines

impossible_in : (name : ℕ → ℕ) (es : List Event) (claims : List Claim) (limit : ℕ) (ds : List (ℕ × Decision))
    → ((d : ℕ × Decision) → In d ds → IsDecisionOn es claims limit d.0 d.1)
    → list_any (λ d. is_impossible d.1) ds ≡ true
    → IsImpossibleIn name es (flat_map (λ d. lines_by es (name d.0) d.1) ds)
impossible_in name es claims limit [] each e = absurd cc
impossible_in name es claims limit (d ∷ rest) each e =
    go d.1 (each d (inl refl)) e (impossible_in name es claims limit rest (λ c i. each c (inr i)))
  where
    later : (l : ℕ × List ℕ) → IsImpossibleIn name es (flat_map (λ c. lines_by es (name c.0) c.1) rest)
        → IsImpossibleIn name es (l ∷ flat_map (λ c. lines_by es (name c.0) c.1) rest)
    later l k = record { object = k.object; refuted = k.refuted; holds = k.holds; stands = inr k.stands }

    go : (o : Decision) → IsDecisionOn es claims limit d.0 o
        → (is_impossible o || list_any (λ c. is_impossible c.1) rest) ≡ true
        → (list_any (λ c. is_impossible c.1) rest ≡ true
        → IsImpossibleIn name es (flat_map (λ c. lines_by es (name c.0) c.1) rest))
        → IsImpossibleIn name es (lines_by es (name d.0) o ++ flat_map (λ c. lines_by es (name c.0) c.1) rest)
    go (Order c) h t again = again t
    go (Impossible f) h t again =
        record { object = d.0; refuted = f; holds = h.impossible.0; stands = inl refl }
    go (OutOfSteps n) h t again = later (name d.0, decision_lines es (name d.0) (OutOfSteps n)) (again t)
    go NoMemory h t again = later (name d.0, decision_lines es (name d.0) NoMemory) (again t)
    go Open h t again = later (name d.0, decision_lines es (name d.0) Open) (again t)

shows_no : (s : Shard) (a : Answer) → AnswersShard s a → a.finding ≡ Refuted → ShowsNo s a.lines
shows_no s a (inl (es, denotes, inl (many, inl (ns, fit, inl (claims, claimed, k))))) e =
    let own = with_numbers ns es in
    let name = whole_name s in
    let shown = impossible_in name own claims s.limit k.decisions
    (λ d i. all_at (λ (c : ℕ × Decision). IsDecisionOn own claims s.limit c.0 c.1) k.decisions k.decided.decisions d i)
    (some_impossible k.decisions (sym k.finding_is ∙ e)) in
    record {
      refuted = record {
        client_events = es;
        history_text = denotes;
        not_linearizable = λ l. k.refuted e (with_numbers_of_whole es own fit.renumbered l);
      };
      object = name shown.object;
      text = impossible_lines own (name shown.object) (shown_on (name shown.object) shown.refuted);
      stands = subst (In (
        name shown.object,
        impossible_lines own (name shown.object)
            (shown_on (name shown.object) shown.refuted),
      )) (sym k.lines_are) shown.stands;
      explained = λ out before after q. record {
        events = es;
        denoted = denotes;
        numbers = ns;
        fits = fit;
        explained = record {
          object = shown.object;
          refuted = shown.refuted;
          holds = shown.holds;
          before = before;
          after = after;
          lines = q;
        };
      };
    }
shows_no s a (inl (es, denotes, inl (many, inl (ns, fit, inr (f, fault, own, n))))) e =
    absurd (other_finding Undecided Refuted a (λ q. cc) n.0 e)
shows_no s a (inl (es, denotes, inl (many, inr (none, n)))) e =
    absurd (other_finding Malformed Refuted a (λ q. cc) n.0 e)
shows_no s a (inl (es, denotes, inr (other, n))) e = absurd (other_finding Malformed Refuted a (λ q. cc) n.0 e)
shows_no s a (inr (f, fault, inl (large, n))) e = absurd (other_finding Undecided Refuted a (λ q. cc) n.0 e)
shows_no s a (inr (f, fault, inr (small, n))) e = absurd (other_finding Malformed Refuted a (λ q. cc) n.0 e)

-- ---- the lines in the output

in_flat : {X Y : Type 0} (f : X → List Y) (x : X) (y : Y) (xs : List X) → In x xs → In y (f x) → In y (flat_map f xs)
in_flat f x y [] i j = absurd i
in_flat f x y (z ∷ xs) i j = elim i [
  | inl q ↦ in_left y (f z) (flat_map f xs) (subst (λ w. In y (f w)) q j)
  | inr k ↦ in_right y (f z) (flat_map f xs) (in_flat f x y xs k j)
]

-- the text of one among joined texts
record StandsIn (text whole : List ℕ) : Type 0 where
  before : List ℕ
  after : List ℕ
  is : whole ≡ before ++ (text ++ after)

stands_in : (l : ℕ × List ℕ) (ls : List (ℕ × List ℕ)) → In l ls → StandsIn l.1 (flat_map (λ k. k.1) ls)
stands_in l [] i = absurd i
stands_in l (k ∷ ls) i = elim i [
  | inl q ↦ record {
    before = [];
    after = flat_map (λ m. m.1) ls;
    is = ap (λ (m : ℕ × List ℕ). m.1 ++ flat_map (λ o. o.1) ls) (sym q);
  }
  | inr j ↦
      let r = stands_in l ls j in
      record {
        before = k.1 ++ r.before;
        after = r.after;
        is = ap (λ t. k.1 ++ t) r.is ∙ sym (append_assoc k.1 r.before (l.1 ++ r.after));
      }
]

-- after other text
stands_after : (front text rest out : List ℕ) → StandsIn text rest → out ≡ front ++ rest → StandsIn text out
stands_after front text rest out h q = record {
  before = front ++ h.before;
  after = h.after;
  is = q ∙ (ap (λ t. front ++ t) h.is ∙ sym (append_assoc front h.before (text ++ h.after)));
}

in_order_stands : (l : ℕ × List ℕ) (lines sorted : List (ℕ × List ℕ)) → AreInOrder lines sorted → In l lines
    → In l sorted
in_order_stands l lines sorted h i = in_from_contains sorted l
    (Contains-permutation lines sorted l h.same (contains_from_in lines l i))

-- where a no is found, the lines of an answer are in the output
lines_in_no : (answers : List Answer) (a : Answer) (l : ℕ × List ℕ) (out : List ℕ) → AreLinesWith Refuted answers out
    → In a answers → In l a.lines → StandsIn l.1 out
lines_in_no answers a l out h i j =
    let among = in_flat (λ (x : Answer). x.lines) a l answers i j in
    stands_after (flat_map (λ (x : Answer). x.note) answers) l.1 (flat_map (λ k. k.1) h.0) out
    (stands_in l h.0 (in_order_stands l (flat_map (λ (x : Answer). x.lines) answers) h.0 h.1 among)) h.2

-- ---- all shards

-- what follows for each element from its partner
each_zipped : {X Y : Type 0} (R : X → Y → Type 0) (P : X → Type 0) (xs : List X) (ys : List Y) → AllZip R xs ys
    → ((x : X) (y : Y) → In y ys → R x y → P x) → (x : X) → In x xs → P x
each_zipped R P [] ys h f x i = absurd i
each_zipped R P (z ∷ xs) [] h f x i = absurd h
each_zipped R P (z ∷ xs) (y ∷ ys) h f x i = elim i [
  | inl q ↦ subst P (sym q) (f z y (inl refl) h.0)
  | inr j ↦ each_zipped R P xs ys h.1 (λ v w k. f v w (inr k)) x j
]

one_zipped : {X Y : Type 0} (R : X → Y → Type 0) (xs : List X) (ys : List Y) (y : Y) → AllZip R xs ys → In y ys
    → (x : X) × In x xs × R x y
one_zipped R xs [] y h i = absurd i
one_zipped R [] (z ∷ ys) y h i = absurd h
one_zipped R (x ∷ xs) (z ∷ ys) y h i = elim i [
  | inl q ↦ (x, inl refl, subst (R x) (sym q) h.0)
  | inr j ↦ let r = one_zipped R xs ys y h.1 j in (r.0, inr r.1, r.2)
]

any_at : {X : Type 0} (P : X → Type 0) (xs : List X) (x : X) → In x xs → P x → Any P xs
any_at P xs x i p = let k = contains_from_in xs x i in (k.0, x, k.1, k.2, p)

-- a shard that shows the no, with the lines that show it
record IsNoOf (shards : List Shard) (out : List ℕ) : Type 0 where
  shard : Shard
  among : In shard shards
  refuted : IsNotLinearizableText shard.text
  explained : IsExplainedShard shard out

no_of : (shards : List Shard) (status : Status) (out : List ℕ) → IsMergeOutput shards status out → status ≡ ends.No
    → IsNoOf shards out
no_of shards status out h is =
    let found = no_refuted (worst (map own_finding h.answers)) (sym h.status_is ∙ is) in
    let a = some_refuted own_finding h.answers found in
    let s = one_zipped AnswersShard shards h.answers a.0 h.each a.1 in
    let shown = shows_no s.0 a.0 s.2 a.2 in
    let lines = subst (λ (f : Finding). AreLinesWith f h.answers out) found h.lines in
    let r = lines_in_no h.answers a.0 (shown.object, shown.text) out lines a.1 shown.stands in
    record {
      shard = s.0;
      among = s.1;
      refuted = shown.refuted;
      explained = shown.explained out r.before r.after r.is;
    }

pub is_merge : (shards : List Shard) (status : Status) (out : List ℕ) → IsMergeOutput shards status out
    → IsMerge shards status out
is_merge shards status out h = record {
  output = h;
  linearizable = λ is.
      let found = yes_certified (worst (map own_finding h.answers)) (sym h.status_is ∙ is) in
      all_from_in (λ (s : Shard). IsLinearizableText s.text) shards
      (each_zipped AnswersShard (λ s. IsLinearizableText s.text) shards h.answers h.each
      (λ s a i own. shows_linearizable s a own (all_certified own_finding h.answers found a i)));
  refuted = λ is.
      let n = no_of shards status out h is in
      any_at (λ (s : Shard). IsNotLinearizableText s.text) shards n.shard n.among n.refuted;
  explained = λ is.
      let n = no_of shards status out h is in
      any_at (λ (s : Shard). IsExplainedShard s out) shards n.shard n.among n.explained;
  counted = λ is.
      let found = yes_certified (worst (map own_finding h.answers)) (sym h.status_is ∙ is) in
      all_from_in (λ (s : Shard). HasMaps s.maps s.text) shards
      (each_zipped AnswersShard (λ s. HasMaps s.maps s.text) shards h.answers h.each
      (λ s a i own. shows_all_maps s a own (all_certified own_finding h.answers found a i)));
  none_miscounted = λ sound.
      let found : worst (map own_finding h.answers) ≡ Malformed → ⊥ =
      λ e. sound (h.status_is ∙ ap status_with e) in
      all_from_in (λ (s : Shard). HasMapsOrIsLarge s.maps s.text) shards
      (each_zipped AnswersShard (λ s. HasMapsOrIsLarge s.maps s.text) shards h.answers h.each
      (λ s a i own. shows_maps s a own (none_malformed own_finding h.answers found a i)));
}
