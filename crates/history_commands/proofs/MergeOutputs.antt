-- The output of a merge, from what is kept: where it is a yes, where a shard is malformed, and else with the lines on
-- objects, which were put in order.
use Rattle.std.proofs.Common.{◌≡◌, ◌∙◌, ℕ, false, List, [], ◌∷◌, ◌++◌, map, ap, sym, subst, arith}
use Rattle.std.specs.List.{flat_map}
use Rattle.std.specs.List.Sorted.{IsNonDecreasingBy, IsPermutation}
use Rattle.std.proofs.lemmas.List.{get_or-map, length-map}
use Rattle.std.proofs.lemmas.List.Folds.{flat_map-map}
use Rattle.std.proofs.lemmas.List.Sorted.{IsPermutation-map}
use Rattle.report.specs.Lines.{verdict_text}
use Rattle.report.specs.declared.verdict.Summary.{Summary}
use Rattle.report.specs.declared.verdict.Verdict.TheVariants as verdict
use Rattle.history_commands.specs.Merged.{Answer, AreInOrder, AreLinesWith, AreMerged, IsMerge, Shard, seen_lines}
use Rattle.history_commands.specs.Merged.{status_with}
use Rattle.history_commands.specs.ShardCounts.{AreAdded, AreSums, Counted, seen_counts}
use Rattle.history_commands.specs.declared.finding.Finding.{Finding}
use Rattle.history_commands.specs.declared.finding.Finding.TheVariants.{Certified, Undecided, Refuted}
use Rattle.history_commands.specs.declared.merging.Merging.{Merging}
use Rattle.history_commands.specs.declared.object_lines.ObjectLines.{ObjectLines}
use Rattle.history_commands.specs.declared.status.Status.{Status}
use Rattle.history_commands.proofs.Merged.{is_merge}

-- ---- lines in order

rising_seen : (ls : List ObjectLines) → IsNonDecreasingBy (λ l. l.object) ls
    → IsNonDecreasingBy (λ l. l.0) (seen_lines ls)
rising_seen [] h i j d le less = absurd (omega arith)
rising_seen (l ∷ ls) h i j d le less =
    let see : ObjectLines → ℕ × List ℕ = λ k. (k.object, k.text.items) in
    let long = length-map (l ∷ ls) see in
    let first = ap (λ (p : ℕ × List ℕ). p.0) (get_or-map see (l ∷ ls) i l d (omega arith)) in
    let second = ap (λ (p : ℕ × List ℕ). p.0) (get_or-map see (l ∷ ls) j l d (omega arith)) in
    let two = h i j l le (omega arith) in
    omega (arith, first, second, two)

pub seen_in_order : (ls sorted : List ObjectLines) → IsPermutation ls sorted
    → IsNonDecreasingBy (λ l. l.object) sorted → AreInOrder (seen_lines ls) (seen_lines sorted)
seen_in_order ls sorted same rising = record {
  same = IsPermutation-map (λ (l : ObjectLines). (l.object, l.text.items)) ls sorted same;
  rising = rising_seen sorted rising;
}

pub seen_text : (ls : List ObjectLines) → flat_map (λ l. l.text.items) ls ≡ flat_map (λ l. l.1) (seen_lines ls)
seen_text ls = sym (flat_map-map (λ (p : ℕ × List ℕ). p.1) (λ (l : ObjectLines). (l.object, l.text.items)) ls)

-- ---- the output

module _ (m : Merging) (shards : List Shard) (h : AreMerged m shards) where
  ends_with : (f : Finding) (status : Status) (out : List ℕ) → m.finding ≡ f → status ≡ status_with f
      → AreLinesWith f h.answers out → IsMerge shards status out
  ends_with f status out found is lines = is_merge shards status out (record {
    answers = h.answers;
    each = h.each;
    status_is = is ∙ ap status_with (sym found ∙ h.finding_is);
    lines = subst (λ g. AreLinesWith g h.answers out) (sym found ∙ h.finding_is) lines;
  })

  pub ends_certified : (s : Summary) (status : Status) (out : List ℕ) → m.finding ≡ Certified
      → ((all : List Counted) → AreAdded (seen_counts m.counts) all → AreSums s all)
      → status ≡ status_with Certified → out ≡ verdict_text false (verdict.Yes s) → IsMerge shards status out
  ends_certified s status out found sums is lines =
      ends_with Certified status out found is (s, sums (map (λ (a : Answer). a.counts) h.answers) h.counts_are, lines)

  -- the lines on objects follow the lines on shards
  follow : (out : List ℕ) (sorted : List (ℕ × List ℕ)) → AreInOrder (seen_lines m.lines.items) sorted
      → out ≡ m.notes.items ++ flat_map (λ l. l.1) sorted
      → (sorted : List (ℕ × List ℕ)) × AreInOrder (flat_map (λ a. a.lines) h.answers) sorted
      × (out ≡ flat_map (λ a. a.note) h.answers ++ flat_map (λ l. l.1) sorted)
  follow out sorted order lines = (
    sorted,
    subst (λ ls. AreInOrder ls sorted) h.lines_are order,
    lines ∙ ap (λ t. t ++ flat_map (λ l. l.1) sorted) h.notes_are,
  )

  pub ends_undecided : (status : Status) (out : List ℕ) (sorted : List (ℕ × List ℕ)) → m.finding ≡ Undecided
      → status ≡ status_with Undecided → AreInOrder (seen_lines m.lines.items) sorted
      → out ≡ m.notes.items ++ flat_map (λ l. l.1) sorted → IsMerge shards status out
  ends_undecided status out sorted found is order lines =
      ends_with Undecided status out found is (follow out sorted order lines)

  pub ends_refuted : (status : Status) (out : List ℕ) (sorted : List (ℕ × List ℕ)) → m.finding ≡ Refuted
      → status ≡ status_with Refuted → AreInOrder (seen_lines m.lines.items) sorted
      → out ≡ m.notes.items ++ flat_map (λ l. l.1) sorted → IsMerge shards status out
  ends_refuted status out sorted found is order lines =
      ends_with Refuted status out found is (follow out sorted order lines)
