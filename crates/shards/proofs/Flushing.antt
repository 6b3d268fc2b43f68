-- What waits is written: of each shard the lines that were written and those that wait are the same together. And what
-- is added to files one after another.
use Rattle.std.proofs.Common.{◌≡◌, ℕ, ◌<◌, ◌==◌, inl, inr, cond, List, [], ◌++◌, length, get_or, set}
use Rattle.std.proofs.Common.{Option, Some, None, ap, sym, ◌∙◌, append_assoc}
use Rattle.std.proofs.lemmas.Bool.{cases_eq, eq-eqb, ne_eqb}
use Rattle.std.proofs.lemmas.List.{append-nil}
use Rattle.shards.specs.declared.divider.Divider.{Divider}
use Rattle.shards.specs.declared.waiting.Waiting.{Waiting}
use Rattle.shards.specs.Dividing.{Files}
use Rattle.shards.specs.Folders.{AddsFiles, lines_for}
use Rattle.shards.specs.ShardTexts.{SpelledMap}
use Rattle.shards.specs.Taking.{AreMapsTaken, AreTakenAfter, Flushes, no_lines, with_more, maps_in}
use Rattle.shards.proofs.WaitingLines.{at, at_written, at_others, at_read}

-- ---- files

adds_nothing : (files : Option Files) → AddsFiles files files no_lines
adds_nothing None = tt
adds_nothing (Some f) = λ s. (sym (append-nil (f.texts s)), sym (append-nil (f.tables s)))

-- what is added to files in two steps is added together
pub adds_both : (old mid new : Option Files) (first second : Files) → AddsFiles old mid first
    → AddsFiles mid new second → AddsFiles old new (with_more first second)
adds_both None mid new first second h k = tt
adds_both (Some old) None new first second h k = absurd h
adds_both (Some old) (Some mid) None first second h k = absurd k
adds_both (Some old) (Some mid) (Some new) first second h k = λ s. (
  (k s).0 ∙ (ap (λ t. t ++ second.texts s) (h s).0
      ∙ append_assoc (old.texts s) (first.texts s) (second.texts s)),
  (k s).1 ∙ (ap (λ t. t ++ second.tables s) (h s).1
      ∙ append_assoc (old.tables s) (first.tables s) (second.tables s)),
)

-- ---- lines that move

-- of each shard, the lines that were written and those that wait are the same together
lines_same : (lines : Waiting → List ℕ) (ws : List Waiting) (i : ℕ) (before after : Waiting) (gone : List ℕ)
    → i < length ws → before ≡ get_or ws i before → lines before ≡ gone ++ lines after → (written : List ℕ) (s : ℕ)
    → (written ++ cond (s == i) gone []) ++ at lines [] (set ws i after) s ≡ written ++ at lines [] ws s
lines_same lines ws i before after gone within is moved written s = elim (cases_eq s i) [
  | inl q ↦
      rw (eq-eqb s i q, q, at_written lines [] ws i after within, at_read lines [] ws i before within is, moved)
      (append_assoc written gone (lines after))
  | inr ne ↦ rw (ne_eqb s i ne, at_others lines [] ws i after s ne, append-nil written)
]

count_same : (ws : List Waiting) (i : ℕ) (w v : Waiting) → i < length ws → w ≡ get_or ws i w → v.count ≡ w.count
    → (s : ℕ) → maps_in (set ws i v) s ≡ maps_in ws s
count_same ws i w v l is same s = elim (cases_eq s i) [
  | inl q ↦ rw (q, at_written (λ x. x.count) 0 ws i v l, at_read (λ x. x.count) 0 ws i w l is) same
  | inr ne ↦ at_others (λ x. x.count) 0 ws i v s ne
]

-- Maps that are taken into files are also taken into files with the same texts and tables.
written_same : (count : ℕ) (d : Divider) (maps : List SpelledMap) (a b : Files) → ((s : ℕ) → b.texts s ≡ a.texts s)
    → ((s : ℕ) → b.tables s ≡ a.tables s) → AreMapsTaken count d maps a → AreMapsTaken count d maps b
written_same count d maps a b texts tables t = record {
  shards = t.shards;
  read = t.read;
  each = t.each;
  fit = t.fit;
  tally = t.tally;
  texts = λ s. rw (texts s) (t.texts s);
  tables = λ s. rw (tables s) (t.tables s);
  counts = t.counts;
}

-- one shard more, after others
module _ (count : ℕ) (old new : Divider) (maps : List SpelledMap) {files files_after : Option Files} {i : ℕ}
    {w v : Waiting} (l : i < length old.waiting.items) (is : w ≡ get_or old.waiting.items i w)
    (set_is : new.waiting.items ≡ set old.waiting.items i v) (shards : new.shards ≡ old.shards)
    (reader : new.reader ≡ old.reader) (tally : new.tally ≡ old.tally) (f : Flushes i w v files files_after) where
  abbrev own : Files
  own = lines_for i f.maps f.places

  abbrev ws : List Waiting
  ws = old.waiting.items

  taken_flushed : (written : Files) → AreMapsTaken count old maps written
      → AreMapsTaken count new maps (with_more written own)
  taken_flushed written h = record {
    shards = shards ∙ h.shards;
    read = rw reader h.read;
    each = h.each;
    fit = h.fit;
    tally = rw tally h.tally;
    texts = λ s. rw set_is
        (lines_same (λ x. x.maps.items) ws i w v f.maps l is f.of_maps (written.texts s) s ∙ h.texts s);
    tables = λ s. rw set_is
        (lines_same (λ x. x.places.items) ws i w v f.places l is f.of_places (written.tables s) s ∙ h.tables s);
    counts = λ s k. rw set_is (count_same ws i w v l is f.count s ∙ h.counts s k);
  }

  pub flushed_more : (written : Files) (first : Option Files) → AreTakenAfter count old maps written first files
      → AreTakenAfter count new maps written first files_after
  flushed_more written first h = record {
    more = with_more h.more own;
    adds = adds_both first files files_after h.more own h.adds f.adds;
    taken = written_same count new maps (with_more (with_more written h.more) own)
        (with_more written (with_more h.more own))
        (λ s. sym (append_assoc (written.texts s) (h.more.texts s) (own.texts s)))
        (λ s. sym (append_assoc (written.tables s) (h.more.tables s) (own.tables s)))
        (taken_flushed (with_more written h.more) h.taken);
  }

pub none_flushed : (count : ℕ) (d : Divider) (maps : List SpelledMap) (written : Files) (files : Option Files)
    → AreMapsTaken count d maps written → AreTakenAfter count d maps written files files
none_flushed count d maps written files t = record {
  more = no_lines;
  adds = adds_nothing files;
  taken = written_same count d maps written (with_more written no_lines) (λ s. append-nil (written.texts s))
      (λ s. append-nil (written.tables s)) t;
}
