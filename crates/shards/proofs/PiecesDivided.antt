-- A text that is divided piece by piece: whole lines at its front are divided, since texts with a line feed between
-- them spell what both spell. A fault of a piece is one of the text, and at the end the text is divided.
use Rattle.std.proofs.Common.{◌≡◌, ◌≢◌, ℕ, ◌+◌, ◌<◌, List, [], ◌∷◌, ◌++◌, drop, length, map, get_or, Option, refl, ap}
use Rattle.std.proofs.Common.{sym, ◌∙◌, append_assoc, arith}
use Rattle.std.proofs.lemmas.List.{append-nil, drop_more, length-append, length-map, map-append}
use Rattle.std.specs.Io.KnownBytes.{Consumes}
use Rattle.edn_reader.specs.Datum.{Datum, max_length}
use Rattle.edn_reader.specs.Laws.{SpellsBefore}
use Rattle.edn_reader.specs.Sound.{IsUnreadable}
use Rattle.edn_reader.specs.Spells.{Spells}
use Rattle.edn_reader.specs.declared.fault.EdnFault.{EdnFault}
use Rattle.edn_reader.specs.declared.fault.FaultKind.TheVariants.{TooLong, Unfinished}
use Rattle.edn_reader.proofs.Joined.{joined_spell}
use Rattle.history.specs.declared.fault.TextFault.TheVariants.{Text, Maps}
use Rattle.shards.specs.declared.divider.Divider.{Divider}
use Rattle.shards.specs.declared.division.Division.{Division}
use Rattle.shards.specs.declared.fault.PieceFault.{PieceFault}
use Rattle.shards.specs.declared.fault.PieceFault.TheVariants as piece_fault
use Rattle.shards.specs.declared.fault.SplitFault.{SplitFault}
use Rattle.shards.specs.declared.fault.SplitFault.TheVariants as split_fault
use Rattle.shards.specs.declared.pieces.Pieces.{Pieces}
use Rattle.shards.specs.Dividing.{Files}
use Rattle.shards.specs.Folders.{AddsFiles, AddsShards}
use Rattle.shards.specs.LargeObjects.{AreLarge, maps_on}
use Rattle.shards.specs.ShardTexts.{SpelledMap}
use Rattle.shards.specs.SplitFaults.{BeginsWith, EndsPiece, HasTextFault, IsFoundAmong, IsSplitFault, NeedsMoreShards}
use Rattle.shards.specs.Taking.{AreMapsTaken, AreTakenOf, AreTakenAfter, IsPieceFault, NoneWait, forms_of, with_more}
use Rattle.shards.specs.Tallies.{IsTally}
use Rattle.shards.specs.UnderWay.{AreUnderWay, EndsInsideForm, IsFaultFrom, IsFaultIn, PassesPiece, ReadsOn}
use Rattle.shards.specs.UnderWay.{too_long_at}
use Rattle.std.proofs.KnownBytes.{Consumes-trans}
use Rattle.shards.proofs.FittingObjects.{apart_where_fit}
use Rattle.shards.proofs.Flushing.{adds_both}

forms_both : (a b : List SpelledMap) → forms_of (a ++ b) ≡ forms_of a ++ forms_of b
forms_both a b = map-append (λ (m : SpelledMap). m.form) a b

-- ---- a piece more

-- whole lines, with one piece more and the line feed after it
lines_more : (front piece : List ℕ) (ds es : List Datum) → SpellsBefore front ds → Spells es piece
    → SpellsBefore (front ++ (piece ++ 10 ∷ [])) (ds ++ es)
lines_more front piece ds es before spells fs after h =
    rw (append_assoc ds es fs, append_assoc front (piece ++ 10 ∷ []) after, append_assoc piece (10 ∷ []) after)
    (before (es ++ fs) (piece ++ 10 ∷ after) (joined_spell es fs piece after spells h))

pub passes_piece : {count : ℕ} {d e : Divider} {p q : Pieces} {text piece : List ℕ} {written : Files}
    (h : AreUnderWay count d p text written) → AreTakenOf piece count e h.maps written → PassesPiece p q piece
    → AreUnderWay count e q text written
passes_piece {q = q} {piece = piece} h t pass =
    let line : List ℕ = piece ++ 10 ∷ [] in
    record {
      front = h.front ++ line;
      maps = h.maps ++ t.more;
      parts = h.parts
          ∙ rw (pass.text, append_assoc h.front line q.text.items, append_assoc piece (10 ∷ []) q.text.items);
      start = omega (arith, pass.start, h.start, length-append h.front line, length-append piece (10 ∷ []));
      lines = rw (forms_both h.maps t.more)
          (lines_more h.front piece (forms_of h.maps) (forms_of t.more) h.lines t.spells);
      taken = t.taken;
    }

-- more of the text was read
reads_on : {count : ℕ} {d : Divider} {p q : Pieces} {text : List ℕ} {written : Files}
    {left left_after : Option (List ℕ)} (r : ReadsOn p q left left_after) → AreUnderWay count d p text written
    → AreUnderWay count d q (text ++ r.more) written
reads_on {p = p} r h = record {
  front = h.front;
  maps = h.maps;
  parts = ap (λ xs. xs ++ r.more) h.parts ∙ rw r.text (append_assoc h.front p.text.items r.more);
  start = r.start ∙ h.start;
  lines = h.lines;
  taken = h.taken;
}

-- What was read of a source is under way, and what was written was added to the files.
pub record IsDividedSoFar (count : ℕ) (d : Divider) (p : Pieces) (left left_after : Option (List ℕ))
    (files files_after : Option Files) : Type 0 where
  pub text : List ℕ
  pub consumed : Consumes left left_after text
  pub written : Files
  pub under_way : AreUnderWay count d p text written
  pub adds : AddsFiles files files_after written

pub more_so_far : {count : ℕ} {d : Divider} {p q : Pieces} {left now left_after : Option (List ℕ)}
    {files files_after : Option Files} → ReadsOn p q now left_after
    → IsDividedSoFar count d p left now files files_after
    → IsDividedSoFar count d q left left_after files files_after
more_so_far {left = left} {now = now} {left_after = left_after} r h = record {
  text = h.text ++ r.more;
  consumed = Consumes-trans left now left_after h.text r.more h.consumed r.consumed;
  written = h.written;
  under_way = reads_on r h.under_way;
  adds = h.adds;
}

-- what waited was written
pub flushed_so_far : {count : ℕ} {d e f : Divider} {p q : Pieces} {left left_after : Option (List ℕ)}
    {files now files_after : Option Files}
    → ((text : List ℕ) (written : Files) → AreUnderWay count d p text written → AreUnderWay count e q text written)
    → ((maps : List SpelledMap) (written : Files) → AreMapsTaken count e maps written
    → AreTakenAfter count f maps written now files_after)
    → IsDividedSoFar count d p left left_after files now → IsDividedSoFar count f q left left_after files files_after
flushed_so_far {files = files} {now = now} {files_after = files_after} divided flushed h =
    let u = divided h.text h.written h.under_way in
    let t = flushed u.maps h.written u.taken in
    record {
      text = h.text;
      consumed = h.consumed;
      written = with_more h.written t.more;
      under_way = record
          { front = u.front; maps = u.maps; parts = u.parts; start = u.start; lines = u.lines; taken = t.taken };
      adds = adds_both files now files_after h.written t.more h.adds t.adds;
    }

-- ---- faults

module _ {count : ℕ} {d : Divider} {p : Pieces} {text : List ℕ} {written : Files}
    (h : AreUnderWay count d p text written) (piece rest : List ℕ) (left : Option (List ℕ))
    (parts : p.text.items ≡ piece ++ rest) where
  text_fault : (e : EdnFault) (place : ℕ) → e.place ≡ p.start + place
      → IsUnreadable piece (record e { place = place }) → (e.kind ≢ TooLong → EndsPiece rest left)
      → (e.kind ≡ Unfinished → rest ≡ []) → HasTextFault text left e
  text_fault e place place_is unreadable ends last = record {
    front = h.front;
    piece = piece;
    rest = rest;
    parts = h.parts ∙ rw parts;
    forms = forms_of h.maps;
    lines = h.lines;
    faultless = h.taken.read.faultless;
    place = place;
    place_is = place_is ∙ rw h.start;
    unreadable = unreadable;
    ends = ends;
    last = last;
  }

  -- what was found in the forms of a piece, after those before it
  found_in : (Found : List Datum → Type 0) → EndsPiece rest left
      → (es : List Datum) × Spells es piece × Found (forms_of h.maps ++ es) → BeginsWith text left Found
  found_in Found ends found = record {
    piece = h.front ++ piece;
    rest = rest;
    parts = h.parts ∙ rw parts (sym (append_assoc h.front piece rest));
    ends = ends;
    forms = forms_of h.maps ++ found.0;
    spelled = h.lines found.0 piece found.1;
    found = found.2;
  }

  -- a fault of a piece, after which this rest of the text was read
  pub fault_in : (fault : PieceFault) (f : SplitFault) → EndsPiece rest left
      → IsPieceFault count (forms_of h.maps) piece fault → (EndsInsideForm fault → rest ≡ [])
      → IsFaultFrom p.start fault f → IsFaultIn count text left f
  fault_in fault (split_fault.Malformed (Text e)) ends is last from =
      let own : EdnFault = record e { place = from.0 } in
      let piece_is : IsPieceFault count (forms_of h.maps) piece (piece_fault.Malformed (Text own)) = rw from.2 at is in
      text_fault e from.0 from.1 (piece_is from.3) (λ ne. ends) (rw from.2 at last)
  fault_in fault (split_fault.Malformed (Maps f)) ends is last from =
      found_in (λ ds. IsFoundAmong ds f) ends ((rw from.0 at is) from.1)
  fault_in fault (split_fault.TooFewShards x) ends is last from =
      found_in (λ ds. NeedsMoreShards count ds x) ends (rw from at is)
  fault_in fault f ends is last from = tt

-- the rest that begins with a line feed
pub ends_at_feed : (text : List ℕ) (n : ℕ) (left : Option (List ℕ)) → n < length text → get_or text n 0 ≡ 10
    → EndsPiece (drop n text) left
ends_at_feed text n left l feed =
    rw (drop_more text n 0 l) feed

-- what was read is longer than a text may be, and no piece of it can be read
pub too_long_in : (count : ℕ) (d : Divider) (p : Pieces) (text : List ℕ) (written : Files) (left : Option (List ℕ))
    → AreUnderWay count d p text written → max_length < length p.text.items
    → IsFaultIn count text left (split_fault.Malformed (too_long_at p.start))
too_long_in count d p text written left h long =
    let e : EdnFault = record { kind = TooLong; place = p.start } in
    let unreadable : IsUnreadable p.text.items (record e { place = 0 }) =
    record { not_memory = λ q. cc q; too_long = (λ q. long, λ l. refl); nothing = λ ne. absurd (ne refl) } in
    text_fault h p.text.items [] left (sym (append-nil p.text.items)) e 0 (omega arith) unreadable
    (λ ne. absurd (ne refl)) (λ q. refl)

-- a fault of the text that was read
pub split_fault_of : (count : ℕ) (f : SplitFault) (left left_after : Option (List ℕ)) (text : List ℕ)
    → Consumes left left_after text → IsFaultIn count text left_after f → IsSplitFault count f left left_after
split_fault_of count f left left_after text h k = grind arith

-- ---- the end

pub adds_shards : {count : ℕ} {d e last : Divider} {p : Pieces} {text : List ℕ} {written : Files}
    {first files files_after : Option Files} {told : Division} (h : AreUnderWay count d p text written)
    (t : AreTakenOf p.text.items count e h.maps written)
    (f : AreTakenAfter count last (h.maps ++ t.more) written files files_after)
    → AddsFiles first files written → NoneWait last.waiting.items
    → told.counts.items ≡ map (λ w. w.count) last.waiting.items
    → ((counts : ℕ → ℕ) → IsTally last.tally counts → AreLarge counts told.large.items)
    → length last.waiting.items ≡ last.shards → AddsShards count told text first files_after
adds_shards {count} {last = last} {p = p} {text = text} {written = written} {first = first} {files = files}
    {files_after = files_after}
    h t f adds none counted large long =
    let maps : List SpelledMap = h.maps ++ t.more in
    let spelled : Spells (forms_of maps) text =
    rw (h.parts, forms_both h.maps t.more) (h.lines (forms_of t.more) p.text.items t.spells) in
    record {
      added = with_more written f.more;
      divided = record {
        split = record {
          maps = maps;
          spelled = spelled;
          each = f.taken.each;
          faultless = f.taken.read.faultless;
          apart = apart_where_fit count maps f.taken.fit;
          texts = λ s. rw (none.maps s, append-nil) at (f.taken.texts s);
        };
        tables = λ s. rw (none.places s, append-nil) at (f.taken.tables s);
      };
      fits = f.taken.fit;
      adds = adds_both first files files_after written f.more adds f.adds;
      each_counted = rw (counted, length-map, long) f.taken.shards;
      counted = λ s l. rw counted (f.taken.counts s l);
      large = large (maps_on maps) f.taken.tally;
    }
