-- A text that is cut at line feeds is its pieces (`piece_more`). If each was read, joining them one by one
-- (`join_more`) gives the forms of the text (`all_joined`).
use Rattle.std.proofs.Common.{◌≡◌, ℕ, zero, suc, ◌<◌, List, [], ◌∷◌, ◌++◌, length, get_or, Option}
use Rattle.std.proofs.Common.{Some, IfSome, refl, sym, append_assoc, arith}
use Rattle.std.proofs.lemmas.List.{append-nil}
use Rattle.edn_reader.specs.Datum.{Datum}
use Rattle.edn_reader.specs.Spells.{Spells}
use Rattle.edn_reader.proofs.Joined.{joined_spell, nothing_spelled}
use Rattle.edn_reader.proofs.Progress.{one_reading_of}
use Rattle.history.specs.declared.piece.ReadPiece.{ReadPiece}
use Rattle.history.specs.declared.seams.Seams.{Seams}
use Rattle.history.specs.ReadPieces.{IsOfForms, AreJoined}
use Rattle.history.specs.Pieces.{joined_by_feeds, IsReadFrom, AreReadFrom}

-- ---- pieces

joined_cons : (a : List ℕ) (ps : List (List ℕ)) (b : List ℕ) (qs : List (List ℕ))
    → joined_by_feeds (a ∷ (ps ++ b ∷ qs)) ≡ a ++ 10 ∷ joined_by_feeds (ps ++ b ∷ qs)
joined_cons a [] b qs = refl
joined_cons a (p ∷ ps) b qs = refl

-- a piece falls into two at a line feed
joined_cut : (ps : List (List ℕ)) (a b : List ℕ) → joined_by_feeds (ps ++ a ∷ b ∷ [])
    ≡ joined_by_feeds (ps ++ (a ++ 10 ∷ b) ∷ [])
joined_cut [] a b = refl
joined_cut (p ∷ ps) a b =
    rw (joined_cons p ps a (b ∷ []), joined_cut ps a b) (sym (joined_cons p ps (a ++ 10 ∷ b) []))

-- Pieces joined by line feeds stay the same text when the last one is cut at a line feed.
pub piece_more : (ps : List (List ℕ)) (rest a b : List ℕ) (text : List ℕ) → rest ≡ a ++ 10 ∷ b
    → joined_by_feeds (ps ++ rest ∷ []) ≡ text
    → joined_by_feeds ((ps ++ a ∷ []) ++ b ∷ []) ≡ text
piece_more ps rest a b text q h = rw (append_assoc ps (a ∷ []) (b ∷ []), joined_cut ps a b, ← q) h

-- ---- pieces

-- each piece was read, by its place
pub read_each : (ps : List (List ℕ)) (rs : List (Option ReadPiece)) → length rs ≡ length ps
    → ((i : ℕ) (d : Option ReadPiece) → i < length rs → IfSome (get_or rs i d) (IsReadFrom (get_or ps i [])))
    → AreReadFrom ps rs
read_each [] [] l h = tt
read_each [] (r ∷ rs) l h = absurd (omega (arith, l))
read_each (p ∷ ps) [] l h = absurd (omega (arith, l))
read_each (p ∷ ps) (r ∷ rs) l h = (
  h zero r (omega arith),
  read_each ps rs (omega (arith, l)) (λ i d m. h (suc i) d (omega (arith, m))),
)

-- The forms so far, which are joined; and what the pieces left spell, the text spells after them.
pub record IsJoinedTo (text : List ℕ) (seams : Seams) (rest : List (Option ReadPiece)) : Type 0 where
  pub pieces : List (List ℕ)
  pub forms : List Datum
  pub are : AreReadFrom pieces rest
  pub joined : AreJoined seams forms
  pub spelled : (es : List Datum) → Spells es (joined_by_feeds pieces) → Spells (forms ++ es) text

pub nothing_joined : (pieces : List (List ℕ)) (seams : Seams) (reads : List (Option ReadPiece))
    → AreReadFrom pieces reads → AreJoined seams [] → IsJoinedTo (joined_by_feeds pieces) seams reads
nothing_joined pieces seams reads are joined = record
    { pieces = pieces; forms = []; are = are; joined = joined; spelled = λ es k. k }

piece_first : (ds es : List Datum) (p : List ℕ) (ps : List (List ℕ)) → Spells ds p → Spells es (joined_by_feeds ps)
    → Spells (ds ++ es) (joined_by_feeds (p ∷ ps))
piece_first ds es p [] h k = rw (← one_reading_of [] es [] nothing_spelled k, append-nil ds) h
piece_first ds es p (q ∷ qs) h k = joined_spell ds es p (joined_by_feeds (q ∷ qs)) h k

-- a piece more is joined: its forms follow those before it
pub join_more : (text : List ℕ) (old new : Seams) (read : ReadPiece) (rest later : List (Option ReadPiece))
    → IsJoinedTo text old rest → rest ≡ Some read ∷ later
    → ((ds es : List Datum) → AreJoined old ds → IsOfForms read es → AreJoined new (ds ++ es))
    → IsJoinedTo text new later
join_more text old new read rest later h is add = go h.pieces (rw is at h.are) h.spelled
  where
    go : (ps : List (List ℕ)) → AreReadFrom ps (Some read ∷ later)
        → ((es : List Datum) → Spells es (joined_by_feeds ps) → Spells (h.forms ++ es) text)
        → IsJoinedTo text new later
    go [] a k = absurd a
    go (p ∷ ps) a k =
        let read = a.0 in
        record {
          pieces = ps;
          forms = h.forms ++ read.0;
          are = a.1;
          joined = add h.forms read.0 h.joined read.2;
          spelled = λ es l. rw (append_assoc h.forms read.0 es)
              (k (read.0 ++ es) (piece_first read.0 es p ps read.1 l));
        }

pub all_joined : (text : List ℕ) (seams : Seams) (rest : List (Option ReadPiece)) → rest ≡ []
    → IsJoinedTo text seams rest → (ds : List Datum) × AreJoined seams ds × Spells ds text
all_joined text seams rest is h = go h.pieces (rw is at h.are) h.spelled
  where
    go : (ps : List (List ℕ)) → AreReadFrom ps [] →
        ((es : List Datum) → Spells es (joined_by_feeds ps) → Spells (h.forms ++ es) text)
        → (ds : List Datum) × AreJoined seams ds × Spells ds text
    go [] a k = (h.forms, h.joined, rw (append-nil h.forms) at (k [] nothing_spelled))
    go (p ∷ ps) a k = absurd a
